-- The names that are visible at a place, in the order in which they became so.
use Rattle.std.specs.Prelude.{ℕ, Bool, List, map}
use Rattle.std.specs.Borrow.{Bor}
use Rattle.std.specs.List.{list_any}
use Rattle.std.specs.Str.{bytes_eq}
use Rattle.spd_meaning.specs.Names.{Name, Names}

-- the names that a list of slices has
abbrev pub name_texts : List (Bor (List ℕ)) → Names
name_texts names = map (λ name. name.now) names

abbrev pub is_visible : Names → Name → Bool
is_visible names name = list_any (λ other. bytes_eq other name) names
