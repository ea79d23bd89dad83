-- Places: of names among others, and of values.
use Rattle.std.specs.Prelude.{ℕ, zero, suc, if◌then◌else◌, Bool, true, false, List, [], ◌∷◌, ◌++◌, slice_get, slice_set, unwrap_or, ℤ, pos}
use Rattle.std.specs.Str.{bytes_eq}
use Rattle.spd_meaning.specs.Names.{Name, Names}

-- the place of the first name that is equal, or their number where there is none
abbrev pub place_of : Names → Name → ℕ
place_of [] name = 0
place_of (other ∷ names) name = if bytes_eq other name then 0 else suc (place_of names name)

-- A place without a value reads 0.
abbrev pub value_at : List ℤ → ℕ → ℤ
value_at vars place = unwrap_or (slice_get vars place) (pos 0)

-- A place without a value isn't assigned.
abbrev pub put_at : List ℤ → ℕ → ℤ → List ℤ
put_at vars place value = slice_set vars place value

-- as many values as there are parameters: a missing one is 0
abbrev pub fitted : ℕ → List ℤ → List ℤ
fitted zero args = []
fitted (suc n) [] = pos 0 ∷ fitted n []
fitted (suc n) (arg ∷ args) = arg ∷ fitted n args

-- what goes on behind a call or a finish: its value is a new one, or isn't kept
abbrev pub bind_if : Bool → List ℤ → ℤ → List ℤ
bind_if true vars value = vars ++ value ∷ []
bind_if false vars value = vars
