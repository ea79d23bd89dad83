-- The bytes that prints write: each line with its newline.
use Rattle.std.specs.Prelude.{ℕ, List, [], ◌∷◌, ◌++◌}
use Rattle.std.specs.List.{flat_map}
use Rattle.spd_meaning.specs.Acts.{Acts, lines_of}

abbrev pub ended_line : List ℕ → List ℕ
ended_line text = text ++ 10 ∷ []

abbrev pub printed : Acts → List ℕ
printed given = flat_map ended_line (lines_of given)
