-- A CSV file that is made from a number of rows and a seed.
use Rattle.std.specs.Prelude.{ℕ, zero, suc, ◌+◌, ◌*◌, ◌%◌, List, [], ◌∷◌, ◌++◌, codes}
use Rattle.std.specs.Fmt.{decimal}

-- the line of row i: its number, a price below 1000, and the name of one of 97 items
abbrev pub made_row : ℕ → ℕ → List ℕ
made_row seed i = decimal i ++ codes "," ++ decimal ((i * 7919 + seed) % 1000) ++ codes ",item-" ++ decimal (i % 97) ++ 10 ∷ []

-- the lines of the first rows
abbrev pub made_rows : ℕ → ℕ → List ℕ
made_rows seed zero = []
made_rows seed (suc n) = made_rows seed n ++ made_row seed n

-- the whole file
abbrev pub made_csv : ℕ → ℕ → List ℕ
made_csv rows seed = codes "id,price,name" ++ 10 ∷ made_rows seed rows
