-- What the loop over rows keeps: the text is the file of the rows so far.
use Rattle.std.specs.Prelude.{◌≡◌, string_bytes}
use Rattle.spd_cols.specs.Made.{made_csv}
use Rattle.spd_cols.proofs.made.make_csv.Given as goal

abbrev pub invariant-loop-row : goal.invariant-loop-row
invariant-loop-row l = string_bytes l.text ≡ made_csv l.row l.seed
