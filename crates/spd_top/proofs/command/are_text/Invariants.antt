-- The words before the index are UTF-8.
use Rattle.std.proofs.Common.{ℕ, List, ◌<◌, get_or}
use Rattle.std.specs.Str.{IsUtf8}
use Rattle.spd_top.proofs.command.are_text.Given as goal

abbrev pub invariant-loop-word : goal.invariant-loop-word
invariant-loop-word l = (k : ℕ) (d : List ℕ) → k < l.word-index → IsUtf8 (get_or l.words k d)
