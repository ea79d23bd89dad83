-- The words so far are the texts before the index.
use Rattle.std.proofs.Common.{◌≡◌, take}
use Rattle.spd_top.proofs.command.to_words.Given as goal

abbrev pub invariant-loop-text : goal.invariant-loop-text
invariant-loop-text l = l.words ≡ take l.text-index l.texts
