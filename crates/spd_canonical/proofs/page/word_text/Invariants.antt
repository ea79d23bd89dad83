-- The words that were passed over are others.
use Rattle.std.proofs.Common.{◌≡◌, map, length}
use Rattle.spd_canonical.specs.Layout.{spelling}
use Rattle.spd_syntax.specs.Symbols.{same_word}
use Rattle.spd_canonical.proofs.page.word_text.Given as goal

abbrev pub invariant-loop-table : goal.invariant-loop-table
invariant-loop-table l = spelling same_word (map (λ entry. (entry.0.now, entry.1)) l.table) l.word
    ≡ spelling same_word (map (λ entry. (entry.0.now, entry.1)) l.initial.table) l.word

abbrev pub decreases-loop-table : goal.decreases-loop-table
decreases-loop-table l = length l.table
