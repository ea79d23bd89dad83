-- The marks that were passed over are others.
use Rattle.std.proofs.Common.{◌≡◌, map, length}
use Rattle.spd_canonical.specs.Layout.{spelling}
use Rattle.spd_syntax.specs.Symbols.{same_mark}
use Rattle.spd_canonical.proofs.page.mark_text.Given as goal

abbrev pub invariant-loop-table : goal.invariant-loop-table
invariant-loop-table l = spelling same_mark (map (λ entry. (entry.0.now, entry.1)) l.table) l.mark
    ≡ spelling same_mark (map (λ entry. (entry.0.now, entry.1)) l.initial.table) l.mark

abbrev pub decreases-loop-table : goal.decreases-loop-table
decreases-loop-table l = length l.table
