use Rattle.std.proofs.Common.{◌≡◌, length, map}
use Rattle.spd_syntax.specs.Tokens.{lookup}
use Rattle.spd_syntax.proofs.spelled.lookup.Given as goal

abbrev pub invariant-loop-table : goal.invariant-loop-table
invariant-loop-table g l =
    lookup (map (λ entry. (entry.0.now, entry.1)) l.table) l.text ≡ lookup (map (λ entry. (entry.0.now, entry.1)) l.initial.table) l.text

abbrev pub decreases-loop-table : goal.decreases-loop-table
decreases-loop-table g l = length l.table
