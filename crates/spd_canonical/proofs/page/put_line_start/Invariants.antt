-- So many times two spaces stand behind the end of the line.
use Rattle.std.proofs.Common.{◌≡◌, ◌++◌}
use Rattle.spd_canonical.specs.Layout.{spaces}
use Rattle.spd_canonical.proofs.page.put_line_start.Given as goal

abbrev pub invariant-loop-brace : goal.invariant-loop-brace
invariant-loop-brace l = l.bytes.items ≡ l.initial.bytes.items ++ spaces l._brace
