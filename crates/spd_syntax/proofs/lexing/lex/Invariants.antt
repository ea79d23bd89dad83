use Rattle.std.proofs.Common.{◌≡◌, ◌-◌, ◌+◌, ◌≤◌, length, drop}
use Rattle.spd_syntax.specs.Tokens.{with_front, tokens_from, tokens_of, AreInOrder}
use Rattle.spd_syntax.proofs.lexing.lex.Given as goal

abbrev pub invariant-loop-at : goal.invariant-loop-at
invariant-loop-at l =
    record {
      so_far : with_front l.tokens (tokens_from 0 l.at l.line (drop l.at l.text)) ≡ tokens_of l.text;
      in_order : AreInOrder 0 l.tokens l.at;
      lines : l.line ≤ l.at + 1;
      within : l.at ≤ length l.text;
    }

abbrev pub decreases-loop-at : goal.decreases-loop-at
decreases-loop-at l = length l.text - l.at
