use Rattle.std.proofs.Common.{◌≡◌, ◌+◌, drop, ℕ, List}
use Rattle.spd_syntax.specs.Symbols.{all_seen}
use Rattle.spd_syntax.specs.Limits.{no_counts}
use Rattle.spd_parse.specs.Counting.{first_over, AreWithin}
use Rattle.spd_parse.proofs.counting.first_over.Given as goal

abbrev pub invariant-loop-token : goal.invariant-loop-token
invariant-loop-token l = record {
  within : AreWithin l.counts;
  at : l.place ≡ l.token-index;
  place : (text : List ℕ) → l.place + first_over l.counts (all_seen text (drop l.token-index l.tokens)) ≡ first_over no_counts (all_seen text l.tokens);
}
