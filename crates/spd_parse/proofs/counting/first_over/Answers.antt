use Rattle.std.proofs.Common.{◌∙◌, sym, arith}
use Rattle.spd_parse.proofs.TooMany.{one_more}
use Rattle.spd_parse.proofs.counting.first_over.Goals as goal

pub loop-token-preserved : goal.loop-token-preserved
loop-token-preserved c = record {
  within = c.in-Some.ensures.within;
  at = omega (arith, c.loop-token.invariant.at);
  place = λ text. omega (
    arith,
    c.loop-token.invariant.place text,
    one_more c.loop-token.counts c.in-Some.after text c.args.tokens.now
        c.loop-token.token-index _ c.loop-token-test.true (sym (c.counts_with.ensures.value text) ∙ c.in-Some.is),
  );
}
