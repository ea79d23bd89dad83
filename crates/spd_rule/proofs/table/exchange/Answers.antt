use Rattle.std.proofs.Common.{ℕ, subst}
use Rattle.std.proofs.Common.{◌==◌}
use prog.Atomic.{either}
use Rattle.spd_words.specs.Plan.{PlanView}
use Rattle.spd_rule.specs.Kept.{StepUnderBooks, means_of}
use Rattle.spd_rule.proofs.Glue.{under_rule}
use Rattle.spd_rule.proofs.table.exchange.Goals as goal

pub compare_exchange-requires : goal.compare_exchange-requires
compare_exchange-requires g c = let seat = c.args.seat.now in let table = c.args.field.now.table.shared in (
  c.requires.of.fits,
  c.requires.of.inside,
  under_rule g.B.Body.view c.args.field.now.plan table.key g.T.Tells.plan c.args.field.now.keyed c.requires.plan table.table_id.slots seat.id seat.me c.args.word
      (λ n. either (n == c.args.old) c.args.new n) (g.T.Tells.tells seat.me) c.requires.allows,
)

pub returns-clause-books : goal.returns-clause-books
returns-clause-books g c = let n : ℕ = c.compare_exchange.result in let me = c.args.seat.now.me in let me' = c.compare_exchange.new.seat.me in record {
  place = c.args.word;
  found = n;
  left = (either (n == c.args.old) c.args.new n);
  step = subst (λ (p : PlanView). StepUnderBooks (means_of g.B.Body.view) p c.args.word n (either (n == c.args.old) c.args.new n) me me') c.requires.plan c.compare_exchange.ensures.2.1;
}
