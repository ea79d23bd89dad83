use Rattle.std.proofs.Common.{ℕ, subst}
use Rattle.spd_words.specs.Plan.{PlanView}
use Rattle.spd_rule.specs.Kept.{StepUnderBooks, means_of}
use Rattle.spd_rule.proofs.Glue.{stores_under_rule}
use Rattle.spd_rule.proofs.table.store.Goals as goal

pub store-requires : goal.store-requires
store-requires g c = let seat = c.args.seat.now in let table = c.args.field.now.table.shared in (
  c.requires.of.fits,
  c.requires.of.inside,
  stores_under_rule g.B.Body.view c.args.field.now.plan table.key g.T.Tells.plan c.args.field.now.keyed c.requires.plan table.table_id.slots seat.id seat.me c.args.word
      (c.args.x) (g.T.Tells.tells seat.me) c.requires.allows,
)

pub returns-clause-books : goal.returns-clause-books
returns-clause-books g c = let n : ℕ = c.store.ensures.2.1 in let me = c.args.seat.now.me in let me' = c.store.new.seat.me in record {
  place = c.args.word;
  found = n;
  left = c.args.x;
  step = subst (λ (p : PlanView). StepUnderBooks (means_of g.B.Body.view) p c.args.word n c.args.x me me') c.requires.plan c.store.ensures.2.2;
}
