use Rattle.std.proofs.Common.{ℕ, subst}
use Rattle.std.proofs.Common.{max}
use Rattle.spd_words.specs.Plan.{PlanView}
use Rattle.spd_rule.specs.Kept.{StepUnderBooks, means_of}
use Rattle.spd_rule.proofs.Glue.{under_rule}
use Rattle.spd_rule.proofs.table.raise.Goals as goal

pub fetch_max-requires : goal.fetch_max-requires
fetch_max-requires g c = let seat = c.args.seat.now in let table = c.args.field.now.table.shared in (
  c.requires.of.fits,
  c.requires.of.inside,
  under_rule g.B.Body.view c.args.field.now.plan table.key g.T.Tells.plan c.args.field.now.keyed c.requires.plan table.table_id.slots seat.id seat.me
      c.args.word (λ n. max n c.args.k) (g.T.Tells.tells seat.me) c.requires.allows,
)

pub returns-clause-books : goal.returns-clause-books
returns-clause-books g c = let n : ℕ = c.fetch_max.result in let me = c.args.seat.now.me in let me' = c.fetch_max.new.seat.me in record {
  place = c.args.word;
  found = n;
  left = max n c.args.k;
  step = subst (λ (p : PlanView). StepUnderBooks (means_of g.B.Body.view) p c.args.word n (max n c.args.k) me me') c.requires.plan c.fetch_max.ensures.2.1;
}
