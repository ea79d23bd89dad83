use Rattle.std.proofs.Common.{◌≡◌, Some, sym, ◌∙◌}
use Rattle.spd_rule.specs.Shares.{field_plan, share_view}
use Rattle.spd_snzi.proofs.Coming.{one_turn}
use Rattle.spd_counter.proofs.Turns.{arrives_there, came}
use Rattle.spd_counter.proofs.increment.arrive.Goals as goal

pub turn-requires-clause-goes : goal.turn-requires-clause-goes
turn-requires-clause-goes g c κs within = let p = field_plan c.args.field.now in let v = share_view c.args.share.now in let r = c.in-Some.running in (
  r.finish,
  v,
  c.new-call.ensures p v (arrives_there p v c.requires.may r (sym c.runs.ensures ∙ c.in-Some.is)),
)

pub unreachable-requires-in-More : goal.unreachable-requires-in-More
unreachable-requires-in-More g c = let p = field_plan c.args.field.now in let v = share_view c.args.share.now in let r = c.in-Some.running in
    let call = c.new-call.result in
    let t = c.in-More.ensures.turned r.finish v (c.new-call.ensures p v (arrives_there p v c.requires.may r (sym c.runs.ensures ∙ c.in-Some.is))) in
    one_turn call.node call.stage c.turn.new.self.stage t.found t.table

pub returns-clause-arrives : goal.returns-clause-arrives
returns-clause-arrives g c = let p = field_plan c.args.field.now in let v = share_view c.args.share.now in let r = c.in-Some.running in
    let is : v.running ≡ Some r = sym c.runs.ensures ∙ c.in-Some.is in let goes = c.new-call.ensures p v (arrives_there p v c.requires.may r is) in
    came c.args.field.now c.args.share.now c.turn.new.share r is c.new-call.result c.turn.new.self c.in-Done.unit goes (c.in-Done.ensures.turned r.finish v goes)
