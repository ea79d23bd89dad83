use Rattle.std.proofs.Common.{rules}
use Rattle.spd_ready.proofs.Lanes.{one_empty, one_gave}
use Rattle.spd_ready.proofs.lane.take_first.Goals as goal

pub loop-place-preserved : goal.loop-place-preserved
loop-place-preserved g c =
    let at = c.loop-place in
    one_empty g.L.Lane.looks c.args.lanes.now at.lanes at.place c.try_take.new.self c.index-lanes-place.result at.auto.lanes
    c.loop-place-test.true at.invariant.0 at.invariant.1 (search rules)

pub returns-in-Some-clause-in_order : goal.returns-in-Some-clause-in_order
returns-in-Some-clause-in_order g c vertex is =
    let at = c.loop-place in
    one_gave g.L.Lane.looks c.args.lanes.now at.lanes at.place c.try_take.new.self c.index-lanes-place.result at.auto.lanes
    c.loop-place-test.true at.invariant.0 at.invariant.1 (search rules)
