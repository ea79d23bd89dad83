use Rattle.std.proofs.Common.{ap}
use Rattle.spd_words.specs.Total.{Total}
use Rattle.spd_region.specs.Dag.{promised_total, drawn_within}
use Rattle.spd_region.proofs.region.run_within.Goals as goal

pub returns-in-Some-clause-gift : goal.returns-in-Some-clause-gift
returns-in-Some-clause-gift g c =
    let v = g.B.Body.view c.args.body in
    let i = c.loop-dag.invariant in
    let h = c.in_ok-region.ensures (promised_total v) (drawn_within c.args.moves v) i.rest i.draws in
    ap (λ (x : Total). x.gift) (rw c.in-Some.is at h).0

pub returns-in-Some-clause-fault : goal.returns-in-Some-clause-fault
returns-in-Some-clause-fault g c =
    let v = g.B.Body.view c.args.body in
    let i = c.loop-dag.invariant in
    let h = c.in_ok-region.ensures (promised_total v) (drawn_within c.args.moves v) i.rest i.draws in
    ap (λ (x : Total). x.fault) (rw c.in-Some.is at h).0

pub returns-in-Some-clause-moves : goal.returns-in-Some-clause-moves
returns-in-Some-clause-moves g c =
    let v = g.B.Body.view c.args.body in
    let i = c.loop-dag.invariant in
    let h = c.in_ok-region.ensures (promised_total v) (drawn_within c.args.moves v) i.rest i.draws in
    (rw c.in-Some.is at h).1

pub loop-dag-preserved : goal.loop-dag-preserved
loop-dag-preserved g c =
    let v = g.B.Body.view c.args.body in
    let i = c.loop-dag.invariant in
    let h = rw c.in_default.is at (c.in_ok-region.ensures (promised_total v) (drawn_within c.args.moves v) i.rest i.draws) in
    record { rest = h.0; draws = h.1 }

pub loop-dag-smaller : goal.loop-dag-smaller
loop-dag-smaller g c =
    let v = g.B.Body.view c.args.body in
    let i = c.loop-dag.invariant in
    let h = c.in_ok-region.ensures (promised_total v) (drawn_within c.args.moves v) i.rest i.draws in
    (rw c.in_default.is at h).2
