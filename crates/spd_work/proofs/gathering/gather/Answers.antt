use Rattle.std.proofs.Common.{arith, ◌∙◌, Some}
use Rattle.std.proofs.lemmas.List.Elements.{All-pop}
use Rattle.spd_work.specs.Crew.{HasLeft}
use Rattle.spd_work.proofs.Joins.{gather_begins}
use Rattle.spd_work.proofs.Seatings.{seats_pop}
use Rattle.spd_work.proofs.gathering.gather.Goals as goal

pub loop-worker-init : goal.loop-worker-init
loop-worker-init g c =
    gather_begins c.args.field.now c.args.workers.items c.pop.new.self.items c.in-Some.first (c.in-Some.ensures).items c.requires.left.0
    c.requires.left.1 c.requires.total

pub returns-in_default-pop-clause-carries : goal.returns-in_default-pop-clause-carries
returns-in_default-pop-clause-carries g c = λ w all. (c.loop-worker.invariant.3 w all).0

pub take_in-ended-requires-clause-left : goal.take_in-ended-requires-clause-left
take_in-ended-requires-clause-left g c κs within =
    let w = c.requires.left.0 in
    let k = c.loop-worker.invariant.3 w c.requires.left.1 in
    let t = All-pop (HasLeft c.args.field.now w) c.loop-worker.workers.items c.pop-in-loop-worker.new.self.items
    (Some c.in-Some-pop.worker) (c.in-Some-pop.ensures).items k.1 in
    (w, t.1, k.0)

pub take_in-ended-requires-clause-spare : goal.take_in-ended-requires-clause-spare
take_in-ended-requires-clause-spare g c κs within =
    let h = seats_pop c.loop-worker.workers.items c.pop-in-loop-worker.new.self.items c.in-Some-pop.worker (c.in-Some-pop.ensures).items in
    let t = c.loop-worker.invariant.2 in
    omega arith

pub loop-worker-preserved : goal.loop-worker-preserved
loop-worker-preserved g c =
    let h = seats_pop c.loop-worker.workers.items c.pop-in-loop-worker.new.self.items c.in-Some-pop.worker (c.in-Some-pop.ensures).items in
    let t = c.loop-worker.invariant.2 in
    let taken = c.take_in-ended.ensures in
    let seats = taken.seats in (
      taken.of,
      taken.ends,
      omega arith,
      λ w all.
          let k = c.loop-worker.invariant.3 w all in (
            taken.carries ∙ k.0,
            (All-pop (HasLeft c.args.field.now w) c.loop-worker.workers.items c.pop-in-loop-worker.new.self.items (Some c.in-Some-pop.worker)
                (c.in-Some-pop.ensures).items k.1).0,
          ),
    )
