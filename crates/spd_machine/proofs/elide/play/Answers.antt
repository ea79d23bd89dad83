use Rattle.std.proofs.Common.{refl, rules, arith, w64, FitsSigned}
use Rattle.std.proofs.lemmas.Int.{to_z-of_z}
use Rattle.spd_meaning.specs.Acts.{Async, Finish}
use Rattle.spd_level.specs.Columns.{context_of}
use Rattle.spd_machine.proofs.Eliding.{met_quiet, met_held, met_offer, met_fault, met_part, met_over, held_in}
use Rattle.spd_machine.specs.declared.machine.Met.TheVariants as met
use Rattle.spd_machine.specs.declared.machine.Machine.{Machine}
use Rattle.spd_machine.proofs.elide.play.Goals as goal

pub returns-in-Quiet : goal.returns-in-Quiet
returns-in-Quiet c = met_quiet (context_of c.args.code.now c.args.columns.now) c.args.tally.now c.args.machine.now c.turn.new.self (rw c.in-Quiet.is at
    c.in_ok-turn.ensures)

pub returns-in-Held : goal.returns-in-Held
returns-in-Held c = met_held (context_of c.args.code.now c.args.columns.now) c.args.tally.now c.args.machine.now c.turn.new.self (rw c.in-Held.is at
    c.in_ok-turn.ensures)

pub returns-in-Offer : goal.returns-in-Offer
returns-in-Offer c =
    let f : FitsSigned w64 c.in-Offer.x = search rules in
    met_offer (context_of c.args.code.now c.args.columns.now) c.args.tally.now c.offer.new.self c.args.machine.now c.turn.new.self c.in-Offer.x
    (rw (to_z-of_z w64 c.in-Offer.x f) at c.offer.ensures) (rw c.in-Offer.is at c.in_ok-turn.ensures)

pub returns-in-Fault : goal.returns-in-Fault
returns-in-Fault c = met_fault (context_of c.args.code.now c.args.columns.now)
    c.args.tally.now c.fault.new.self c.args.machine.now c.turn.new.self c.in-Fault.code c.fault.ensures (rw c.in-Fault.is at c.in_ok-turn.ensures)

pub returns-in_ok-hold-in-Async : goal.returns-in_ok-hold-in-Async
returns-in_ok-hold-in-Async c =
    let m = c.turn.new.self in
    let n : Machine = record { level = c.hold.new.self; inside = m.inside } in
    let h = rw c.in-Async.is at c.in_ok-turn.ensures in
    let k = c.in_ok-hold-in-Async.ensures.frames in
    met_part (context_of c.args.code.now c.args.columns.now) c.args.tally.now c.args.machine.now m n (met.Async c.in-Async.body c.in-Async.left) Async refl h
    refl
    (held_in (context_of c.args.code.now c.args.columns.now) m n Async _ refl (c.in_ok-hold-in-Async.ensures.left (context_of c.args.code.now
    c.args.columns.now)) refl) (λ w g. omega arith)

pub returns-in_ok-open-in-Finish : goal.returns-in_ok-open-in-Finish
returns-in_ok-open-in-Finish c =
    let k = c.in_ok-open-in-Finish.ensures.frames in
    met_part (context_of c.args.code.now c.args.columns.now) c.args.tally.now c.args.machine.now c.turn.new.self c.open.new.self (met.Finish
    c.in-Finish.finish) Finish refl
    (rw c.in-Finish.is at c.in_ok-turn.ensures) refl
    (c.in_ok-open-in-Finish.ensures.left (context_of c.args.code.now c.args.columns.now)) (λ w g. omega arith)

pub returns-in-Over : goal.returns-in-Over
returns-in-Over c = met_over (context_of c.args.code.now c.args.columns.now) c.args.tally.now c.args.machine.now c.turn.new.self (rw c.in-Over.is at
    c.in_ok-turn.ensures)
