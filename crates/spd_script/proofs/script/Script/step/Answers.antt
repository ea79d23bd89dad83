use Rattle.std.proofs.Common.{rules, w64, FitsSigned}
use Rattle.std.proofs.lemmas.Int.{to_z-of_z}
use Rattle.spd_script.proofs.Events.{gave_offer, gave_fault, gave_async}
use Rattle.spd_script.proofs.script.Script.step.Goals as goal

pub returns-in-Offer : goal.returns-in-Offer
returns-in-Offer c =
    let f : FitsSigned w64 c.in-Offer.value = search rules in
    rw (to_z-of_z w64 c.in-Offer.value f, c.in-Offer.is, c.into_inner.ensures, c.requires.held, c.requires.state)
    (gave_offer c.args.self.now.kind c.in-Offer.value _ c.in-Offer.rest.value)

pub returns-in-Fault : goal.returns-in-Fault
returns-in-Fault c =
    rw (c.in-Fault.is, c.into_inner-in-Fault.ensures, c.requires.held, c.requires.state)
    (gave_fault c.args.self.now.kind c.in-Fault.code _ c.in-Fault.rest.value (search rules) (search rules))

pub returns-in-Async : goal.returns-in-Async
returns-in-Async c =
    rw (
      c.fresh.ensures,
      c.in-Async.is,
      c.into_inner-in-Async.ensures,
      c.into_inner-in-Async-2.ensures,
      c.requires.held,
      c.requires.state,
    )
    (gave_async c.args.self.now.kind _ _ c.in-Async.child.value c.in-Async.rest.value)

pub returns-in-Finish : goal.returns-in-Finish
returns-in-Finish c =
    rw c.in-Finish.is (rw (c.into_inner-in-Finish.ensures, c.into_inner-in-Finish-2.ensures) at c.open.ensures _ _)
