use Rattle.std.proofs.Common.{rules, w64, FitsSigned}
use Rattle.std.proofs.lemmas.Int.{to_z-of_z}
use Rattle.spd_script.proofs.Promises.{offer_before, fault_before}
use Rattle.spd_script.proofs.sum.Sum.before.Goals as goal

pub returns-then-self-eq-NO_FAULT : goal.returns-then-self-eq-NO_FAULT
returns-then-self-eq-NO_FAULT c =
    let t = c.args.self.tally in
    let f : FitsSigned w64 t.gift = search rules in
    let h = rw (to_z-of_z w64 t.gift f) at c.in_ok-steps.ensures.promise in
    offer_before t c.args.rest c.in_ok-steps.steps (search rules) h c.in_ok-steps.ensures.size

pub returns : goal.returns
returns c =
    let t = c.args.self.tally in
    let f : FitsSigned w64 t.gift = search rules in
    let h = rw (to_z-of_z w64 t.gift f) at c.in_ok-steps-2.ensures.promise in
    let b = c.in_ok-behind in
    fault_before t c.args.rest b.behind c.in_ok-steps-2.steps (search rules) c.requires.memory
    b.ensures.promise b.ensures.size h c.in_ok-steps-2.ensures.size
