use Rattle.std.proofs.Common.{rules, ap, w64, FitsSigned}
use Rattle.std.proofs.lemmas.Int.{to_z-of_z}
use Rattle.spd_words.specs.Meaning.{Promise}
use Rattle.spd_script.proofs.Events.{gave_finish}
use Rattle.spd_script.proofs.script.Script.open.Goals as goal

pub returns-in-Some : goal.returns-in-Some
returns-in-Some c =
    let sum = c.in-Some.sum in
    let f : FitsSigned w64 sum.tally.gift = search rules in
    let e = c.in-Some.ensures.promise in
    rw (to_z-of_z w64 sum.tally.gift f, c.fresh.ensures, c.requires.held, c.requires.state)
    (λ p q. gave_finish c.args.self.now.kind c.args.kind c.args.catches p q c.args.child c.args.self.now.rest sum.tally.gift sum.tally.fault
    (ap (λ (x : Promise). x.gift) e) (ap (λ (x : Promise). x.fault) e))
