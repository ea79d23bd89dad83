use Rattle.std.proofs.Common.{rules, w64, FitsSigned}
use Rattle.std.proofs.lemmas.Int.{to_z-of_z}
use Rattle.spd_script.proofs.Events.{gave_gift}
use Rattle.spd_script.proofs.script.Script.settle.Goals as goal

pub returns-then-fault-eq-NO_FAULT : goal.returns-then-fault-eq-NO_FAULT
returns-then-fault-eq-NO_FAULT c =
    let f : FitsSigned w64 c.args.gift = search rules in
    rw (to_z-of_z w64 c.args.gift f) (gave_gift c.args.self.now c.args.gift c.args.fault c.requires (search rules))
