use Rattle.std.proofs.Common.{sym, subst}
use Rattle.spd_script.specs.declared.script.Script.{Script}
use Rattle.spd_script.specs.Scripts.{ScriptTakesAsync}
use Rattle.spd_script.proofs.Events.{took_async}
use Rattle.spd_script.proofs.Promises.{sum_lawful}
use Rattle.spd_script.proofs.script.Script.take_async.Goals as goal

pub before-requires : goal.before-requires
before-requires c =
    let h = c.in_ok-sum.ensures in
    sum_lawful c.in_ok-sum.sum c.args.child.kind c.args.child.rest h.kind h.promise

pub returns : goal.returns
returns c =
    let now = c.args.self.now in
    let h = c.in_ok-sum.ensures in
    let sum = c.in_ok-sum.sum in
    let steps = c.in_ok-steps.steps in
    let b = rw (c.replace-rest.ensures.value, h.held) at c.in_ok-steps.ensures in
    subst (λ (x : Script). ScriptTakesAsync now c.args.child (record x { rest = steps })) (sym h.held)
    (took_async now steps sum.tally sum.moves c.args.child c.requires h.kind h.promise b)
