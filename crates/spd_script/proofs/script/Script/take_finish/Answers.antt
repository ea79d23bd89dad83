use Rattle.std.proofs.Common.{◌≡◌, ◌+◌, sym, ap, subst, rules, w64, FitsSigned}
use Rattle.std.proofs.lemmas.Int.{to_z-of_z}
use Rattle.spd_words.specs.Meaning.{Promise}
use Rattle.spd_script.specs.declared.script.State.{State}
use Rattle.spd_script.specs.declared.script.Script.{Script}
use Rattle.spd_script.specs.Scripts.{ScriptTakesFinish, state_behind}
use Rattle.spd_script.proofs.Events.{took_finish}
use Rattle.spd_script.proofs.script.Script.take_finish.Goals as goal

pub returns-in-Waits : goal.returns-in-Waits
returns-in-Waits c =
    let now = c.args.self.now in
    let child = c.args.child in
    let w = c.in-Waits in
    let h = c.in_ok-hold-in-Waits.ensures in
    let m = c.in_ok-hold-in-Waits.field-0.moves in
    let f : FitsSigned w64 w.gift = search rules in
    let e : c.behind-self.result ≡ state_behind w.catches w.gift w.fault =
    rw (to_z-of_z w64 w.gift f) at c.behind-self.ensures in
    let t = took_finish now m child w.catches w.gift w.fault w.kind w.is c.requires (ap (λ (x : Promise). x.moves) h.promise) in
    subst (λ (x : Script). ScriptTakesFinish now child (record x { state = c.behind-self.result })) (sym h.held)
    (subst (λ (y : State). ScriptTakesFinish now child (record now { held = now.held + m; state = y })) (sym e) t)
