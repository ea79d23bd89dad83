use Rattle.std.proofs.Common.{◌≡◌, ◌∙◌, ◌<◌, ◌≤◌, sym, ap, rules, arith, length, length-append, [], ◌∷◌, pos}
use Rattle.std.proofs.lemmas.List.{length-take}
use Rattle.spd_code.specs.Places.{fitted}
use Rattle.spd_code.proofs.JobsAlike.{fitted_all}
use Rattle.spd_level.proofs.Turns.{fitted_more, fitted_take}
use Rattle.spd_level.proofs.calls.fit.Goals as goal

pub loop-place-init : goal.loop-place-init
loop-place-init c = (ap (fitted c.args.params) c.truncate.ensures.items ∙ fitted_take c.args.params c.args.args.items, search rules)

pub loop-place-preserved : goal.loop-place-preserved
loop-place-preserved c =
    let i = c.loop-place.invariant in
    let k : length c.loop-place.args.items < c.args.params = omega arith in (
      ap (fitted c.args.params) c.in_ok-push.ensures.items ∙ fitted_more c.args.params c.loop-place.args.items k ∙ i.0,
      ap length c.in_ok-push.ensures.items ∙ length-append c.loop-place.args.items (pos 0 ∷ []) ∙ omega arith,
    )

pub returns : goal.returns
returns c =
    let i = c.loop-place.invariant in
    let t : length c.truncate.new.self.items ≤ c.args.params = rw c.truncate.ensures.items (omega (arith, length-take c.args.params c.args.args.items)) in
    let s : c.len-place.result ≤ c.args.params = search rules in
    let k : length c.loop-place.args.items ≡ c.args.params = omega arith in
    sym (fitted_all c.args.params c.loop-place.args.items k) ∙ i.0
