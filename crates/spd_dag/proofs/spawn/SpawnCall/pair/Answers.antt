use Rattle.std.proofs.Common.{◌≡◌, ℕ, Option, refl, sym, ap, ◌∙◌, subst, arith}
use Rattle.atomic_table.specs.Table.{Me}
use Rattle.spd_words.specs.Plan.{pair_place}
use Rattle.spd_words.specs.Words.{pack_pair}
use Rattle.spd_words.specs.Meaning.{Meaning}
use Rattle.spd_state.specs.Stages.{spawn_pair}
use Rattle.spd_state.specs.declared.view.Running.{Running}
use Rattle.spd_state.specs.declared.view.View.{View}
use Rattle.spd_rule.specs.Held.{StepUnderRule}
use Rattle.spd_rule.specs.Moves.{MaySetPair, fresh_pair, pair_set, IsPairOf}
use Rattle.spd_dag.specs.declared.spawn.SpawnStage.TheVariants as stage
use Rattle.spd_dag.proofs.Seen.{same_some, plain_step}
use Rattle.spd_dag.proofs.Spawning.{spawn_may_pair, spawn_pairs}
use Rattle.spd_dag.proofs.SpawnTurns.{known_at, has_at, drew_at, spawn_more}
use Rattle.spd_dag.proofs.spawn.SpawnCall.pair.Goals as goal

pub set_pair_of-requires-clause-numbers : goal.set_pair_of-requires-clause-numbers
set_pair_of-requires-clause-numbers g c κs within = let o = c.requires.goes.0 in let h = c.requires.goes.1 in let v = g.B.Body.view in let d : ℕ = c.args.d in
    let n : ℕ = c.args.first in let me = c.args.share.now.seat.me in let old = c.args.self.now in let p = c.args.field.now.plan in let st = stage.Pair d n in
    let r : (record o.runs { right = 0 }) ≡ c.in-Some.r = same_some (record o.runs { right = 0 }) c.in-Some.r me.0.running
    (ap (λ (m : Me (Option g.row.B.Denot) View). m.0.running) (known_at v p o old me h st c.requires.stage)) (sym c.runs.ensures ∙ c.in-Some.is) in
    let w = drew_at v p o old me h st c.requires.stage in let l = w.0.drawn.low in let f = w.1 in
    subst (λ (x : Running). IsPairOf p d (fresh_pair 2 0 n x.inc)) r (record { pair = l; first = omega arith; second = w.0.drawn.inside.3 })

pub set_pair_of-requires-clause-may : goal.set_pair_of-requires-clause-may
set_pair_of-requires-clause-may g c κs within = let o = c.requires.goes.0 in let h = c.requires.goes.1 in let v = g.B.Body.view in let d : ℕ = c.args.d in
    let n : ℕ = c.args.first in let me = c.args.share.now.seat.me in let old = c.args.self.now in let p = c.args.field.now.plan in let st = stage.Pair d n in
    let at = known_at v p o old me h st c.requires.stage in let has = has_at v p o old me h st c.requires.stage in
    let r : (record o.runs { right = 0 }) ≡ c.in-Some.r = same_some (record o.runs { right = 0 }) c.in-Some.r me.0.running
    (ap (λ (m : Me (Option g.row.B.Denot) View). m.0.running) at) (sym c.runs.ensures ∙ c.in-Some.is) in
    let b = same_some o.body c.in-Some-body.body old.body has.0 c.in-Some-body.is in let q = same_some o.rest c.in-Some-rest.rest old.rest has.1 c.in-Some-rest.is in
    subst (λ (x : Running). MaySetPair d (fresh_pair 2 0 n x.inc) (v c.in-Some-body.body).means (v c.in-Some-rest.rest).means me.0) r
    (subst (λ (x : g.row.B.Denot). MaySetPair d (fresh_pair 2 0 n o.runs.inc) (v x).means (v c.in-Some-rest.rest).means me.0) b
    (subst (λ (x : g.row.B.Denot). MaySetPair d (fresh_pair 2 0 n o.runs.inc) (v o.body).means (v x).means me.0) q
    (subst (λ (m : Me (Option g.row.B.Denot) View). MaySetPair d (fresh_pair 2 0 n o.runs.inc) (v o.body).means (v o.rest).means m.0) (sym at)
    (spawn_may_pair v o h.may d (drew_at v p o old me h st c.requires.stage).0.root n))))

pub returns-clause-turned : goal.returns-clause-turned
returns-clause-turned g c = λ o h. let v = g.B.Body.view in let d : ℕ = c.args.d in
    let n : ℕ = c.args.first in let me = c.args.share.now.seat.me in let old = c.args.self.now in let p = c.args.field.now.plan in let st = stage.Pair d n in
    let at = known_at v p o old me h st c.requires.stage in let has = has_at v p o old me h st c.requires.stage in
    let r : c.in-Some.r ≡ record o.runs { right = 0 } = same_some c.in-Some.r (record o.runs { right = 0 }) me.0.running (sym c.runs.ensures ∙ c.in-Some.is)
    (ap (λ (m : Me (Option g.row.B.Denot) View). m.0.running) at) in
    let b = same_some c.in-Some-body.body o.body old.body c.in-Some-body.is has.0 in let q = same_some c.in-Some-rest.rest o.rest old.rest c.in-Some-rest.is has.1 in
    let me' = c.set_pair_of.new.share.seat.me in let rule = c.set_pair_of.ensures.rule in
    let sets : ℕ → Meaning → Meaning → Me (Option g.row.B.Denot) View → Me (Option g.row.B.Denot) View = λ k x y m. (pair_set m.0.flight k x y m.0, m.1) in
    spawn_more v p o old me h st c.requires.stage (record old { stage = stage.Left d }) me' (stage.Left d) refl 0
    (plain_step (subst (λ (x : Running). StepUnderRule p (pair_place p d) 0 (pack_pair (spawn_pair n x.inc)) me me') r rule)) refl (omega arith)
    (c.set_pair_of.ensures.view ∙ ((λ i. sets (r i).inc (v (b i)).means (v (q i)).means (at i)) ∙ spawn_pairs v o h.may d n))
    has (drew_at v p o old me h st c.requires.stage).0
