-- A turn of a spawn: the facts of its step make the turn.
use Rattle.std.proofs.Common.{◌≡◌, ℕ, ◌<◌, ◌≤◌, ◌+◌, ◌*◌, [], Option, refl, sym, ap, ◌∙◌, subst}
use Rattle.atomic_table.specs.Table.{Me}
use Rattle.spd_words.specs.Plan.{PlanView}
use Rattle.spd_words.specs.Meaning.{BodyView}
use Rattle.spd_state.specs.declared.view.View.{View}
use Rattle.spd_dag.specs.Taken.{TakesStep}
use Rattle.spd_dag.specs.Draws.{unmoved_known}
use Rattle.spd_dag.specs.Ends.{IsOver}
use Rattle.spd_dag.specs.Origins.{Origin}
use Rattle.spd_dag.specs.SpawnStages.{AfterSpawn, spawn_goes, spawn_ends, spawn_fills, spawn_next, spawn_place, spawn_writes, spawn_left}
use Rattle.spd_dag.specs.Spawns.{spawn_known, SpawnHas, SpawnDrew, SpawnGoes, SpawnTurned, SpawnAnswers}
use Rattle.spd_dag.specs.declared.spawn.SpawnCall.{SpawnCall}
use Rattle.spd_dag.specs.declared.spawn.SpawnStage.{SpawnStage}
use Rattle.spd_dag.specs.declared.spawn.SpawnTurn.TheVariants as turn

module _ {B : Type 0} (view : B → BodyView) (p : PlanView) (o : Origin B) (old : SpawnCall B) (known : Me (Option B) View) (h : SpawnGoes view p o old known)
    (s : SpawnStage) (at : old.stage ≡ s) where
  -- what the share knows, which bodies the call has, and that its move is drawn, at this stage
  pub known_at : known ≡ spawn_known (λ b. (view b).means) o s
  known_at = h.is ∙ ap (spawn_known (λ b. (view b).means) o) at

  pub has_at : SpawnHas o s old.body old.rest
  has_at = subst (λ (t : SpawnStage). SpawnHas o t old.body old.rest) at h.has

  pub drew_at : SpawnDrew p o s
  drew_at = subst (SpawnDrew p o) at h.drew

  module _ (new : SpawnCall B) (known' : Me (Option B) View) (s' : SpawnStage) (here : new.stage ≡ s') (found : ℕ)
      (step : TakesStep p (spawn_place p o.runs s) found (spawn_writes o.runs o.known.0.full_draws s found) known known') where
    pub spawn_more : spawn_next p.moves s found ≡ spawn_goes s' → spawn_left s' < spawn_left s → known' ≡ spawn_known (λ b. (view b).means) o s'
        → SpawnHas o s' new.body new.rest → SpawnDrew p o s' → SpawnTurned view p o old new known known' turn.More
    spawn_more next fewer is has drew = record {
      found = found;
      step = subst (λ (t : SpawnStage). TakesStep p (spawn_place p o.runs t) found (spawn_writes o.runs o.known.0.full_draws t found) known known') (sym at) step;
      table = subst (λ (t : SpawnStage). SpawnAnswers {B = B} (spawn_next p.moves t found) new.stage turn.More) (sym at)
          (subst (λ (a : AfterSpawn). SpawnAnswers {B = B} a new.stage turn.More) (sym next) (here, refl));
      comes = (
        record {
          may = h.may;
          is = is ∙ ap (spawn_known (λ b. (view b).means) o) (sym here);
          has = subst (λ (t : SpawnStage). SpawnHas o t new.body new.rest) (sym here) has;
          drew = subst (SpawnDrew p o) (sym here) drew;
        },
        subst (λ (t : SpawnStage). spawn_left t < spawn_left old.stage) (sym here) (subst (λ (t : SpawnStage). spawn_left s' < spawn_left t) (sym at) fewer),
      );
    }

  -- the last turn
  pub spawn_done : (new : SpawnCall B) (known' : Me (Option B) View) (d found : ℕ)
      → TakesStep p (spawn_place p o.runs s) found (spawn_writes o.runs o.known.0.full_draws s found) known known'
      → spawn_next p.moves s found ≡ spawn_ends d → 2 * d + 1 < 2 * p.moves → IsOver p o.known.0 known'.0 2 6 × (known'.1 ≡ [])
      → SpawnTurned view p o old new known known' (turn.Done (2 * d) (2 * d + 1))
  spawn_done new known' d found step next low over = record {
    found = found;
    step = subst (λ (t : SpawnStage). TakesStep p (spawn_place p o.runs t) found (spawn_writes o.runs o.known.0.full_draws t found) known known') (sym at) step;
    table = subst (λ (t : SpawnStage). SpawnAnswers {B = B} (spawn_next p.moves t found) new.stage (turn.Done (2 * d) (2 * d + 1))) (sym at)
        (subst (λ (a : AfterSpawn). SpawnAnswers {B = B} a new.stage (turn.Done (2 * d) (2 * d + 1))) (sym next) refl);
    comes = (refl, low, over.0, over.1);
  }

  -- the turn that finds no move left
  pub spawn_full : (new : SpawnCall B) (known' : Me (Option B) View) (n : ℕ) (body rest : B)
      → TakesStep p (spawn_place p o.runs s) n (spawn_writes o.runs o.known.0.full_draws s n) known known'
      → spawn_next p.moves s n ≡ spawn_fills n → p.moves ≤ n → body ≡ o.body → rest ≡ o.rest → known' ≡ unmoved_known o.known
      → SpawnTurned view p o old new known known' (turn.Full n body rest)
  spawn_full new known' n body rest step next least is_body is_rest is = record {
    found = n;
    step = subst (λ (t : SpawnStage). TakesStep p (spawn_place p o.runs t) n (spawn_writes o.runs o.known.0.full_draws t n) known known') (sym at) step;
    table = subst (λ (t : SpawnStage). SpawnAnswers {B = B} (spawn_next p.moves t n) new.stage (turn.Full n body rest)) (sym at)
        (subst (λ (a : AfterSpawn). SpawnAnswers {B = B} a new.stage (turn.Full n body rest)) (sym next) (body, rest, refl));
    comes = (least, is_body, is_rest, is);
  }
