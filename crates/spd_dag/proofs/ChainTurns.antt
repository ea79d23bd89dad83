-- A turn of a chain that goes on: the facts of its step make the turn.
use Rattle.std.proofs.Common.{◌≡◌, ℕ, ◌<◌, ◌≤◌, ◌+◌, ◌*◌, [], Option, refl, sym, ap, ◌∙◌, subst}
use Rattle.atomic_table.specs.Table.{Me}
use Rattle.spd_words.specs.Plan.{PlanView}
use Rattle.spd_words.specs.Meaning.{BodyView}
use Rattle.spd_words.specs.declared.finish_kind.FinishKind.{FinishKind}
use Rattle.spd_state.specs.declared.view.View.{View}
use Rattle.spd_dag.specs.Taken.{TakesStep}
use Rattle.spd_dag.specs.Acts.{MayChain}
use Rattle.spd_dag.specs.Draws.{unmoved_known}
use Rattle.spd_dag.specs.Ends.{IsOver}
use Rattle.spd_dag.specs.Origins.{Origin}
use Rattle.spd_dag.specs.ChainStages.{AfterChain, chain_goes, chain_ends, chain_fills, chain_next, chain_place, chain_writes, chain_left}
use Rattle.spd_dag.specs.Chains.{chain_known, ChainHas, ChainDrew, ChainGoes, ChainTurned, ChainAnswers}
use Rattle.spd_dag.specs.declared.chain.ChainCall.{ChainCall}
use Rattle.spd_dag.specs.declared.chain.ChainStage.{ChainStage}
use Rattle.spd_dag.specs.declared.chain.ChainTurn.TheVariants as turn

module _ {B : Type 0} (view : B → BodyView) (p : PlanView) (o : Origin B) (old : ChainCall B) (known : Me (Option B) View) (h : ChainGoes view p o old known)
    (s : ChainStage) (at : old.stage ≡ s) where
  -- what the share knows, which bodies the call has, and that its move is drawn, at this stage
  pub known_at : known ≡ chain_known (λ b. (view b).means) o s
  known_at = h.is ∙ ap (chain_known (λ b. (view b).means) o) at

  pub has_at : ChainHas o s old.body old.rest
  has_at = subst (λ (t : ChainStage). ChainHas o t old.body old.rest) at h.has

  pub drew_at : ChainDrew p o s
  drew_at = subst (ChainDrew p o) at h.drew

  module _ (new : ChainCall B) (known' : Me (Option B) View) (s' : ChainStage) (here : new.stage ≡ s') (same : new.kind ≡ old.kind) (found : ℕ)
      (step : TakesStep p (chain_place p s) found (chain_writes old.kind o.runs o.known.0.full_draws s found) known known') where
    pub chain_more : chain_next p.moves s found ≡ chain_goes s' → chain_left s' < chain_left s → known' ≡ chain_known (λ b. (view b).means) o s'
        → ChainHas o s' new.body new.rest → ChainDrew p o s' → ChainTurned view p o old new known known' turn.More
    chain_more next fewer is has drew = record {
      found = found;
      step = subst (λ (t : ChainStage). TakesStep p (chain_place p t) found (chain_writes old.kind o.runs o.known.0.full_draws t found) known known') (sym at) step;
      table = subst (λ (t : ChainStage). ChainAnswers {B = B} (chain_next p.moves t found) new.stage turn.More) (sym at)
          (subst (λ (a : AfterChain). ChainAnswers {B = B} a new.stage turn.More) (sym next) (here, refl));
      comes = (
        record {
          may = subst (λ (k : FinishKind). MayChain o.known.0 o.runs k (view o.body) (view o.rest)) (sym same) h.may;
          is = is ∙ ap (chain_known (λ b. (view b).means) o) (sym here);
          has = subst (λ (t : ChainStage). ChainHas o t new.body new.rest) (sym here) has;
          drew = subst (ChainDrew p o) (sym here) drew;
        },
        subst (λ (t : ChainStage). chain_left t < chain_left old.stage) (sym here) (subst (λ (t : ChainStage). chain_left s' < chain_left t) (sym at) fewer),
      );
    }

  -- the last turn
  pub chain_done : (new : ChainCall B) (known' : Me (Option B) View) (d found : ℕ)
      → TakesStep p (chain_place p s) found (chain_writes old.kind o.runs o.known.0.full_draws s found) known known'
      → chain_next p.moves s found ≡ chain_ends d → 2 * d + 1 < 2 * p.moves → IsOver p o.known.0 known'.0 1 5 × (known'.1 ≡ [])
      → ChainTurned view p o old new known known' (turn.Done (2 * d) (2 * d + 1))
  chain_done new known' d found step next low over = record {
    found = found;
    step = subst (λ (t : ChainStage). TakesStep p (chain_place p t) found (chain_writes old.kind o.runs o.known.0.full_draws t found) known known') (sym at) step;
    table = subst (λ (t : ChainStage). ChainAnswers {B = B} (chain_next p.moves t found) new.stage (turn.Done (2 * d) (2 * d + 1))) (sym at)
        (subst (λ (a : AfterChain). ChainAnswers {B = B} a new.stage (turn.Done (2 * d) (2 * d + 1))) (sym next) refl);
    comes = (refl, low, over.0, over.1);
  }

  -- the turn that finds no move left
  pub chain_full : (new : ChainCall B) (known' : Me (Option B) View) (n : ℕ) (body rest : B)
      → TakesStep p (chain_place p s) n (chain_writes old.kind o.runs o.known.0.full_draws s n) known known'
      → chain_next p.moves s n ≡ chain_fills n → p.moves ≤ n → body ≡ o.body → rest ≡ o.rest → known' ≡ unmoved_known o.known
      → ChainTurned view p o old new known known' (turn.Full n body rest)
  chain_full new known' n body rest step next least is_body is_rest is = record {
    found = n;
    step = subst (λ (t : ChainStage). TakesStep p (chain_place p t) n (chain_writes old.kind o.runs o.known.0.full_draws t n) known known') (sym at) step;
    table = subst (λ (t : ChainStage). ChainAnswers {B = B} (chain_next p.moves t n) new.stage (turn.Full n body rest)) (sym at)
        (subst (λ (a : AfterChain). ChainAnswers {B = B} a new.stage (turn.Full n body rest)) (sym next) (body, rest, refl));
    comes = (least, is_body, is_rest, is);
  }
