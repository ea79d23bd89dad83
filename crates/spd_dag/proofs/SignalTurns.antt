-- A turn of a signal: the facts of its step make the turn.
use Rattle.std.proofs.Common.{◌≡◌, ℕ, ◌<◌, Option, refl, sym, ap, ◌∙◌, subst, []}
use Rattle.atomic_table.specs.Table.{Me}
use Rattle.spd_words.specs.Plan.{PlanView}
use Rattle.spd_state.specs.declared.view.View.{View}
use Rattle.spd_rule.specs.Held.{StepUnderRule}
use Rattle.spd_dag.specs.SignalStages.{AfterSignal, signal_goes, signal_ends, signal_next, signal_place, signal_writes, signal_left}
use Rattle.spd_dag.specs.Signals.{SignalOrigin, SignalGoes, SignalTurned, SignalAnswers, SignalClaimed, SignalEnds, signal_view}
use Rattle.spd_dag.specs.declared.signal.SignalCall.{SignalCall}
use Rattle.spd_dag.specs.declared.signal.SignalStage.{SignalStage}
use Rattle.spd_dag.specs.declared.signal.SignalTurn.TheVariants as turn

module _ {B : Type 0} (p : PlanView) (o : SignalOrigin) (old : SignalCall) (known : Me (Option B) View) (h : SignalGoes p o old known.0)
    (s : SignalStage) (at : old.stage ≡ s) where
  pub view_at : known.0 ≡ signal_view o s
  view_at = h.is ∙ ap (signal_view o) at

  pub claimed_of : SignalClaimed p o s
  claimed_of = subst (SignalClaimed p o) at h.has

  module _ (new : SignalCall) (known' : Me (Option B) View) (found : ℕ)
      (step : StepUnderRule p (signal_place p o.runs s) found (signal_writes s found) known known') where
    pub signal_more : (s' : SignalStage) → new.stage ≡ s' → signal_next s found ≡ signal_goes s' → signal_left s' < signal_left s
        → known'.0 ≡ signal_view o s' → SignalClaimed p o s' → SignalTurned p o old new known known' turn.More
    signal_more s' here next fewer is has = record {
      found = found;
      step = subst (λ (t : SignalStage). StepUnderRule p (signal_place p o.runs t) found (signal_writes t found) known known') (sym at) step;
      table = subst (λ (t : SignalStage). SignalAnswers (signal_next t found) new.stage turn.More) (sym at)
          (subst (λ (a : AfterSignal). SignalAnswers a new.stage turn.More) (sym next) (here, refl));
      comes = (
        record { may = h.may; is = is ∙ ap (signal_view o) (sym here); has = subst (SignalClaimed p o) (sym here) has },
        subst (λ (t : SignalStage). signal_left t < signal_left old.stage) (sym here) (subst (λ (t : SignalStage). signal_left s' < signal_left t) (sym at) fewer),
      );
    }

    pub signal_done : (woke : Option ℕ) → signal_next s found ≡ signal_ends woke → SignalEnds p o.runs o.before known'.0 woke → known'.1 ≡ []
        → SignalTurned p o old new known known' (turn.Done woke)
    signal_done woke next ends empty = record {
      found = found;
      step = subst (λ (t : SignalStage). StepUnderRule p (signal_place p o.runs t) found (signal_writes t found) known known') (sym at) step;
      table = subst (λ (t : SignalStage). SignalAnswers (signal_next t found) new.stage (turn.Done woke)) (sym at)
          (subst (λ (a : AfterSignal). SignalAnswers a new.stage (turn.Done woke)) (sym next) refl);
      comes = (ends, empty);
    }
