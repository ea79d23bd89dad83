-- The bodies of a spawn or a chain came back, since no move was left.
use Rattle.std.proofs.Common.{◌≡◌, sym, ap, subst, ◌∙◌}
use Rattle.spd_words.specs.Meaning.{BodyView}
use Rattle.spd_words.specs.declared.finish_kind.FinishKind.{FinishKind}
use Rattle.spd_words.specs.declared.event.Event.TheVariants as event
use Rattle.spd_words.specs.declared.event.Part.TheVariants as part
use Rattle.spd_state.specs.declared.view.Running.{Running}
use Rattle.spd_state.specs.declared.view.View.{View}
use Rattle.spd_rule.specs.Shares.{share_view}
use Rattle.spd_rule.specs.declared.field.Share.{Share}
use Rattle.spd_dag.specs.Draws.{unmoved_view}
use Rattle.spd_work.specs.Runs.{RunsCut, RunsPart, Lasts}
use Rattle.spd_work.specs.Turns.{GetsBack}
use Rattle.spd_work.proofs.Cuts.{full_async, full_finish, unmoved_lasts}

module _ {B : Type 0} (view : B → BodyView) (r : Running) (s t : Share B) (body rest body' rest' : B) (back : GetsBack body rest body' rest' s t) where
  is : share_view t ≡ unmoved_view (share_view s).full_draws (share_view s)
  is = ap (λ m. m.0) back.unmoved

  pub back_async : RunsCut (share_view s) r (event.Async (view body)) (view rest) → RunsPart (share_view t) r (view rest') (part.Async (view body'))
  back_async runs = subst (λ (v : View). RunsPart v r (view rest') (part.Async (view body'))) (sym is)
      (subst (λ (b : B). RunsPart (unmoved_view (share_view s).full_draws (share_view s)) r (view rest') (part.Async (view b))) (sym back.body_is)
      (subst (λ (b : B). RunsPart (unmoved_view (share_view s).full_draws (share_view s)) r (view b) (part.Async (view body))) (sym back.rest_is)
      (full_async (share_view s).full_draws (share_view s) r (view body) (view rest) runs)))

  pub back_finish : (k : FinishKind) → RunsCut (share_view s) r (event.Finish k (view body)) (view rest)
      → RunsPart (share_view t) r (view rest') (part.Finish k (view body'))
  back_finish k runs = subst (λ (v : View). RunsPart v r (view rest') (part.Finish k (view body'))) (sym is)
      (subst (λ (b : B). RunsPart (unmoved_view (share_view s).full_draws (share_view s)) r (view rest') (part.Finish k (view b))) (sym back.body_is)
      (subst (λ (b : B). RunsPart (unmoved_view (share_view s).full_draws (share_view s)) r (view b) (part.Finish k (view body))) (sym back.rest_is)
      (full_finish (share_view s).full_draws (share_view s) r k (view body) (view rest) runs)))

  pub back_lasts : Lasts (share_view s) (share_view t)
  back_lasts = subst (Lasts (share_view s)) (sym is) (unmoved_lasts (share_view s).full_draws (share_view s)).0

  pub back_ready : (share_view t).ready ≡ (share_view s).ready
  back_ready = ap (λ (v : View). v.ready) is ∙ (unmoved_lasts (share_view s).full_draws (share_view s)).1
