-- Two looks one after the other, by the share that runs the waiting vertex: what it knows afterwards, and what it has found.
use Rattle.std.proofs.Common.{◌≡◌, ◌≢◌, ℕ, ◌+◌, ◌*◌, ℤ, refl, sym, ap, ◌∙◌, subst, Option, Bool, true, cond, eq-eqb}
use Rattle.atomic_table.specs.Table.{Me}
use Rattle.spd_words.specs.declared.finish_kind.FinishKind.{FinishKind}
use Rattle.spd_state.specs.Steps.{stepped}
use Rattle.spd_state.specs.declared.promise.Whole.{Whole}
use Rattle.spd_state.specs.declared.view.View.{View}
use Rattle.spd_debts.specs.Payments.{shown_view}
use Rattle.spd_debts.specs.Worth.{gift_of}
use Rattle.spd_rule.specs.Payments.{runs_rest, shown_known, collected_view, collected_known, FindsAwaited, FindsWhole, KnowsBooks}
use Rattle.spd_book.specs.Collects.{MayCollect, GivesBack}

-- it runs that vertex
pub rest_runs : (d : ℕ) (v : View) (kind : FinishKind) → MayCollect v d kind → runs_rest d v.running ≡ true
rest_runs d v kind may = ap (runs_rest d) may.running ∙ eq-eqb may.runs.vertex (2 * d + 1) may.rest

module _ {B : Type 0} (d n c : ℕ) (me between after : Me (Option B) View) (rest : runs_rest d me.0.running ≡ true)
    (first : between ≡ shown_known d n me) where
  shown_is : between ≡ (shown_view n me.0, me.1)
  shown_is = first ∙ ap (λ (b : Bool). let m : Me (Option B) View = (cond b (shown_view n me.0) (stepped me.0), me.1) in m) rest

  pub collected_once : after ≡ collected_known d c between → after ≡ (collected_view me.0.awaited c (shown_view n me.0), me.1)
  collected_once second = second ∙ ap (collected_known d c) shown_is
      ∙ ap (λ (b : Bool). let m : Me (Option B) View = (cond b (collected_view me.0.awaited c (shown_view n me.0)) (stepped (shown_view n me.0)), me.1) in m) rest

  -- what the second look finds, of the view before both
  pub found_whole : FindsAwaited d c between.0 → c ≢ 0 → (w : Whole) → KnowsBooks me.0 w → FindsWhole d n c (shown_view n me.0) w
  found_whole finds pure w knows = subst (λ (m : Me (Option B) View). FindsAwaited d c m.0) shown_is finds pure w knows rest n refl

pub gives_of : {B : Type 0} (d n c : ℕ) (kind : FinishKind) (me between : Me (Option B) View) (may : MayCollect me.0 d kind)
    → between ≡ shown_known d n me → FindsAwaited d c between.0 → c ≢ 0 → (w : Whole) (knows : KnowsBooks me.0 w) (gift : ℤ) → gift ≡ gift_of kind n
    → GivesBack me.0 d w (record { gift = gift; fault = c })
gives_of d n c kind me between may first finds pure w knows gift is =
    let found = found_whole d n c me between between (rest_runs d me.0 kind may) first finds pure w knows in record {
      awaited = λ x e. let t = found.awaited x e in (is ∙ ap (λ (k : FinishKind). gift_of k n) (sym (may.kinds x e)) ∙ t.0, t.1);
      end = λ z. let t = found.end z in (is ∙ ap (λ (k : FinishKind). gift_of k n) (sym (may.end z w knows.0)) ∙ t.0, t.1);
    }
