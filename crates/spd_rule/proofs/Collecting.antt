-- The table allows a share to look at what a finish has got; and what the share finds there is what it awaited.
use Rattle.std.proofs.Common.{◌≡◌, ℕ, ◌+◌, ◌*◌, ◌^◌, ◌<◌, List, set, refl, ap, ◌∙◌, arith, Option, Some, None, Bool, true, false, cond, ne_eqb, inr}
use Prim.Native.Nat.{zero, suc}
use mathlib.Core.Option as maybe
use mathlib.Core.Logic.{dite}
use native.Mathlib.Decide.{ℕ_discrete}
use Rattle.atomic_table.specs.Table.{Me, keeps, Allows}
use Rattle.spd_words.specs.Meaning.{BodyView}
use Rattle.spd_words.specs.Plan.{PlanView, gift_place, fault_place, done_place}
use Rattle.spd_state.specs.Dag.{Dag}
use Rattle.spd_state.specs.Parts.{Rule}
use Rattle.spd_state.specs.Steps.{stepped}
use Rattle.spd_state.specs.declared.promise.Expected.{Expected}
use Rattle.spd_state.specs.declared.view.Running.{Running}
use Rattle.spd_state.specs.declared.view.View.{View}
use Rattle.spd_debts.specs.BookRule.{BookRule}
use Rattle.spd_debts.specs.Payments.{shown_view}
use Rattle.spd_debts.proofs.Bookkeeping.{load_stands}
use Rattle.spd_debts.proofs.Keeping.{shown_rule, collect_rule}
use Rattle.spd_debts.proofs.Paying.{shown_stands, collect_stands, awaited_found, end_found}
use Rattle.spd_rule.specs.Kept.{means_of, Kept}
use Rattle.spd_rule.specs.Payments.{runs_rest, shown_known, collected_view, collected_known, FindsAwaited}
use Rattle.spd_rule.proofs.Glue.{From, allow_gift, allow_fault, allow_done, unseen}
use Rattle.spd_rule.proofs.Starts.{idles}

-- the share that runs the waiting vertex of d
rests_at : (d : ℕ) (o : Option Running) → runs_rest d o ≡ true → (r : Running) × (o ≡ Some r) × (r.vertex ≡ 2 * d + 1)
rests_at d None e = absurd (cc)
rests_at d (Some r) e = (r, refl, dite (ℕ_discrete r.vertex (2 * d + 1)) (λ z. z) (λ n. let f = ne_eqb r.vertex (2 * d + 1) n in absurd (cc)))

shown_seen : (n : ℕ) (v : View) (b : Bool) → (cond b (shown_view n v) (stepped v)).shown ≡ v.shown
shown_seen n v true = refl
shown_seen n v false = refl

collected_seen : (o : Option Expected) (n : ℕ) (v : View) (b : Bool) → (cond b (collected_view o n v) (stepped v)).shown ≡ v.shown
collected_seen o n v false = refl
collected_seen None n v true = refl
collected_seen (Some x) zero v true = refl
collected_seen (Some x) (suc c) v true = refl

module _ {B : Type 0} (told_of : B → BodyView) (p : PlanView) (slots id : ℕ) (me : Me (Option B) View) where
  module _ (d : ℕ) (low : d < p.moves) where
    module _ (a : Dag) (homes : List (maybe.Option (Option B))) (vs : List View) (from : From told_of p slots id me a homes vs) where
      sum_rule : (n : ℕ) (b : Bool) → Rule p a homes (set vs id (cond b (shown_view n me.0) (stepped me.0)))
      sum_rule n true = shown_rule p a homes vs from.rule id me.0 from.at n
      sum_rule n false = idles told_of p slots id me a homes vs from

      sum_books : (b : Bool) → runs_rest d me.0.running ≡ b → BookRule (means_of told_of) p a homes (set vs id (cond b (shown_view (a.gifts d) me.0) (stepped me.0)))
      sum_books true e = let r = rests_at d me.0.running e in shown_stands (means_of told_of) p a homes vs from.rule from.books id me.0 from.at r.0 r.1 d r.2
      sum_books false e = load_stands (means_of told_of) p a homes vs from.rule from.books id me.0 from.at

      fault_rule : (o : Option Expected) → me.0.awaited ≡ o → (n : ℕ) (b : Bool) → Rule p a homes (set vs id (cond b (collected_view o n me.0) (stepped me.0)))
      fault_rule o e n false = idles told_of p slots id me a homes vs from
      fault_rule None e n true = idles told_of p slots id me a homes vs from
      fault_rule (Some x) e n true = collect_rule p a homes vs from.rule id me.0 from.at x e n

      fault_books : (o : Option Expected) → me.0.awaited ≡ o → (b : Bool) → runs_rest d me.0.running ≡ b
          → BookRule (means_of told_of) p a homes (set vs id (cond b (collected_view o (a.faults d) me.0) (stepped me.0)))
      fault_books o e false s = load_stands (means_of told_of) p a homes vs from.rule from.books id me.0 from.at
      fault_books None e true s = load_stands (means_of told_of) p a homes vs from.rule from.books id me.0 from.at
      fault_books (Some x) e true s = let r = rests_at d me.0.running s in
          collect_stands (means_of told_of) p a homes vs from.rule from.books id me.0 from.at r.0 r.1 d r.2 x e (a.faults d) refl

      finds : a.faults d < 18446744073709551616 → FindsAwaited d (a.faults d) me.0
      finds fit pure w knows rest n saw = let r = rests_at d me.0.running rest in
          let seen : a.gifts d ≡ n = (from.books.shows id me.0 from.at).gift r.0 n d r.1 saw r.2 in let g = from.gifts_fit d low in
          let small : n < 2 ^ 64 = (let k : n < 18446744073709551616 = omega arith in k) in record {
            awaited = λ x e. awaited_found (means_of told_of) p a homes vs from.rule from.books id me.0 from.at r.0 r.1 w knows.0 knows.1 x e n d saw r.2 small pure (omega arith);
            end = λ z. let one : r.0.vertex ≡ 1 = (let o = r.2 in omega arith) in let c : a.faults d ≡ a.faults 0 = ap a.faults z in
                let t = end_found (means_of told_of) p a homes vs from.rule from.books id me.0 from.at r.0 r.1 w knows.0 knows.1 one n saw small (λ y. pure (c ∙ y)) (omega arith) in
                (t.0, c ∙ t.1);
          }

    pub looks_at_sum : Allows (Kept told_of p) slots id me (gift_place p d) (λ n. n) (λ n m'. m' ≡ shown_known d n me)
    looks_at_sum = allow_gift told_of p slots id me d low (λ n. n) (λ n m'. m' ≡ shown_known d n me)
        (λ a homes vs from fit. let b : Bool = runs_rest d me.0.running in inr record {
          stays = refl;
          move = record {
            view = (shown_known d (a.gifts d) me).0;
            act = keeps;
            valid = tt;
            kept = sum_rule a homes vs from (a.gifts d) b;
            shown = unseen told_of p slots id me a homes vs from ((shown_known d (a.gifts d) me).0) (shown_seen (a.gifts d) me.0 b);
            books = sum_books a homes vs from b refl;
            fit = from.fit;
            tells = refl;
          };
        })

    pub looks_at_fault : Allows (Kept told_of p) slots id me (fault_place p d) (λ n. n) (λ n m'. (m' ≡ collected_known d n me) × FindsAwaited d n me.0)
    looks_at_fault = allow_fault told_of p slots id me d low (λ n. n) (λ n m'. (m' ≡ collected_known d n me) × FindsAwaited d n me.0)
        (λ a homes vs from fit. let b : Bool = runs_rest d me.0.running in let o : Option Expected = me.0.awaited in inr record {
          stays = refl;
          move = record {
            view = (collected_known d (a.faults d) me).0;
            act = keeps;
            valid = tt;
            kept = fault_rule a homes vs from o refl (a.faults d) b;
            shown = unseen told_of p slots id me a homes vs from ((collected_known d (a.faults d) me).0) (collected_seen o (a.faults d) me.0 b);
            books = fault_books a homes vs from o refl b refl;
            fit = from.fit;
            tells = (refl, finds a homes vs from fit);
          };
        })

  -- a look at the word of the end
  pub looks_at_end : Allows (Kept told_of p) slots id me done_place (λ n. n) (λ n m'. m' ≡ (stepped me.0, me.1))
  looks_at_end = allow_done told_of p slots id me (λ n. n) (λ n m'. m' ≡ (stepped me.0, me.1))
      (λ a homes vs from fit. inr record {
        stays = refl;
        move = record {
          view = stepped me.0;
          act = keeps;
          valid = tt;
          kept = idles told_of p slots id me a homes vs from;
          shown = unseen told_of p slots id me a homes vs from (stepped me.0) refl;
          books = load_stands (means_of told_of) p a homes vs from.rule from.books id me.0 from.at;
          fit = from.fit;
          tells = refl;
        };
      })
