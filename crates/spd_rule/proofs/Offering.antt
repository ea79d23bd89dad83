-- The table allows a share to pay: offers to the gift word, and codes to the fault word of the finish of its vertex.
use Rattle.std.proofs.Common.{◌≡◌, ℕ, ◌+◌, ◌%◌, ◌^◌, ◌<◌, ℤ, List, set, max, min, refl, sym, subst, arith, Option, inl}
use Rattle.std.specs.Int.{w64, cast_unsigned}
use Rattle.std.specs.Prelude.{FitsSigned}
use Prim.Native.Nat.{zero, suc}
use mathlib.Core.Option as maybe
use Rattle.atomic_table.specs.Table.{Me, keeps, Allows}
use Rattle.spd_words.specs.Meaning.{BodyView}
use Rattle.spd_words.specs.Plan.{PlanView, gift_place, fault_place}
use Rattle.spd_state.specs.Sums.{put}
use Rattle.spd_state.specs.Dag.{Dag}
use Rattle.spd_state.specs.Parts.{Rule}
use Rattle.spd_state.specs.declared.view.View.{View}
use Rattle.spd_debts.specs.BookRule.{BookRule}
use Rattle.spd_debts.specs.Payments.{added_word, raised_word, lowered_word, offer_view, lower_view}
use Rattle.spd_debts.proofs.Keeping.{offer_rule, lower_rule}
use Rattle.spd_debts.proofs.Paying.{add_sum_stands, raise_stands, lower_stands}
use Rattle.spd_rule.specs.Kept.{means_of, Kept}
use Rattle.spd_rule.specs.Payments.{MayPayTo, TakesSum, TakesBest, TakesFault, offered_known, lowered_known}
use Rattle.spd_rule.proofs.Glue.{From, allow_gift, allow_fault, unseen}

-- a payment shows no vertex
lower_shown : (c left : ℕ) (v : View) → (lower_view c left v).shown ≡ v.shown
lower_shown c left v = by c
  where
    by : (c : ℕ) → (lower_view c left v).shown ≡ v.shown
    by zero = refl
    by (suc c) = refl

module _ {B : Type 0} (told_of : B → BodyView) (p : PlanView) (slots id : ℕ) (me : Me (Option B) View) (d : ℕ) (low : d < p.moves) (may : MayPayTo d me.0) where
  -- the rule, and the books, once the gift word of d is n
  offer_kept : (a : Dag) (homes : List (maybe.Option (Option B))) (vs : List View) → From told_of p slots id me a homes vs → (left : ℤ) (n : ℕ)
      → Rule p (record a { gifts = put a.gifts d n }) homes (set vs id (offer_view left me.0))
  offer_kept a homes vs from left n = subst (λ (g : ℕ). Rule p (record a { gifts = put a.gifts g n }) homes (set vs id (offer_view left me.0))) may.finish
      (offer_rule p a homes vs from.rule id me.0 from.at may.runs may.running may.right left n)

  pub offers_sum : (x left : ℤ) → FitsSigned w64 x → TakesSum x left me.0
      → Allows (Kept told_of p) slots id me (gift_place p d) (λ n. (n + cast_unsigned w64 x) % 2 ^ 64) (λ n m'. m' ≡ offered_known left me)
  offers_sum x left fits pays = allow_gift told_of p slots id me d low (λ n. (n + cast_unsigned w64 x) % 2 ^ 64) (λ n m'. m' ≡ offered_known left me)
      (λ a homes vs from fit. inl record {
        new = added_word x (a.gifts d);
        fits = omega arith;
        packs = refl;
        expects = a.expects;
        region = a.region;
        tame = a.tame;
        move = record {
          view = offer_view left me.0;
          act = keeps;
          valid = tt;
          kept = offer_kept a homes vs from left (added_word x (a.gifts d));
          shown = unseen told_of p slots id me a homes vs from (offer_view left me.0) refl;
          books = subst (λ (g : ℕ). BookRule (means_of told_of) p (record a { gifts = put a.gifts g (added_word x (a.gifts g)) }) homes (set vs id (offer_view left me.0)))
              may.finish (add_sum_stands (means_of told_of) p a homes vs from.rule from.books id me.0 from.at may.runs may.running may.right x left fits
              (subst (λ (g : ℕ). a.gifts g < 18446744073709551616) (sym may.finish) fit) pays);
          fit = from.fit;
          tells = refl;
        };
      })

  pub offers_best : (y : ℕ) (left : ℤ) → y < 18446744073709551616 → TakesBest y left me.0
      → Allows (Kept told_of p) slots id me (gift_place p d) (λ n. max n y) (λ n m'. m' ≡ offered_known left me)
  offers_best y left fits pays = allow_gift told_of p slots id me d low (λ n. max n y) (λ n m'. m' ≡ offered_known left me)
      (λ a homes vs from fit. inl record {
        new = raised_word y (a.gifts d);
        fits = omega arith;
        packs = refl;
        expects = a.expects;
        region = a.region;
        tame = a.tame;
        move = record {
          view = offer_view left me.0;
          act = keeps;
          valid = tt;
          kept = offer_kept a homes vs from left (raised_word y (a.gifts d));
          shown = unseen told_of p slots id me a homes vs from (offer_view left me.0) refl;
          books = subst (λ (g : ℕ). BookRule (means_of told_of) p (record a { gifts = put a.gifts g (raised_word y (a.gifts g)) }) homes (set vs id (offer_view left me.0)))
              may.finish (raise_stands (means_of told_of) p a homes vs from.rule from.books id me.0 from.at may.runs may.running may.right y left pays);
          fit = from.fit;
          tells = refl;
        };
      })

  pub lowers_fault : (c left : ℕ) → TakesFault c left me.0
      → Allows (Kept told_of p) slots id me (fault_place p d) (λ n. min n c) (λ n m'. m' ≡ lowered_known c left me)
  lowers_fault c left pays = allow_fault told_of p slots id me d low (λ n. min n c) (λ n m'. m' ≡ lowered_known c left me)
      (λ a homes vs from fit. inl record {
        new = lowered_word c (a.faults d);
        fits = omega arith;
        packs = refl;
        expects = a.expects;
        region = a.region;
        tame = a.tame;
        move = record {
          view = lower_view c left me.0;
          act = keeps;
          valid = tt;
          kept = subst (λ (g : ℕ). Rule p (record a { faults = put a.faults g (lowered_word c (a.faults d)) }) homes (set vs id (lower_view c left me.0))) may.finish
              (lower_rule p a homes vs from.rule id me.0 from.at may.runs may.running may.right c left (lowered_word c (a.faults d)));
          shown = unseen told_of p slots id me a homes vs from (lower_view c left me.0) (lower_shown c left me.0);
          books = subst (λ (g : ℕ). BookRule (means_of told_of) p (record a { faults = put a.faults g (lowered_word c (a.faults g)) }) homes (set vs id (lower_view c left me.0)))
              may.finish (lower_stands (means_of told_of) p a homes vs from.rule from.books id me.0 from.at may.runs may.running may.right c left pays);
          fit = from.fit;
          tells = refl;
        };
      })
