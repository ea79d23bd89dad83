-- What an offer and a fault take out of a promise, in the terms of the step that puts them.
use Rattle.std.proofs.Common.{◌≡◌, ◌≢◌, ◌⊎◌, ⊎_elim, ℕ, ℤ, refl, sym, ap, ◌∙◌, arith}
use Prim.Native.Nat.{zero, suc}
use Rattle.std.specs.Int.{w64}
use Rattle.std.specs.Prelude.{FitsSigned}
use Rattle.std.proofs.lemmas.Int.{ints, clamps}
use Rattle.spd_words.specs.Gift.{join, identity}
use Rattle.spd_words.specs.Meaning.{Meaning, Promise}
use Rattle.spd_words.specs.declared.finish_kind.FinishKind.{FinishKind}
use Rattle.spd_words.specs.declared.finish_kind.FinishKind.TheVariants.{Plain, Sum, Least, Greatest}
use Rattle.spd_words.specs.declared.event.Event.TheVariants.{Fault}
use Rattle.spd_words.specs.BodyCalls.{before_event}
use Rattle.spd_state.specs.Promises.{promised, owed_of}
use Rattle.spd_state.specs.declared.view.View.{View}
use Rattle.spd_debts.specs.Payments.{raised_word, offer_view, lower_view}
use Rattle.spd_debts.specs.Worth.{gift_of}
use Rattle.spd_debts.proofs.Values.{gift_raised}
use Rattle.spd_rule.specs.Payments.{TakesSum, TakesBest, TakesFault}
use Rattle.spd_book.specs.Offers.{MayOffer, MayFault, OwesOnly}

-- a value that fits, joined with nothing, is the value, but in a plain finish
counts_once : (k : FinishKind) (x left : ℤ) → k ≢ Sum → FitsSigned w64 x → join k (join k x (identity k)) left ≡ join k x left
counts_once Plain x left n fits = refl
counts_once Sum x left n fits = absurd (n refl)
counts_once Least x left n fits = omega (arith, ints, clamps)
counts_once Greatest x left n fits = omega (arith, ints, clamps)

counts_after : (k : FinishKind) (x g : ℤ) → k ≢ Sum → FitsSigned w64 x → join k g (join k x (identity k)) ≡ join k g x
counts_after Plain x g n fits = refl
counts_after Sum x g n fits = absurd (n refl)
counts_after Least x g n fits = omega (arith, ints, clamps)
counts_after Greatest x g n fits = omega (arith, ints, clamps)

module _ (v : View) (kind : FinishKind) (x : ℤ) (left : Meaning) (may : MayOffer v kind x left) where
  gift_owed : v.wild ≡ 0 → v.owes.gift ≡ join kind x left.promise.gift
  gift_owed z = ap (λ (q : Promise). q.gift) ((may.takes z).owed) ∙ ap (λ (k : FinishKind). join k x left.promise.gift) (may.kinds z)

  pub sum_takes : kind ≡ Sum → TakesSum x left.promise.gift v
  sum_takes sums z = (may.kinds z ∙ sums, gift_owed z ∙ ap (λ (k : FinishKind). join k x left.promise.gift) sums)

  pub best_takes : kind ≢ Sum → FitsSigned w64 x → (y : ℕ) → gift_of kind y ≡ join kind x (identity kind) → TakesBest y left.promise.gift v
  best_takes best fits y counts z = (
    (λ e. best (sym (may.kinds z) ∙ e)),
    gift_owed z ∙ sym (counts_once kind x left.promise.gift best fits) ∙ ap (λ (g : ℤ). join kind g left.promise.gift) (sym counts)
        ∙ ap (λ (k : FinishKind). join k (gift_of k y) left.promise.gift) (sym (may.kinds z)),
  )

  -- the word of a best finish counts the value
  pub best_counts : kind ≢ Sum → FitsSigned w64 x → (y w : ℕ) → gift_of kind y ≡ join kind x (identity kind)
      → gift_of kind (raised_word y w) ≡ join kind (gift_of kind w) x
  best_counts best fits y w counts = gift_raised kind w y best ∙ ap (join kind (gift_of kind w)) counts ∙ counts_after kind x (gift_of kind w) best fits

  pub offer_left : OwesOnly left v (offer_view left.promise.gift v)
  offer_left z = let e = (may.takes z).owed in λ j. record {
    gift = left.promise.gift;
    fault = ap (λ (q : Promise). q.fault) e j;
    moves = ap (λ (q : Promise). q.moves) e j;
  }

module _ (v : View) (code : ℕ) (left : Meaning) (may : MayFault v code left) where
  pub fault_takes : TakesFault code left.promise.fault v
  fault_takes z n = ap (λ (q : Promise). q.fault) ((may.takes n z).owed)

  pub fault_left : code ≢ 0 → OwesOnly left v (lower_view code left.promise.fault v)
  fault_left n z = by code n ((may.takes n z).owed)
    where
      by : (c : ℕ) → c ≢ 0 → promised v.owes ≡ before_event v.kind (Fault c) left.promise → (lower_view c left.promise.fault v).owes ≡ owed_of left.promise
      by zero n e = absurd (n refl)
      by (suc c) n e = λ j. record {
        gift = ap (λ (q : Promise). q.gift) e j;
        fault = left.promise.fault;
        moves = ap (λ (q : Promise). q.moves) e j;
      }

-- the kinds that aren't sums
pub is_best : (k : FinishKind) → (k ≡ Plain) ⊎ (k ≡ Least) ⊎ (k ≡ Greatest) → k ≢ Sum
is_best Plain is e = absurd (cc)
is_best Least is e = absurd (cc)
is_best Greatest is e = absurd (cc)
is_best Sum is e = ⊎_elim (λ (z : Sum ≡ Plain). absurd (cc)) (λ (t : (Sum ≡ Least) ⊎ (Sum ≡ Greatest)). ⊎_elim (λ (z : Sum ≡ Least). absurd (cc))
    (λ (z : Sum ≡ Greatest). absurd (cc)) t) is
