-- What every step leaves of the book rule, beside the books themselves: a step of a share that carries on what it was given of the make.
use Rattle.std.proofs.Common.{◌≡◌, ℕ, ◌+◌, ◌*◌, ◌/◌, ◌<◌, List, set, refl, sym, ap, ◌∙◌, subst, arith, Option, Some, None}
use mathlib.Core.Option.{some}
use mathlib.Core.Option as maybe
use mathlib.Core.Logic.{dite}
use native.Mathlib.Decide.{ℕ_discrete}
use lib.ListN.{get_elem?}
use Rattle.spd_words.specs.Meaning.{Meaning, IsLawfulTotal, Awaited}
use Rattle.spd_words.specs.Plan.{PlanView}
use Rattle.spd_words.specs.Words.{Vertex}
use Rattle.spd_state.specs.Sums.{Each}
use Rattle.spd_state.specs.Dag.{Dag}
use Rattle.spd_state.specs.Parts.{Rule}
use Rattle.spd_state.specs.declared.promise.Whole.{Whole}
use Rattle.spd_state.specs.declared.view.Running.{Running}
use Rattle.spd_state.specs.declared.view.View.{View}
use Rattle.spd_state.proofs.Sums.{each_kept}
use Rattle.spd_state.proofs.Rights.{running_ok}
use Rattle.spd_debts.specs.Books.{Books, Unbegun, Shows}
use Rattle.spd_debts.specs.BookRule.{BookRule, Carries}
use Rattle.spd_debts.proofs.Seen.{shows_kept, shows_none}

-- ---- a move was drawn wherever a vertex is stored, or a share runs one

module _ {B : Type 0} (p : PlanView) (a : Dag) (homes : List (maybe.Option (Option B))) (vs : List View) (rule : Rule p a homes vs) where
  pub none_stored : a.drawn ≡ 0 → (x : ℕ) → x < 2 * p.moves → (a.vertices x).state ≡ 0
  none_stored untouched x l = let u = untouched in dite (ℕ_discrete x (2 * (x / 2)))
      (λ e. ap (λ k. (a.vertices k).state) e ∙ ap (λ (y : Vertex). y.state) (rule.moves.blank_body (x / 2) (omega arith) (omega arith)))
      (λ e. ap (λ k. (a.vertices k).state) (let z : x ≡ 2 * (x / 2) + 1 = omega arith in z)
      ∙ ap (λ (y : Vertex). y.state) (rule.moves.blank_rest (x / 2) (omega arith) (omega arith)))

  pub run_drawn : (id : ℕ) (v : View) → get_elem? vs id ≡ some v → (r : Running) → v.running ≡ Some r → a.drawn ≡ 0 → ⊥
  run_drawn id v at r is untouched = let k = running_ok p a homes vs rule id v at r is in
      let s : (a.vertices r.vertex).state ≡ 3 = ap (λ (x : Vertex). x.state) k.word in
      let z = none_stored untouched r.vertex k.vertex in absurd (omega arith)

-- ---- the parts beside the books

-- A share's new view carries on what it was given of the make, and knows nothing before the make.
pub record HandsOn (drawn : ℕ) (v w : View) : Type 0 where
  pub whole : w.whole ≡ v.whole
  pub fresh : drawn ≡ 0 → Unbegun v → Unbegun w

-- the view knows of the make what it knew
pub on_same : (drawn : ℕ) (v w : View) → w.whole ≡ v.whole → w.awaited ≡ v.awaited → w.hurt ≡ v.hurt → w.sunk ≡ v.sunk → w.wild ≡ v.wild → HandsOn drawn v w
on_same drawn v w whole awaited hurt sunk wild = record {
  whole = whole;
  fresh = λ _ u. record { awaited = awaited ∙ u.awaited; hurt = hurt ∙ u.hurt; sunk = sunk ∙ u.sunk; whole = whole ∙ u.whole; wild = wild ∙ u.wild };
}

pub carries_kept : (tame region : ℕ) (v w : View) → w.whole ≡ v.whole → Carries tame region v → Carries tame region w
carries_kept tame region v w e h = record { keeps = λ x is z. h.keeps x (sym e ∙ is) z; only = λ x is t. h.only x (sym e ∙ is) t }

module _ {B : Type 0} (view : B → Meaning) (p : PlanView) (a : Dag) (homes : List (maybe.Option (Option B))) (vs : List View)
    (stands : BookRule view p a homes vs) (id : ℕ) (v : View) (at : get_elem? vs id ≡ some v) where
  -- a step after which the words are those of b: it writes no gift, and expects nothing new of finish 0
  pub standing : (b : Dag) (homes' : List (maybe.Option (Option B))) (w : View) → b.tame ≡ a.tame → b.region ≡ a.region → b.expects 0 ≡ a.expects 0
      → (b.drawn ≡ 0 → a.drawn ≡ 0) → HandsOn b.drawn v w → Each (Shows b.gifts) (set vs id w)
      → (a.tame ≡ 1 → Books view p a homes vs → Books view p b homes' (set vs id w)) → BookRule view p b homes' (set vs id w)
  standing b homes' w tame region first drawn on shows books = record {
    kept = λ t. books (sym tame ∙ t) (stands.kept (sym tame ∙ t));
    lawful = λ t. subst (λ (x : Awaited). IsLawfulTotal x.kind x.gift x.fault) (sym first) (stands.lawful (sym tame ∙ t));
    shows = shows;
    carries = each_kept (Carries b.tame b.region) vs id w
        (subst (λ (r : ℕ). Carries b.tame r w) (sym region) (subst (λ (t : ℕ). Carries t a.region w) (sym tame)
        (carries_kept a.tame a.region v w on.whole (stands.carries id v at))))
        (subst (λ (r : ℕ). Each (Carries b.tame r) vs) (sym region) (subst (λ (t : ℕ). Each (Carries t a.region) vs) (sym tame) stands.carries));
    unbegun = λ z. let u = stands.unbegun (drawn z) in each_kept Unbegun vs id w (on.fresh z (u id v at)) u;
  }

  -- the same of a step that leaves the gift words, by a share that runs what it ran and saw what it saw
  pub standing_on : (b : Dag) (homes' : List (maybe.Option (Option B))) (w : View) → b.tame ≡ a.tame → b.region ≡ a.region → b.expects 0 ≡ a.expects 0
      → b.gifts ≡ a.gifts → (b.drawn ≡ 0 → a.drawn ≡ 0) → HandsOn b.drawn v w
      → ((r : Running) → w.running ≡ Some r → (q : Running) × (v.running ≡ Some q) × (q.vertex ≡ r.vertex)) → w.seen ≡ v.seen
      → (a.tame ≡ 1 → Books view p a homes vs → Books view p b homes' (set vs id w)) → BookRule view p b homes' (set vs id w)
  standing_on b homes' w tame region first gifts drawn on runs seen books = standing b homes' w tame region first drawn on
      (subst (λ (g : ℕ → ℕ). Each (Shows g) (set vs id w)) (sym gifts) (shows_kept a.gifts vs stands.shows id v at w runs seen)) books
