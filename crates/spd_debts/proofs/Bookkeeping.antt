-- Each step of the table that changes no vertex keeps the book rule: loads, draws, claims, units and pairs.
use Rattle.std.proofs.Common.{◌≡◌, ◌≢◌, ◌⊎◌, ℕ, ◌+◌, ◌*◌, ◌<◌, ◌≤◌, List, [], ◌∷◌, set, refl, sym, ap, ◌∙◌, arith, Option, Some, None, Bool, true, false, not, cond, eqb, inl, inr, ⊎_elim, subst}
use lib.Dec.{ltb}
use Rattle.std.proofs.lemmas.Bool.{lt-ltb}
use Prim.Native.Nat.{zero, suc}
use mathlib.Core.Option.{some}
use mathlib.Core.Option as maybe
use mathlib.Core.Logic.{dite}
use native.Mathlib.Decide.{dec_lt, ℕ_discrete}
use lib.ListN.{get_elem?}
use Rattle.spd_words.specs.Meaning.{Meaning, empty}
use Rattle.spd_words.specs.Plan.{PlanView}
use Rattle.spd_words.specs.Words.{Node, Pair, Vertex}
use Rattle.spd_state.specs.Sums.{put, count, without, Each}
use Rattle.spd_state.specs.Dag.{Dag, busy, claimed_at, openings}
use Rattle.spd_state.specs.Tree.{Under}
use Rattle.spd_state.specs.Parts.{Rule, ClaimsOk}
use Rattle.spd_state.specs.Promises.{promised}
use Rattle.spd_state.specs.Shown.{note_ready, see_after}
use Rattle.spd_state.specs.Steps.{stepped, add_view, claim_after, lose_right, keep_if, keep_mark, is_over, settle_view, lose_view, tell_if, sub_node, sub_after}
use Rattle.spd_state.specs.declared.view.Running.{Running}
use Rattle.spd_state.specs.declared.view.Flight.{Flight}
use Rattle.spd_state.specs.declared.view.View.{View}
use Rattle.spd_state.proofs.Rights.{running_ok}
use Rattle.spd_state.proofs.Settle.{unit_there}
use Rattle.spd_state.proofs.Zero.{started_zero, no_unit_under}
use Rattle.spd_debts.specs.Books.{Books, Unbegun}
use Rattle.spd_debts.specs.BookRule.{BookRule}
use Rattle.spd_debts.proofs.Alike.{load_books, note_books, add_books}
use Rattle.spd_debts.proofs.Signals.{claim_books, sub_books, sub_other_books, settled_books}
use Rattle.spd_debts.proofs.Standing.{HandsOn, on_same, standing_on}

-- ---- the running vertex, where the right or all of it goes

pub lost_runs : (o : Option Running) (r : Running) → lose_right o ≡ Some r → (q : Running) × (o ≡ Some q) × (q.vertex ≡ r.vertex)
lost_runs None r e = absurd (cc)
lost_runs (Some q) r e = let k : record q { right = 0 } ≡ r = cc in (q, refl, ap (λ (y : Running). y.vertex) k)

pub kept_runs : (b : Bool) (o : Option Running) (r : Running) → keep_if b o ≡ Some r → (q : Running) × (o ≡ Some q) × (q.vertex ≡ r.vertex)
kept_runs true o r e = (r, e, refl)
kept_runs false o r e = absurd (cc)

kept_mark : (b : Bool) (n : ℕ) → n ≡ 0 → keep_mark b n ≡ 0
kept_mark true n e = e
kept_mark false n e = refl

-- a view that settles carries on what it knew
pub on_settled : (drawn : ℕ) (v w : View) → HandsOn drawn v w → HandsOn drawn v (settle_view w)
on_settled drawn v w h = record {
  whole = h.whole;
  fresh = λ z u. let k = h.fresh z u in record {
    awaited = k.awaited;
    hurt = k.hurt;
    sunk = kept_mark (not (is_over w.running w.flight w.claimed w.told)) w.sunk k.sunk;
    whole = k.whole;
    wild = k.wild;
  };
}

module _ {B : Type 0} (view : B → Meaning) (p : PlanView) (a : Dag) (homes : List (maybe.Option (Option B))) (vs : List View)
    (rule : Rule p a homes vs) (stands : BookRule view p a homes vs) (id : ℕ) (v : View) (at : get_elem? vs id ≡ some v) where
  pub load_stands : BookRule view p a homes (set vs id (stepped v))
  load_stands = standing_on view p a homes vs stands id v at a homes (stepped v) refl refl refl refl (λ z. z)
      (on_same a.drawn v (stepped v) refl refl refl refl refl) (λ r e. (r, e, refl)) refl (λ _ books. load_books view p a homes vs books id v at)

  note_stands : (i : ℕ) (x : Vertex) → BookRule view p a homes (set vs id (note_ready i x v))
  note_stands i x = standing_on view p a homes vs stands id v at a homes (note_ready i x v) refl refl refl refl (λ z. z)
      (on_same a.drawn v (note_ready i x v) refl refl refl refl refl) (λ r e. (r, e, refl)) refl (λ _ books. note_books view p a homes vs books id v at i x)

  pub see_stands : (i : ℕ) (x : Vertex) (b : Bool) → BookRule view p a homes (set vs id (cond b (note_ready i x v) (stepped v)))
  see_stands i x true = note_stands i x
  see_stands i x false = load_stands

  pub add_stands : (d : ℕ) (nodes' : ℕ → Node) → BookRule view p (record a { nodes = nodes' }) homes (set vs id (add_view d v))
  add_stands d nodes' = standing_on view p a homes vs stands id v at (record a { nodes = nodes' }) homes (add_view d v) refl refl refl refl (λ z. z)
      (on_same a.drawn v (add_view d v) refl refl refl refl refl) (λ r e. (r, e, refl)) refl
      (λ _ books. add_books view p a homes vs books id v at d nodes')

  pub claim_stands : (r : Running) → v.running ≡ Some r → r.right ≡ 1 → busy v.awaited + v.hurt ≡ 0 → (q : Pair) (pairs' : ℕ → Pair)
      → BookRule view p (record a { pairs = pairs' }) homes (set vs id (claim_after q v))
  claim_stands r is mine free q pairs' = standing_on view p a homes vs stands id v at (record a { pairs = pairs' }) homes (claim_after q v)
      refl refl refl refl (λ z. z)
      (on_same a.drawn v (claim_after q v) refl refl refl refl refl) (λ y e. lost_runs v.running y e) refl
      (λ _ books. claim_books view p a homes vs books id v at r is mine free q pairs')

  -- `sub_root`: where the claimed unit leaves, nothing is owed or the code 0 was put, unless the vertex is wild
  module _ (d : ℕ) (low : d < p.moves) (unit : 0 < count d v.held + claimed_at v.lifted d v.claimed) (lone : count d v.held ≡ 0 → v.flight ≡ None)
      (paid : count d v.held ≡ 0 → v.wild ≡ 0 → (0 < v.sunk) ⊎ (promised v.owes ≡ empty v.kind)) where
    abbrev after : Dag
    after = record a { nodes = put a.nodes d (sub_node (a.nodes d)) }

    abbrev told : List ℕ
    told = tell_if (eqb (a.nodes d).twice 2) d v.told

    swap : (0 < v.sunk) ⊎ (promised v.owes ≡ empty v.kind) → (promised v.owes ≡ empty v.kind) ⊎ (0 < v.sunk)
    swap h = ⊎_elim (λ (s : 0 < v.sunk). inr s) (λ (e : promised v.owes ≡ empty v.kind). inl e) h

    on_sub : (b : Bool) → HandsOn a.drawn v (settle_view (cond b (lose_view (without d v.held) v.claimed told v) (lose_view v.held (without d v.claimed) told v)))
    on_sub true = on_settled a.drawn v (lose_view (without d v.held) v.claimed told v)
        (on_same a.drawn v (lose_view (without d v.held) v.claimed told v) refl refl refl refl refl)
    on_sub false = on_settled a.drawn v (lose_view v.held (without d v.claimed) told v)
        (on_same a.drawn v (lose_view v.held (without d v.claimed) told v) refl refl refl refl refl)

    runs_sub : (b : Bool) (y : Running) → (settle_view (cond b (lose_view (without d v.held) v.claimed told v)
        (lose_view v.held (without d v.claimed) told v))).running ≡ Some y → (q : Running) × (v.running ≡ Some q) × (q.vertex ≡ y.vertex)
    runs_sub true y e = kept_runs (not (is_over v.running v.flight v.claimed told)) v.running y e
    runs_sub false y e = kept_runs (not (is_over v.running v.flight (without d v.claimed) told)) v.running y e

    seen_sub : (b : Bool) → (settle_view (cond b (lose_view (without d v.held) v.claimed told v)
        (lose_view v.held (without d v.claimed) told v))).seen ≡ v.seen
    seen_sub true = refl
    seen_sub false = refl

    -- another unit than the claimed one leaves
    other_unit : Books view p a homes vs → 0 < count d v.held → Books view p after homes (set vs id (sub_after d (a.nodes d) v))
    other_unit books h = subst (λ (u : View). Books view p after homes (set vs id u))
        (sym (ap (λ x. settle_view (cond x (lose_view (without d v.held) v.claimed told v) (lose_view v.held (without d v.claimed) told v)))
        (lt-ltb 0 (count d v.held) h)))
        (settled_books view p after homes vs id v (lose_view (without d v.held) v.claimed told v) at
        (sub_other_books view p a homes vs books id v at (without d v.held) v.claimed told (put a.nodes d (sub_node (a.nodes d))) refl))

    -- a share that runs nothing has claimed none
    idle_unit : v.running ≡ None → 0 < count d v.held
    idle_unit none = let k : v.claimed ≡ [] = subst (λ (o : Option Running). ClaimsOk p a.trees o v.claimed) none (rule.own id v at).claims in
        let z = no_unit v.lifted in let e : claimed_at v.lifted d v.claimed ≡ claimed_at v.lifted d [] = ap (claimed_at v.lifted d) k in omega arith
      where
        no_unit : (s : ℕ) → claimed_at s d [] ≡ 0
        no_unit zero = refl
        no_unit (suc s) = refl

    -- nor has one that runs vertex 1: once that is started, nothing is left under root 0
    end_unit : (r : Running) → v.running ≡ Some r → r.vertex ≡ 1 → 0 < count d v.held
    end_unit r is one = dite (dec_lt 0 (count d v.held)) (λ h. h) (λ h. let k = running_ok p a homes vs rule id v at r is in
        let s : (a.vertices 1).state ≡ 3 = ap (λ j. (a.vertices j).state) (sym one) ∙ ap (λ (x : Vertex). x.state) k.word in
        let size₀ = rule.plan.moves.some in let t = rule.live.finish 1 (omega arith) (omega arith) in
        let top : (a.vertices 1).finish ≡ 0 = rule.history.below.end (omega arith) in
        let is_open : 0 < openings a.vertices vs 0 = subst (λ k. 0 < openings a.vertices vs k) top t.1 in
        let gone = started_zero p a homes vs rule 0 (omega arith) is_open (omega arith) in
        let under = subst (λ (o : Option Running). ClaimsOk p a.trees o v.claimed) is (rule.own id v at).claims in
        let mine : 0 < count d v.claimed = at_claim v.lifted (let u = unit in omega arith) in
        let f : r.finish ≡ 0 = sym (ap (λ (x : Vertex). x.finish) k.word) ∙ ap (λ j. (a.vertices j).finish) one ∙ top in
        let none = no_unit_under p a homes vs rule 0 (omega arith) gone d (subst (λ (e : ℕ). Under p a.trees e d) f (under.1 d mine)) in
        let some_unit = unit_there p a homes vs rule id v at d low unit in absurd (omega arith))
      where
        at_claim : (s : ℕ) → 0 < claimed_at s d v.claimed → 0 < count d v.claimed
        at_claim zero z = z
        at_claim (suc s) z = absurd (omega arith)

    sub_kept : Books view p a homes vs → Books view p after homes (set vs id (sub_after d (a.nodes d) v))
    sub_kept books = by v.running refl
      where
        by : (o : Option Running) → v.running ≡ o → Books view p after homes (set vs id (sub_after d (a.nodes d) v))
        by None is = other_unit books (idle_unit is)
        by (Some r) is = dite (ℕ_discrete r.vertex 1) (λ one. other_unit books (end_unit r is one))
            (λ other. sub_books view p a homes vs rule books id v at r is other d unit (λ z. (lone z, swap (paid z ((books.views id v at).tame)))))

    pub sub_stands : BookRule view p after homes (set vs id (sub_after d (a.nodes d) v))
    sub_stands = standing_on view p a homes vs stands id v at after homes (sub_after d (a.nodes d) v) refl refl refl refl (λ z. z)
        (on_sub (ltb 0 (count d v.held))) (runs_sub (ltb 0 (count d v.held))) (seen_sub (ltb 0 (count d v.held))) (λ _. sub_kept)
