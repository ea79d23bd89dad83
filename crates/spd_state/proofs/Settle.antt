-- A share runs nothing once its vertex is over; and `sub_root` as the call makes it.
use Rattle.std.proofs.Common.{◌≡◌, ◌≢◌, ◌⊎◌, ℕ, ◌+◌, ◌<◌, ◌≤◌, List, [], ◌∷◌, length, set, refl, sym, ap, ◌∙◌, subst, arith, Option, Some, None}
use Rattle.std.proofs.Common.{⊎_elim, inl, inr, Bool, true, false, not, ◌&&◌, cond, eqb}
use Prim.Native.Nat.{zero, suc}
use mathlib.Core.Option.{some, some-ne-none}
use mathlib.Core.Option as maybe
use mathlib.Core.Logic.{dite}
use native.Mathlib.Decide.{dec_lt}
use lib.ListN.{get_elem?}
use lib.Seq.{set-set}
use Rattle.std.proofs.lemmas.Bool.{lt-ltb, le-ltb}
use Rattle.std.proofs.lemmas.Bool.Decides.{eqb_tells}
use Rattle.spd_words.specs.Plan.{PlanView}
use Rattle.spd_words.specs.Words.{Node}
use Rattle.spd_state.specs.Sums.{same, gate, count, without, put}
use Rattle.spd_state.specs.Dag.{Dag, claimed_at, units}
use Rattle.spd_state.specs.Parts.{ClaimsOk, Rule}
use Rattle.spd_state.specs.Steps.{sub_node, lose_view, tell_if, keep_if, keep_mark, is_over, settle_view, sub_after}
use Rattle.spd_state.specs.declared.view.Running.{Running}
use Rattle.spd_state.specs.declared.view.Flight.{Flight}
use Rattle.spd_state.proofs.Makers.{maker_alike, maker_none}
use Rattle.spd_state.specs.declared.view.View.{View}
use Rattle.spd_state.proofs.Sums.{same_else}
use Rattle.spd_state.proofs.Loads.{Same, load_keeps, over_keeps}
use Rattle.spd_state.proofs.Sub.{sub_keeps}
use Rattle.spd_state.specs.Dag.{claimed_units, claimed_above}
use Rattle.spd_state.proofs.Rights.{unit_counts}

pub there_set : {A : Type 0} (l : List A) (i : ℕ) (a b : A) → get_elem? l i ≡ some a → get_elem? (set l i b) i ≡ some b
there_set [] i a b e = absurd (some-ne-none a (sym e))
there_set (x ∷ xs) zero a b e = refl
there_set (x ∷ xs) (suc i) a b e = there_set xs i a b e

pub over_means : (o : Option Running) (f : Option Flight) (c t : List ℕ) → is_over o f c t ≡ true → (r : Running) × (o ≡ Some r) × (r.right ≡ 0)
    × (c ≡ []) × (f ≡ None)
over_means None f c t e = absurd (cc)
over_means (Some r) (Some f) c t e = absurd (cc)
over_means (Some r) None (x ∷ c) t e = absurd (cc)
over_means (Some r) None [] (x ∷ t) e = absurd (cc)
over_means (Some r) None [] [] e = (r, refl, both (not (eqb r.vertex 1)) (eqb r.right 0) refl e, refl, refl)
  where
    both : (x y : Bool) → eqb r.right 0 ≡ y → (x && y) ≡ true → r.right ≡ 0
    both false y is e = absurd (cc)
    both true false is e = absurd (cc)
    both true true is e = ⊎_elim (λ (h : (eqb r.right 0 ≡ true) × (r.right ≡ 0)). h.1)
        (λ (h : (eqb r.right 0 ≡ false) × (r.right ≢ 0)). let h₀ = h.0 in absurd (cc)) (eqb_tells r.right 0)

module _ {B : Type 0} (p : PlanView) (a : Dag) (homes : List (maybe.Option (Option B))) where
  pub settle_keeps : (vs : List View) (rule : Rule p a homes vs) (id : ℕ) (v : View) → get_elem? vs id ≡ some v
      → Rule p a homes (set vs id (settle_view v))
  settle_keeps vs rule id v at = by (is_over v.running v.flight v.claimed v.told) refl
    where
      same_but : (o : Option Running) (n : ℕ) → Same v (record v { running = o; sunk = n })
      same_but o n = record {
        flight = refl;
        held = refl;
        claimed = refl;
        rooted = refl;
        told = refl;
        slots = refl;
        full_draws = refl;
        seats = refl;
        spare = refl;
        lifted = refl;
        above = refl;
        halves = refl;
        known = refl;
        links = refl;
        sprout = refl;
        grow_draws = refl;
        full_grows = refl;
        spawns = refl;
        fresh = refl;
        starts = refl;
        ready = refl;
        done = refl;
      }

      by : (b : Bool) → is_over v.running v.flight v.claimed v.told ≡ b
          → Rule p a homes (set vs id (record v { running = keep_if (not b) v.running; sunk = keep_mark (not b) v.sunk }))
      by true e = let m = over_means v.running v.flight v.claimed v.told e in
          over_keeps p a homes vs rule id v at (record v { running = None; sunk = 0 }) (same_but None 0) m.4 m.0 m.1 m.2 m.3 refl
      by false e = load_keeps p a homes vs rule id v at v (same_but v.running v.sunk) refl (λ z. z)

pub count_without : (k d : ℕ) (l : List ℕ) → 0 < count d l → count k (without d l) + same k d ≡ count k l
count_without k d [] h = absurd (omega arith)
count_without k d (x ∷ xs) h = ⊎_elim
    (λ (t : (eqb d x ≡ true) × (d ≡ x)). let e : count k (without d (x ∷ xs)) ≡ count k xs = ap (λ b. count k (cond b xs (x ∷ without d xs))) t.0 in
    let s : same k d ≡ same k x = ap (same k) t.1 in omega arith)
    (λ (t : (eqb d x ≡ false) × (d ≢ x)). let e : count k (without d (x ∷ xs)) ≡ same k x + count k (without d xs) =
    ap (λ b. count k (cond b xs (x ∷ without d xs))) t.0 in
    let n = same_else d x t.1 in let r = count_without k d xs (omega arith) in omega arith)
    (eqb_tells d x)

pub length_without : (d : ℕ) (l : List ℕ) → 0 < count d l → length (without d l) + 1 ≡ length l
length_without d [] h = absurd (omega arith)
length_without d (x ∷ xs) h = ⊎_elim
    (λ (t : (eqb d x ≡ true) × (d ≡ x)). let e : length (without d (x ∷ xs)) ≡ length xs = ap (λ b. length (cond b xs (x ∷ without d xs))) t.0 in
    omega arith)
    (λ (t : (eqb d x ≡ false) × (d ≢ x)). let e : length (without d (x ∷ xs)) ≡ suc (length (without d xs)) =
    ap (λ b. length (cond b xs (x ∷ without d xs))) t.0 in
    let n = same_else d x t.1 in let r = length_without d xs (omega arith) in omega arith)
    (eqb_tells d x)

module _ {B : Type 0} (p : PlanView) (a : Dag) (homes : List (maybe.Option (Option B))) (vs : List View) (rule : Rule p a homes vs) (id : ℕ)
    (v : View) (at : get_elem? vs id ≡ some v) (d : ℕ) (low : d < p.moves) where
  abbrev n : Node
  n = a.nodes d

  abbrev b : Dag
  b = record a { nodes = put a.nodes d (sub_node n) }

  abbrev told : List ℕ
  told = tell_if (eqb n.twice 2) d v.told

  abbrev last : ℕ
  last = cond (eqb n.twice 2) 1 0

  telling : (f : ℕ) → count f told ≡ count f v.told + gate (cond (eqb n.twice 2) 1 0) (same f d)
  telling f = go (eqb n.twice 2)
    where
      go : (x : Bool) → count f (tell_if x d v.told) ≡ count f v.told + gate (cond x 1 0) (same f d)
      go true = omega arith
      go false = omega arith

  when : (last ≡ 1) × (n.twice ≡ 2) ⊎ (last ≡ 0) × (n.twice ≢ 2)
  when = ⊎_elim (λ (t : (eqb n.twice 2 ≡ true) × (n.twice ≡ 2)). inl (let e : last ≡ 1 = ap (λ x. cond x 1 0) t.0 in e, t.1))
      (λ (t : (eqb n.twice 2 ≡ false) × (n.twice ≢ 2)). inr (let e : last ≡ 0 = ap (λ x. cond x 1 0) t.0 in e, t.1)) (eqb_tells n.twice 2)

  pub unit_there : 0 < count d v.held + claimed_at v.lifted d v.claimed → 0 < units p a vs d
  unit_there unit = let c = at_least v.lifted in unit_counts p a homes vs rule id v at d (omega arith)
    where
      at_least : (s : ℕ) → claimed_at s d v.claimed ≤ claimed_units a.trees d s v.claimed
      at_least zero = omega arith
      at_least (suc s) = omega arith

  claims_less : (o : Option Running) → ClaimsOk p a.trees o v.claimed → 0 < count d v.claimed → ClaimsOk p a.trees o (without d v.claimed)
  claims_less None c h = ap (without d) c
  claims_less (Some r) c h = ((λ z. ap (without d) (c.0 z)), λ k z. let e = count_without k d v.claimed h in c.1 k (omega arith))

  -- the unit at hand: another one than the claimed one, where there is one
  pub sub_all : (count d v.held ≡ 0 → v.flight ≡ None) → 0 < count d v.held + claimed_at v.lifted d v.claimed
      → Rule p b homes (set vs id (sub_after d n v))
  sub_all lone unit = dite (dec_lt 0 (count d v.held))
      (λ h. let w : View = lose_view (without d v.held) v.claimed told v in
      let r = sub_keeps p a homes vs rule id v at d low (without d v.held) v.claimed told last
      (λ k. let e = count_without k d v.held h in omega arith) (λ k. let e = count_without k d v.held h in omega arith) (omega arith) (λ k. refl)
      (let e = length_without d v.held h in omega arith) (rule.own id v at).claims telling when
      (maker_alike v w refl refl refl (λ z. z) (rule.history.makers id v at)) in
      done w r (ltb_yes h))
      (λ h. let c = at_claim v.lifted (omega arith) in let flat : (k : ℕ) (l : List ℕ)
      → claimed_units a.trees k v.lifted l ≡ count k l = λ k l. ap (λ j. claimed_units a.trees k j l) c.0 in let none : (k : ℕ) (l : List ℕ)
      → claimed_above v.lifted k l ≡ 0 = λ k l. ap (λ j. claimed_above j k l) c.0 in
      let c₁ = c.1 in let w : View = lose_view v.held (without d v.claimed) told v in
      let r = sub_keeps p a homes vs rule id v at d low v.held (without d v.claimed) told last
      (λ k. let e = count_without k d v.claimed c.1 in let x = flat k v.claimed in let y = flat k (without d v.claimed) in omega arith)
      (λ k. omega arith) (let e = length_without d v.claimed c.1 in omega arith) (λ k. none k (without d v.claimed) ∙ sym (none k v.claimed))
      (let e = length_without d v.claimed c.1 in omega arith) (claims_less v.running (rule.own id v at).claims c.1) telling when
      (maker_none w (lone (omega arith))) in
      done w r (ltb_no h))
    where
      at_claim : (s : ℕ) → 0 < claimed_at s d v.claimed → (s ≡ 0) × (0 < count d v.claimed)
      at_claim zero z = (refl, z)
      at_claim (suc s) z = absurd (omega arith)

      done : (w : View) → Rule p b homes (set vs id w) → sub_after d n v ≡ settle_view w → Rule p b homes (set vs id (sub_after d n v))
      done w r e = subst (λ (l : List View). Rule p b homes l) (set-set vs id w (settle_view w) ∙ ap (set vs id) (sym e))
          (settle_keeps p b homes (set vs id w) r id w (there_set vs id v w at))

      ltb_yes : 0 < count d v.held → sub_after d n v ≡ settle_view (lose_view (without d v.held) v.claimed told v)
      ltb_yes h = ap (λ x. settle_view (cond x (lose_view (without d v.held) v.claimed told v) (lose_view v.held (without d v.claimed) told v)))
          (lt-ltb 0 (count d v.held) h)

      ltb_no : (0 < count d v.held → ⊥) → sub_after d n v ≡ settle_view (lose_view v.held (without d v.claimed) told v)
      ltb_no h = ap (λ x. settle_view (cond x (lose_view (without d v.held) v.claimed told v) (lose_view v.held (without d v.claimed) told v)))
          (le-ltb 0 (count d v.held) (omega arith))
