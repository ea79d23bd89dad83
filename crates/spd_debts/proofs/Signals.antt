-- A signal keeps the books: its claim, the depart with the claimed unit, and the end of its vertex.
use Rattle.std.proofs.Common.{subst, cond, eqb}
use native.Mathlib.Decide.{dec_lt}
use lib.Seq.{set-set}
use Rattle.std.proofs.lemmas.Bool.{lt-ltb, le-ltb}
use Rattle.spd_state.specs.Sums.{count, without, put}
use Rattle.spd_state.specs.Dag.{claimed_at}
use Rattle.spd_state.specs.Parts.{ClaimsOk, Rule}
use Rattle.spd_state.specs.Steps.{sub_node, tell_if, sub_after}
use Rattle.spd_state.proofs.Settle.{there_set, length_without}
use Rattle.spd_state.proofs.Rights.{running_ok, finish_inside}
use Rattle.spd_state.specs.Dag.{next_handle}
use Rattle.std.proofs.Common.{◌≡◌, ◌≢◌, ◌⊎◌, inl, ⊎_elim, ℕ, ◌+◌, ◌*◌, ◌<◌, ◌≤◌, List, [], ◌∷◌, ◌++◌, length, set, min, refl, sym, ap, ◌∙◌, arith, Option}
use Rattle.std.proofs.Common.{Some, None}
use Prim.Native.Nat.{zero, suc}
use mathlib.Core.Option.{some, none}
use mathlib.Core.Option as maybe
use mathlib.Core.Logic.{dite}
use native.Mathlib.Decide.{ℕ_discrete}
use lib.ListN.{get_elem?}
use Rattle.spd_words.specs.declared.finish_kind.FinishKind.{FinishKind}
use Rattle.spd_words.specs.Gift.{join, identity, no_fault}
use Rattle.spd_words.specs.Meaning.{Promise, Meaning}
use Rattle.spd_words.specs.Plan.{PlanView}
use Rattle.spd_words.specs.Words.{Node, Pair}
use Rattle.spd_state.specs.Sums.{same, gate}
use Rattle.spd_state.specs.declared.view.Running.{Running}
use Rattle.spd_state.specs.declared.view.View.{View}
use Rattle.std.proofs.Common.{Bool, true, false, not}
use Rattle.spd_words.specs.Meaning.{empty}
use Rattle.spd_words.specs.Words.{Node}
use Rattle.spd_state.specs.Dag.{Dag, openings, runs_it, busy, not_end, right_in}
use Rattle.spd_state.specs.Steps.{claim_after, lose_right, lose_view, keep_if, keep_mark, is_over, settle_view}
use Rattle.spd_state.specs.Promises.{promised}
use Rattle.spd_state.proofs.Sums.{same_means}
use Rattle.spd_state.proofs.Settle.{over_means}
use Rattle.spd_words.proofs.Gather.{faults_join, gifts_join}
use Rattle.spd_debts.specs.Books.{Books, ViewOk, finish_is}
use Rattle.spd_debts.specs.Debts.{debts, fly_debt, owe, run_debt, if_any}
use Rattle.spd_debts.specs.Worth.{fault_debt, gift_debt, gift_of, moves_debt, pick}
use Rattle.spd_debts.proofs.Alike.{like_keeps}
use Rattle.spd_debts.proofs.Gates.{gate_zero, when_more, when_none}
use Rattle.spd_debts.proofs.Offers.{opened_kept, run_is}
use Rattle.spd_debts.proofs.Turns.{turn_keeps, view_on}

module _ {B : Type 0} (view : B → Meaning) (p : PlanView) (a : Dag) (homes : List (maybe.Option (Option B))) (vs : List View)
    (books : Books view p a homes vs) (id : ℕ) (v : View) (at : get_elem? vs id ≡ some v) where
  old : ViewOk (openings a.vertices vs) a.expects a.faults v
  old = books.views id v at

  -- `claim`, by a share that has nothing to collect and isn't hurt: the claimed unit keeps the vertex unfinished
  module _ (r : Running) (is : v.running ≡ Some r) (mine : r.right ≡ 1) (free : busy v.awaited + v.hurt ≡ 0) (q : Pair) (pairs' : ℕ → Pair) where
    abbrev c : View
    c = claim_after q v

    claim_debt : debts c ≡ debts v
    claim_debt = ap (λ l. l ++ fly_debt v.flight v.body v.rest) (one v.running is)
      where
        one : (o : Option Running) → o ≡ Some r → run_debt (lose_right o) (next_handle q ∷ []) v.owes ≡ run_debt o v.claimed v.owes
        one None e = absurd (cc)
        one (Some y) e = let k : y ≡ r = cc in let m : y.right ≡ 1 = ap (λ (y : Running). y.right) k ∙ mine in
            ap (if_any (not_end y.vertex)) (sym (when_more (y.right + length v.claimed) (owe y.finish (promised v.owes) ∷ []) (omega arith)))

    finish_same : (f : ℕ) (o : Option Running) → finish_is f (lose_right o) ≡ finish_is f o
    finish_same f None = refl
    finish_same f (Some y) = refl

    runs_same : (f : ℕ) (o : Option Running) → runs_it f (lose_right o) ≡ runs_it f o
    runs_same f None = refl
    runs_same f (Some y) = refl

    kept_run : (y : Running) → lose_right v.running ≡ Some y → (y.finish ≡ r.finish) × (y.vertex ≡ r.vertex)
    kept_run y e = let k : Some (record r { right = 0 }) ≡ Some y = sym (ap lose_right is) ∙ e in let m : record r { right = 0 } ≡ y = cc in
        (ap (λ (y : Running). y.finish) (sym m), ap (λ (y : Running). y.vertex) (sym m))

    pub claim_books : Books view p (record a { pairs = pairs' }) homes (set vs id c)
    claim_books = like_keeps view p a homes vs books id v at c a.nodes pairs' claim_debt refl (λ f. ap (gate v.hurt) (finish_same f v.running))
        (λ f. ap (gate (busy v.awaited + v.hurt)) (runs_same (2 * f + 1) v.running))
        record {
          right = λ z. absurd (omega arith);
          kind = λ y e _. let t = kept_run y e in let m = mine in old.kind r is (omega arith) ∙ ap (λ k. (a.expects k).kind) (sym t.0);
          awaited = λ y x e g. let t = kept_run y e in let h = old.awaited r x is g in (h.0, t.1 ∙ h.1, h.2, h.3, h.4);
          sunk = λ s. let h = old.sunk s in (record h.0 { right = 0 }, ap lose_right h.1, h.2, h.3);
          gives = old.gives;
          begun = old.begun;
          whole = old.whole;
          tame = old.tame;
        }

  -- `sub_root`, before the share settles: the unit that leaves is another one, or the claimed one of a vertex that owes nothing or whose share has put fault
  -- 0
  module _ (held' claimed' told' : List ℕ) (nodes' : ℕ → Node) where
    abbrev w : View
    w = lose_view held' claimed' told' v

    new : (length claimed' ≤ length v.claimed) → ViewOk (openings a.vertices vs) a.expects a.faults w
    new less = record {
      right = old.right;
      kind = λ y e z. old.kind y e (omega arith);
      awaited = old.awaited;
      sunk = old.sunk;
      gives = old.gives;
      begun = old.begun;
      whole = old.whole;
      tame = old.tame;
    }

    pub sub_other_books : claimed' ≡ v.claimed → Books view p (record a { nodes = nodes' }) homes (set vs id w)
    sub_other_books e = like_keeps view p a homes vs books id v at w nodes' a.pairs
        (ap (λ l. run_debt v.running l v.owes ++ fly_debt v.flight v.body v.rest) e) refl (λ f. refl)
        (λ f. refl) (new (let l : length claimed' ≡ length v.claimed = ap length e in omega arith))

    module _ (r : Running) (is : v.running ≡ Some r) (other : r.vertex ≢ 1) (free : v.flight ≡ None) (last : r.right + length claimed' ≡ 0)
        (had : 0 < length v.claimed) where
      abbrev g : ℕ
      g = r.finish

      were : debts v ≡ owe g (promised v.owes) ∷ []
      were = (λ j. run_is v.running r v.claimed v.owes is other (omega arith) j ++ fly_debt (free j) v.body v.rest)

      now : debts w ≡ []
      now = (λ j. run_debt (is j) claimed' v.owes ++ fly_debt (free j) v.body v.rest)
          ∙ ap (λ k. if_any (not_end r.vertex) (if_any k (owe g (promised v.owes) ∷ [])) ++ []) last ∙ ap (λ l. l ++ []) (when_none (not_end r.vertex))

      kind_is : v.kind ≡ (a.expects g).kind
      kind_is = old.kind r is (omega arith)

      -- a debt that is empty, or is to another finish, is worth nothing
      nothing : {C : Type 0} (op : C → C → C) (e x : C) → op e e ≡ e → (s : ℕ) → (0 < s → x ≡ e) → e ≡ op (pick s x e) e
      nothing op e x unit zero h = sym unit
      nothing op e x unit (suc s) h = sym unit ∙ ap (λ k. op k e) (sym (h (omega arith)))

      gift_less : (f : ℕ) → (f ≡ g → v.owes.gift ≡ identity (a.expects f).kind)
          → gift_debt (a.expects f).kind f (debts w) ≡ gift_debt (a.expects f).kind f (debts v)
      gift_less f h = let k : FinishKind = (a.expects f).kind in ap (gift_debt k f) now
          ∙ nothing (join k) (identity k) v.owes.gift (gifts_join k).unit (same f g) (λ z. h (same_means f g z)) ∙ ap (gift_debt k f) (sym were)

      fault_less : (f : ℕ) → (f ≡ g → v.owes.fault ≡ no_fault) → fault_debt f (debts w) ≡ fault_debt f (debts v)
      fault_less f h = ap (fault_debt f) now ∙ nothing min no_fault v.owes.fault faults_join.unit (same f g) (λ z. h (same_means f g z))
          ∙ ap (fault_debt f) (sym were)

      pub sub_last_books : g < p.moves → (promised v.owes ≡ empty v.kind) ⊎ (0 < v.sunk) → Books view p (record a { nodes = nodes' }) homes (set vs id w)
      sub_last_books low owes = turn_keeps view p a homes vs books id v w at a.drawn nodes' a.pairs a.gifts a.faults
          record {
            opens = λ f. refl;
            sinks = λ f e. e;
            hurts = λ f _ h. h;
            gifts = λ f l n _. ap (join (a.expects f).kind (gift_of (a.expects f).kind (a.gifts f)))
                (gift_less f (λ e. ⊎_elim (λ (t : promised v.owes ≡ empty v.kind). ap (λ (q : Promise). q.gift) t
                ∙ ap identity (kind_is ∙ ap (λ j. (a.expects j).kind) (sym e))) (λ (t : 0 < v.sunk). absurd (pure f n e t)) owes));
            faults = λ f l n _. ap (min (a.faults f)) (fault_less f (λ e. ⊎_elim (λ (t : promised v.owes ≡ empty v.kind). ap (λ (q : Promise). q.fault) t)
                (λ (t : 0 < v.sunk). absurd (pure f n e t)) owes));
            passes = λ f l z e s h. inl (e, h);
            few = λ h l. (
              l,
              ⊎_elim (λ (t : promised v.owes ≡ empty v.kind). let m : v.owes.moves ≡ 0 = ap (λ (q : Promise). q.moves) t in
                  let x = ap moves_debt now in let y = ap moves_debt were in omega arith) (λ (t : 0 < v.sunk). absurd (pure g (h g low) refl t)) owes,
            );
            many = λ h l. inl l;
          }
          (view_on (openings a.vertices vs) (openings a.vertices (set vs id w)) a.expects a.faults a.faults w (λ f o. opened_kept a vs id v w at refl f o)
          (λ f e. e) (new (omega arith)))
        where
          -- a share that has put fault 0 has tainted its vertex's finish
          pure : (f : ℕ) → a.faults f ≢ 0 → f ≡ g → 0 < v.sunk → ⊥
          pure f n e s = let h = old.sunk s in let k : Some r ≡ Some h.0 = sym is ∙ h.1 in let m : r ≡ h.0 = cc in
              n (ap a.faults (e ∙ ap (λ (y : Running). y.finish) m) ∙ h.3)

  -- a share runs nothing once its vertex is over
  pub settle_books : Books view p a homes (set vs id (settle_view v))
  settle_books = by (is_over v.running v.flight v.claimed v.told) refl
    where
      by : (b : Bool) → is_over v.running v.flight v.claimed v.told ≡ b
          → Books view p a homes (set vs id (record v { running = keep_if (not b) v.running; sunk = keep_mark (not b) v.sunk }))
      by false e = like_keeps view p a homes vs books id v at v a.nodes a.pairs refl refl (λ f. refl) (λ f. refl) old
      by true e = let m = over_means v.running v.flight v.claimed v.told e in let r = m.0 in let is = m.1 in
          let still : busy v.awaited + v.hurt ≡ 0 = dite (ℕ_discrete (busy v.awaited + v.hurt) 0) (λ z. z)
          (λ z. let h = old.right (omega arith) in let k : right_in v.running ≡ r.right = ap right_in is in let k' = m.2 in absurd (omega arith)) in
          let c : length v.claimed ≡ 0 = ap length m.3 in let k' = m.2 in
          let o : (record v { running = None; sunk = 0 }).running ≡ None = refl in
          like_keeps view p a homes vs books id v at (record v { running = None; sunk = 0 }) a.nodes a.pairs
          (ap (λ l. l ++ fly_debt v.flight v.body v.rest) (sym (ap (λ x. run_debt x v.claimed v.owes) is
          ∙ ap (λ k. if_any (not_end r.vertex) (if_any k (owe r.finish (promised v.owes) ∷ []))) (let z : r.right + length v.claimed ≡ 0 = omega arith in z)
          ∙ when_none (not_end r.vertex))))
          refl (λ f. gate_zero v.hurt ∙ sym (ap (λ k. gate k (finish_is f v.running)) (let z : v.hurt ≡ 0 = omega arith in z)))
          (λ f. gate_zero (busy v.awaited + v.hurt) ∙ sym (ap (λ k. gate k (runs_it (2 * f + 1) v.running)) still))
          record {
            right = λ z. absurd (omega arith);
            kind = λ y (e : None ≡ Some y). absurd (cc);
            awaited = λ y x (e : None ≡ Some y). absurd (cc);
            sunk = λ (z : 0 < 0). absurd (omega arith);
            gives = old.gives;
            begun = old.begun;
            whole = old.whole;
            tame = old.tame;
          }

-- ---- whole: the share settles

module _ {B : Type 0} (view : B → Meaning) (p : PlanView) (b : Dag) (homes : List (maybe.Option (Option B))) (vs : List View) (id : ℕ) (v w : View)
    (at : get_elem? vs id ≡ some v) where
  pub settled_books : Books view p b homes (set vs id w) → Books view p b homes (set vs id (settle_view w))
  settled_books books = subst (λ (l : List View). Books view p b homes l) (set-set vs id w (settle_view w))
      (settle_books view p b homes (set vs id w) books id w (there_set vs id v w at))

-- `sub_root(d)`: the claimed unit leaves only where there is no other, and then the vertex owes nothing, or its share has put the code 0
module _ {B : Type 0} (view : B → Meaning) (p : PlanView) (a : Dag) (homes : List (maybe.Option (Option B))) (vs : List View) (rule : Rule p a homes vs)
    (books : Books view p a homes vs) (id : ℕ) (v : View) (at : get_elem? vs id ≡ some v)
    (r : Running) (is : v.running ≡ Some r) (other : r.vertex ≢ 1) (d : ℕ) (unit : 0 < count d v.held + claimed_at v.lifted d v.claimed)
    (done : count d v.held ≡ 0 → (v.flight ≡ None) × ((promised v.owes ≡ empty v.kind) ⊎ (0 < v.sunk))) where
  abbrev n : Node
  n = a.nodes d

  abbrev told : List ℕ
  told = tell_if (eqb n.twice 2) d v.told

  abbrev after : Dag
  after = record a { nodes = put a.nodes d (sub_node n) }

  pub sub_books : Books view p after homes (set vs id (sub_after d n v))
  sub_books = dite (dec_lt 0 (count d v.held))
      (λ h. subst (λ (u : View). Books view p after homes (set vs id u)) (sym (ltb_yes h))
      (settled_books view p after homes vs id v (lose_view (without d v.held) v.claimed told v) at
      (sub_other_books view p a homes vs books id v at (without d v.held) v.claimed told (put a.nodes d (sub_node n)) refl)))
      (λ h. let u = at_claim v.lifted (omega arith) in let t = done (omega arith) in let less = length_without d v.claimed u in
      let one = (rule.own id v at).single in let k = right_gone (omega arith) in
      subst (λ (u : View). Books view p after homes (set vs id u)) (sym (ltb_no h))
      (settled_books view p after homes vs id v (lose_view v.held (without d v.claimed) told v) at
      (sub_last_books view p a homes vs books id v at v.held (without d v.claimed) told (put a.nodes d (sub_node n)) r is other t.0 (omega arith)
      (omega arith) (finish_inside p a homes vs rule id v at r is) t.1)))
    where
      at_claim : (s : ℕ) → 0 < claimed_at s d v.claimed → 0 < count d v.claimed
      at_claim zero z = z
      at_claim (suc s) z = absurd (omega arith)

      claims_of : (o : Option Running) → o ≡ Some r → ClaimsOk p a.trees o v.claimed → r.right ≡ 1 → v.claimed ≡ []
      claims_of None e h z = absurd (cc)
      claims_of (Some y) e h z = let k : y ≡ r = cc in h.0 (ap (λ (y : Running). y.right) k ∙ z)

      right_gone : 0 < length v.claimed → r.right ≡ 0
      right_gone h = let most = (running_ok p a homes vs rule id v at r is).right in dite (ℕ_discrete r.right 0) (λ e. e)
          (λ e. let l : length v.claimed ≡ 0 = ap length (claims_of v.running is (rule.own id v at).claims (omega arith)) in absurd (omega arith))

      ltb_yes : 0 < count d v.held → sub_after d n v ≡ settle_view (lose_view (without d v.held) v.claimed told v)
      ltb_yes h = ap (λ x. settle_view (cond x (lose_view (without d v.held) v.claimed told v) (lose_view v.held (without d v.claimed) told v)))
          (lt-ltb 0 (count d v.held) h)

      ltb_no : (0 < count d v.held → ⊥) → sub_after d n v ≡ settle_view (lose_view v.held (without d v.claimed) told v)
      ltb_no h = ap (λ x. settle_view (cond x (lose_view (without d v.held) v.claimed told v) (lose_view v.held (without d v.claimed) told v)))
          (le-ltb 0 (count d v.held) (omega arith))
