-- `set_pair` of a spawn, each `set_vertex` and `wake_vertex` keep the books.
use Rattle.std.proofs.Common.{◌≡◌, ◌≢◌, inl, ℕ, ◌+◌, ◌*◌, ◌<◌, ◌≤◌, List, [], ◌∷◌, ◌++◌, length, set, min, refl, sym, ap, ◌∙◌, subst, arith, Option, Some}
use Prim.Native.Nat.{zero, suc}
use mathlib.Core.Option.{some, none}
use mathlib.Core.Option as maybe
use lib.ListN.{get_elem?}
use Rattle.spd_words.specs.declared.finish_kind.FinishKind.{FinishKind}
use Rattle.spd_words.specs.Gift.{join, identity, no_fault}
use Rattle.spd_words.specs.Meaning.{Promise, Meaning}
use Rattle.spd_words.specs.Plan.{PlanView}
use Rattle.spd_words.specs.Words.{Pair, Vertex}
use Rattle.spd_state.specs.Sums.{same, put}
use Rattle.spd_state.specs.declared.view.Running.{Running}
use Rattle.spd_state.specs.declared.view.Flight.{Flight}
use Rattle.spd_state.specs.declared.view.View.{View}
use Rattle.atomic_table.proofs.Lists.{set_here, set_else}
use Rattle.spd_words.specs.Meaning.{add}
use Rattle.spd_state.specs.Dag.{Dag, waits, openings, opens_in, root_of, not_end}
use Rattle.spd_state.specs.Parts.{no_vertex}
use Rattle.spd_state.specs.Stages.{paired_view}
use Rattle.spd_state.specs.Promises.{promised}
use Rattle.spd_state.specs.declared.view.Draw.TheVariants.{Spawn}
use Rattle.spd_state.proofs.Sums.{same_means, total_kept}
use Rattle.spd_words.proofs.Gather.{faults_join, gifts_join}
use Rattle.spd_words.specs.Gather.{IsJoin}
use Rattle.spd_debts.specs.Books.{BodyOk, Books, ViewOk, hurt_in, pend_in}
use Rattle.spd_debts.specs.Debts.{body_debt, debts, fly_debt, home_debt, owe, run_debt, if_any}
use Rattle.spd_debts.specs.Worth.{fault_debt, gift_debt, gift_of, moves_debt, pick}
use Rattle.spd_debts.proofs.Gates.{not_end_more, when_more, when_none}
use Rattle.spd_debts.proofs.Offers.{run_is}
use Rattle.spd_debts.proofs.Placed.{placed_keeps}
use Rattle.spd_debts.proofs.Turns.{turn_keeps, view_on}

-- a debt that is cut in two
splits : {C : Type 0} (op : C → C → C) (e : C) (law : IsJoin op e) (x y z : C) → x ≡ op y z → (s : ℕ)
    → op (pick s y e) (op (pick s z e) e) ≡ op (pick s x e) e
splits op e law x y z h zero = ap (op e) law.unit
splits op e law x y z h (suc s) = sym (law.assoc y z e) ∙ ap (λ k. op k e) (sym h)

-- ---- `set_pair` of a spawn

module _ {B : Type 0} (view : B → Meaning) (p : PlanView) (a : Dag) (homes : List (maybe.Option (Option B))) (vs : List View)
    (books : Books view p a homes vs) (id : ℕ) (v : View) (at : get_elem? vs id ≡ some v)
    (r : Running) (is : v.running ≡ Some r) (used : r.right ≡ 0) (other : r.vertex ≢ 1) (d c h : ℕ)
    (flies : v.flight ≡ Some record { draw = Spawn; number = d; finish = r.finish; stage = 0 }) (has_claim : v.claimed ≡ c ∷ [])
    (left right : Promise) (parts : promised v.owes ≡ add v.kind left right) (pairs' : ℕ → Pair) where
  abbrev g : ℕ
  g = r.finish

  abbrev f₀ : Flight
  f₀ = record { draw = Spawn; number = d; finish = g; stage = 0 }

  abbrev w : View
  w = paired_view f₀ h left right v

  old : ViewOk (openings a.vertices vs) a.expects a.faults v
  old = books.views id v at

  one_claim : length v.claimed ≡ 1
  one_claim = ap length has_claim

  were : debts v ≡ owe g (promised v.owes) ∷ []
  were = (λ j. run_is v.running r v.claimed v.owes is other (let n = one_claim in omega arith) j ++ fly_debt (flies j) v.body v.rest)

  now : debts w ≡ owe g left ∷ owe g right ∷ []
  now = (λ j. run_debt (is j) [] v.owes ++ (owe g left ∷ owe g right ∷ []))
      ∙ ap (λ k. if_any (not_end r.vertex) (if_any k (owe g (promised v.owes) ∷ [])) ++ (owe g left ∷ owe g right ∷ []))
      (let z : r.right + 0 ≡ 0 = omega arith in z) ∙ ap (λ l. l ++ (owe g left ∷ owe g right ∷ [])) (when_none (not_end r.vertex))

  kind_is : v.kind ≡ (a.expects g).kind
  kind_is = old.kind r is (let n = one_claim in omega arith)

  gift_cut : (f : ℕ) → gift_debt (a.expects f).kind f (debts w) ≡ gift_debt (a.expects f).kind f (debts v)
  gift_cut f = let k : FinishKind = (a.expects f).kind in ap (gift_debt k f) now ∙ cut (same f g) refl ∙ ap (gift_debt k f) (sym were)
    where
      cut : (s : ℕ) → same f g ≡ s → let k : FinishKind = (a.expects f).kind in
          join k (pick s left.gift (identity k)) (join k (pick s right.gift (identity k)) (identity k)) ≡ join k (pick s v.owes.gift (identity k))
          (identity k)
      cut zero e = ap (join (a.expects f).kind (identity (a.expects f).kind)) (gifts_join (a.expects f).kind).unit
      cut (suc s) e = let k : FinishKind = (a.expects f).kind in let same_kind : v.kind ≡ k = kind_is
          ∙ ap (λ j. (a.expects j).kind) (sym (same_means f g (omega arith))) in
          splits (join k) (identity k) (gifts_join k) v.owes.gift left.gift right.gift
          (subst (λ k. v.owes.gift ≡ join k left.gift right.gift) same_kind (ap (λ (q : Promise). q.gift) parts)) (suc s)

  fault_cut : (f : ℕ) → fault_debt f (debts w) ≡ fault_debt f (debts v)
  fault_cut f = ap (fault_debt f) now ∙ splits min no_fault faults_join v.owes.fault left.fault right.fault (ap (λ (q : Promise). q.fault) parts) (same f g)
      ∙ ap (fault_debt f) (sym were)

  opens_same : (f : ℕ) → opens_in f w.flight ≡ opens_in f v.flight
  opens_same f = sym (ap (opens_in f) flies)

  pub fork_books : Books view p (record a { pairs = pairs' }) homes (set vs id w)
  fork_books = turn_keeps view p a homes vs books id v w at a.drawn a.nodes pairs' a.gifts a.faults
      record {
        opens = opens_same;
        sinks = λ f e. e;
        hurts = λ f _ h. h;
        gifts = λ f l _ _. ap (join (a.expects f).kind (gift_of (a.expects f).kind (a.gifts f))) (gift_cut f);
        faults = λ f l _ _. ap (min (a.faults f)) (fault_cut f);
        passes = λ f l z e s h. inl (e, h);
        few = λ h l. (
          l,
          let x = ap moves_debt now in let y = ap moves_debt were in
              let m : v.owes.moves ≡ left.moves + right.moves = ap (λ (q : Promise). q.moves) parts in omega arith,
        );
        many = λ h l. inl l;
      }
      (view_on (openings a.vertices vs) (openings a.vertices (set vs id w)) a.expects a.faults a.faults w
      (λ f o. let t = total_kept (λ (u : View). opens_in f u.flight) vs id v w at (opens_same f) in omega arith) (λ f e. e)
      record {
        right = old.right;
        kind = λ y e z. let k : Some r ≡ Some y = sym is ∙ e in let m : r ≡ y = cc in let n : y.right ≡ 0 = ap (λ (y : Running). y.right) (sym m) ∙ used in
            absurd (omega arith);
        awaited = old.awaited;
        sunk = old.sunk;
        gives = λ e k _. let m : record f₀ { stage = 2 } ≡ e = cc in kind_is ∙ ap (λ (e : Flight). (a.expects e.finish).kind) m;
        begun = λ e k o _. let m : record f₀ { stage = 2 } ≡ e = cc in let o' : root_of Spawn 1 ≡ 1 = ap (λ (e : Flight). root_of e.draw 1) m ∙ o in
            absurd (omega arith);
        whole = old.whole;
        tame = old.tame;
      })

-- ---- a vertex is stored, and its body's promise goes from the view to the slot

module _ {B : Type 0} (view : B → Meaning) (p : PlanView) (a : Dag) (homes : List (maybe.Option (Option B))) (vs : List View)
    (books : Books view p a homes vs) (id : ℕ) (v : View) (at : get_elem? vs id ≡ some v)
    (deep : length homes ≡ 2 * p.moves) (i : ℕ) (low : i < 2 * p.moves) (other : i ≢ 1) (blank : a.vertices i ≡ no_vertex) (x : Vertex)
    (standing : waits x.state ≡ 1) (b : B) (w : View)
    (moved : owe x.finish (view b).promise ∷ debts w ≡ debts v) (hurts : (f : ℕ) → hurt_in f w ≡ hurt_in f v) (pends : (f : ℕ) → pend_in f v ≡ pend_in f w)
    (open_same : (f : ℕ) → openings (put a.vertices i x) (set vs id w) f ≡ openings a.vertices vs f)
    (new : ViewOk (openings a.vertices vs) a.expects a.faults w)
    (ok : BodyOk (openings a.vertices vs) a.expects i x.finish (view b)) where
  abbrev homes' : List (maybe.Option (Option B))
  homes' = set homes i (some (Some b))

  here : get_elem? homes' i ≡ some (some (Some b))
  here = set_here homes i (some (Some b)) (omega arith)

  none_before : home_debt view i (a.vertices i) (get_elem? homes i) ≡ []
  none_before = ap (λ (y : Vertex). home_debt view i y (get_elem? homes i)) blank ∙ when_none (not_end i)

  put_home : home_debt view i x (get_elem? homes' i) ≡ owe x.finish (view b).promise ∷ []
  put_home = (λ j. if_any (not_end i) (if_any (standing j) (body_debt view x.finish (here j))))
      ∙ when_more (not_end i) (owe x.finish (view b).promise ∷ []) (not_end_more i other)

  not_three : (s : ℕ) → waits s ≡ 1 → 3 ≤ s → ⊥
  not_three zero e l = absurd (omega arith)
  not_three (suc zero) e l = absurd (omega arith)
  not_three (suc (suc zero)) e l = absurd (omega arith)
  not_three (suc (suc (suc s))) e l = absurd (omega arith)

  pub store_books : Books view p (record a { vertices = put a.vertices i x }) homes' (set vs id w)
  store_books = placed_keeps view p a homes homes' vs books id v w at i x
      record {
        low = low;
        others = λ k n. set_else homes i k (some (Some b)) n;
        moved = ap (λ l. l ++ debts w) put_home ∙ moved ∙ ap (λ l. l ++ debts v) (sym none_before);
        hurts = hurts;
        pends = λ f. let e = pends f in omega arith;
        passes = λ f l o s z e. absurd (not_three x.state standing s);
      } open_same new
      (λ b' s u n e. let k : some (some (Some b)) ≡ some (some (Some b')) = sym here ∙ e in let m : b ≡ b' = cc in
      subst (λ (y : B). BodyOk (openings a.vertices vs) a.expects i x.finish (view y)) m ok)
