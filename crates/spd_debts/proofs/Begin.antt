-- `start_vertex` keeps the books: the debt goes from the slot to the view.
use Rattle.spd_state.specs.Dag.{stored}
use Rattle.std.proofs.Common.{◌≡◌, ◌≢◌, inl, ℕ, ◌+◌, ◌*◌, ◌<◌, List, [], ◌∷◌, ◌++◌, length, set, refl, sym, ap, ◌∙◌, subst, arith, Option, Some, None}
use mathlib.Core.Option.{some, none}
use mathlib.Core.Option as maybe
use mathlib.Core.Logic.{dite}
use native.Mathlib.Decide.{ℕ_discrete, dec_lt}
use lib.ListN.{get_elem?}
use Rattle.spd_words.specs.Meaning.{Awaited, Meaning}
use Rattle.spd_words.specs.Plan.{PlanView}
use Rattle.spd_words.specs.Words.{Vertex}
use Rattle.spd_state.specs.Sums.{same, gate, put}
use Rattle.spd_state.specs.declared.view.Running.{Running}
use Rattle.spd_state.specs.declared.promise.Expected.{Expected}
use Rattle.spd_state.specs.declared.view.View.{View}
use Rattle.spd_state.specs.Parts.{ClaimsOk, Rule}
use Rattle.std.proofs.Common.{cond}
use Rattle.atomic_table.proofs.Lists.{set_else}
use Rattle.spd_state.specs.Dag.{Dag, openings, opens_in, named, waits, runs_it, busy, not_end, right_in}
use Rattle.spd_state.specs.Steps.{start_word, start_run, start_view}
use Rattle.spd_state.specs.Promises.{expected_in}
use Rattle.spd_state.specs.Promises.{promised, awaited_of, expected_of}
use Rattle.spd_state.proofs.Sums.{same_self, put_kept, total_kept}
use Rattle.spd_debts.specs.Books.{BodyOk, Books, ViewOk, finish_is, pend_in}
use Rattle.spd_debts.specs.Debts.{Debt, body_debt, debts, fly_debt, home_debt, owe, run_debt, if_any}
use Rattle.spd_debts.proofs.Gates.{gate_more, not_end_more, not_end_one, when_more, when_none}
use Rattle.spd_debts.proofs.Placed.{placed_keeps}

module _ {B : Type 0} (view : B → Meaning) (p : PlanView) (a : Dag) (homes : List (maybe.Option (Option B))) (vs : List View) (rule : Rule p a homes vs)
    (books : Books view p a homes vs)
    (id : ℕ) (v : View) (at : get_elem? vs id ≡ some v)
    (deep : length homes ≡ 2 * p.moves) (idle : v.running ≡ None) (i : ℕ) (low : i < 2 * p.moves) (ready : (a.vertices i).state ≡ 2) where
  abbrev x : Vertex
  x = a.vertices i

  abbrev homes' : List (maybe.Option (Option B))
  homes' = set homes i none

  abbrev vertices' : ℕ → Vertex
  vertices' = put a.vertices i (start_word x)

  old : ViewOk (openings a.vertices vs) a.expects a.faults v
  old = books.views id v at

  -- a share that runs nothing has nothing to collect, and isn't hurt
  still : busy v.awaited + v.hurt ≡ 0
  still = dite (ℕ_discrete (busy v.awaited + v.hurt) 0) (λ e. e) (λ e. let h = old.right (omega arith) in let z : right_in v.running ≡ 0 = ap right_in idle in
      absurd (omega arith))

  unsunk : v.sunk ≡ 0
  unsunk = dite (ℕ_discrete v.sunk 0) (λ e. e) (λ e. let t = old.sunk (omega arith) in let z = sym idle ∙ t.1 in absurd (cc))

  no_claim : v.claimed ≡ []
  no_claim = subst (λ (o : Option Running). ClaimsOk p a.trees o v.claimed) idle (rule.own id v at).claims

  open_same : (w : View) → w.flight ≡ v.flight → (f : ℕ) → openings vertices' (set vs id w) f ≡ openings a.vertices vs f
  open_same w e f = let n : named f (vertices' (2 * f)) ≡ named f (a.vertices (2 * f)) = put_kept (named f) a.vertices i (start_word x) (2 * f)
      (sym (ap (λ k. gate (stored k) (same f x.finish)) ready)) in
      let t = total_kept (λ (u : View). opens_in f u.flight) vs id v w at (ap (opens_in f) e) in omega arith

  abbrev fly : List Debt
  fly = fly_debt v.flight v.body v.rest

  -- its word owes nothing any more
  gone : home_debt view i (start_word x) (get_elem? homes' i) ≡ []
  gone = when_none (not_end i)

  hurts_same : (f : ℕ) (q : ℕ) → gate v.hurt q ≡ gate v.hurt (finish_is f v.running)
  hurts_same f q = let s = still in (λ j. gate (let e : v.hurt ≡ 0 = omega arith in e j) q)
      ∙ (λ j. gate (let e : 0 ≡ v.hurt = omega arith in e j) (finish_is f v.running))

  pend_none : (f : ℕ) → pend_in f v ≡ 0
  pend_none f = ap (λ k. gate k (runs_it (2 * f + 1) v.running)) still

  -- a vertex with a body
  module _ (other : i ≢ 1) (b : B) (there : get_elem? homes i ≡ some (some (Some b))) where
    abbrev w : View
    w = start_view i x (Some (view b)) v

    ok : BodyOk (openings a.vertices vs) a.expects i x.finish (view b)
    ok = let r = ready in books.bodies i b low (omega arith) (omega arith) other there

    was : home_debt view i x (get_elem? homes i) ≡ owe x.finish (view b).promise ∷ []
    was = (λ j. if_any (not_end i) (if_any (waits (ready j)) (body_debt view x.finish (there j))))
        ∙ when_more (not_end i) (owe x.finish (view b).promise ∷ []) (not_end_more i other)

    now : run_debt w.running w.claimed w.owes ≡ owe x.finish (view b).promise ∷ []
    now = when_more (not_end i) (if_any (not_end i + length v.claimed) (owe x.finish (view b).promise ∷ [])) (not_end_more i other)
        ∙ when_more (not_end i + length v.claimed) (owe x.finish (view b).promise ∷ []) (let n = not_end_more i other in omega arith)

    moved : home_debt view i (start_word x) (get_elem? homes' i) ++ debts w ≡ home_debt view i x (get_elem? homes i) ++ debts v
    moved = (λ j. gone j ++ (now j ++ fly)) ∙ (λ j. sym was j ++ (run_debt (sym idle j) v.claimed v.owes ++ fly))

    -- the body of the vertex 2f + 1 waits for f
    waits_for : (f : ℕ) → f < p.moves → i ≡ 2 * f + 1 → 0 < f → a.faults f ≡ 0 → 0 < pend_in f w
    waits_for f l o z e = let s : 0 < openings a.vertices vs f = dite (dec_lt 0 (openings a.vertices vs f)) (λ h. h)
        (λ h. let k = rule.history.shut.fault f l (omega arith) in absurd (omega arith)) in
        let g = ok.waits f z o s in let busy_now : busy w.awaited ≡ 1 = ap (λ y. busy (expected_in y)) g in let me = same_self (2 * f + 1) i (sym o) in
        let u = gate_more (busy w.awaited + v.hurt) (same (2 * f + 1) i) (omega arith) in omega arith

    new : ViewOk (openings a.vertices vs) a.expects a.faults w
    new = record {
      right = λ _. not_end_one i other;
      kind = λ r e _. let k : start_run i x ≡ r = cc in ok.kind ∙ ap (λ (r : Running). (a.expects r.finish).kind) k;
      awaited = λ r y e g. by (view b).awaited refl r y e g;
      sunk = λ s. let u = unsunk in absurd (omega arith);
      gives = old.gives;
      begun = old.begun;
      whole = old.whole;
      tame = ap (λ b. cond b 1 0) ok.tame;
    }
      where
        by : (o : Option Awaited) → (view b).awaited ≡ o → (r : Running) (y : Expected) → w.running ≡ Some r → expected_in o ≡ Some y → (f : ℕ)
            × (r.vertex ≡ 2 * f + 1) × (0 < f) × (0 < openings a.vertices vs f) × (awaited_of y ≡ a.expects f)
        by None is r y e g = absurd (cc)
        by (Some q) is r y e g = let t = ok.only q is in let k : start_run i x ≡ r = cc in let v₁ : i ≡ r.vertex = ap (λ (r : Running). r.vertex) k in
            let t₁ = t.1 in
            let z : 0 < t.0 = dite (ℕ_discrete t.0 0) (λ n. absurd (other (omega arith))) (λ n. omega arith) in
            let s = ok.waits t.0 z t.1 t.2 in let m : q ≡ a.expects t.0 = (let h : Some q ≡ Some (a.expects t.0) = sym is ∙ s in cc) in
            let n : expected_of q ≡ y = cc in
            (t.0, sym v₁ ∙ t.1, z, t.2, sym (ap awaited_of n) ∙ m)

    pub start_books : Books view p (record a { vertices = vertices' }) homes' (set vs id w)
    start_books = placed_keeps view p a homes homes' vs books id v w at i (start_word x)
        record {
          low = low;
          others = λ k n. set_else homes i k none n;
          moved = moved;
          hurts = λ f. hurts_same f (same f x.finish);
          pends = λ f. let z = pend_none f in omega arith;
          passes = λ f l o s z e. inl (waits_for f l o z e);
        } (open_same w refl) new (λ b' s (u : 3 < 3). absurd (omega arith))

  -- vertex 1 has no body, and owes nothing
  module _ (end : i ≡ 1) where
    abbrev u : View
    u = start_view i x None v

    ends : not_end i ≡ 0
    ends = ap not_end end

    end_was : home_debt view i x (get_elem? homes i) ≡ []
    end_was = ap (λ k. if_any k (if_any (waits x.state) (body_debt view x.finish (get_elem? homes i)))) ends

    end_now : run_debt u.running u.claimed u.owes ≡ []
    end_now = ap (λ k. if_any k (if_any (k + length v.claimed) (owe x.finish (promised u.owes) ∷ []))) ends

    pub start_end_books : Books view p (record a { vertices = vertices' }) homes' (set vs id u)
    start_end_books = placed_keeps view p a homes homes' vs books id v u at i (start_word x)
        record {
          low = low;
          others = λ k n. set_else homes i k none n;
          moved = (λ j. gone j ++ (end_now j ++ fly)) ∙ (λ j. sym end_was j ++ (run_debt (sym idle j) v.claimed v.owes ++ fly));
          hurts = λ f. hurts_same f (same f x.finish);
          pends = λ f. let z = pend_none f in omega arith;
          passes = λ f l o s z e. let h = end in absurd (omega arith);
        } (open_same u refl)
        record {
          right = λ z. let s = still in absurd (omega arith);
          kind = λ r e z. let k : start_run i x ≡ r = cc in let n : r.right ≡ 0 = ap (λ (r : Running). r.right) (sym k) ∙ ends in
              let c : length v.claimed ≡ 0 = ap length no_claim in absurd (omega arith);
          awaited = λ r y e (g : None ≡ Some y). absurd (cc);
          sunk = λ s. let u = unsunk in absurd (omega arith);
          gives = old.gives;
          begun = old.begun;
          whole = old.whole;
          tame = refl;
        } (λ b' s (u : 3 < 3). absurd (omega arith))
