-- Draws of moves, looks at their number, roots and pairs keep the book rule.
use Rattle.std.proofs.Common.{◌≡◌, ◌≢◌, ℕ, ◌+◌, ◌*◌, ◌<◌, ◌≤◌, List, [], ◌∷◌, ◌++◌, length, set, refl, sym, ap, ◌∙◌, subst, arith, Option, Some, None, Bool, true, false, cond, min, inl}
use Prim.Native.Nat.{zero, suc}
use mathlib.Core.Option.{some}
use mathlib.Core.Option as maybe
use lib.ListN.{get_elem?}
use Rattle.spd_words.specs.declared.finish_kind.FinishKind.{FinishKind}
use Rattle.spd_words.specs.declared.finish_kind.FinishKind.TheVariants.{Plain}
use Rattle.spd_words.specs.Gift.{join, identity, no_fault}
use Rattle.spd_words.specs.Meaning.{Meaning, Promise, Awaited, IsLawfulTotal, add}
use Rattle.spd_words.specs.Plan.{PlanView}
use Rattle.spd_words.specs.Words.{Node, Pair, Vertex}
use Rattle.spd_state.specs.Sums.{put, total, Each}
use mathlib.Core.Logic.{dite}
use native.Mathlib.Decide.{ℕ_discrete}
use Rattle.spd_state.specs.Dag.{Dag, not_end, busy, right_in, load_of, openings}
use Rattle.spd_state.proofs.Zero.{started_zero}
use Rattle.spd_state.proofs.Ended.{no_right, no_claim}
use Rattle.spd_state.specs.Parts.{Rule, ClaimsOk}
use Rattle.spd_state.specs.Promises.{promised, whole_of, less_move}
use Rattle.spd_state.specs.Stages.{drawn_view, full_view, rooted_view, handed_view, paired_view}
use Rattle.spd_state.specs.declared.view.Draw.{Draw}
use Rattle.spd_state.specs.declared.view.Draw.TheVariants.{Make, Chain, Spawn}
use Rattle.spd_state.specs.declared.view.Running.{Running}
use Rattle.spd_state.specs.declared.view.Flight.{Flight}
use Rattle.spd_state.specs.declared.view.View.{View}
use Rattle.spd_state.specs.declared.promise.Whole.{Whole}
use Rattle.spd_state.proofs.Sums.{total_has, each_set, put_here, put_else}
use Rattle.spd_state.proofs.Rights.{running_ok}
use Rattle.spd_state.proofs.Rooted.{make_opens, chain_opens}
use Rattle.spd_debts.specs.Books.{Books, Unbegun, Shows}
use Rattle.spd_debts.specs.BookRule.{BookRule, Carries}
use Rattle.spd_debts.specs.Debts.{Debt, debts, run_debt, fly_debt, owe, if_any}
use Rattle.spd_debts.specs.Payments.{sees_view}
use Rattle.spd_debts.specs.Worth.{gift_debt, fault_debt, gift_of}
use Rattle.spd_debts.proofs.Offers.{opened_kept}
use Rattle.spd_debts.proofs.Turns.{turn_keeps, view_on}
use Rattle.spd_debts.proofs.Draws.{Quiet, draw_books, full_books}
use Rattle.spd_debts.proofs.First.{homes_books, make_books, make_root_books}
use Rattle.spd_debts.proofs.Handed.{Handing, handed_books}
use Rattle.spd_debts.proofs.Roots.{chain_root_books}
use Rattle.spd_debts.proofs.Seen.{shows_kept}
use Rattle.spd_debts.proofs.Standing.{HandsOn, on_same, standing_on, run_drawn}
use Rattle.spd_debts.proofs.Stores.{fork_books}

-- what finish 0 is to give, by the body that is given to the make
abbrev pub given : Meaning → Awaited
given m = record { kind = m.kind; gift = m.promise.gift; fault = m.promise.fault }

-- 1 where that body is tame
abbrev pub tame_if : Bool → ℕ
tame_if wild = cond wild 0 1

abbrev pub tame_of : Meaning → ℕ
tame_of m = tame_if m.wild

abbrev wild_if : Bool → ℕ
wild_if wild = cond wild 1 0

module _ {B : Type 0} (view : B → Meaning) (p : PlanView) (a : Dag) (homes : List (maybe.Option (Option B))) (vs : List View)
    (rule : Rule p a homes vs) (stands : BookRule view p a homes vs) (id : ℕ) (v : View) (at : get_elem? vs id ≡ some v) where
  -- a share that has its right or its claimed unit runs another vertex than 1
  unfinished_other : (r : Running) → v.running ≡ Some r → 0 < r.right + length v.claimed → r.vertex ≢ 1
  unfinished_other r is some_left one = let k = running_ok p a homes vs rule id v at r is in
      let s : (a.vertices 1).state ≡ 3 = ap (λ j. (a.vertices j).state) (sym one) ∙ ap (λ (x : Vertex). x.state) k.word in
      let size₀ = rule.plan.moves.some in let t = rule.live.finish 1 (omega arith) (omega arith) in
      let top : (a.vertices 1).finish ≡ 0 = rule.history.below.end (omega arith) in
      let is_open : 0 < openings a.vertices vs 0 = subst (λ k. 0 < openings a.vertices vs k) top t.1 in
      let gone = started_zero p a homes vs rule 0 (omega arith) is_open (omega arith) in
      let f : r.finish ≡ 0 = sym (ap (λ (x : Vertex). x.finish) k.word) ∙ ap (λ j. (a.vertices j).finish) one ∙ top in
      let right = no_right p a homes vs rule 0 (omega arith) gone id v r at is f in
      let claim : length v.claimed ≡ 0 = ap length (no_claim p a homes vs rule 0 (omega arith) gone id v r at is f) in absurd (omega arith)

  -- so one that runs vertex 1 has claimed none
  pub end_claims_none : (r : Running) → v.running ≡ Some r → r.vertex ≡ 1 → v.claimed ≡ []
  end_claims_none r is one = by v.claimed refl
    where
      by : (l : List ℕ) → v.claimed ≡ l → v.claimed ≡ []
      by [] e = e
      by (x ∷ xs) e = let n : length v.claimed ≡ length (x ∷ xs) = ap length e in absurd (unfinished_other r is (let m : 0 < length (x ∷ xs) = omega arith in
          omega arith) one)

  -- ---- the make is drawn, and with it the books begin, unless its body is wild

  module _ (homes' : List (maybe.Option (Option B))) (told : Meaning) (fresh : 0 < v.fresh)
      (lawful : IsLawfulTotal told.kind told.promise.gift told.promise.fault) where
    abbrev begun : Dag
    begun = record a { drawn = a.drawn + 1; expects = put a.expects 0 (given told); region = told.promise.moves + 1; tame = tame_of told }

    untouched : a.drawn ≡ 0
    untouched = let t = total_has (λ (u : View). u.fresh) vs id v at in rule.history.unmade.none (omega arith)

    wilds : (b : Bool) → (wild_if b ≡ 0 → tame_if b ≡ 1) × (tame_if b ≡ 1 → wild_if b ≡ 0)
    wilds true = ((λ z. absurd (omega arith)), λ z. absurd (omega arith))
    wilds false = ((λ z. refl), λ z. refl)

    made_first : Carries (tame_of told) (told.promise.moves + 1) (drawn_view Make a.drawn told v)
    made_first = record {
      keeps = λ w is z. let k : whole_of told ≡ w = cc in let e : wild_if told.wild ≡ w.wild = ap (λ (x : Whole). x.wild) k in
          ((wilds told.wild).0 (e ∙ z), ap (λ (x : Whole). x.owes.moves + 1) (sym k));
      only = λ w is t. let k : whole_of told ≡ w = cc in ap (λ (x : Whole). x.wild) (sym k) ∙ (wilds told.wild).1 t;
    }

    made_books : tame_of told ≡ 1 → Books view p begun homes' (set vs id (drawn_view Make a.drawn told v))
    made_books t = let e : 0 ≡ a.drawn = sym untouched in
        subst (λ (n : ℕ). Books view p (record a { drawn = n + 1; expects = put a.expects 0 (given told); region = told.promise.moves + 1; tame = tame_of told })
        homes' (set vs id (drawn_view Make n told v))) e
        (subst (λ (n : ℕ). Books view p (record a { drawn = 1; expects = put a.expects 0 (given told); region = told.promise.moves + 1; tame = n })
        homes' (set vs id (drawn_view Make 0 told v))) (sym t)
        (make_books view p a homes homes' vs rule untouched (stands.unbegun untouched) id v at told))

    pub make_stands : BookRule view p begun homes' (set vs id (drawn_view Make a.drawn told v))
    make_stands = record {
      kept = made_books;
      lawful = λ _. subst (λ (x : Awaited). IsLawfulTotal x.kind x.gift x.fault) (sym (put_here a.expects 0 (given told) 0 refl)) lawful;
      shows = shows_kept a.gifts vs stands.shows id v at (drawn_view Make a.drawn told v) (λ r e. (r, e, refl)) refl;
      carries = each_set Unbegun (Carries (tame_of told) (told.promise.moves + 1)) vs id (drawn_view Make a.drawn told v) made_first
          (stands.unbegun untouched)
          (λ j u _ e n. record { keeps = λ w is. let z = sym n.whole ∙ is in absurd (cc); only = λ w is. let z = sym n.whole ∙ is in absurd (cc) });
      unbegun = λ z. absurd (omega arith);
    }

  -- ---- a draw of a share that runs a vertex with its right

  module _ (r : Running) (is : v.running ≡ Some r) (mine : r.right ≡ 1) (pays : v.wild ≡ 0 → 0 < v.owes.moves) where
    other : r.vertex ≢ 1
    other = (running_ok p a homes vs rule id v at r is).other mine

    -- none was left
    pub full_stands : BookRule view p (record a { drawn = a.drawn + 1 }) homes (set vs id (full_view v))
    full_stands = standing_on view p a homes vs stands id v at (record a { drawn = a.drawn + 1 }) homes (full_view v) refl refl refl refl
        (λ z. absurd (omega arith)) (on_same (a.drawn + 1) v (full_view v) refl refl refl refl refl) (λ r e. (r, e, refl)) refl
        (λ _ books. full_books view p a homes vs books id v at r is (omega arith) other (pays ((books.views id v at).tame)))

    -- a chain or a spawn, with its two slots
    pub cut_stands : (homes' : List (maybe.Option (Option B))) → ((x : ℕ) → x < 2 * p.moves → 0 < (a.vertices x).state → (a.vertices x).state < 3
        → get_elem? homes' x ≡ get_elem? homes x) → v.flight ≡ None → (draw : Draw) → Quiet draw → (told : Meaning)
        → BookRule view p (record a { drawn = a.drawn + 1 }) homes' (set vs id (drawn_view draw a.drawn told v))
    cut_stands homes' alike free draw quiet told = let w : View = drawn_view draw a.drawn told v in
        standing_on view p a homes vs stands id v at (record a { drawn = a.drawn + 1 }) homes' w refl refl refl refl
        (λ z. absurd (omega arith)) (on_same (a.drawn + 1) v w (quiet.whole told v.whole) refl refl refl refl) (λ r e. (r, e, refl)) refl
        (λ _ books. homes_books view p (record a { drawn = a.drawn + 1 }) homes homes' (set vs id w)
        (draw_books view p a homes vs books id v at r is (omega arith) other (pays ((books.views id v at).tame)) free draw quiet told) alike)

  -- ---- `set_root`

  -- of the make: finish 0 is to give what was given to it
  pub make_root_stands : (told : Meaning) → v.flight ≡ Some record { draw = Make; number = 0; finish = 0; stage = 0 } → load_of v < 66 → (nodes' : ℕ → Node)
      → BookRule view p (record a { nodes = nodes' }) homes (set vs id (rooted_view Make 0 told v))
  make_root_stands told flies room nodes' = let w : View = rooted_view Make 0 told v in
      standing_on view p a homes vs stands id v at (record a { nodes = nodes' }) homes w refl refl refl refl
      (λ z. z) (on_same a.drawn v w refl refl refl refl refl) (λ r e. (r, e, refl)) refl set_books
    where
      g : Flight
      g = record { draw = Make; number = 0; finish = 0; stage = 0 }

      y : Awaited
      y = record { kind = v.gives; gift = v.body.gift; fault = v.body.fault }

      put_same : y ≡ a.expects 0 → (f : ℕ) → put a.expects 0 y f ≡ a.expects f
      put_same e f = dite (ℕ_discrete f 0) (λ z. put_here a.expects 0 y f z ∙ e ∙ ap a.expects (sym z)) (λ n. put_else a.expects 0 y f n)

      set_books : a.tame ≡ 1 → Books view p a homes vs → Books view p (record a { nodes = nodes' }) homes (set vs id (rooted_view Make 0 told v))
      set_books tame books = let old = books.views id v at in let m = rule.history.makers id v at in let u = m.used g flies refl in
          let k : v.gives ≡ (a.expects 0).kind = old.gives g flies (omega arith) in
          let t : (v.body.gift ≡ (a.expects 0).gift) × (v.body.fault ≡ (a.expects 0).fault) = old.begun g flies refl (omega arith) in
          let l = stands.lawful tame in
          let gift : join v.gives (identity v.gives) v.body.gift ≡ v.body.gift = (λ j. join (k j) (identity (k j)) (t.0 j)) ∙ l.gift ∙ sym t.0 in
          let first : y ≡ a.expects 0 = (λ j. record { kind = k j; gift = t.0 j; fault = t.1 j }) in
          subst (λ (e : ℕ → Awaited). Books view p (record a { nodes = nodes'; expects = e }) homes (set vs id (rooted_view Make 0 told v)))
          (λ j f. put_same first f j)
          (make_root_books view p a homes vs rule books id v at make_opens told flies room u.0 u.1 (m.free g flies) gift
          (let e = t.1 in let n = l.fault in omega arith) nodes')

  -- of a chain: its finish is to give what its body promises
  pub chain_root_stands : (told : Meaning) (d : ℕ) → v.flight ≡ Some record { draw = Chain; number = d; finish = d; stage = 0 } → load_of v < 66
      → (v.wild ≡ 0 → IsLawfulTotal told.kind told.promise.gift told.promise.fault × (told.promise.moves ≤ v.owes.moves)) → (nodes' : ℕ → Node)
      → BookRule view p (record a { nodes = nodes'; expects = put a.expects d (given told) }) homes (set vs id (rooted_view Chain d told v))
  chain_root_stands told d flies room tells nodes' = let w : View = rooted_view Chain d told v in
      standing_on view p a homes vs stands id v at (record a { nodes = nodes'; expects = put a.expects d (given told) }) homes w refl refl
      (put_else a.expects d (given told) 0 (λ e. let l = above in omega arith)) refl
      (λ z. z) (on_same a.drawn v w refl refl refl refl refl) (λ r e. (r, e, refl)) refl
      (λ _ books. let t = tells ((books.views id v at).tame) in
      chain_root_books view p a homes vs rule books id v at chain_opens told d flies room alive.0 alive.1 alive.2 other above t.0.gift t.0.fault t.1 nodes')
    where
      g : Flight
      g = record { draw = Chain; number = d; finish = d; stage = 0 }

      alive : (r : Running) × (v.running ≡ Some r) × (0 < r.right + length v.claimed)
      alive = (rule.history.makers id v at).alive g flies (omega arith)

      above : alive.0.finish < d
      above = (rule.history.makers id v at).above g alive.0 flies alive.1 refl

      other : alive.0.vertex ≢ 1
      other = unfinished_other alive.0 alive.1 alive.2

  -- ---- `set_pair`

  -- of a make or a chain
  pub handed_stands : (draw : Draw) → Handing draw → (d : ℕ) → v.flight ≡ Some record { draw = draw; number = d; finish = d; stage = 1 } → (pairs' : ℕ → Pair)
      → BookRule view p (record a { pairs = pairs' }) homes (set vs id (handed_view draw d v))
  handed_stands draw kind d flies pairs' = let w : View = handed_view draw d v in
      standing_on view p a homes vs stands id v at (record a { pairs = pairs' }) homes w refl refl refl refl (λ z. z)
      (on_same a.drawn v w refl refl refl refl refl) (λ r e. (r, e, refl)) refl
      (λ _ books. handed_books view p a homes vs books id v at draw kind d flies pairs')

  -- of a spawn, whose two bodies take what the vertex owes
  pub fork_stands : (d u c h : ℕ) → v.flight ≡ Some record { draw = Spawn; number = d; finish = u; stage = 0 } → v.claimed ≡ c ∷ [] → (left right : Promise)
      → (v.wild ≡ 0 → promised v.owes ≡ add v.kind left right) → (pairs' : ℕ → Pair)
      → BookRule view p (record a { pairs = pairs' }) homes
      (set vs id (paired_view record { draw = Spawn; number = d; finish = u; stage = 0 } h left right v))
  fork_stands d u c h flies has left right parts pairs' = let w : View = paired_view record { draw = Spawn; number = d; finish = u; stage = 0 } h left right v in
      standing_on view p a homes vs stands id v at (record a { pairs = pairs' }) homes w refl refl refl refl (λ z. z)
      (on_same a.drawn v w refl refl refl refl refl) (λ r e. (r, e, refl)) refl
      (λ _ books. subst (λ (n : ℕ). Books view p (record a { pairs = pairs' }) homes
      (set vs id (paired_view record { draw = Spawn; number = d; finish = n; stage = 0 } h left right v))) (sym of)
      (fork_books view p a homes vs books id v at alive.0 alive.1 used (unfinished_other alive.0 alive.1 alive.2) d c h
      (flies ∙ ap (λ (n : ℕ). Some record { draw = Spawn; number = d; finish = n; stage = 0 }) of) has left right (parts ((books.views id v at).tame)) pairs'))
    where
      g : Flight
      g = record { draw = Spawn; number = d; finish = u; stage = 0 }

      alive : (r : Running) × (v.running ≡ Some r) × (0 < r.right + length v.claimed)
      alive = (rule.history.makers id v at).alive g flies (omega arith)

      of : u ≡ alive.0.finish
      of = (rule.history.makers id v at).of g alive.0 flies alive.1 refl

      used : alive.0.right ≡ 0
      used = let k = running_ok p a homes vs rule id v at alive.0 alive.1 in let most = k.right in
          let claims = subst (λ (o : Option Running). ClaimsOk p a.trees o v.claimed) alive.1 (rule.own id v at).claims in
          dite (ℕ_discrete alive.0.right 1) (λ e. let z = sym has ∙ claims.0 e in absurd (cc)) (λ n. omega arith)

  -- ---- `see_moves` past the plan's moves: one move less is owed, if the share owes any

  module _ (f : ℕ) (k : FinishKind) where
    run_gift : (o : Option Running) (l : List Debt) → gift_debt k f (run_debt o v.claimed (less_move v.owes) ++ l) ≡ gift_debt k f (run_debt o v.claimed v.owes ++ l)
    run_gift None l = refl
    run_gift (Some r) l = by (not_end r.vertex) (r.right + length v.claimed)
      where
        by : (n m : ℕ) → gift_debt k f (if_any n (if_any m (owe r.finish (promised (less_move v.owes)) ∷ [])) ++ l)
            ≡ gift_debt k f (if_any n (if_any m (owe r.finish (promised v.owes) ∷ [])) ++ l)
        by zero m = refl
        by (suc n) zero = refl
        by (suc n) (suc m) = refl

    run_fault : (o : Option Running) (l : List Debt) → fault_debt f (run_debt o v.claimed (less_move v.owes) ++ l) ≡ fault_debt f (run_debt o v.claimed v.owes ++ l)
    run_fault None l = refl
    run_fault (Some r) l = by (not_end r.vertex) (r.right + length v.claimed)
      where
        by : (n m : ℕ) → fault_debt f (if_any n (if_any m (owe r.finish (promised (less_move v.owes)) ∷ [])) ++ l)
            ≡ fault_debt f (if_any n (if_any m (owe r.finish (promised v.owes) ∷ [])) ++ l)
        by zero m = refl
        by (suc n) zero = refl
        by (suc n) (suc m) = refl

  looked_books : p.moves < a.drawn → Books view p a homes vs → Books view p a homes (set vs id (sees_view v))
  looked_books past books = let w : View = sees_view v in let l : List Debt = fly_debt v.flight v.body v.rest in
      turn_keeps view p a homes vs books id v w at a.drawn a.nodes a.pairs a.gifts a.faults
      record {
        opens = λ f. refl;
        sinks = λ f e. e;
        hurts = λ f _ h. h;
        gifts = λ f low _ _. let k : FinishKind = (a.expects f).kind in ap (join k (gift_of k (a.gifts f))) (run_gift f k v.running l);
        faults = λ f low _ _. ap (min (a.faults f)) (run_fault f Plain v.running l);
        passes = λ f low z e s h. inl (e, h);
        few = λ h low. absurd (omega arith);
        many = λ h low. inl low;
      }
      (let h = books.views id v at in view_on (openings a.vertices vs) (openings a.vertices (set vs id w)) a.expects a.faults a.faults w
      (λ f o. opened_kept a vs id v w at refl f o) (λ f e. e)
      record { right = h.right; kind = h.kind; awaited = h.awaited; sunk = h.sunk; gives = h.gives; begun = h.begun; whole = h.whole; tame = h.tame })

  pub looked_stands : p.moves < a.drawn → BookRule view p a homes (set vs id (sees_view v))
  looked_stands past = standing_on view p a homes vs stands id v at a homes (sees_view v) refl refl refl refl (λ z. z)
      (on_same a.drawn v (sees_view v) refl refl refl refl refl) (λ r e. (r, e, refl)) refl (λ _ books. looked_books past books)
