-- The make: its draw begins the books, and its `set_root` opens finish 0. And slots that no debt lies in.
use Rattle.std.proofs.Common.{◌≡◌, ℕ, ◌+◌, ◌*◌, ◌/◌, ◌<◌, ◌≤◌, List, [], ◌∷◌, ◌++◌, length, set, min, refl, sym, ap, ◌∙◌, subst, arith, Option, Some, None}
use Prim.Native.Nat.{zero, suc}
use mathlib.Core.Option.{some, none}
use mathlib.Core.Option as maybe
use mathlib.Core.Logic.{dite}
use native.Mathlib.Decide.{ℕ_discrete, dec_lt}
use lib.ListN.{get_elem?}
use Rattle.spd_words.specs.declared.finish_kind.FinishKind.{FinishKind}
use Rattle.spd_words.specs.Gift.{join, identity, no_fault}
use Rattle.spd_words.specs.Meaning.{Promise, Awaited, Meaning}
use Rattle.spd_words.specs.Plan.{PlanView}
use Rattle.spd_words.specs.Words.{Node, Vertex}
use Rattle.spd_state.specs.Sums.{put, Each}
use Rattle.spd_state.specs.declared.view.Running.{Running}
use Rattle.spd_state.specs.declared.view.Flight.{Flight}
use Rattle.spd_state.specs.declared.view.View.{View}
use Rattle.spd_state.specs.Parts.{Rule}
use Rattle.spd_state.specs.Dag.{Dag, waits, openings, opens_in, busy, not_end, load_of, right_in}
use Rattle.spd_state.specs.Parts.{FlightsOk}
use Rattle.spd_state.specs.Stages.{rooted_view, drawn_view}
use Rattle.spd_state.specs.Promises.{whole_of}
use Rattle.spd_state.specs.Promises.{promised}
use Rattle.spd_state.specs.declared.promise.Owed.{Owed}
use Rattle.spd_state.specs.declared.view.Draw.TheVariants.{Make}
use Rattle.spd_state.proofs.Sums.{same_self, same_else, put_here, put_else, total_set, total_kept, each_set}
use Rattle.spd_state.proofs.Rights.{running_ok, opened_begun}
use Rattle.spd_state.proofs.Rooted.{Opens}
use Rattle.spd_words.proofs.Gather.{faults_join, gifts_join, moves_join}
use Rattle.spd_words.specs.Gather.{IsJoin, gather}
use Rattle.spd_debts.specs.Books.{Books, Unbegun, ViewOk, awaited_whole}
use Rattle.spd_debts.specs.Debts.{Debt, body_debt, debts, fly_debt, home_debt, owe, owed, run_debt, if_any}
use Rattle.spd_debts.specs.Worth.{fault_debt, fault_to, gift_debt, gift_of, gift_to, moves_debt, moves_in, pick}
use Rattle.spd_debts.proofs.Folds.{below_alike, below_none, gather_none}
use Rattle.spd_debts.proofs.Gates.{when_none}
use Rattle.spd_debts.proofs.Owing.{turn_view}
use Rattle.spd_debts.proofs.Roots.{root_books}

-- ---- a slot that is taken or given, of a vertex that isn't waiting or ready, changes no debt

module _ {B : Type 0} (view : B → Meaning) (p : PlanView) (a : Dag) (homes homes' : List (maybe.Option (Option B))) (vs : List View)
    (books : Books view p a homes vs)
    (alike : (x : ℕ) → x < 2 * p.moves → 0 < (a.vertices x).state → (a.vertices x).state < 3 → get_elem? homes' x ≡ get_elem? homes x) where
  debt_alike : (x : ℕ) → x < 2 * p.moves → home_debt view x (a.vertices x) (get_elem? homes' x) ≡ home_debt view x (a.vertices x) (get_elem? homes x)
  debt_alike x l = by (a.vertices x).state refl
    where
      by : (s : ℕ) → (a.vertices x).state ≡ s → if_any (not_end x) (if_any (waits s) (body_debt view (a.vertices x).finish (get_elem? homes' x))) ≡ if_any
          (not_end x) (if_any (waits s) (body_debt view (a.vertices x).finish (get_elem? homes x)))
      by zero e = refl
      by (suc zero) e = ap (λ h. if_any (not_end x) (body_debt view (a.vertices x).finish h)) (alike x l (omega arith) (omega arith))
      by (suc (suc zero)) e = ap (λ h. if_any (not_end x) (body_debt view (a.vertices x).finish h)) (alike x l (omega arith) (omega arith))
      by (suc (suc (suc s))) e = refl

  owed_alike : {C : Type 0} (op : C → C → C) (e : C) (law : IsJoin op e) (worth : Debt → C)
      → owed op e worth view p a.vertices homes' vs ≡ owed op e worth view p a.vertices homes vs
  owed_alike op e law worth = ap (λ h. op h (gather op e (λ (v : View). gather op e worth (debts v)) vs))
      (below_alike op e law (2 * p.moves) (λ x. gather op e worth (home_debt view x (a.vertices x) (get_elem? homes x)))
      (λ x. gather op e worth (home_debt view x (a.vertices x) (get_elem? homes' x))) (λ x l. ap (gather op e worth) (debt_alike x l)))

  pub homes_books : Books view p a homes' vs
  homes_books = record {
    gifts = record {
      whole = λ f l c. let k : FinishKind = (a.expects f).kind in
          ap (join k (gift_of k (a.gifts f))) (owed_alike (join k) (identity k) (gifts_join k) (gift_to k f)) ∙ books.gifts.whole f l c;
    };
    faults = record { whole = λ f l c. ap (min (a.faults f)) (owed_alike min no_fault faults_join (fault_to f)) ∙ books.faults.whole f l c };
    passes = books.passes;
    counts = let o = owed_alike (λ x y. x + y) 0 moves_join moves_in in
        record { few = λ h l. ap (λ k. a.drawn + k) o ∙ books.counts.few h l; many = books.counts.many };
    bodies = λ x b l s u n e. books.bodies x b l s u n (sym (alike x l s u) ∙ e);
    views = books.views;
  }

-- ---- the make is drawn

module _ {B : Type 0} (view : B → Meaning) (p : PlanView) (a : Dag) (homes homes' : List (maybe.Option (Option B))) (vs : List View)
    (rule : Rule p a homes vs)
    (untouched : a.drawn ≡ 0) (unbegun : Each Unbegun vs) (id : ℕ) (v : View) (at : get_elem? vs id ≡ some v) (told : Meaning) where
  abbrev k : FinishKind
  k = told.kind

  abbrev q : Promise
  q = told.promise

  abbrev w : View
  w = drawn_view Make 0 told v

  abbrev X : Awaited
  X = record { kind = k; gift = q.gift; fault = q.fault }

  abbrev after : List View
  after = set vs id w

  state_none : (x : ℕ) → x < 2 * p.moves → (a.vertices x).state ≡ 0
  state_none x l = let u = untouched in dite (ℕ_discrete x (2 * (x / 2)))
      (λ e. ap (λ k. (a.vertices k).state) e ∙ ap (λ (y : Vertex). y.state) (rule.moves.blank_body (x / 2) (omega arith) (omega arith)))
      (λ e. ap (λ k. (a.vertices k).state) (let z : x ≡ 2 * (x / 2) + 1 = omega arith in z)
      ∙ ap (λ (y : Vertex). y.state) (rule.moves.blank_rest (x / 2) (omega arith) (omega arith)))

  no_run : (j : ℕ) (u : View) → get_elem? vs j ≡ some u → u.running ≡ None
  no_run j u e = by u.running refl
    where
      by : (o : Option Running) → u.running ≡ o → o ≡ None
      by None is = refl
      by (Some r) is = let k = running_ok p a homes vs rule j u e r is in let s : (a.vertices r.vertex).state ≡ 3 = ap (λ (x : Vertex). x.state) k.word in
          let z = state_none r.vertex k.vertex in absurd (omega arith)

  no_flight : (j : ℕ) (u : View) → get_elem? vs j ≡ some u → u.flight ≡ None
  no_flight j u e = by u.flight refl
    where
      by : (o : Option Flight) → u.flight ≡ o → o ≡ None
      by None is = refl
      by (Some g) is = let k = subst (FlightsOk p a.trees a.drawn a.nodes a.pairs a.vertices) is (rule.flying j u e) in let b = k.begun in
          let z = untouched in absurd (omega arith)

  no_debts : (j : ℕ) (u : View) → get_elem? vs j ≡ some u → debts u ≡ []
  no_debts j u e = λ i. run_debt (no_run j u e i) u.claimed u.owes ++ fly_debt (no_flight j u e i) u.body u.rest

  no_home : (x : ℕ) → x < 2 * p.moves → home_debt view x (a.vertices x) (get_elem? homes' x) ≡ []
  no_home x l = ap (λ s. if_any (not_end x) (if_any (waits s) (body_debt view (a.vertices x).finish (get_elem? homes' x)))) (state_none x l)
      ∙ when_none (not_end x)

  none_open : (f : ℕ) → f < p.moves → openings a.vertices after f ≡ 0
  none_open f l = let t = total_kept (λ (u : View). opens_in f u.flight) vs id v w at (sym (ap (opens_in f) (no_flight id v at))) in let u = untouched in
      dite (dec_lt 0 (openings a.vertices vs f)) (λ z. let b = opened_begun p a homes vs rule f l z in absurd (omega arith)) (λ z. omega arith)

  was_none : (f : ℕ) → f < p.moves → openings a.vertices vs f ≡ 0
  was_none f l = let u = untouched in dite (dec_lt 0 (openings a.vertices vs f)) (λ z. let b = opened_begun p a homes vs rule f l z in absurd (omega arith))
      (λ z. omega arith)

  moves_all : owed (λ x y. x + y) 0 moves_in view p a.vertices homes' after ≡ q.moves
  moves_all = let t = turn_view (λ x y. x + y) 0 moves_join moves_in view p vs id v w at a.vertices homes' in let b = t.before in let c = t.after in
      let n : owed (λ x y. x + y) 0 moves_in view p a.vertices homes' vs ≡ 0 =
      (λ i. below_none (λ x y. x + y) 0 moves_join (2 * p.moves) (λ x. gather
      (λ x y. x + y) 0 moves_in (home_debt view x (a.vertices x) (get_elem? homes' x))) (λ x l. ap (gather (λ x y. x + y) 0 moves_in) (no_home x l)) i
      + gather_none (λ x y. x + y) 0 moves_join (λ (u : View). gather (λ x y. x + y) 0 moves_in (debts u)) vs
      (λ j u e. ap (gather (λ x y. x + y) 0 moves_in) (no_debts j u e)) i) in
      let m : moves_debt (debts w) ≡ q.moves + 0 = ap (λ o. moves_debt (run_debt o v.claimed v.owes ++ (record { finish = None; promise = q } ∷ [])))
      (no_run id v at) in
      let z : moves_debt (debts v) ≡ 0 = ap moves_debt (no_debts id v at) in omega arith

  pub make_books : Books view p (record a { drawn = 1; expects = put a.expects 0 X; region = q.moves + 1; tame = 1 }) homes' after
  make_books = let size₀ = rule.plan.moves.some in record {
    gifts = record { whole = λ f l c. let o = c.is_open in let z = none_open f l in absurd (omega arith) };
    faults = record { whole = λ f l c. let o = c.is_open in let z = none_open f l in absurd (omega arith) };
    passes = record { on = λ f l z e. let b = rule.history.shut.fault f l (was_none f l) in absurd (omega arith) };
    counts = record { few = λ h l. let m = moves_all in omega arith; many = λ h l. absurd (omega arith) };
    bodies = λ x b l s. let z = state_none x l in absurd (omega arith);
    views = each_set Unbegun (ViewOk (openings a.vertices after) (put a.expects 0 X) a.faults) vs id w
        (let n = unbegun id v at in record {
          right = λ z. let x : busy v.awaited ≡ 0 = ap busy n.awaited in let y = n.hurt in absurd (omega arith);
          kind = λ r e. let z = sym (no_run id v at) ∙ e in absurd (cc);
          awaited = λ r x e. let z = sym (no_run id v at) ∙ e in absurd (cc);
          sunk = λ z. let y = n.sunk in absurd (omega arith);
          gives = λ g e _. let m : record { draw = Make; number = 0; finish = 0; stage = 0 } ≡ g = cc in
              ap (λ (t : Awaited). t.kind) (sym (put_here a.expects 0 X 0 refl)) ∙ ap (λ (g : Flight). (put a.expects 0 X g.finish).kind) m;
          begun = λ g e _ _. let m : record { draw = Make; number = 0; finish = 0; stage = 0 } ≡ g = cc in (
            ap (λ (t : Awaited). t.gift) (sym (put_here a.expects 0 X 0 refl))
                ∙ ap (λ (g : Flight). (put a.expects 0 X g.number).gift) m,
            ap (λ (t : Awaited). t.fault) (sym (put_here a.expects 0 X 0 refl))
                ∙ ap (λ (g : Flight). (put a.expects 0 X g.number).fault) m,
          );
          whole = λ x e. let m : whole_of told ≡ x = cc in ap awaited_whole (sym m) ∙ sym (put_here a.expects 0 X 0 refl);
          tame = n.wild;
        })
        unbegun
        (λ j u _ e n. record {
          right = λ z. let x : busy u.awaited ≡ 0 = ap busy n.awaited in let y = n.hurt in absurd (omega arith);
          kind = λ r g. let z = sym (no_run j u e) ∙ g in absurd (cc);
          awaited = λ r x g. let z = sym (no_run j u e) ∙ g in absurd (cc);
          sunk = λ z. let y = n.sunk in absurd (omega arith);
          gives = λ g f. let z = sym (no_flight j u e) ∙ f in absurd (cc);
          begun = λ g f. let z = sym (no_flight j u e) ∙ f in absurd (cc);
          whole = λ x g. let z = sym n.whole ∙ g in absurd (cc);
          tame = n.wild;
        });
  }

-- ---- the make sets root 0

module _ {B : Type 0} (view : B → Meaning) (p : PlanView) (a : Dag) (homes : List (maybe.Option (Option B))) (vs : List View) (rule : Rule p a homes vs)
    (books : Books view p a homes vs)
    (id : ℕ) (v : View) (at : get_elem? vs id ≡ some v) (kind : Opens Make) (told : Meaning)
    (flies : v.flight ≡ Some record { draw = Make; number = 0; finish = 0; stage = 0 }) (room : load_of v < 66)
    (used : right_in v.running ≡ 0) (spent : v.claimed ≡ []) (free : busy v.awaited + v.hurt ≡ 0)
    (lawful : join v.gives (identity v.gives) v.body.gift ≡ v.body.gift) (fits : v.body.fault ≤ no_fault) where
  abbrev y : View
  y = rooted_view Make 0 told v

  make_old : ViewOk (openings a.vertices vs) a.expects a.faults v
  make_old = books.views id v at

  abbrev Y : Awaited
  Y = record { kind = v.gives; gift = v.body.gift; fault = v.body.fault }

  is_first : Y ≡ a.expects 0
  is_first = let g : Flight = record { draw = Make; number = 0; finish = 0; stage = 0 } in let k = make_old.gives g flies (omega arith) in
      let t = make_old.begun g flies refl (omega arith) in λ j. record { kind = k j; gift = t.0 j; fault = t.1 j }

  -- whatever the share runs owes nothing any more
  run_spent : (o : Option Running) → right_in o ≡ 0 → (owes : Owed) → run_debt o v.claimed owes ≡ []
  run_spent None e owes = refl
  run_spent (Some r) e owes = let c : length v.claimed ≡ 0 = ap length spent in
      ap (λ k. if_any (not_end r.vertex) (if_any k (owe r.finish (promised owes) ∷ []))) (let z : r.right + length v.claimed ≡ 0 = omega arith in z)
      ∙ when_none (not_end r.vertex)

  were : debts v ≡ record { finish = None; promise = promised v.body } ∷ []
  were = λ j. run_spent v.running used v.owes j ++ fly_debt (flies j) v.body v.rest

  now : debts y ≡ owe 0 (promised v.body) ∷ []
  now = ap (λ l. l ++ (owe 0 (promised v.body) ∷ [])) (run_spent v.running used v.owes)

  all_same : (f : ℕ) → put a.expects 0 Y f ≡ a.expects f
  all_same f = dite (ℕ_discrete f 0) (λ e. put_here a.expects 0 Y f e ∙ is_first ∙ ap a.expects (sym e)) (λ e. put_else a.expects 0 Y f e)

  opened_more : (f : ℕ) → openings a.vertices vs f ≤ openings a.vertices (set vs id y) f
  opened_more f = let t = total_set (λ (u : View). opens_in f u.flight) vs id v y at in let o : opens_in f v.flight ≡ 0 = ap (opens_in f) flies in omega arith

  pub make_root_books : (nodes' : ℕ → Node) → Books view p (record a { nodes = nodes'; expects = put a.expects 0 Y }) homes (set vs id y)
  make_root_books nodes' = root_books view p a homes vs rule books id v at Make kind told 0 flies room y refl Y lawful fits (all_same 0)
      (λ k f n. ap (gift_debt k f) now ∙ ap (λ s. join k (pick s v.body.gift (identity k)) (identity k)) (same_else f 0 n) ∙ ap (gift_debt k f) (sym were))
      (λ k. ap (gift_debt k 0) were ∙ (gifts_join k).unit)
      (ap (gift_debt v.gives 0) now ∙ ap (λ s. join v.gives (pick s v.body.gift (identity v.gives)) (identity v.gives)) (same_self 0 0 refl)
      ∙ (gifts_join v.gives).comm v.body.gift (identity v.gives) ∙ lawful)
      (λ f n. ap (fault_debt f) now ∙ ap (λ s. min (pick s v.body.fault no_fault) no_fault) (same_else f 0 n) ∙ ap (fault_debt f) (sym were))
      (ap (fault_debt 0) were)
      (ap (fault_debt 0) now ∙ ap (λ s. min (pick s v.body.fault no_fault) no_fault) (same_self 0 0 refl)
      ∙ (let z : min v.body.fault no_fault ≡ v.body.fault = omega arith in z))
      (let m = ap moves_debt now in let n = ap moves_debt were in omega arith) (λ f. refl) (λ f. refl)
      (let h = make_old in record {
        right = h.right;
        kind = λ r e z. let c : length v.claimed ≡ 0 = ap length spent in let u : right_in v.running ≡ r.right = ap right_in e in absurd (omega arith);
        awaited = λ r x e w. let b : busy v.awaited ≡ 1 = ap busy w in absurd (omega arith);
        sunk = h.sunk;
        gives = λ g e _. let m : record { draw = Make; number = 0; finish = 0; stage = 1 } ≡ g = cc in
            ap (λ (t : Awaited). t.kind) (sym (put_here a.expects 0 Y 0 refl)) ∙ ap (λ (g : Flight). (put a.expects 0 Y g.finish).kind) m;
        begun = λ g e _ _. let m : record { draw = Make; number = 0; finish = 0; stage = 1 } ≡ g = cc in (
          ap (λ (t : Awaited). t.gift) (sym (put_here a.expects 0 Y 0 refl))
              ∙ ap (λ (g : Flight). (put a.expects 0 Y g.number).gift) m,
          ap (λ (t : Awaited). t.fault) (sym (put_here a.expects 0 Y 0 refl))
              ∙ ap (λ (g : Flight). (put a.expects 0 Y g.number).fault) m,
        );
        whole = λ x e. h.whole x e ∙ sym (all_same 0);
        tame = h.tame;
      }) nodes'
