-- `set_root` keeps the books: a finish opens, and is expected to give what its body promises.
use Rattle.std.proofs.Common.{◌≡◌, ◌≢◌, ℕ, ◌+◌, ◌*◌, ◌<◌, ◌≤◌, List, [], ◌∷◌, ◌++◌, length, set, min, refl, sym, ap, ◌∙◌, subst, arith, Option, Some}
use Prim.Native.Nat.{zero, suc}
use mathlib.Core.Option.{some, none}
use mathlib.Core.Option as maybe
use mathlib.Core.Logic.{dite}
use native.Mathlib.Decide.{ℕ_discrete}
use lib.ListN.{get_elem?}
use Rattle.spd_words.specs.declared.finish_kind.FinishKind.{FinishKind}
use Rattle.spd_words.specs.Gift.{join, identity, no_fault}
use Rattle.spd_words.specs.Meaning.{Promise, Awaited, Meaning}
use Rattle.spd_words.specs.Plan.{PlanView}
use Rattle.spd_words.specs.Words.{Node, Vertex}
use Rattle.spd_state.specs.Sums.{same, gate, put}
use Rattle.spd_state.specs.declared.view.Running.{Running}
use Rattle.spd_state.specs.declared.view.Flight.{Flight}
use Rattle.spd_state.specs.declared.view.View.{View}
use Rattle.spd_state.specs.Parts.{Rule}
use Rattle.spd_state.specs.Dag.{Dag, openings, opens_in, flies_in, root_of, units, load_of}
use Rattle.spd_state.specs.Parts.{FlightOk, FlightsOk}
use Rattle.spd_state.specs.Stages.{rooted_view}
use Rattle.spd_state.specs.Promises.{promised}
use Rattle.spd_state.specs.declared.view.Draw.{Draw}
use Rattle.spd_state.specs.declared.view.Draw.TheVariants.{Make, Chain, Spawn}
use Rattle.spd_state.proofs.Sums.{same_self, same_else, put_here, put_else, put_case, total_set, total_kept, total_two, each_set}
use Rattle.spd_state.proofs.Rights.{running_ok}
use Rattle.spd_state.proofs.Rooted.{Opens, shut, no_units}
use Rattle.spd_words.proofs.Gather.{faults_join, gifts_join, moves_join, swap}
use Rattle.spd_words.specs.Gather.{IsJoin}
use Rattle.spd_debts.specs.Books.{Books, Clear, ViewOk, hurt_in, hurts, pend_in}
use Rattle.spd_debts.specs.Debts.{Debt, debts, fly_debt, move_debt, owe, owed}
use Rattle.spd_debts.specs.Worth.{fault_debt, fault_to, gift_debt, gift_of, gift_to, moves_debt, moves_in, pick}
use Rattle.spd_debts.proofs.Folds.{Turned, turned_same}
use Rattle.spd_debts.proofs.Offers.{run_is}
use Rattle.spd_debts.proofs.Owing.{fly_none, one_to, owes_nothing, owing, turn_view}
use Rattle.spd_debts.proofs.Values.{gift_first}

-- where nothing was owed, and the word is as at the start, the whole is the new debt
module _ {C : Type 0} (op : C → C → C) (e : C) (law : IsJoin op e) where
  pub first_debt : {x a b : C} → Turned op e x a b → a ≡ e → op e x ≡ x → op e b ≡ x
  first_debt {x} {a} {b} t bare lawful = ap (op e) t.after ∙ swap op e law e x t.rest ∙ ap (op x) (sym t.before ∙ bare) ∙ law.comm x e ∙ lawful

module _ {B : Type 0} (view : B → Meaning) (p : PlanView) (a : Dag) (homes : List (maybe.Option (Option B))) (vs : List View) (rule : Rule p a homes vs)
    (books : Books view p a homes vs)
    (id : ℕ) (v : View) (at : get_elem? vs id ≡ some v) (draw : Draw) (kind : Opens draw) (m : Meaning) (d : ℕ)
    (flies : v.flight ≡ Some record { draw = draw; number = d; finish = d; stage = 0 }) (room : load_of v < 66) where
  ok : FlightOk p a.trees a.drawn a.nodes a.pairs a.vertices record { draw = draw; number = d; finish = d; stage = 0 }
  ok = subst (FlightsOk p a.trees a.drawn a.nodes a.pairs a.vertices) flies (rule.flying id v at)

  low : d < p.moves
  low = ok.number

  was_shut : openings a.vertices vs d ≡ 0
  was_shut = shut p a homes vs rule id v at draw kind m d flies room

  units_none : units p a vs d ≡ 0
  units_none = no_units p a homes vs rule id v at draw kind m d flies room

  -- what is open is another finish
  apart : (f : ℕ) → 0 < openings a.vertices vs f → f ≢ d
  apart f o e = let s = was_shut in let k : openings a.vertices vs f ≡ openings a.vertices vs d = ap (openings a.vertices vs) e in omega arith

  runs_apart : (j : ℕ) (u : View) → get_elem? vs j ≡ some u → (r : Running) → u.running ≡ Some r → r.finish ≢ d
  runs_apart j u e r is = let w = (running_ok p a homes vs rule j u e r is) in
      let s : (a.vertices r.vertex).state ≡ 3 = ap (λ (x : Vertex). x.state) w.word in let t = rule.live.finish r.vertex w.vertex (omega arith) in
      let n = apart (a.vertices r.vertex).finish t.1 in λ z. n (ap (λ (x : Vertex). x.finish) w.word ∙ z)

  -- another share's move in flight has another number, and owes to another finish
  flies_apart : (j : ℕ) (u : View) → get_elem? vs j ≡ some u → j ≢ id → (g : Flight) → u.flight ≡ Some g
      → 0 < length (move_debt g.draw g.stage g.finish u.body u.rest) → (g.finish ≢ d) × (g.number ≢ d)
  flies_apart j u e n g is some_debt = let gk = subst (FlightsOk p a.trees a.drawn a.nodes a.pairs a.vertices) is (rule.flying j u e) in
      let num : g.number ≢ d = λ z. let t = total_two (λ (y : View). flies_in d y.flight) vs j id u v e at n in let m = rule.moves.alone d low in
      let x : flies_in d u.flight ≡ same d g.number = ap (flies_in d) is in let x' = same_self d g.number (sym z) in
      let y : flies_in d v.flight ≡ same d d = ap (flies_in d) flies in let y' = same_self d d refl in omega arith in (
        by g.draw g.stage refl gk.root_finish num some_debt (let o = fly_none view p a homes vs rule d low units_none j u e in
            let k : owing d (fly_debt u.flight u.body u.rest) ≡ owing d (move_debt g.draw g.stage g.finish u.body u.rest) = ap
            (λ o. owing d (fly_debt o u.body u.rest)) is in omega arith),
        num,
      )
    where
      by : (draw : Draw) (stage : ℕ) → g.stage ≡ stage → (root_of draw 1 ≡ 1 → g.finish ≡ g.number) → g.number ≢ d
          → 0 < length (move_debt draw stage g.finish u.body u.rest) → owing d (move_debt draw stage g.finish u.body u.rest) ≡ 0 → g.finish ≢ d
      by Make s es top num l o z = num (sym (top refl) ∙ z)
      by Chain s es top num l o z = num (sym (top refl) ∙ z)
      by Spawn zero es top num l o z = absurd (omega arith)
      by Spawn (suc zero) es top num l o z = absurd (omega arith)
      by Spawn (suc (suc zero)) es top num l o z = let one : one_to d (Some g.finish) ≡ 1 = ap (λ k. pick k 1 0) (same_self d g.finish (sym z)) in omega arith
      by Spawn (suc (suc (suc s))) es top num l o z = let one : one_to d (Some g.finish) ≡ 1 = ap (λ k. pick k 1 0) (same_self d g.finish (sym z)) in
          omega arith

  module _ (w : View) (flies' : w.flight ≡ Some record { draw = draw; number = d; finish = d; stage = 1 }) (X : Awaited)
      (lawful : join X.kind (identity X.kind) X.gift ≡ X.gift) (fits : X.fault ≤ no_fault) (first : put a.expects d X 0 ≡ a.expects 0)
      (gift_else : (k : FinishKind) (f : ℕ) → f ≢ d → gift_debt k f (debts w) ≡ gift_debt k f (debts v))
      (gift_none : (k : FinishKind) → gift_debt k d (debts v) ≡ identity k) (gift_new : gift_debt X.kind d (debts w) ≡ X.gift)
      (fault_else : (f : ℕ) → f ≢ d → fault_debt f (debts w) ≡ fault_debt f (debts v)) (fault_none : fault_debt d (debts v) ≡ no_fault)
      (fault_new : fault_debt d (debts w) ≡ X.fault)
      (moves_same : moves_debt (debts w) ≡ moves_debt (debts v)) (hurts_same : (f : ℕ) → hurt_in f w ≡ hurt_in f v)
      (pends_same : (f : ℕ) → pend_in f w ≡ pend_in f v)
      (new : ViewOk (openings a.vertices (set vs id w)) (put a.expects d X) a.faults w) where
    abbrev after : List View
    after = set vs id w

    abbrev expects' : ℕ → Awaited
    expects' = put a.expects d X

    openings' : (f : ℕ) → openings a.vertices after f ≡ openings a.vertices vs f + same f d
    openings' f = let t = total_set (λ (u : View). opens_in f u.flight) vs id v w at in let o : opens_in f v.flight ≡ 0 = ap (opens_in f) flies
        ∙ ap (λ k. gate k (same f d)) kind.root_0 in
        let n : opens_in f w.flight ≡ same f d = ap (opens_in f) flies' ∙ ap (λ k. gate k (same f d)) kind.root_1 in omega arith

    same_hurts : (f : ℕ) → hurts after f ≡ hurts vs f
    same_hurts f = total_kept (hurt_in f) vs id v w at (hurts_same f)

    back : (f : ℕ) → f ≢ d → Clear (openings a.vertices after) a.faults (hurts after) f → Clear (openings a.vertices vs) a.faults (hurts vs) f
    back f n c = let t = openings' f in let s = same_else f d n in let o = c.is_open in let u = c.unhurt in let h = same_hurts f in
        record { is_open = omega arith; pure = c.pure; unhurt = omega arith }

    gift_first_got : let k : FinishKind = X.kind in join k (gift_of k (a.gifts d))
        (owed (join k) (identity k) (gift_to k d) view p a.vertices homes after) ≡ X.gift
    gift_first_got = let k : FinishKind = X.kind in let bare = owes_nothing view p a homes vs rule d low units_none (join k) (identity k) (gifts_join k)
        (λ (q : Debt). q.promise.gift) in
        let t = turn_view (join k) (identity k) (gifts_join k) (gift_to k d) view p vs id v w at a.vertices homes in
        (λ j. join k ((ap (gift_of k) (rule.history.shut.gift d low was_shut) ∙ gift_first k) j)
        (owed (join k) (identity k) (gift_to k d) view p a.vertices homes after))
        ∙ first_debt (join k) (identity k) (gifts_join k) record {
          rest = t.rest;
          before = t.before ∙ ap (λ y. join k y t.rest) (gift_none k);
          after = t.after
              ∙ ap (λ y. join k y t.rest) gift_new;
        } bare lawful

    fault_first_got : min (a.faults d) (owed min no_fault (fault_to d) view p a.vertices homes after) ≡ X.fault
    fault_first_got = let bare = owes_nothing view p a homes vs rule d low units_none min no_fault faults_join (λ (q : Debt). q.promise.fault) in
        let t = turn_view min no_fault faults_join (fault_to d) view p vs id v w at a.vertices homes in
        (λ j. min (rule.history.shut.fault d low was_shut j) (owed min no_fault (fault_to d) view p a.vertices homes after))
        ∙ first_debt min no_fault faults_join record {
          rest = t.rest;
          before = t.before ∙ ap (λ y. min y t.rest) fault_none;
          after = t.after
              ∙ ap (λ y. min y t.rest) fault_new;
        } bare (omega arith)

    on_view : (j : ℕ) (u : View) → j ≢ id → get_elem? vs j ≡ some u → ViewOk (openings a.vertices vs) a.expects a.faults u
        → ViewOk (openings a.vertices after) expects' a.faults u
    on_view j u n e h = record {
      right = h.right;
      kind = λ r is z. h.kind r is z ∙ ap (λ (y : Awaited). y.kind) (sym (put_else a.expects d X r.finish (runs_apart j u e r is)));
      awaited = λ r x is g. let t = h.awaited r x is g in let o = openings' t.0 in let q = t.3 in
          (t.0, t.1, t.2, omega arith, t.4 ∙ sym (put_else a.expects d X t.0 (apart t.0 t.3)));
      sunk = h.sunk;
      gives = λ g is z. h.gives g is z ∙ ap (λ (y : Awaited). y.kind) (sym (put_else a.expects d X g.finish (flies_apart j u e n g is z).0));
      begun = λ g is o z. let t = h.begun g is o z in let s = sym (put_else a.expects d X g.number (flies_apart j u e n g is z).1) in
          (t.0 ∙ ap (λ (y : Awaited). y.gift) s, t.1 ∙ ap (λ (y : Awaited). y.fault) s);
      whole = λ x is. h.whole x is ∙ sym first;
      tame = h.tame;
    }

    pub root_books : (nodes' : ℕ → Node) → Books view p (record a { nodes = nodes'; expects = expects' }) homes after
    root_books nodes' = record {
      gifts = record {
        whole = λ f l c. put_case (λ (y : Awaited). join y.kind (gift_of y.kind (a.gifts f))
            (owed (join y.kind) (identity y.kind) (gift_to y.kind f) view p a.vertices homes after) ≡ y.gift) a.expects d X f
            (λ e. subst (λ f. join X.kind (gift_of X.kind (a.gifts f)) (owed (join X.kind) (identity X.kind)
            (gift_to X.kind f) view p a.vertices homes after) ≡ X.gift) (sym e) gift_first_got)
            (λ n. let k : FinishKind = (a.expects f).kind in ap (join k (gift_of k (a.gifts f)))
            (turned_same (join k) (identity k) (gifts_join k) (gift_else k f n)
            (turn_view (join k) (identity k) (gifts_join k) (gift_to k f) view p vs id v w at a.vertices homes)) ∙ books.gifts.whole f l (back f n c));
      };
      faults = record {
        whole = λ f l c. put_case (λ (y : Awaited). min (a.faults f) (owed min no_fault (fault_to f) view p a.vertices homes after) ≡ y.fault) a.expects d X f
            (λ e. subst (λ f. min (a.faults f) (owed min no_fault (fault_to f) view p a.vertices homes after) ≡ X.fault) (sym e) fault_first_got)
            (λ n. ap (min (a.faults f)) (turned_same min no_fault faults_join (fault_else f n)
            (turn_view min no_fault faults_join (fault_to f) view p vs id v w at a.vertices homes)) ∙ books.faults.whole f l (back f n c));
      };
      passes = record { on = λ f l z e s n. books.passes.on f l z e s (sym (total_kept (pend_in f) vs id v w at (pends_same f)) ∙ n) };
      counts = let o = turned_same (λ x y. x + y) 0 moves_join moves_same
          (turn_view (λ x y. x + y) 0 moves_join moves_in view p vs id v w at a.vertices homes) in
          record { few = λ h l. ap (λ k. a.drawn + k) o ∙ books.counts.few h l; many = books.counts.many };
      bodies = λ x b l s u n e. let h = books.bodies x b l s u n e in let t = rule.live.finish x l s in record {
        tame = h.tame;
        kind = h.kind ∙ ap (λ (y : Awaited). y.kind) (sym (put_else a.expects d X (a.vertices x).finish (apart (a.vertices x).finish t.1)));
        waits = λ f z q o. dite (ℕ_discrete f d)
            (λ g. let k : (a.vertices x).state ≡ 0 = ap (λ k. (a.vertices k).state) (q ∙ ap (λ k. 2 * k + 1) g)
            ∙ ap (λ (y : Vertex). y.state) (ok.rest (let r = kind.rest_0 in omega arith)) in absurd (omega arith))
            (λ g. let r = openings' f in let s' = same_else f d g in h.waits f z q (omega arith) ∙ ap Some (sym (put_else a.expects d X f g)));
        only = λ y g. let r = h.only y g in let o = openings' r.0 in let r₂ = r.2 in (r.0, r.1, omega arith);
      };
      views = each_set (ViewOk (openings a.vertices vs) a.expects a.faults) (ViewOk (openings a.vertices after) expects' a.faults) vs id w new books.views
          (λ j u n e h. on_view j u n e h);
    }

-- a chain: the running vertex owes to a finish below
module _ {B : Type 0} (view : B → Meaning) (p : PlanView) (a : Dag) (homes : List (maybe.Option (Option B))) (vs : List View) (rule : Rule p a homes vs)
    (books : Books view p a homes vs)
    (id : ℕ) (v : View) (at : get_elem? vs id ≡ some v) (kind : Opens Chain) (m : Meaning) (d : ℕ)
    (flies : v.flight ≡ Some record { draw = Chain; number = d; finish = d; stage = 0 }) (room : load_of v < 66)
    (r : Running) (is : v.running ≡ Some r) (alive : 0 < r.right + length v.claimed) (other : r.vertex ≢ 1) (above : r.finish < d)
    (lawful : join m.kind (identity m.kind) m.promise.gift ≡ m.promise.gift) (fits : m.promise.fault ≤ no_fault)
    (less : m.promise.moves ≤ v.owes.moves) where
  abbrev k : FinishKind
  k = m.kind

  abbrev q : Promise
  q = m.promise

  abbrev w : View
  w = rooted_view Chain d m v

  abbrev X : Awaited
  X = record { kind = k; gift = q.gift; fault = q.fault }

  abbrev g : ℕ
  g = r.finish

  chain_old : ViewOk (openings a.vertices vs) a.expects a.faults v
  chain_old = books.views id v at

  were : debts v ≡ owe g (promised v.owes) ∷ []
  were = (λ j. run_is v.running r v.claimed v.owes is other alive j ++ fly_debt (flies j) v.body v.rest)

  now : debts w ≡ owe g (promised w.owes) ∷ owe d q ∷ []
  now = ap (λ l. l ++ (owe d q ∷ [])) (run_is v.running r v.claimed w.owes is other alive)

  same_before : same d g ≡ 0
  same_before = same_else d g (λ e. omega arith)

  -- one more debt that is worth nothing
  more : {C : Type 0} (op : C → C → C) (e : C) → IsJoin op e → (x y : C) (s : ℕ) → s ≡ 0 → op x (op (pick s y e) e) ≡ op x e
  more op e law x y s h = ap (λ s. op x (op (pick s y e) e)) h ∙ ap (op x) law.unit

  pub chain_root_books : (nodes' : ℕ → Node) → Books view p (record a { nodes = nodes'; expects = put a.expects d X }) homes (set vs id w)
  chain_root_books nodes' = root_books view p a homes vs rule books id v at Chain kind m d flies room w refl X lawful fits
      (put_else a.expects d X 0 (λ e. omega arith))
      (λ k f n. ap (gift_debt k f) now ∙ more (join k) (identity k) (gifts_join k) (pick (same f g) v.owes.gift (identity k)) q.gift (same f d)
      (same_else f d n) ∙ ap (gift_debt k f) (sym were))
      (λ k. ap (gift_debt k d) were ∙ ap (λ s. join k (pick s v.owes.gift (identity k)) (identity k)) same_before ∙ (gifts_join k).unit)
      (ap (gift_debt k d) now ∙ (λ j. join k (pick (same_before j) v.owes.gift (identity k))
      (join k (pick (same_self d d refl j) q.gift (identity k)) (identity k)))
      ∙ ap (join k (identity k)) ((gifts_join k).comm q.gift (identity k) ∙ lawful) ∙ lawful)
      (λ f n. ap (fault_debt f) now ∙ more min no_fault faults_join (pick (same f g) v.owes.fault no_fault) q.fault (same f d) (same_else f d n)
      ∙ ap (fault_debt f) (sym were))
      (ap (fault_debt d) were ∙ ap (λ s. min (pick s v.owes.fault no_fault) no_fault) same_before)
      (ap (fault_debt d) now ∙ (λ j. min (pick (same_before j) v.owes.fault no_fault) (min (pick (same_self d d refl j) q.fault no_fault) no_fault))
      ∙ (let z : min no_fault (min q.fault no_fault) ≡ q.fault = omega arith in z))
      (let x = ap moves_debt now in let y = ap moves_debt were in omega arith) (λ f. refl) (λ f. refl)
      (let h = chain_old in record {
        right = h.right;
        kind = λ y e z. h.kind y e z ∙ ap (λ (t : Awaited). t.kind) (sym
            (put_else a.expects d X y.finish (runs_apart view p a homes vs rule books id v at Chain kind m d flies room id v at y e)));
        awaited = λ y x e t. let u = h.awaited y x e t in let o = opened_more u.0 in let s = u.3 in (
          u.0,
          u.1,
          u.2,
          omega arith,
          u.4 ∙ sym (put_else a.expects d X u.0
              (apart view p a homes vs rule books id v at Chain kind m d flies room u.0 u.3)),
        );
        sunk = h.sunk;
        gives = λ e f _. let m : record { draw = Chain; number = d; finish = d; stage = 1 } ≡ e = cc in
            ap (λ (t : Awaited). t.kind) (sym (put_here a.expects d X d refl)) ∙ ap (λ (e : Flight). (put a.expects d X e.finish).kind) m;
        begun = λ e f _ _. let m : record { draw = Chain; number = d; finish = d; stage = 1 } ≡ e = cc in (
          ap (λ (t : Awaited). t.gift) (sym (put_here a.expects d X d refl))
              ∙ ap (λ (e : Flight). (put a.expects d X e.number).gift) m,
          ap (λ (t : Awaited). t.fault) (sym (put_here a.expects d X d refl))
              ∙ ap (λ (e : Flight). (put a.expects d X e.number).fault) m,
        );
        whole = λ x e. h.whole x e ∙ sym (put_else a.expects d X 0 (λ e. omega arith));
        tame = h.tame;
      }) nodes'
    where
      opened_more : (f : ℕ) → openings a.vertices vs f ≤ openings a.vertices (set vs id w) f
      opened_more f = let t = total_set (λ (u : View). opens_in f u.flight) vs id v w at in let o : opens_in f v.flight ≡ 0 = ap (opens_in f) flies
          ∙ ap (λ k. gate k (same f d)) kind.root_0 in omega arith
