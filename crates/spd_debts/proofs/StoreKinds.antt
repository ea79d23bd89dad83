-- The kinds of `set_vertex`, and `wake_vertex`, keep the books.
use Rattle.std.proofs.Common.{◌≡◌, ◌≢◌, ℕ, ◌+◌, ◌*◌, ◌<◌, List, [], ◌∷◌, ◌++◌, length, set, refl, sym, ap, ◌∙◌, arith, Option, Some, None}
use mathlib.Core.Option.{some, none}
use mathlib.Core.Option as maybe
use mathlib.Core.Logic.{dite}
use native.Mathlib.Decide.{ℕ_discrete}
use lib.ListN.{get_elem?}
use Rattle.spd_words.specs.declared.finish_kind.FinishKind.{FinishKind}
use Rattle.spd_words.specs.Meaning.{Promise, Meaning}
use Rattle.spd_words.specs.Plan.{PlanView}
use Rattle.spd_words.specs.Words.{Vertex}
use Rattle.spd_state.specs.Sums.{same, gate, put}
use Rattle.spd_state.specs.declared.view.Running.{Running}
use Rattle.spd_state.specs.declared.view.Flight.{Flight}
use Rattle.spd_state.specs.declared.view.View.{View}
use Rattle.spd_state.specs.Dag.{Dag, waits, openings, opens_in, runs_it, root_of, busy, not_end, right_in}
use Rattle.spd_state.specs.Parts.{no_vertex}
use Rattle.spd_state.specs.Stages.{chain_rest_view, last_view, spawn_left_view}
use Rattle.spd_state.specs.Promises.{promised}
use Rattle.spd_state.specs.declared.view.Draw.TheVariants.{Chain, Spawn}
use Rattle.std.proofs.Common.{false}
use Rattle.spd_state.proofs.Sums.{same_self, total_has}
use Rattle.spd_debts.specs.Books.{Books, ViewOk, finish_is}
use Rattle.spd_debts.specs.Debts.{debts, fly_debt, move_debt, owe, run_debt, if_any}
use Rattle.spd_debts.proofs.Gates.{gate_zero, when_none}
use Rattle.spd_debts.proofs.Offers.{run_is}
use Rattle.spd_debts.proofs.Stores.{store_books}

-- what is told of a body that is stored: not wild, of the kind of its finish, and with the promise that the view says
pub record Told (b : Meaning) (k : FinishKind) (q : Promise) : Type 0 where
  pub tame : b.wild ≡ false
  pub kind : b.kind ≡ k
  pub promise : b.promise ≡ q

module _ {B : Type 0} (view : B → Meaning) (p : PlanView) (a : Dag) (homes : List (maybe.Option (Option B))) (vs : List View)
    (books : Books view p a homes vs) (id : ℕ) (v : View) (at : get_elem? vs id ≡ some v)
    (deep : length homes ≡ 2 * p.moves) (b : B) where
  old : ViewOk (openings a.vertices vs) a.expects a.faults v
  old = books.views id v at

  -- without its right and its claimed unit a running vertex owes nothing
  ran_none : (o : Option Running) → right_in o ≡ 0 → v.claimed ≡ [] → run_debt o v.claimed v.owes ≡ []
  ran_none None e no_claim = refl
  ran_none (Some r) e no_claim = let c : length v.claimed ≡ 0 = ap length no_claim in
      ap (λ k. if_any (not_end r.vertex) (if_any k (owe r.finish (promised v.owes) ∷ []))) (let z : r.right + length v.claimed ≡ 0 = omega arith in z)
      ∙ when_none (not_end r.vertex)

  -- the waiting vertex of a chain
  module _ (r : Running) (is : v.running ≡ Some r) (mine : r.right ≡ 1) (other : r.vertex ≢ 1) (no_claim : v.claimed ≡ [])
      (free : busy v.awaited + v.hurt ≡ 0)
      (d : ℕ) (low : d < p.moves) (later : 0 < d) (flies : v.flight ≡ Some record { draw = Chain; number = d; finish = d; stage = 2 }) (slots : List ℕ)
      (blank : a.vertices (2 * d + 1) ≡ no_vertex)
      (told : Told (view b) v.kind (promised v.owes)) (waits : (view b).awaited ≡ Some record { kind = v.gives; gift = v.body.gift; fault = v.body.fault })
      (open_same : (f : ℕ) → openings (put a.vertices (2 * d + 1) record { state = 1; side = r.side; pair = r.pair; finish = r.finish; inc = r.inc })
      (set vs id (chain_rest_view r d slots v)) f ≡ openings a.vertices vs f) where
    abbrev w : View
    w = chain_rest_view r d slots v

    abbrev x : Vertex
    x = record { state = 1; side = r.side; pair = r.pair; finish = r.finish; inc = r.inc }

    claims : length v.claimed ≡ 0
    claims = ap length no_claim

    now : debts w ≡ owe d (promised v.body) ∷ []
    now = ap (λ k. if_any (not_end r.vertex) (if_any k (owe r.finish (promised v.owes) ∷ [])) ++ (owe d (promised v.body) ∷ []))
        (let c = claims in let z : 0 + length v.claimed ≡ 0 = omega arith in z) ∙ ap (λ l. l ++ (owe d (promised v.body) ∷ [])) (when_none (not_end r.vertex))

    moved : owe r.finish (view b).promise ∷ debts w ≡ debts v
    moved = (λ j. owe r.finish (told.promise j) ∷ now j) ∙ sym (λ j. run_is v.running r v.claimed v.owes is other
        (let m = mine in omega arith) j ++ fly_debt (flies j) v.body v.rest)

    is_open : 0 < openings a.vertices vs d
    is_open = let t = total_has (λ (u : View). opens_in d u.flight) vs id v at in let o : opens_in d v.flight ≡ same d d = ap (opens_in d) flies in
        let s = same_self d d refl in omega arith

    -- what the flight says of the finish that it opens
    awaited_is : record { kind = v.gives; gift = v.body.gift; fault = v.body.fault } ≡ a.expects d
    awaited_is = let f : Flight = record { draw = Chain; number = d; finish = d; stage = 2 } in let k = old.gives f flies (omega arith) in
        let t = old.begun f flies refl (omega arith) in λ j. record { kind = k j; gift = t.0 j; fault = t.1 j }

    pub chain_rest_books : Books view p (record a { vertices = put a.vertices (2 * d + 1) x }) (set homes (2 * d + 1) (some (Some b))) (set vs id w)
    chain_rest_books = store_books view p a homes vs books id v at deep (2 * d + 1) (omega arith) (λ e. omega arith) blank x refl b w moved
        (λ f. ap (λ o. gate v.hurt (finish_is f o)) (sym is)) (λ f. ap (λ o. gate (busy v.awaited + v.hurt) (runs_it (2 * f + 1) o)) is) open_same
        record {
          right = λ z. absurd (omega arith);
          kind = λ y e z. let m : record r { right = 0 } ≡ y = cc in let n : y.right ≡ 0 = ap (λ (y : Running). y.right) (sym m) in let c = claims in
              absurd (omega arith);
          awaited = λ y q e g. let n : busy v.awaited ≡ 1 = ap busy g in absurd (omega arith);
          sunk = λ s. let h = old.sunk s in let k : Some r ≡ Some h.0 = sym is ∙ h.1 in let m : r ≡ h.0 = cc in
              (record r { right = 0 }, refl, (λ e. other e), ap (λ (y : Running). a.faults y.finish) m ∙ h.3);
          gives = λ e k _. let m : record { draw = Chain; number = d; finish = d; stage = 3 } ≡ e = cc in
              old.gives record { draw = Chain; number = d; finish = d; stage = 2 } flies (omega arith) ∙ ap (λ (e : Flight). (a.expects e.finish).kind) m;
          begun = λ e k o _. let m : record { draw = Chain; number = d; finish = d; stage = 3 } ≡ e = cc in
              let t = old.begun record { draw = Chain; number = d; finish = d; stage = 2 } flies refl (omega arith) in
              (t.0 ∙ ap (λ (e : Flight). (a.expects e.number).gift) m, t.1 ∙ ap (λ (e : Flight). (a.expects e.number).fault) m);
          whole = old.whole;
          tame = old.tame;
        }
        record {
          tame = told.tame;
          kind = told.kind ∙ old.kind r is (let m = mine in omega arith);
          waits = λ f z e o. waits ∙ ap Some awaited_is ∙ ap (λ k. Some (a.expects k)) (omega arith);
          only = λ y e. (d, refl, is_open);
        }

  -- the last vertex of a move: the share runs nothing afterwards
  module _ (i : ℕ) (low : i < 2 * p.moves) (other : i ≢ 1) (blank : a.vertices i ≡ no_vertex) (x : Vertex) (standing : waits x.state ≡ 1) (slots : List ℕ)
      (used : right_in v.running ≡ 0) (no_claim : v.claimed ≡ [])
      (g : Flight) (flies : v.flight ≡ Some g) (promise : Promise) (one : move_debt g.draw g.stage g.finish v.body v.rest ≡ owe x.finish promise ∷ [])
      (to_finish : x.finish ≡ g.finish) (told : Told (view b) v.gives promise) (free : (view b).awaited ≡ None)
      (no_wait : (f : ℕ) → 0 < f → i ≡ 2 * f + 1 → 0 < openings a.vertices vs f → ⊥)
      (open_same : (f : ℕ) → openings (put a.vertices i x) (set vs id (last_view slots v)) f ≡ openings a.vertices vs f) where
    abbrev u : View
    u = last_view slots v

    still : busy v.awaited + v.hurt ≡ 0
    still = dite (ℕ_discrete (busy v.awaited + v.hurt) 0) (λ e. e) (λ e. let h = old.right (omega arith) in absurd (omega arith))

    last_moved : owe x.finish (view b).promise ∷ debts u ≡ debts v
    last_moved = (λ j. owe x.finish (told.promise j) ∷ []) ∙ sym ((λ j. ran_none v.running used no_claim j ++ fly_debt (flies j) v.body v.rest) ∙ one)

    pub last_books : Books view p (record a { vertices = put a.vertices i x }) (set homes i (some (Some b))) (set vs id u)
    last_books = store_books view p a homes vs books id v at deep i low other blank x standing b u last_moved
        (λ f. let s = still in gate_zero v.hurt ∙ sym (ap (λ k. gate k (finish_is f v.running)) (let z : v.hurt ≡ 0 = omega arith in z)))
        (λ f. ap (λ k. gate k (runs_it (2 * f + 1) v.running)) still ∙ sym (gate_zero (busy v.awaited + v.hurt))) open_same
        record {
          right = λ z. let s = still in absurd (omega arith);
          kind = λ y (e : None ≡ Some y). absurd (cc);
          awaited = λ y q (e : None ≡ Some y). absurd (cc);
          sunk = λ (z : 0 < 0). absurd (omega arith);
          gives = λ e (k : None ≡ Some e). absurd (cc);
          begun = λ e (k : None ≡ Some e). absurd (cc);
          whole = old.whole;
          tame = old.tame;
        }
        record {
          tame = told.tame;
          kind = told.kind ∙ old.gives g flies (let l = ap length one in omega arith) ∙ ap (λ k. (a.expects k).kind) (sym to_finish);
          waits = λ f z e o. absurd (no_wait f z e o);
          only = λ y e. let k = sym free ∙ e in absurd (cc);
        }

  -- the first vertex of a spawn
  module _ (d g : ℕ) (low : d < p.moves)
      (flies : v.flight ≡ Some record { draw = Spawn; number = d; finish = g; stage = 2 }) (slots : List ℕ) (blank : a.vertices (2 * d) ≡ no_vertex)
      (x : Vertex) (standing : waits x.state ≡ 1) (to_finish : x.finish ≡ g)
      (used : right_in v.running ≡ 0) (no_claim : v.claimed ≡ []) (told : Told (view b) v.gives (promised v.body)) (free : (view b).awaited ≡ None)
      (open_same : (f : ℕ) → openings (put a.vertices (2 * d) x) (set vs id (spawn_left_view d g slots v)) f ≡ openings a.vertices vs f) where
    abbrev y : View
    y = spawn_left_view d g slots v

    ran : run_debt v.running v.claimed v.owes ≡ []
    ran = ran_none v.running used no_claim

    left_moved : owe x.finish (view b).promise ∷ debts y ≡ debts v
    left_moved = (λ j. owe (to_finish j) (told.promise j) ∷ (ran j ++ (owe g (promised v.rest) ∷ []))) ∙ sym (λ j. ran j ++ fly_debt (flies j) v.body v.rest)

    pub spawn_left_books : Books view p (record a { vertices = put a.vertices (2 * d) x }) (set homes (2 * d) (some (Some b))) (set vs id y)
    spawn_left_books = store_books view p a homes vs books id v at deep (2 * d) (omega arith) (λ e. omega arith) blank x standing b y left_moved (λ f. refl)
        (λ f. refl) open_same
        record {
          right = old.right;
          kind = old.kind;
          awaited = old.awaited;
          sunk = old.sunk;
          gives = λ e k _. let m : record { draw = Spawn; number = d; finish = g; stage = 3 } ≡ e = cc in
              old.gives record { draw = Spawn; number = d; finish = g; stage = 2 } flies (omega arith) ∙ ap (λ (e : Flight). (a.expects e.finish).kind) m;
          begun = λ e k o _. let m : record { draw = Spawn; number = d; finish = g; stage = 3 } ≡ e = cc in
              let o' : root_of Spawn 1 ≡ 1 = ap (λ (e : Flight). root_of e.draw 1) m ∙ o in absurd (omega arith);
          whole = old.whole;
          tame = old.tame;
        }
        record {
          tame = told.tame;
          kind = told.kind ∙ old.gives record { draw = Spawn; number = d; finish = g; stage = 2 } flies (omega arith)
              ∙ ap (λ k. (a.expects k).kind) (sym to_finish);
          waits = λ f z e. absurd (omega arith);
          only = λ q e. let k = sym free ∙ e in absurd (cc);
        }
