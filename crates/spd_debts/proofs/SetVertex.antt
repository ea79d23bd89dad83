-- `set_vertex` of each kind keeps the books: the rule has what the share's move in flight must meet.
use Rattle.std.proofs.Common.{◌≡◌, ℕ, ◌+◌, ◌*◌, ◌<◌, List, [], ◌∷◌, length, set, refl, sym, ap, ◌∙◌, subst, arith, Option, Some, None}
use Prim.Native.Nat.{zero, suc}
use mathlib.Core.Option.{some}
use mathlib.Core.Option as maybe
use mathlib.Core.Logic.{dite}
use native.Mathlib.Decide.{ℕ_discrete}
use lib.ListN.{get_elem?}
use Rattle.atomic_table.proofs.Lists.{set_else}
use Rattle.spd_words.specs.Meaning.{Meaning}
use Rattle.spd_words.specs.Plan.{PlanView}
use Rattle.spd_words.specs.Words.{Vertex}
use Rattle.spd_state.specs.Parts.{no_vertex}
use Rattle.spd_state.specs.Sums.{same, gate, put}
use Rattle.spd_state.specs.Dag.{Dag, openings, named, opens_in, flies_in, stored}
use Rattle.spd_state.specs.Parts.{FlightOk, FlightsOk, ClaimsOk, Rule}
use Rattle.spd_state.specs.Promises.{promised}
use Rattle.spd_state.specs.Stages.{end_view, end_vertex, chain_rest_view, chain_rest_vertex, last_view, body_vertex, spawn_left_view, spawn_vertex}
use Rattle.spd_state.specs.declared.promise.Owed.{Owed}
use Rattle.spd_state.specs.declared.view.Running.{Running}
use Rattle.spd_state.specs.declared.view.Flight.{Flight}
use Rattle.spd_state.specs.declared.view.Draw.{Draw}
use Rattle.spd_state.specs.declared.view.Draw.TheVariants.{Make, Chain, Spawn}
use Rattle.spd_state.specs.declared.view.View.{View}
use Rattle.spd_state.proofs.Sums.{same_self, same_else, put_here, put_else, total_set, total_le_at}
use Rattle.spd_state.proofs.Rights.{running_ok}
use Rattle.spd_state.proofs.Rooted.{opens_le}
use Rattle.spd_state.proofs.LastBody.{Closing, make_closing, chain_closing}
use Rattle.spd_debts.specs.Books.{Books}
use Rattle.spd_debts.specs.Debts.{move_debt, owe}
use Rattle.spd_debts.proofs.Ends.{end_books}
use Rattle.spd_debts.proofs.StoreKinds.{Told, chain_rest_books, last_books, spawn_left_books}

-- ---- the finishes that are open stay

module _ (a : Dag) (vs : List View) (id : ℕ) (v w : View) (at : get_elem? vs id ≡ some v) (i : ℕ) (x : Vertex) (blank : a.vertices i ≡ no_vertex) where
  open_stored : ((e : ℕ) → gate (same i (2 * e)) (named e x) + opens_in e w.flight ≡ opens_in e v.flight)
      → (e : ℕ) → openings (put a.vertices i x) (set vs id w) e ≡ openings a.vertices vs e
  open_stored gain e = let t = total_set (λ (y : View). opens_in e y.flight) vs id v w at in let g = gain e in dite (ℕ_discrete i (2 * e))
      (λ k. let o : named e (a.vertices (2 * e)) ≡ 0 = ap (λ j. named e (a.vertices j)) (sym k) ∙ ap (named e) blank in
      let n : named e (put a.vertices i x (2 * e)) ≡ named e x = ap (named e) (put_here a.vertices i x (2 * e) (sym k)) in
      let q : gate (same i (2 * e)) (named e x) ≡ named e x = ap (λ z. gate z (named e x)) (same_self i (2 * e) k) in omega arith)
      (λ k. let n : named e (put a.vertices i x (2 * e)) ≡ named e (a.vertices (2 * e)) = ap (named e) (put_else a.vertices i x (2 * e) (λ z. k (sym z))) in
      let q : gate (same i (2 * e)) (named e x) ≡ 0 = ap (λ z. gate z (named e x)) (same_else i (2 * e) k) in omega arith)

  -- a vertex with an odd number opens none
  open_odd : (d : ℕ) → i ≡ 2 * d + 1 → ((e : ℕ) → opens_in e w.flight ≡ opens_in e v.flight)
      → (e : ℕ) → openings (put a.vertices i x) (set vs id w) e ≡ openings a.vertices vs e
  open_odd d odd flight = open_stored (λ e. let s : gate (same i (2 * e)) (named e x) ≡ 0 =
      ap (λ k. gate k (named e x)) (same_else i (2 * e) (λ z. omega arith)) in
      let f = flight e in omega arith)

-- what stage 3 of a make or a chain is
pub record Ending (draw : Draw) : Type 0 where
  pub closes : Closing draw
  pub debt : (f : ℕ) (body rest : Owed) → move_debt draw 3 f body rest ≡ owe f (promised body) ∷ []

pub make_ending : Ending Make
make_ending = record { closes = make_closing; debt = λ f b r. refl }

pub chain_ending : Ending Chain
chain_ending = record { closes = chain_closing; debt = λ f b r. refl }

module _ {B : Type 0} (view : B → Meaning) (p : PlanView) (a : Dag) (homes : List (maybe.Option (Option B))) (vs : List View) (rule : Rule p a homes vs)
    (books : Books view p a homes vs) (id : ℕ) (v : View) (at : get_elem? vs id ≡ some v) where
  ok_of : (g : Flight) → v.flight ≡ Some g → FlightOk p a.trees a.drawn a.nodes a.pairs a.vertices g
  ok_of g flies = subst (FlightsOk p a.trees a.drawn a.nodes a.pairs a.vertices) flies (rule.flying id v at)

  -- vertex 1
  module _ (flies : v.flight ≡ Some record { draw = Make; number = 0; finish = 0; stage = 2 }) (slots : List ℕ) where
    pub end_vertex_books : Books view p (record a { vertices = put a.vertices 1 end_vertex }) (set homes 1 (some None)) (set vs id (end_view slots v))
    end_vertex_books = let ok = ok_of record { draw = Make; number = 0; finish = 0; stage = 2 } flies in let low = ok.number in
        end_books view p a homes vs books id v at end_vertex (omega arith) slots flies (omega arith)
        (open_odd a vs id v (end_view slots v) at 1 end_vertex (ok.rest (omega arith)) 0 refl (λ e. sym (ap (opens_in e) flies)))
        (set homes 1 (some None)) (λ k n. set_else homes 1 k (some None) n)

  module _ (deep : length homes ≡ 2 * p.moves) (b : B) where
    -- the waiting vertex 2d + 1 of a chain
    module _ (r : Running) (is : v.running ≡ Some r) (mine : r.right ≡ 1) (d : ℕ)
        (flies : v.flight ≡ Some record { draw = Chain; number = d; finish = d; stage = 2 }) (slots : List ℕ) (told : Told (view b) v.kind (promised v.owes))
        (waits : (view b).awaited ≡ Some record { kind = v.gives; gift = v.body.gift; fault = v.body.fault }) where
      pub chain_vertex_books : Books view p (record a { vertices = put a.vertices (2 * d + 1) (chain_rest_vertex r) }) (set homes (2 * d + 1) (some (Some b)))
          (set vs id (chain_rest_view r d slots v))
      chain_vertex_books = let g : Flight = record { draw = Chain; number = d; finish = d; stage = 2 } in let ok = ok_of g flies in
          let m = rule.history.makers id v at in
          let less = m.above g r flies is refl in
          let claims = subst (λ (o : Option Running). ClaimsOk p a.trees o v.claimed) is (rule.own id v at).claims in
          chain_rest_books view p a homes vs books id v at deep b r is mine ((running_ok p a homes vs rule id v at r is).other mine) (claims.0 mine)
          (m.free g flies)
          d ok.number (omega arith) flies slots (ok.rest (omega arith)) told waits
          (open_odd a vs id v (chain_rest_view r d slots v) at (2 * d + 1) (chain_rest_vertex r) (ok.rest (omega arith)) d refl
          (λ e. sym (ap (opens_in e) flies)))

    -- the body 2d of a make or a chain
    module _ (draw : Draw) (kind : Ending draw) (d : ℕ) (flies : v.flight ≡ Some record { draw = draw; number = d; finish = d; stage = 3 }) (slots : List ℕ)
        (told : Told (view b) v.gives (promised v.body)) (free : (view b).awaited ≡ None) where
      pub body_vertex_books : Books view p (record a { vertices = put a.vertices (2 * d) (body_vertex d) }) (set homes (2 * d) (some (Some b)))
          (set vs id (last_view slots v))
      body_vertex_books = let g : Flight = record { draw = draw; number = d; finish = d; stage = 3 } in let ok = ok_of g flies in let low = ok.number in
          let u = (rule.history.makers id v at).used g flies kind.closes.works in let some_body = kind.closes.body in
          last_books view p a homes vs books id v at deep b (2 * d) (omega arith)
          (λ e. omega arith) (ok.body (omega arith)) (body_vertex d) refl slots u.0 u.1
          g flies (promised v.body) (kind.debt d v.body v.rest) refl told free (λ f z e o. omega arith)
          (open_stored a vs id v (last_view slots v) at (2 * d) (body_vertex d) (ok.body (omega arith)) gain)
        where
          gain : (e : ℕ) → gate (same (2 * d) (2 * e)) (named e (body_vertex d)) + 0 ≡ opens_in e v.flight
          gain e = let o : opens_in e v.flight ≡ same e d = ap (opens_in e) flies ∙ ap (λ k. gate k (same e d)) kind.closes.root in dite (ℕ_discrete e d)
              (λ z. let s : gate (same (2 * d) (2 * e)) (same e d) ≡ same e d = ap (λ k. gate k (same e d)) (same_self (2 * d) (2 * e) (omega arith)) in
              omega arith)
              (λ z. let s : gate (same (2 * d) (2 * e)) (same e d) ≡ 0 = ap (λ k. gate k (same e d)) (same_else (2 * d) (2 * e) (λ q. z (omega arith))) in
              let n = same_else e d z in omega arith)

    -- the left vertex 2d of a spawn
    module _ (d u inc : ℕ) (flies : v.flight ≡ Some record { draw = Spawn; number = d; finish = u; stage = 2 }) (slots : List ℕ)
        (told : Told (view b) v.gives (promised v.body)) (free : (view b).awaited ≡ None) where
      pub left_vertex_books : Books view p (record a { vertices = put a.vertices (2 * d) (spawn_vertex d u 0 inc) }) (set homes (2 * d) (some (Some b)))
          (set vs id (spawn_left_view d u slots v))
      left_vertex_books = let g : Flight = record { draw = Spawn; number = d; finish = u; stage = 2 } in let ok = ok_of g flies in let low = ok.number in
          let m = (rule.history.makers id v at).used g flies refl in
          spawn_left_books view p a homes vs books id v at deep b d u low flies slots (ok.body (omega arith))
          (spawn_vertex d u 0 inc) refl refl m.0 m.1 told free
          (open_stored a vs id v (spawn_left_view d u slots v) at (2 * d) (spawn_vertex d u 0 inc) (ok.body (omega arith)) (gain (ok.below refl)))
        where
          gain : u < d → (e : ℕ) → gate (same (2 * d) (2 * e)) (named e (spawn_vertex d u 0 inc)) + 0 ≡ opens_in e v.flight
          gain less e = let o : opens_in e v.flight ≡ 0 = ap (opens_in e) flies in dite (ℕ_discrete e d)
              (λ z. let s : gate (same (2 * d) (2 * e)) (same e u) ≡ same e u = ap (λ k. gate k (same e u)) (same_self (2 * d) (2 * e) (omega arith)) in
              let n = same_else e u (λ q. omega arith) in omega arith)
              (λ z. let s : gate (same (2 * d) (2 * e)) (same e u) ≡ 0 = ap (λ k. gate k (same e u)) (same_else (2 * d) (2 * e) (λ q. z (omega arith))) in
              omega arith)

    -- the right vertex 2d + 1 of a spawn, which opens no finish d
    module _ (d u inc : ℕ) (flies : v.flight ≡ Some record { draw = Spawn; number = d; finish = u; stage = 3 }) (slots : List ℕ)
        (told : Told (view b) v.gives (promised v.rest)) (free : (view b).awaited ≡ None) where
      abbrev g : Flight
      g = record { draw = Spawn; number = d; finish = u; stage = 3 }

      ok : FlightOk p a.trees a.drawn a.nodes a.pairs a.vertices g
      ok = ok_of g flies

      shut : openings a.vertices vs d ≡ 0
      shut = let n = none (stored (a.vertices (2 * d)).state) in
          let m : flies_in d v.flight ≡ same d d = ap (flies_in d) flies in let s = same_self d d refl in let f = rule.moves.alone d ok.number in
          let o : opens_in d v.flight ≡ 0 = ap (opens_in d) flies in
          let t = total_le_at (λ (u : View). opens_in d u.flight) (λ (u : View). flies_in d u.flight) vs id v at (λ u. opens_le d u.flight) in omega arith
        where
          none : (k : ℕ) → gate k (same d (a.vertices (2 * d)).finish) ≡ 0
          none zero = refl
          none (suc k) = let l = ok.below refl in let n = ok.names refl in same_else d (a.vertices (2 * d)).finish (λ e. omega arith)

      pub right_vertex_books : Books view p (record a { vertices = put a.vertices (2 * d + 1) (spawn_vertex d u 1 inc) })
          (set homes (2 * d + 1) (some (Some b)))
          (set vs id (last_view slots v))
      right_vertex_books = let low = ok.number in let m = (rule.history.makers id v at).used g flies refl in let l = ok.below refl in
          last_books view p a homes vs books id v at deep b (2 * d + 1) (omega arith)
          (λ e. omega arith) (ok.rest (omega arith)) (spawn_vertex d u 1 inc) refl slots m.0 m.1
          g flies (promised v.rest) refl refl told free
          (λ f z e o. let s = shut in let q : openings a.vertices vs f ≡ openings a.vertices vs d = ap (openings a.vertices vs) (omega arith) in omega arith)
          (open_odd a vs id v (last_view slots v) at (2 * d + 1) (spawn_vertex d u 1 inc) (ok.rest (omega arith)) d refl (λ e. sym (ap (opens_in e) flies)))
