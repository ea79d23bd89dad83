-- `set_vertex` of the left vertex of a spawn, which the share has to store first.
use Rattle.std.proofs.Common.{◌≡◌, ◌≢◌, ℕ, ◌+◌, ◌*◌, ◌<◌, ◌≤◌, List, [], ◌∷◌, length, set, refl, sym, ap, ◌∙◌, subst, arith, Option, Some, inl}
use Prim.Native.Nat.{zero, suc}
use mathlib.Core.Option.{some}
use mathlib.Core.Option as maybe
use mathlib.Core.Logic.{dite}
use native.Mathlib.Decide.{ℕ_discrete}
use lib.ListN.{get_elem?}
use Rattle.spd_words.specs.Plan.{PlanView}
use Rattle.spd_words.specs.Words.{Vertex}
use Rattle.spd_state.specs.Sums.{same, gate, count, put}
use Rattle.spd_state.specs.Tree.{Under}
use Rattle.spd_state.specs.Dag.{Dag, stands, not_end, yet_in, named, opens_in, flies_in, early_in, busy, right_in}
use Rattle.spd_state.specs.History.{forks_in}
use Rattle.spd_state.specs.Parts.{RootedOk, FlightOk, FlightsOk, OwnOk, Rule}
use Rattle.spd_state.specs.Stages.{spawn_left_view, spawn_vertex}
use Rattle.spd_state.specs.declared.view.Flight.{Flight}
use Rattle.spd_state.specs.declared.view.Draw.TheVariants.{Spawn}
use Rattle.spd_state.specs.declared.view.View.{View}
use Rattle.spd_state.proofs.Sums.{same_self, same_else, put_here, put_else}
use Rattle.spd_state.proofs.Makers.{maker_used}
use Rattle.spd_state.proofs.Rights.{unit_opens}
use Rattle.spd_state.proofs.InFlight.{yet_holds}
use Rattle.spd_state.proofs.Store.{Stored, store_keeps, runs_beside}
use Rattle.spd_state.proofs.Even.{even_finishes}

module _ {B : Type 0} (p : PlanView) (a : Dag) (homes : List (maybe.Option (Option B))) (vs : List View) (rule : Rule p a homes vs) (id : ℕ)
    (v : View) (at : get_elem? vs id ≡ some v)
    (d u inc : ℕ) (flies : v.flight ≡ Some record { draw = Spawn; number = d; finish = u; stage = 2 }) (at_inc : Under p a.trees u inc)
    (rest : List ℕ) (slots : v.slots ≡ 2 * d ∷ rest) where
  abbrev i : ℕ
  i = 2 * d

  abbrev x : Vertex
  x = spawn_vertex d u 0 inc

  abbrev w : View
  w = spawn_left_view d u rest v

  abbrev g : Flight
  g = record { draw = Spawn; number = d; finish = u; stage = 2 }

  ok : FlightOk p a.trees a.drawn a.nodes a.pairs a.vertices g
  ok = subst (FlightsOk p a.trees a.drawn a.nodes a.pairs a.vertices) flies (rule.flying id v at)

  own : OwnOk p a.trees v
  own = rule.own id v at

  blank : (a.vertices i).state ≡ 0
  blank = ap (λ (y : Vertex). y.state) (ok.body (let e : 0 < 1 = omega arith in e))

  -- the maker has given its place to the two vertices
  over : (right_in v.running ≡ 0) × (v.claimed ≡ [])
  over = (rule.history.makers id v at).used g flies refl

  not_end_even : (k : ℕ) → not_end (2 * k) ≡ 1
  not_end_even k = go (2 * k) (λ e. omega arith)
    where
      go : (n : ℕ) → n ≢ 1 → not_end n ≡ 1
      go zero n = refl
      go (suc zero) n = absurd (n refl)
      go (suc (suc m)) n = refl

  step : Stored p a v w d i x
  step = let low = ok.number in let few = own.few in let b : busy v.flight ≡ 1 = ap busy flies in let sitting = own.sitting in let z = blank in
      let less = ok.below refl in record {
        low = omega arith;
        of = inl refl;
        flies = ap (flies_in d) flies ∙ same_self d d refl;
        begun = ok.begun;
        blank = ok.body (let e : 0 < 1 = omega arith in e);
        is_stored = omega arith;
        not_started = omega arith;
        rights_gain = λ e. let s : stands e i x ≡ same e d = ap (λ k. gate k (same e d)) (not_end_even d) in
            let y : yet_in e v.flight ≡ same e d + (same e d + 0) = ap (yet_in e) flies in omega arith;
        opens_gain = λ e. let o : opens_in e v.flight ≡ 0 = ap (opens_in e) flies in dite (ℕ_discrete e d)
            (λ z. let s : gate (same i (2 * e)) (named e x) ≡ named e x = ap (λ k. gate k (named e x)) (same_self i (2 * e) (omega arith)) in
            let n = same_else e u (λ q. omega arith) in omega arith)
            (λ z. let s : gate (same i (2 * e)) (named e x) ≡ 0 = ap (λ k. gate k (named e x)) (same_else i (2 * e) (λ q. z (omega arith))) in
            omega arith);
        units_same = λ n. refl;
        runs_less = λ k. omega arith;
        flies_less = λ e. let h : flies_in e v.flight ≡ same e d = ap (flies_in e) flies in omega arith;
        body_done = λ z. let s = same_self d d refl in absurd (omega arith);
        rest_done = λ z. let s = same_self d d refl in absurd (omega arith);
        slots_less = λ k. let h : count k v.slots ≡ same k i + count k rest = ap (count k) slots in omega arith;
        maker = maker_used v w Spawn d u 2 3 flies refl (λ e. absurd (cc)) refl (λ y e. (y, e, refl)) over.0 over.1
            (λ z. z) (rule.history.makers id v at);
        below_rest = λ e q l z. absurd (omega arith);
        below_body = λ e q _. omega arith;
        end = λ e. absurd (omega arith);
        ready = omega arith;
        forks = sym (ap forks_in flies);
        done = refl;
        fresh = refl;
        starts = refl;
        spawns = refl;
        own = record {
          claims = own.claims;
          rooted = subst (λ (o : Option Flight). RootedOk o v.rooted) flies own.rooted;
          there = own.there;
          lifts = own.lifts;
          single = own.single;
          tells = own.tells;
          spent = λ z. absurd (omega arith);
          few = own.few;
          seated = own.seated;
          sitting = omega arith;
        };
        running = runs_beside p a.trees a.pairs a.vertices i x (omega arith) v.running (rule.running id v at);
        flying = record {
          number = ok.number;
          begun = ok.begun;
          finish = ok.finish;
          root_finish = λ (z : 0 ≡ 1). absurd (omega arith);
          tops = λ _. ok.tops (omega arith);
          root = λ (z : 3 ≡ 0). absurd (omega arith);
          pair = λ (z : 3 < 2). absurd (omega arith);
          below = ok.below;
          handle = λ (z : 0 ≡ 1). absurd (omega arith);
          body = λ (z : 0 < 0). absurd (omega arith);
          rest = λ _. put_else a.vertices i x (2 * d + 1) (λ e. omega arith) ∙ ok.rest (let e : 0 < 1 = omega arith in e);
          body_there = λ _. subst (λ (y : Vertex). 0 < y.state) (sym (put_here a.vertices i x i refl)) (omega arith);
          names = λ _. ap (λ (y : Vertex). y.finish) (put_here a.vertices i x i refl);
          rest_there = λ (z : 1 ≡ 0). absurd (omega arith);
        };
        draws = refl;
        seats = refl;
        spare = refl;
        finish = ok.finish;
        pair = ok.number;
        inc = at_inc;
        above_same = λ n. refl;
        halves_same = λ n. refl;
        trees = rule.trees id v at;
        grows = rule.grows id v at;
        grow_draws = refl;
        full_grows = refl;
        sprout = refl;
        tops = λ _. ok.tops (omega arith);
      }

  pub spawn_left_keeps : (b : B) → length homes ≡ 2 * p.moves → Rule p (record a { vertices = put a.vertices i x }) (set homes i (some (Some b)))
      (set vs id w)
  spawn_left_keeps b deep = store_keeps p a homes vs rule id v at w d i x step (Some b) (λ _. (b, refl)) (λ e. absurd (omega arith)) deep
      (unit_opens p a homes vs rule u ok.finish (yet_holds p a homes vs rule id v at g flies (let z : 2 ≤ 2 = omega arith in z)
      (let z : 0 < 2 = omega arith in z)))
      (even_finishes p a homes vs rule id v at w d d x step refl (λ f. sym (ap (early_in f) flies)))
