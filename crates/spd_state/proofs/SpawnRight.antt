-- `set_vertex` of the right vertex of a spawn, its last step: the share runs nothing.
use Rattle.std.proofs.Common.{◌≡◌, ℕ, ◌+◌, ◌*◌, ◌<◌, ◌≤◌, List, [], ◌∷◌, length, set, refl, sym, ap, ◌∙◌, subst, arith, Option, Some, None, inr}
use Prim.Native.Nat.{zero, suc}
use mathlib.Core.Option.{some}
use mathlib.Core.Option as maybe
use lib.ListN.{get_elem?}
use Rattle.spd_words.specs.Plan.{PlanView}
use Rattle.spd_words.specs.Words.{Vertex}
use Rattle.spd_state.specs.Sums.{same, gate, count, put}
use Rattle.spd_state.specs.Tree.{Under}
use Rattle.spd_state.specs.Dag.{Dag, stands, stored, not_end, openings, has_right, right_in, yet_in, named, opens_in, flies_in, early_in, busy}
use Rattle.spd_state.specs.History.{forks_in}
use Rattle.spd_state.specs.Parts.{RootedOk, FlightOk, FlightsOk, OwnOk, Rule}
use Rattle.spd_state.specs.Stages.{last_view, spawn_vertex}
use Rattle.spd_state.specs.declared.view.Running.{Running}
use Rattle.spd_state.specs.declared.view.Flight.{Flight}
use Rattle.spd_state.specs.declared.view.Draw.TheVariants.{Spawn}
use Rattle.spd_state.specs.declared.view.View.{View}
use Rattle.spd_state.proofs.Sums.{same_self, same_else, put_here, put_else, total_le_at}
use Rattle.spd_state.proofs.Makers.{maker_none}
use Rattle.spd_state.proofs.Rights.{unit_opens}
use Rattle.spd_state.proofs.InFlight.{yet_holds}
use Rattle.spd_state.proofs.Rooted.{opens_le}
use Rattle.spd_state.proofs.Store.{Stored, store_keeps}
use Rattle.spd_state.proofs.Even.{other_finishes}

module _ {B : Type 0} (p : PlanView) (a : Dag) (homes : List (maybe.Option (Option B))) (vs : List View) (rule : Rule p a homes vs) (id : ℕ)
    (v : View) (at : get_elem? vs id ≡ some v)
    (d u inc : ℕ) (flies : v.flight ≡ Some record { draw = Spawn; number = d; finish = u; stage = 3 }) (at_inc : Under p a.trees u inc)
    (rest : List ℕ) (slots : v.slots ≡ (2 * d + 1) ∷ rest) where
  abbrev i : ℕ
  i = 2 * d + 1

  abbrev x : Vertex
  x = spawn_vertex d u 1 inc

  abbrev w : View
  w = last_view rest v

  abbrev g : Flight
  g = record { draw = Spawn; number = d; finish = u; stage = 3 }

  ok : FlightOk p a.trees a.drawn a.nodes a.pairs a.vertices g
  ok = subst (FlightsOk p a.trees a.drawn a.nodes a.pairs a.vertices) flies (rule.flying id v at)

  own : OwnOk p a.trees v
  own = rule.own id v at

  less : u < d
  less = ok.below refl

  over : (right_in v.running ≡ 0) × (v.claimed ≡ [])
  over = (rule.history.makers id v at).used g flies refl

  no_right : (o : Option Running) → right_in o ≡ 0 → (e : ℕ) → has_right e o ≡ 0
  no_right None k e = refl
  no_right (Some r) k e = ap (λ n. gate n (same e r.pair)) k

  not_end_odd : (k : ℕ) → 0 < k → not_end (2 * k + 1) ≡ 1
  not_end_odd k l = go (2 * k + 1) (omega arith)
    where
      go : (n : ℕ) → 2 < n → not_end n ≡ 1
      go zero l = absurd (omega arith)
      go (suc zero) l = absurd (omega arith)
      go (suc (suc n)) l = refl

  -- a spawn opens no finish: its left vertex names the maker's, which is smaller
  shut : openings a.vertices vs d ≡ 0
  shut = let l = less in let n : named d (a.vertices (2 * d)) ≡ 0 = none (stored (a.vertices (2 * d)).state) in
      let m : flies_in d v.flight ≡ same d d = ap (flies_in d) flies in let s = same_self d d refl in let f = rule.moves.alone d ok.number in
      let o : opens_in d v.flight ≡ 0 = ap (opens_in d) flies in
      let t = total_le_at (λ (u : View). opens_in d u.flight) (λ (u : View). flies_in d u.flight) vs id v at (λ u. opens_le d u.flight) in omega arith
    where
      none : (k : ℕ) → gate k (same d (a.vertices (2 * d)).finish) ≡ 0
      none zero = refl
      none (suc k) = let l = less in let n = ok.names refl in same_else d (a.vertices (2 * d)).finish (λ e. omega arith)

  step : Stored p a v w d i x
  step = let low = ok.number in let few = own.few in let b : busy v.flight ≡ 1 = ap busy flies in let sitting = own.sitting in let l = less in
      record {
        low = omega arith;
        of = inr refl;
        flies = ap (flies_in d) flies ∙ same_self d d refl;
        begun = ok.begun;
        blank = ok.rest (let e : 0 < 1 = omega arith in e);
        is_stored = omega arith;
        not_started = omega arith;
        rights_gain = λ e. let s : stands e i x ≡ same e d = ap (λ k. gate k (same e d)) (not_end_odd d (omega arith)) in
            let h = no_right v.running over.0 e in let y : yet_in e v.flight ≡ same e d + 0 = ap (yet_in e) flies in omega arith;
        opens_gain = λ e. let s : gate (same i (2 * e)) (named e x) ≡ 0 = ap (λ k. gate k (named e x)) (same_else i (2 * e) (λ z. omega arith)) in
            let o : opens_in e v.flight ≡ 0 = ap (opens_in e) flies in omega arith;
        units_same = λ n. refl;
        runs_less = λ k. omega arith;
        flies_less = λ e. omega arith;
        body_done = λ _. subst (λ (y : Vertex). 0 < y.state) (sym (put_else a.vertices i x (2 * d) (λ e. omega arith))) (ok.body_there refl);
        rest_done = λ _. subst (λ (y : Vertex). 0 < y.state) (sym (put_here a.vertices i x i refl)) (omega arith);
        slots_less = λ k. let h : count k v.slots ≡ same k i + count k rest = ap (count k) slots in omega arith;
        maker = maker_none w refl;
        below_rest = λ e q _ _. omega arith;
        below_body = λ e q. absurd (omega arith);
        end = λ e. absurd (omega arith);
        ready = omega arith;
        forks = sym (ap forks_in flies);
        done = refl;
        fresh = refl;
        starts = refl;
        spawns = refl;
        own = record {
          claims = over.1;
          rooted = subst (λ (o : Option Flight). RootedOk o v.rooted) flies own.rooted;
          there = own.there;
          lifts = own.lifts;
          single = own.single;
          tells = own.tells;
          spent = λ z. absurd (omega arith);
          few = own.few;
          seated = omega arith;
          sitting = omega arith;
        };
        running = tt;
        flying = tt;
        draws = refl;
        seats = refl;
        spare = refl;
        finish = ok.finish;
        pair = ok.number;
        inc = at_inc;
        above_same = λ n. refl;
        halves_same = λ n. refl;
        trees = rule.trees id v at;
        grows = rule.grows id v at;
        grow_draws = refl;
        full_grows = refl;
        sprout = refl;
        tops = λ _. ok.tops (omega arith);
      }

  pub spawn_right_keeps : (b : B) → length homes ≡ 2 * p.moves → Rule p (record a { vertices = put a.vertices i x }) (set homes i (some (Some b)))
      (set vs id w)
  spawn_right_keeps b deep = let l = less in store_keeps p a homes vs rule id v at w d i x step (Some b) (λ _. (b, refl))
      (λ e. absurd (omega arith)) deep
      (unit_opens p a homes vs rule u ok.finish (yet_holds p a homes vs rule id v at g flies (let z : 2 ≤ 3 = omega arith in z)
      (let z : 0 < 1 = omega arith in z)))
      (other_finishes p a homes vs rule id v at w d i x step refl (λ f. sym (ap (early_in f) flies))
      (λ f e. let s : f ≡ d = omega arith in ap (openings a.vertices vs) s ∙ shut))
