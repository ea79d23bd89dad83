-- `set_vertex` of vertex 1 by the make: it waits for finish 0, has no body and never claims.
use Rattle.std.proofs.Common.{◌≡◌, ℕ, ◌+◌, ◌*◌, ◌<◌, List, ◌∷◌, length, set, refl, sym, ap, ◌∙◌, subst, arith, Option, Some, None, inr}
use mathlib.Core.Option.{some}
use mathlib.Core.Option as maybe
use lib.ListN.{get_elem?}
use Rattle.spd_words.specs.Plan.{PlanView}
use Rattle.spd_words.specs.Words.{Vertex}
use Rattle.spd_state.specs.Sums.{same, gate, count, put}
use Rattle.spd_state.specs.Dag.{Dag, openings, yet_in, named, opens_in, flies_in, busy}
use Rattle.spd_state.specs.History.{forks_in}
use Rattle.spd_state.specs.Parts.{RootedOk, FlightOk, FlightsOk, OwnOk, Rule}
use Rattle.spd_state.specs.Stages.{end_view, end_vertex}
use Rattle.spd_state.specs.declared.view.Flight.{Flight}
use Rattle.spd_state.specs.declared.view.Draw.TheVariants.{Make}
use Rattle.spd_state.specs.declared.view.View.{View}
use Rattle.spd_state.proofs.Sums.{same_self, same_else, put_here, put_else, total_has}
use Rattle.spd_state.proofs.Makers.{maker_stage}
use Rattle.spd_state.proofs.Rights.{under_itself}
use Rattle.spd_state.proofs.Store.{Stored, store_keeps, runs_beside}
use Rattle.spd_state.proofs.Waiting.{waiting_finishes}

module _ {B : Type 0} (p : PlanView) (a : Dag) (homes : List (maybe.Option (Option B))) (vs : List View) (rule : Rule p a homes vs) (id : ℕ)
    (v : View) (at : get_elem? vs id ≡ some v) where
  -- the make is move 0
  pub make_first : (d f s : ℕ) → v.flight ≡ Some record { draw = Make; number = d; finish = f; stage = s } → d ≡ 0
  make_first d f s flies = (rule.history.makers id v at).first record { draw = Make; number = d; finish = f; stage = s } flies refl

  module _ (flies : v.flight ≡ Some record { draw = Make; number = 0; finish = 0; stage = 2 }) (rest : List ℕ) (slots : v.slots ≡ 1 ∷ rest) where
    abbrev x : Vertex
    x = end_vertex

    abbrev w : View
    w = end_view rest v

    ok : FlightOk p a.trees a.drawn a.nodes a.pairs a.vertices record { draw = Make; number = 0; finish = 0; stage = 2 }
    ok = subst (FlightsOk p a.trees a.drawn a.nodes a.pairs a.vertices) flies (rule.flying id v at)

    own : OwnOk p a.trees v
    own = rule.own id v at

    blank : (a.vertices 1).state ≡ 0
    blank = ap (λ (y : Vertex). y.state) (ok.rest (let e : 0 < 1 = omega arith in e))

    step : Stored p a v w 0 1 x
    step = let low = ok.number in let few = own.few in let b : busy v.flight ≡ 1 = ap busy flies in let sitting = own.sitting in let z = blank in
        record {
          low = omega arith;
          of = inr refl;
          flies = ap (flies_in 0) flies ∙ same_self 0 0 refl;
          begun = ok.begun;
          blank = ok.rest (let e : 0 < 1 = omega arith in e);
          is_stored = omega arith;
          not_started = omega arith;
          rights_gain = λ e. let y : yet_in e v.flight ≡ same e 0 + 0 = ap (yet_in e) flies in omega arith;
          opens_gain = λ e. let s : gate (same 1 (2 * e)) (named e x) ≡ 0 = ap (λ k. gate k (named e x)) (same_else 1 (2 * e) (λ z. omega arith)) in
              let o : opens_in e v.flight ≡ same e 0 = ap (opens_in e) flies in omega arith;
          units_same = λ n. refl;
          runs_less = λ k. omega arith;
          flies_less = λ e. let h : flies_in e v.flight ≡ same e 0 = ap (flies_in e) flies in omega arith;
          body_done = λ z. let s = same_self 0 0 refl in absurd (omega arith);
          rest_done = λ z. let s = same_self 0 0 refl in absurd (omega arith);
          slots_less = λ k. let h : count k v.slots ≡ same k 1 + count k rest = ap (count k) slots in omega arith;
          maker = maker_stage v w Make 0 0 2 3 flies refl refl refl (λ z. z) refl (rule.history.makers id v at);
          below_rest = λ e q l z. absurd (omega arith);
          below_body = λ e q. absurd (omega arith);
          end = λ _. refl;
          ready = omega arith;
          forks = sym (ap forks_in flies);
          done = refl;
          fresh = refl;
          starts = refl;
          spawns = refl;
          own = record {
            claims = own.claims;
            rooted = subst (λ (o : Option Flight). RootedOk o v.rooted) flies own.rooted;
            there = own.there;
            lifts = own.lifts;
            single = own.single;
            tells = own.tells;
            spent = λ z. absurd (omega arith);
            few = own.few;
            seated = own.seated;
            sitting = omega arith;
          };
          running = runs_beside p a.trees a.pairs a.vertices 1 x (omega arith) v.running (rule.running id v at);
          flying = record {
            number = ok.number;
            begun = ok.begun;
            finish = ok.finish;
            root_finish = λ _. refl;
            tops = λ _. ok.tops (omega arith);
            root = λ (z : 3 ≡ 0). absurd (omega arith);
            pair = λ (z : 3 < 2). absurd (omega arith);
            below = λ (z : 1 ≡ 0). absurd (omega arith);
            handle = λ x _. ok.handle x (omega arith);
            body = λ _. put_else a.vertices 1 x 0 (λ e. omega arith) ∙ ok.body (let e : 0 < 1 = omega arith in e);
            rest = λ (z : 0 < 0). absurd (omega arith);
            body_there = λ (z : 1 ≡ 0). absurd (omega arith);
            names = λ (z : 1 ≡ 0). absurd (omega arith);
            rest_there = λ _. subst (λ (y : Vertex). 0 < y.state) (sym (put_here a.vertices 1 x 1 refl)) (omega arith);
          };
          draws = refl;
          seats = refl;
          spare = refl;
          finish = ok.number;
          pair = ok.number;
          inc = under_itself p a homes vs rule 0 ok.number;
          above_same = λ n. refl;
          halves_same = λ n. refl;
          trees = rule.trees id v at;
          grows = rule.grows id v at;
          grow_draws = refl;
          full_grows = refl;
          sprout = refl;
          tops = λ n. absurd (n refl);
        }

    is_open : 0 < openings a.vertices vs 0
    is_open = let t = total_has (λ (u : View). opens_in 0 u.flight) vs id v at in let o : opens_in 0 v.flight ≡ same 0 0 = ap (opens_in 0) flies in
        let s = same_self 0 0 refl in omega arith

    pub end_keeps : length homes ≡ 2 * p.moves → Rule p (record a { vertices = put a.vertices 1 x }) (set homes 1 (some None)) (set vs id w)
    end_keeps deep = store_keeps p a homes vs rule id v at w 0 1 x step None (λ n. absurd (n refl)) (λ _. refl) deep is_open
        (waiting_finishes p a homes vs rule id v at w 0 x step ok.number refl refl Make flies refl refl refl)
