-- `set_vertex` of the body of a make or a chain, its last step: the finish is open by the vertex's word from now on, and the share runs nothing.
use Rattle.std.proofs.Common.{◌≡◌, ◌≢◌, ℕ, ◌+◌, ◌*◌, ◌<◌, List, [], ◌∷◌, cond, false, length, set, refl, sym, ap, ◌∙◌, subst, arith, Option, Some}
use Rattle.std.proofs.Common.{None, inl}
use Prim.Native.Nat.{zero, suc}
use mathlib.Core.Option.{some}
use mathlib.Core.Option as maybe
use mathlib.Core.Logic.{dite}
use native.Mathlib.Decide.{ℕ_discrete}
use lib.ListN.{get_elem?}
use Rattle.spd_words.specs.Plan.{PlanView}
use Rattle.spd_words.specs.Words.{Vertex}
use Rattle.spd_state.specs.Sums.{same, gate, times, count, put}
use Rattle.spd_state.specs.Dag.{Dag, stands, not_end, openings, has_right, right_in, yet_of, yet_in, root_of, early_of, root_only, rest_left}
use Rattle.spd_state.specs.Dag.{body_left, named, opens_in, flies_in, early_in}
use Rattle.spd_state.specs.Parts.{RootedOk, FlightOk, FlightsOk, OwnOk, Rule}
use Rattle.spd_state.specs.declared.view.Running.{Running}
use Rattle.spd_state.specs.declared.view.Flight.{Flight}
use Rattle.spd_state.specs.declared.view.Draw.{Draw}
use Rattle.spd_state.specs.declared.view.Draw.TheVariants.{Make, Chain}
use Rattle.spd_state.specs.Stages.{last_view, body_vertex}
use Rattle.spd_state.proofs.Even.{even_finishes}
use Rattle.spd_state.proofs.Makers.{maker_none}
use Rattle.spd_state.specs.History.{fork_of, forks_in, working_of}
use Rattle.spd_state.specs.Dag.{busy}
use Rattle.spd_state.specs.declared.view.View.{View}
use Rattle.spd_state.proofs.Sums.{same_self, same_else, put_here, put_else, total_has}
use Rattle.spd_state.proofs.Store.{Stored, store_keeps}
use Rattle.spd_state.proofs.Rights.{under_itself}

-- what stage 3 of a make or a chain counts for
pub record Closing (draw : Draw) : Type 0 where
  pub yet : yet_of draw 3 ≡ 1
  pub root : root_of draw 3 ≡ 1
  pub early : early_of draw 3 ≡ 0
  pub only : root_only draw 3 ≡ false
  pub body : body_left draw 3 ≡ 1
  pub rest : rest_left draw 3 ≡ 0
  pub fork : fork_of draw 3 ≡ 0
  pub works : working_of draw 3 ≡ 0

pub make_closing : Closing Make
make_closing = record { yet = refl; root = refl; early = refl; only = refl; body = refl; rest = refl; fork = refl; works = refl }

pub chain_closing : Closing Chain
chain_closing = record { yet = refl; root = refl; early = refl; only = refl; body = refl; rest = refl; fork = refl; works = refl }

module _ {B : Type 0} (p : PlanView) (a : Dag) (homes : List (maybe.Option (Option B))) (vs : List View) (rule : Rule p a homes vs) (id : ℕ)
    (v : View) (at : get_elem? vs id ≡ some v)
    (draw : Draw) (kind : Closing draw) (d : ℕ) (flies : v.flight ≡ Some record { draw = draw; number = d; finish = d; stage = 3 }) (rest : List ℕ)
    (slots : v.slots ≡ 2 * d ∷ rest) where
  abbrev i : ℕ
  i = 2 * d

  abbrev x : Vertex
  x = body_vertex d

  abbrev w : View
  w = last_view rest v

  ok : FlightOk p a.trees a.drawn a.nodes a.pairs a.vertices record { draw = draw; number = d; finish = d; stage = 3 }
  ok = subst (FlightsOk p a.trees a.drawn a.nodes a.pairs a.vertices) flies (rule.flying id v at)

  own : OwnOk p a.trees v
  own = rule.own id v at

  -- the maker has neither right nor claimed unit any more
  over : (right_in v.running ≡ 0) × (v.claimed ≡ [])
  over = (rule.history.makers id v at).used record { draw = draw; number = d; finish = d; stage = 3 } flies kind.works

  no_right : (o : Option Running) → right_in o ≡ 0 → (e : ℕ) → has_right e o ≡ 0
  no_right None k e = refl
  no_right (Some r) k e = ap (λ n. gate n (same e r.pair)) k

  not_end_even : (k : ℕ) → not_end (2 * k) ≡ 1
  not_end_even k = go (2 * k) (λ e. omega arith)
    where
      go : (n : ℕ) → n ≢ 1 → not_end n ≡ 1
      go zero n = refl
      go (suc zero) n = absurd (n refl)
      go (suc (suc m)) n = refl

  pub step : Stored p a v w d i x
  step = let low = ok.number in let few = own.few in let kb = kind.body in record {
    low = omega arith;
    of = inl refl;
    flies = ap (flies_in d) flies ∙ same_self d d refl;
    begun = ok.begun;
    blank = ok.body (omega arith);
    is_stored = omega arith;
    not_started = omega arith;
    rights_gain = λ e. let s : stands e i x ≡ same e d = ap (λ k. gate k (same e d)) (not_end_even d) in let h = no_right v.running over.0 e in
        let y : yet_in e v.flight ≡ times (yet_of draw 3) (same e d) = ap (yet_in e) flies in
        let y' : times (yet_of draw 3) (same e d) ≡ same e d + 0 = ap (λ k. times k (same e d)) kind.yet in omega arith;
    opens_gain = λ e. let o : opens_in e v.flight ≡ same e d = ap (opens_in e) flies ∙ ap (λ k. gate k (same e d)) kind.root in dite (ℕ_discrete e d)
        (λ z. let s : gate (same i (2 * e)) (named e x) ≡ named e x = ap (λ k. gate k (named e x)) (same_self i (2 * e) (omega arith)) in omega arith)
        (λ z. let s : gate (same i (2 * e)) (named e x) ≡ 0 = ap (λ k. gate k (named e x)) (same_else i (2 * e) (λ q. z (omega arith))) in
        let n = same_else e d z in omega arith);
    units_same = λ n. refl;
    runs_less = λ k. omega arith;
    flies_less = λ e. omega arith;
    body_done = λ _. subst (λ (y : Vertex). 0 < y.state) (sym (put_here a.vertices i x i refl)) (omega arith);
    rest_done = λ _. subst (λ (y : Vertex). 0 < y.state) (sym (put_else a.vertices i x (2 * d + 1) (λ e. omega arith))) (ok.rest_there kind.rest);
    slots_less = λ k. let h : count k v.slots ≡ same k i + count k rest = ap (count k) slots in omega arith;
    maker = maker_none w refl;
    below_rest = λ e q l z. absurd (omega arith);
    below_body = λ e q _. omega arith;
    end = λ e. absurd (omega arith);
    ready = omega arith;
    forks = sym (ap forks_in flies ∙ kind.fork);
    done = refl;
    fresh = refl;
    starts = refl;
    spawns = refl;
    own = record {
      claims = over.1;
      rooted = subst (λ (o : Option Flight). RootedOk o v.rooted) flies own.rooted ∙ ap (λ b. cond b (d ∷ []) []) kind.only;
      there = own.there;
      lifts = own.lifts;
      single = own.single;
      tells = own.tells;
      spent = λ z. let b : busy v.flight ≡ 1 = ap busy flies in let s = own.sitting in absurd (omega arith);
      few = own.few;
      seated = omega arith;
      sitting = omega arith;
    };
    running = tt;
    flying = tt;
    draws = refl;
    seats = refl;
    spare = refl;
    finish = ok.number;
    pair = ok.number;
    inc = under_itself p a homes vs rule d ok.number;
    above_same = λ n. refl;
    halves_same = λ n. refl;
    trees = rule.trees id v at;
    grows = rule.grows id v at;
    grow_draws = refl;
    full_grows = refl;
    sprout = refl;
    tops = λ _. ok.tops (omega arith);
  }

  is_open : 0 < openings a.vertices vs d
  is_open = let t = total_has (λ (u : View). opens_in d u.flight) vs id v at in let o : opens_in d v.flight ≡ same d d = ap (opens_in d) flies
      ∙ ap (λ k. gate k (same d d)) kind.root in let s = same_self d d refl in omega arith

  pub last_body_keeps : (b : B) → length homes ≡ 2 * p.moves → Rule p (record a { vertices = put a.vertices i x }) (set homes i (some (Some b)))
      (set vs id w)
  last_body_keeps b deep = store_keeps p a homes vs rule id v at w d i x step (Some b) (λ _. (b, refl)) (λ e. absurd (omega arith)) deep is_open
      (even_finishes p a homes vs rule id v at w d d x step refl (λ f. sym (ap (early_in f) flies ∙ ap (λ k. gate k (same f d)) kind.early)))
