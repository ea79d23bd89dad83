-- `set_pair` of a spawn: the claimed unit and another one become the handles, and both vertices have a right to come.
use Rattle.std.proofs.Common.{◌≡◌, ℕ, ◌+◌, ◌<◌, List, [], ◌∷◌, length, set, refl, sym, ap, ◌∙◌, subst, arith, Option, Some, None}
use mathlib.Core.Option.{some}
use mathlib.Core.Option as maybe
use mathlib.Core.Logic.{dite}
use native.Mathlib.Decide.{ℕ_discrete}
use lib.ListN.{get_elem?}
use Rattle.spd_words.specs.Plan.{PlanView}
use Rattle.spd_words.specs.Words.{Pair}
use Rattle.spd_words.specs.Meaning.{Promise}
use Rattle.spd_state.specs.Sums.{same, count, put}
use Rattle.spd_state.specs.Tree.{Under}
use Rattle.spd_state.specs.Dag.{Dag, yet_in, opens_in, flies_in, early_in, busy, right_in, claimed_units, claimed_above}
use Rattle.spd_state.specs.History.{forks_in}
use Rattle.spd_state.specs.Parts.{Tops, ClaimsOk, RootedOk, FlightOk, FlightsOk, OwnOk, Rule}
use Rattle.spd_state.specs.Stages.{spawn_pair, paired_view}
use Rattle.spd_state.specs.declared.view.Running.{Running}
use Rattle.spd_state.specs.declared.view.Flight.{Flight}
use Rattle.spd_state.specs.declared.view.Draw.TheVariants.{Spawn}
use Rattle.spd_state.specs.declared.view.View.{View}
use Rattle.spd_state.proofs.Sums.{same_self, put_here}
use Rattle.spd_state.proofs.Makers.{maker_used}
use Rattle.spd_state.proofs.Rights.{running_ok}
use Rattle.spd_state.proofs.Settle.{count_without, length_without}
use Rattle.spd_state.proofs.Pairing.{SetsPair, pair_keeps}

module _ {B : Type 0} (p : PlanView) (a : Dag) (homes : List (maybe.Option (Option B))) (vs : List View) (rule : Rule p a homes vs) (id : ℕ)
    (v : View) (at : get_elem? vs id ≡ some v)
    (d u c h : ℕ) (flies : v.flight ≡ Some record { draw = Spawn; number = d; finish = u; stage = 0 }) (has_claim : v.claimed ≡ c ∷ [])
    (has_other : 0 < count h v.held) (flat : v.lifted ≡ 0) (at_h : Under p a.trees u h) (left right : Promise) where
  abbrev f : Flight
  f = record { draw = Spawn; number = d; finish = u; stage = 0 }

  abbrev x : Pair
  x = spawn_pair c h

  abbrev w : View
  w = paired_view f h left right v

  ok : FlightOk p a.trees a.drawn a.nodes a.pairs a.vertices f
  ok = subst (FlightsOk p a.trees a.drawn a.nodes a.pairs a.vertices) flies (rule.flying id v at)

  own : OwnOk p a.trees v
  own = rule.own id v at

  -- the claimed unit comes in the right's place, and lies under the maker's finish
  claimed_by : (o : Option Running) → v.running ≡ o → (right_in o ≡ 0) × Under p a.trees u c
  claimed_by None e = let none : v.claimed ≡ [] = subst (λ (o : Option Running). ClaimsOk p a.trees o v.claimed) e own.claims in
      let z : length v.claimed ≡ 0 = ap length none in let n : length v.claimed ≡ 1 = ap length has_claim in absurd (omega arith)
  claimed_by (Some r) e = let k = running_ok p a homes vs rule id v at r e in let le = k.right in
      let c' = subst (λ (o : Option Running). ClaimsOk p a.trees o v.claimed) e own.claims in let n : length v.claimed ≡ 1 = ap length has_claim in (
        dite (ℕ_discrete r.right 1) (λ one. let z : length v.claimed ≡ 0 = ap length (c'.0 one) in absurd (omega arith)) (λ z. omega arith),
        subst (λ (k : ℕ). Under p a.trees k c) (sym ((rule.history.makers id v at).of f r flies e refl))
            (c'.1 c (let s = same_self c c refl in let q : count c v.claimed ≡ same c c + 0 = ap (count c) has_claim in omega arith)),
      )

  own' : OwnOk p a.trees w
  own' = let few = own.few in let l = length_without h v.held has_other in let k : length v.claimed ≡ 1 = ap length has_claim in
      let b : busy v.flight ≡ 1 = ap busy flies in let s = own.sitting in record {
        claims = none v.running own.claims;
        rooted = subst (λ (o : Option Flight). RootedOk o v.rooted) flies own.rooted;
        there = λ n z. let l = count_without n h v.held has_other in own.there n (omega arith);
        lifts = λ n z. own.lifts n (omega arith);
        single = omega arith;
        tells = own.tells;
        spent = λ z. absurd (omega arith);
        few = omega arith;
        seated = own.seated;
        sitting = omega arith;
      }
    where
      none : (o : Option Running) → ClaimsOk p a.trees o v.claimed → ClaimsOk p a.trees o []
      none None k = refl
      none (Some r) k = ((λ _. refl), λ n (z : 0 < 0). absurd (omega arith))

  step : SetsPair p a v w d x
  step = record {
    low = ok.number;
    begun = ok.begun;
    blank = ok.pair (let e : 0 < 2 = omega arith in e);
    unclaimed = refl;
    most = omega arith;
    mine = ap (flies_in d) flies ∙ same_self d d refl;
    rights_gain = λ e. let o : yet_in e v.flight ≡ 0 = ap (yet_in e) flies in omega arith;
    units_same = λ n. let k : claimed_units a.trees n v.lifted v.claimed ≡ same n c + 0 = (λ i. claimed_units a.trees n (flat i) (has_claim i)) in
        let l = count_without n h v.held has_other in omega arith;
    opens_same = λ e. sym (ap (opens_in e) flies);
    early_same = λ e. sym (ap (early_in e) flies);
    flies_same = λ e. sym (ap (flies_in e) flies);
    forks = let e : forks_in v.flight ≡ 1 = ap forks_in flies in let t : same 2 x.total ≡ 1 = same_self 2 2 refl in omega arith;
    above_same = λ n. ap (λ j. count n v.above + j) (sym (ap (λ j. claimed_above j n v.claimed) flat));
    halves_same = λ n. refl;
    told = refl;
    slots = refl;
    runs = refl;
    own = own';
    maker = maker_used v w Spawn d u 0 2 flies refl (λ e. absurd (cc)) refl (λ y e. (y, e, refl)) (claimed_by v.running refl).0 refl
        (λ z. z) (rule.history.makers id v at);
    flying = record {
      number = ok.number;
      begun = ok.begun;
      finish = ok.finish;
      root_finish = ok.root_finish;
      below = ok.below;
      handle = λ (z : 0 ≡ 1). absurd (omega arith);
      body_there = λ (z : 1 ≡ 0). absurd (omega arith);
      names = λ (z : 1 ≡ 0). absurd (omega arith);
      rest_there = λ (z : 1 ≡ 0). absurd (omega arith);
      body = λ _. ok.body (let e : 0 < 1 = omega arith in e);
      rest = λ _. ok.rest (let e : 0 < 1 = omega arith in e);
      root = λ (z : 2 ≡ 0). absurd (omega arith);
      pair = λ (z : 2 < 2). absurd (omega arith);
      tops = λ _. subst (Tops p a.trees u) (sym (put_here a.pairs d x d refl)) record { first = (claimed_by v.running refl).1; second = λ _. at_h };
    };
    trees = rule.trees id v at;
    grows = rule.grows id v at;
    full_draws = refl;
    seats = refl;
    spare = refl;
    grow_draws = refl;
    full_grows = refl;
    sprout = refl;
    fresh = refl;
    starts = refl;
    ready = refl;
    done = refl;
    spawns = refl;
  }

  pub paired_keeps : Rule p (record a { pairs = put a.pairs d x }) homes (set vs id w)
  paired_keeps = pair_keeps p a homes vs rule id v at w d x step
