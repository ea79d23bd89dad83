-- `set_pair` of a make or a chain: the unit of its root becomes the pair's only handle.
use Rattle.std.proofs.Common.{◌≡◌, ℕ, ◌+◌, ◌<◌, List, [], ◌∷◌, cond, true, false, length, set, refl, sym, ap, ◌∙◌, subst, arith, Option, Some}
use mathlib.Core.Option.{some}
use mathlib.Core.Option as maybe
use lib.ListN.{get_elem?}
use Rattle.spd_words.specs.Plan.{PlanView}
use Rattle.spd_words.specs.Words.{Pair}
use Rattle.spd_state.specs.Sums.{same, gate, times, count, put}
use Rattle.spd_state.specs.Dag.{Dag, yet_of, yet_in, root_of, early_of, root_only, body_left, rest_left, opens_in, flies_in, early_in, busy}
use Rattle.spd_state.specs.History.{fork_of, forks_in, working_of}
use Rattle.spd_state.specs.Parts.{Tops, RootedOk, FlightOk, FlightsOk, OwnOk, Rule}
use Rattle.spd_state.specs.Stages.{root_pair, handed_view}
use Rattle.spd_state.specs.declared.view.Flight.{Flight}
use Rattle.spd_state.specs.declared.view.Draw.{Draw}
use Rattle.spd_state.specs.declared.view.Draw.TheVariants.{Make, Chain}
use Rattle.spd_state.specs.declared.view.View.{View}
use Rattle.spd_state.proofs.Sums.{same_self, same_else, put_here}
use Rattle.spd_state.proofs.Makers.{maker_stage}
use Rattle.spd_state.proofs.Rights.{under_itself}
use Rattle.spd_state.proofs.Pairing.{SetsPair, pair_keeps}

-- what the stages 1 and 2 of a make or a chain count for
pub record Hands (draw : Draw) : Type 0 where
  pub yet_1 : yet_of draw 1 ≡ 0
  pub yet_2 : yet_of draw 2 ≡ 1
  pub root_1 : root_of draw 1 ≡ 1
  pub root_2 : root_of draw 2 ≡ 1
  pub early_1 : early_of draw 1 ≡ 1
  pub early_2 : early_of draw 2 ≡ 1
  pub only_1 : root_only draw 1 ≡ true
  pub only_2 : root_only draw 2 ≡ false
  pub body_1 : body_left draw 1 ≡ 1
  pub body_2 : body_left draw 2 ≡ 1
  pub rest_1 : rest_left draw 1 ≡ 1
  pub rest_2 : rest_left draw 2 ≡ 1
  pub fork_1 : fork_of draw 1 ≡ 0
  pub fork_2 : fork_of draw 2 ≡ 0
  pub works : working_of draw 2 ≡ working_of draw 1

pub make_hands : Hands Make
make_hands = record {
  yet_1 = refl;
  yet_2 = refl;
  root_1 = refl;
  root_2 = refl;
  early_1 = refl;
  early_2 = refl;
  only_1 = refl;
  only_2 = refl;
  body_1 = refl;
  body_2 = refl;
  rest_1 = refl;
  rest_2 = refl;
  fork_1 = refl;
  fork_2 = refl;
  works = refl;
}

pub chain_hands : Hands Chain
chain_hands = record {
  yet_1 = refl;
  yet_2 = refl;
  root_1 = refl;
  root_2 = refl;
  early_1 = refl;
  early_2 = refl;
  only_1 = refl;
  only_2 = refl;
  body_1 = refl;
  body_2 = refl;
  rest_1 = refl;
  rest_2 = refl;
  fork_1 = refl;
  fork_2 = refl;
  works = refl;
}

module _ {B : Type 0} (p : PlanView) (a : Dag) (homes : List (maybe.Option (Option B))) (vs : List View) (rule : Rule p a homes vs) (id : ℕ)
    (v : View) (at : get_elem? vs id ≡ some v)
    (draw : Draw) (kind : Hands draw) (d code : ℕ) (flies : v.flight ≡ Some record { draw = draw; number = d; finish = d; stage = 1 }) where
  abbrev x : Pair
  x = root_pair d code

  abbrev w : View
  w = handed_view draw d v

  ok : FlightOk p a.trees a.drawn a.nodes a.pairs a.vertices record { draw = draw; number = d; finish = d; stage = 1 }
  ok = subst (FlightsOk p a.trees a.drawn a.nodes a.pairs a.vertices) flies (rule.flying id v at)

  own : OwnOk p a.trees v
  own = rule.own id v at

  has_root : v.rooted ≡ d ∷ []
  has_root = subst (λ (o : Option Flight). RootedOk o v.rooted) flies own.rooted ∙ ap (λ b. cond b (d ∷ []) []) kind.only_1

  own' : OwnOk p a.trees w
  own' = let few = own.few in let l : length v.rooted ≡ 1 = ap length has_root in let b : busy v.flight ≡ 1 = ap busy flies in let s = own.sitting in
      record {
        claims = own.claims;
        rooted = sym (ap (λ b. cond b (d ∷ []) []) kind.only_2);
        there = own.there;
        lifts = own.lifts;
        single = own.single;
        tells = own.tells;
        spent = λ z. absurd (omega arith);
        few = omega arith;
        seated = own.seated;
        sitting = omega arith;
      }

  step : SetsPair p a v w d x
  step = record {
    low = ok.number;
    begun = ok.begun;
    blank = ok.pair (let e : 1 < 2 = omega arith in e);
    unclaimed = refl;
    most = omega arith;
    mine = ap (flies_in d) flies ∙ same_self d d refl;
    rights_gain = λ e. let o : yet_in e v.flight ≡ 0 = ap (yet_in e) flies ∙ ap (λ k. times k (same e d)) kind.yet_1 in
        let n : yet_in e w.flight ≡ times 1 (same e d) = ap (λ k. times k (same e d)) kind.yet_2 in omega arith;
    units_same = λ n. let c : count n v.rooted ≡ same n d + 0 = ap (count n) has_root in omega arith;
    opens_same = λ e. ap (λ k. gate k (same e d)) (kind.root_2 ∙ sym kind.root_1) ∙ sym (ap (opens_in e) flies);
    early_same = λ e. ap (λ k. gate k (same e d)) (kind.early_2 ∙ sym kind.early_1) ∙ sym (ap (early_in e) flies);
    flies_same = λ e. sym (ap (flies_in e) flies);
    forks = let e : forks_in v.flight ≡ 0 = ap forks_in flies ∙ kind.fork_1 in let n = kind.fork_2 in
        let t : same 2 x.total ≡ 0 = same_else 2 1 (λ e. absurd (omega arith)) in omega arith;
    above_same = λ n. refl;
    halves_same = λ n. refl;
    told = refl;
    slots = refl;
    runs = refl;
    own = own';
    maker = maker_stage v w draw d d 1 2 flies refl refl refl (λ z. z) kind.works (rule.history.makers id v at);
    flying = record {
      number = ok.number;
      begun = ok.begun;
      finish = ok.finish;
      root_finish = λ _. refl;
      below = ok.below;
      handle = λ _ _. subst (λ (q : Pair). (q.first ≡ d) × (q.total ≡ 1)) (sym (put_here a.pairs d x d refl)) (refl, refl);
      body_there = λ z. let b = kind.body_2 in absurd (omega arith);
      names = λ z. let b = kind.body_2 in absurd (omega arith);
      rest_there = λ z. let b = kind.rest_2 in absurd (omega arith);
      body = λ _. ok.body (let b = kind.body_1 in omega arith);
      rest = λ _. ok.rest (let b = kind.rest_1 in omega arith);
      root = λ (z : 2 ≡ 0). absurd (omega arith);
      pair = λ (z : 2 < 2). absurd (omega arith);
      tops = λ _. subst (Tops p a.trees d) (sym (put_here a.pairs d x d refl)) record {
        first = under_itself p a homes vs rule d ok.number;
        second = λ
            (z : 1 ≡ 2). absurd (omega arith);
      };
    };
    trees = rule.trees id v at;
    grows = rule.grows id v at;
    full_draws = refl;
    seats = refl;
    spare = refl;
    grow_draws = refl;
    full_grows = refl;
    sprout = refl;
    fresh = refl;
    starts = refl;
    ready = refl;
    done = refl;
    spawns = refl;
  }

  pub handed_keeps : Rule p (record a { pairs = put a.pairs d x }) homes (set vs id w)
  handed_keeps = pair_keeps p a homes vs rule id v at w d x step
