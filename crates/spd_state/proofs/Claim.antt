-- `claim` keeps the rule.
use Rattle.std.proofs.Common.{◌≡◌, ℕ, ◌+◌, ◌*◌, ◌<◌, ◌≤◌, List, [], length, set, refl, sym, ap, ◌∙◌, subst, arith, Option, Some, None}
use mathlib.Core.Option.{some}
use mathlib.Core.Option as maybe
use mathlib.Core.Logic.{dite}
use native.Mathlib.Decide.{dec_lt}
use lib.ListN.{get_elem?}
use Rattle.spd_words.specs.Plan.{PlanView}
use Rattle.spd_words.specs.Words.{Pair}
use Rattle.spd_state.specs.Sums.{same, count, put}
use Rattle.spd_state.specs.Dag.{Dag, handles, next_handle, runners, flights, earlies, tellers, holders, units, rights, openings, right_of, units_of}
use Rattle.spd_state.specs.Dag.{load_of, runs_it, named, opens_in, flies_in, early_in, busy}
use Rattle.spd_state.specs.Parts.{Tops, RunOk, RunsOk, FlightsOk, OwnOk, Rule, MoveRule, no_pair}
use Rattle.spd_state.specs.Steps.{claim_pair, claim_view}
use Rattle.spd_state.specs.declared.view.Running.{Running}
use Rattle.spd_state.specs.declared.view.Flight.{Flight}
use Rattle.spd_state.proofs.Makers.{maker_claims}
use Rattle.spd_state.proofs.Past.{past_pair}
use Rattle.spd_state.specs.declared.view.View.{View}
use Rattle.spd_state.proofs.Sums.{same_self, same_else, same_means, put_case, sum_put, total_set, total_kept, each_set, each_kept}
use Rattle.spd_state.proofs.Frames.{moves_kept, runs_kept, live_kept, counts_kept, finishes_kept, slots_kept, marks_kept}
use Rattle.spd_state.proofs.Rights.{running_ok, pair_inside, right_counts, unclaimed, left, none_yet, handle_under}
use Rattle.spd_state.specs.Tree.{Trees, Under, TreeOk}
use Rattle.spd_state.specs.Dag.{halves, half_of, aboves, above_of, claimed_units, claimed_above}
use Rattle.spd_state.specs.Parts.{GrowsOk}
use Rattle.spd_state.proofs.Frames.{bare_kept, growth_view, starts_kept}
use Rattle.spd_state.proofs.Rights.{claimed_none, above_none}

pub claim_tops : (p : PlanView) (t : Trees) (f : ℕ) (q : Pair) → Tops p t f q → Tops p t f (claim_pair q)
claim_tops p t f q h = record { first = h.first; second = h.second }

module _ {B : Type 0} (p : PlanView) (a : Dag) (homes : List (maybe.Option (Option B))) (vs : List View) (rule : Rule p a homes vs) (id : ℕ)
    (v : View) (at : get_elem? vs id ≡ some v)
    (r : Running) (is : v.running ≡ Some r) (mine : r.right ≡ 1) (room : load_of v < 66) where
  abbrev q : Pair
  q = a.pairs r.pair

  abbrev w : View
  w = claim_view r q v

  abbrev after : List View
  after = set vs id w

  abbrev pairs' : ℕ → Pair
  pairs' = put a.pairs r.pair (claim_pair q)

  abbrev a' : Dag
  a' = record a { pairs = pairs' }

  abbrev h : ℕ
  h = next_handle q

  inside : r.pair < p.moves
  inside = pair_inside p a homes vs rule id v at r is

  more : q.claims < q.total
  more = unclaimed p a homes vs rule id v at r is mine

  at_finish : Under p a.trees r.finish h
  at_finish = handle_under p a homes vs rule id v at r is mine

  no_claim : v.claimed ≡ []
  no_claim = none_yet p a homes vs rule id v at r is mine

  ok : RunOk p a.trees a.pairs a.vertices r
  ok = running_ok p a homes vs rule id v at r is

  own : OwnOk p a.trees v
  own = rule.own id v at

  rights' : (d : ℕ) → rights p a.vertices after d + same d r.pair ≡ rights p a.vertices vs d
  rights' d = let t = total_set (right_of d) vs id v w at in let c = right_counts p a homes vs rule id v at r is mine d in omega arith

  units' : (n : ℕ) → units p (record a { pairs = pairs' }) after n ≡ units p a vs n
  units' n = let s = sum_put p.moves (λ (d : ℕ) (x : Pair). count n (handles x)) a.pairs r.pair (claim_pair q) inside in
      let t = total_set (units_of a.trees n) vs id v w at in
      let c : count n (handles q) ≡ same n h + count n (handles (claim_pair q)) = ap (count n) (left p a homes vs rule id v at r is mine) in
      let e : claimed_units a.trees n v.lifted v.claimed ≡ 0 = ap (claimed_units a.trees n v.lifted) no_claim ∙ claimed_none a.trees n v.lifted in
      omega arith

  openings' : (n : ℕ) → openings a.vertices after n ≡ openings a.vertices vs n
  openings' n = ap (λ k. named n (a.vertices (2 * n)) + k) (total_kept (λ (x : View). opens_in n x.flight) vs id v w at refl)

  own' : OwnOk p a.trees w
  own' = let c : length v.claimed ≡ 0 = ap length no_claim in let b : busy v.running ≡ 1 = ap busy is in let s = own.seated in let few = own.few in
      record {
        rooted = own.rooted;
        claims = ((λ (z : 0 ≡ 1). absurd (omega arith)), λ n z. subst (Under p a.trees r.finish) (sym (same_means n h (omega arith))) at_finish);
        there = own.there;
        lifts = λ n z. own.lifts n (omega arith);
        single = omega arith;
        tells = own.tells;
        spent = λ z. absurd (omega arith);
        few = omega arith;
        seated = omega arith;
        sitting = own.sitting;
      }

  runs_tops : (o : Option Running) → RunsOk p a.trees a.pairs a.vertices o → RunsOk p a.trees pairs' a.vertices o
  runs_tops None k = tt
  runs_tops (Some x) k = record {
    vertex = k.vertex;
    word = k.word;
    right = k.right;
    other = k.other;
    tops = λ z. put_case (Tops p a.trees x.finish) a.pairs r.pair (claim_pair q) x.pair
        (λ e. claim_tops p a.trees x.finish q (subst (λ d. Tops p a.trees x.finish (a.pairs d)) e (k.tops z))) (λ _. k.tops z);
  }

  flies : (o : Option Flight) → FlightsOk p a.trees a.drawn a.nodes a.pairs a.vertices o → FlightsOk p a.trees a.drawn a.nodes pairs' a.vertices o
  flies None k = tt
  flies (Some f) k = record {
    number = k.number;
    begun = k.begun;
    root = k.root;
    body = k.body;
    rest = k.rest;
    finish = k.finish;
    root_finish = k.root_finish;
    below = k.below;
    handle = λ x y. put_case (λ (z : Pair). (z.first ≡ f.number) × (z.total ≡ 1)) a.pairs r.pair (claim_pair q) f.number
        (λ e. subst (λ d. ((a.pairs d).first ≡ f.number) × ((a.pairs d).total ≡ 1)) e (k.handle x y)) (λ _. k.handle x y);
    body_there = k.body_there;
    names = k.names;
    rest_there = k.rest_there;
    tops = λ z. put_case (Tops p a.trees f.finish) a.pairs r.pair (claim_pair q) f.number
        (λ e. claim_tops p a.trees f.finish q (subst (λ d. Tops p a.trees f.finish (a.pairs d)) e (k.tops z))) (λ _. k.tops z);
    pair = λ z. put_case (λ x. x ≡ no_pair) a.pairs r.pair (claim_pair q) f.number
        (λ e. let b : q.total ≡ 0 = ap (λ d. (a.pairs d).total) (sym e) ∙ ap (λ (x : Pair). x.total) (k.pair z) in let u = more in
        absurd (omega arith)) (λ _. k.pair z);
  }

  begun : r.pair < a.drawn
  begun = dite (dec_lt r.pair a.drawn) (λ z. z) (λ z. let b : q.total ≡ 0 =
      ap (λ (x : Pair). x.total) (rule.moves.blank_pair r.pair inside (omega arith)) in let u = more in absurd (omega arith))

  moves' : MoveRule p.moves a.drawn a.nodes pairs' a.vertices (flights after)
  moves' = let h = moves_kept p.moves a.drawn a.nodes a.pairs a.vertices (flights vs) (flights after)
      (λ d. total_kept (λ (u : View). flies_in d u.flight) vs id v w at refl) rule.moves in record {
        blank_root = h.blank_root;
        blank_body = h.blank_body;
        blank_rest = h.blank_rest;
        grounded = h.grounded;
        alone = h.alone;
        body_there = h.body_there;
        rest_there = h.rest_there;
        blank_pair = λ d l b. put_case (λ x. x ≡ no_pair) a.pairs r.pair (claim_pair q) d (λ e. let g = begun in absurd (omega arith))
            (λ _. h.blank_pair d l b);
      }

  pub claim_keeps : Rule p a' homes after
  claim_keeps = record {
    own = each_kept (OwnOk p a.trees) vs id w own' rule.own;
    running = each_set (λ (u : View). RunsOk p a.trees a.pairs a.vertices u.running)
        (λ (u : View). RunsOk p a.trees pairs' a.vertices u.running) vs id w
        record {
          vertex = ok.vertex;
          word = ok.word;
          right = omega arith;
          other = λ (z : 0 ≡ 1). absurd (omega arith);
          tops = λ (z : 0 ≡ 1). absurd
              (omega arith);
        } rule.running (λ j u _ _ k. runs_tops u.running k);
    flying = each_set (λ (u : View). FlightsOk p a.trees a.drawn a.nodes a.pairs a.vertices u.flight)
        (λ (u : View). FlightsOk p a.trees a.drawn a.nodes pairs' a.vertices u.flight) vs id w
        (flies v.flight (rule.flying id v at)) rule.flying (λ j u _ _ k. flies u.flight k);
    moves = moves';
    marks = marks_kept p.moves a.drawn vs id v w at refl refl refl rule.marks;
    starts = starts_kept p.moves a.vertices vs id v w at refl refl rule.starts;
    runs = runs_kept p.moves a.vertices (runners vs) (runners after)
        (λ x. total_kept (λ (u : View). runs_it x u.running) vs id v w at (ap (runs_it x) (sym is))) rule.runs;
    live = live_kept p a.trees (openings a.vertices vs) (openings a.vertices after) (units p a vs)
        (units p (record a { pairs = pairs' }) after) a.vertices openings' units' rule.live;
    counts = counts_kept p.moves p.grown a.nodes (units p a vs) (units p (record a { pairs = pairs' }) after) (halves vs) (halves after) units'
        (λ n. total_kept (half_of n) vs id v w at refl) rule.counts;
    balances = record {
      balance = λ d l. let e = rights' d in let b = rule.balances.balance d l in
          put_case (λ (x : Pair). x.claims + rights p a.vertices after d ≡ x.total) a.pairs r.pair (claim_pair q) d
          (λ k. let s = same_self d r.pair k in let c : (a.pairs d).claims ≡ q.claims = ap (λ j. (a.pairs j).claims) k in
          let t : (a.pairs d).total ≡ q.total = ap (λ j. (a.pairs j).total) k in omega arith) (λ k. let s = same_else d r.pair k in omega arith);
      most = λ d l. put_case (λ (x : Pair). x.total ≤ 2) a.pairs r.pair (claim_pair q) d (λ k. rule.balances.most r.pair inside)
          (λ k. rule.balances.most d l);
      pair = rule.balances.pair;
      tops = λ x l s t n. let k = rule.balances.tops x l s t n in put_case (Tops p a.trees (a.vertices x).finish) a.pairs r.pair (claim_pair q)
          (a.vertices x).pair (λ e. claim_tops p a.trees (a.vertices x).finish q (subst (λ d. Tops p a.trees (a.vertices x).finish (a.pairs d)) e k))
          (λ _. k);
    };
    finishes = finishes_kept p.moves a.vertices (openings a.vertices vs) (openings a.vertices after) (units p a vs)
        (units p (record a { pairs = pairs' }) after) (tellers vs) (tellers after) (earlies vs) (earlies after) openings'
        (λ f l. ((λ z. sym (units' f) ∙ z), (λ z. units' f ∙ z)))
        (λ f. total_kept (λ (u : View). count f u.told) vs id v w at refl)
        (λ f. total_kept (λ (u : View). early_in f u.flight) vs id v w at refl) rule.finishes;
    slots = slots_kept p.moves a.drawn a.vertices (holders vs) (holders after) homes
        (λ x. total_kept (λ (u : View). count x u.slots) vs id v w at refl) rule.slots;
    plan = rule.plan;
    history = past_pair p a vs rule.history id v at w (maker_claims v r is mine q (rule.history.makers id v at)) openings'
        (let b : runs_it 1 v.running ≡ same 1 r.vertex = ap (runs_it 1) is in omega arith) refl refl r.pair (claim_pair q) inside refl refl refl;
    forest = rule.forest;
    bare = bare_kept p a.trees (openings a.vertices vs) (openings a.vertices after) a.nodes (halves vs) (halves after) (aboves vs) (aboves after)
        (λ f z. sym (openings' f) ∙ z) (λ n. total_kept (half_of n) vs id v w at refl)
        (λ n. total_kept (above_of n) vs id v w at (ap (λ j. count n v.above + j)
        (sym (ap (claimed_above v.lifted n) no_claim ∙ above_none n v.lifted)))) rule.bare;
    trees = each_kept (λ (u : View). TreeOk p a.trees a.nodes u.known u.links u.halves u.sprout) vs id w (rule.trees id v at) rule.trees;
    growth = growth_view p a.trees a.bred vs id v w at refl refl refl rule.growth;
    grows = each_kept (λ (u : View). GrowsOk p a.bred u.grow_draws u.full_grows u.spawns u.seats) vs id w (rule.grows id v at) rule.grows;
  }
