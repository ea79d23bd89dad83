-- `draw_move` that finds no move left keeps the rule, and so does any higher number of drawn moves what flights say.
use Rattle.std.proofs.Common.{◌≡◌, ℕ, ◌+◌, ◌<◌, ◌≤◌, List, set, refl, sym, ◌∙◌, arith, Option, Some, None}
use mathlib.Core.Option.{some, none}
use mathlib.Core.Option as maybe
use lib.ListN.{get_elem?}
use Rattle.spd_words.specs.Plan.{PlanView}
use Rattle.spd_state.specs.Sums.{count, total}
use Rattle.spd_state.specs.Dag.{Dag, runners, flights, earlies, tellers, holders, units, rights, openings, right_of}
use Rattle.spd_state.specs.Dag.{units_of, runs_it, opens_in, flies_in, early_in}
use Rattle.spd_state.specs.Parts.{RunsOk, FlightsOk, OwnOk, Rule}
use Rattle.spd_state.specs.Stages.{full_view}
use Rattle.spd_state.specs.declared.view.Flight.{Flight}
use Rattle.spd_state.proofs.Makers.{maker_alike}
use Rattle.spd_state.proofs.Past.{made, past_drawn}
use Rattle.spd_state.specs.declared.view.View.{View}
use Rattle.spd_state.proofs.Sums.{total_set, total_kept, each_set, each_kept}
use Rattle.spd_state.proofs.Frames.{moves_kept, runs_kept, live_kept, counts_kept, balances_kept, finishes_kept, slots_kept}
use Rattle.spd_state.specs.Tree.{TreeOk}
use Rattle.spd_state.specs.Dag.{halves, half_of, aboves, above_of}
use Rattle.spd_state.specs.Parts.{GrowsOk}
use Rattle.spd_state.proofs.Frames.{bare_kept, growth_view, starts_kept}

-- a later drawn number keeps what flights say
pub later : (p : PlanView) (a : Dag) (o : Option Flight) → FlightsOk p a.trees a.drawn a.nodes a.pairs a.vertices o
    → FlightsOk p a.trees (a.drawn + 1) a.nodes a.pairs a.vertices o
later p a None k = tt
later p a (Some f) k = record {
  number = k.number;
  begun = let b = k.begun in omega arith;
  root = k.root;
  pair = k.pair;
  body = k.body;
  rest = k.rest;
  finish = k.finish;
  tops = k.tops;
  root_finish = k.root_finish;
  below = k.below;
  handle = k.handle;
  body_there = k.body_there;
  names = k.names;
  rest_there = k.rest_there;
}

module _ {B : Type 0} (p : PlanView) (a : Dag) (homes : List (maybe.Option (Option B))) (vs : List View) (rule : Rule p a homes vs) (id : ℕ)
    (v : View) (at : get_elem? vs id ≡ some v) (seated : 0 < v.seats) where
  own : OwnOk p a.trees v
  own = rule.own id v at

  -- there was no move left
  module _ (unmarked : v.full_draws ≡ 0) (full : p.moves ≤ a.drawn) where
    abbrev f : View
    f = full_view v

    pub full_keeps : Rule p (record a { drawn = a.drawn + 1 }) homes (set vs id f)
    full_keeps = let after : List View = set vs id f in
        let units' : (n : ℕ) → units p a after n ≡ units p a vs n = λ n. let t = total_kept (units_of a.trees n) vs id v f at refl in omega arith in
        let openings' : (d : ℕ) → openings a.vertices after d ≡ openings a.vertices vs d = λ d. let t =
        total_kept (λ (u : View). opens_in d u.flight) vs id v f at refl in omega arith in
        let m = moves_kept p.moves a.drawn a.nodes a.pairs a.vertices (flights vs) (flights after)
        (λ d. total_kept (λ (u : View). flies_in d u.flight) vs id v f at refl) rule.moves in
        let s = slots_kept p.moves a.drawn a.vertices (holders vs) (holders after) homes
        (λ x. total_kept (λ (u : View). count x u.slots) vs id v f at refl) rule.slots in record {
          own = each_kept (OwnOk p a.trees) vs id f record {
            claims = own.claims;
            rooted = own.rooted;
            there = own.there;
            lifts = own.lifts;
            single = own.single;
            tells = own.tells;
            spent = λ z. absurd (omega arith);
            few = own.few;
            seated = own.seated;
            sitting = own.sitting;
          } rule.own;
          running = each_kept (λ (u : View). RunsOk p a.trees a.pairs a.vertices u.running) vs id f (rule.running id v at) rule.running;
          flying = each_set (λ (u : View). FlightsOk p a.trees a.drawn a.nodes a.pairs a.vertices u.flight)
              (λ (u : View). FlightsOk p a.trees (a.drawn + 1) a.nodes a.pairs a.vertices u.flight) vs id f
              (later p a v.flight (rule.flying id v at)) rule.flying (λ j u _ _ k. later p a u.flight k);
          moves = record {
            blank_root = λ d l b. absurd (omega arith);
            blank_pair = λ d l b. absurd (omega arith);
            blank_body = λ d l b. absurd (omega arith);
            blank_rest = λ d l b. absurd (omega arith);
            grounded = λ d l b. absurd (omega arith);
            alone = m.alone;
            body_there = λ d l b z. m.body_there d l (omega arith) z;
            rest_there = λ d l b z. m.rest_there d l (omega arith) z;
          };
          marks = let t = total_set (λ (u : View). u.full_draws) vs id v f at in let most = rule.marks.most in record {
            most = omega arith;
            passed = each_set (λ (u : View). 0 < u.full_draws → p.moves < a.drawn) (λ (u : View). 0 < u.full_draws → p.moves < a.drawn + 1) vs id f
                (λ z. omega arith) rule.marks.passed (λ j u _ _ k z. let g = k z in omega arith);
            by_seats = each_kept (λ (u : View). u.full_draws ≤ u.seats) vs id f (omega arith) rule.marks.by_seats;
            seats = let k = total_kept (λ (u : View). u.seats + u.spare) vs id v f at refl in let h = rule.marks.seats in omega arith;
          };
          starts = starts_kept p.moves a.vertices vs id v f at refl refl rule.starts;
          runs = runs_kept p.moves a.vertices (runners vs) (runners after)
              (λ x. total_kept (λ (u : View). runs_it x u.running) vs id v f at refl) rule.runs;
          live = live_kept p a.trees (openings a.vertices vs) (openings a.vertices after) (units p a vs)
              (units p a after) a.vertices openings' units' rule.live;
          counts = counts_kept p.moves p.grown a.nodes (units p a vs) (units p a after) (halves vs) (halves after) units'
              (λ n. total_kept (half_of n) vs id v f at refl) rule.counts;
          balances = balances_kept p a.trees a.pairs a.vertices (rights p a.vertices vs) (rights p a.vertices after)
              (λ d. let t = total_kept (right_of d) vs id v f at refl in omega arith) rule.balances;
          finishes = finishes_kept p.moves a.vertices (openings a.vertices vs) (openings a.vertices after) (units p a vs) (units p a after)
              (tellers vs) (tellers after) (earlies vs) (earlies after) openings' (λ f l. ((λ z. sym (units' f) ∙ z), (λ z. units' f ∙ z)))
              (λ g. total_kept (λ (u : View). count g u.told) vs id v f at refl)
              (λ g. total_kept (λ (u : View). early_in g u.flight) vs id v f at refl) rule.finishes;
          slots = record { one = s.one; body = s.body; end = s.end; fresh = λ d l b. absurd (omega arith) };
          plan = rule.plan;
          history = past_drawn p a vs rule.history id v at f (maker_alike v f refl refl refl (λ z. z) (rule.history.makers id v at)) openings'
              (omega arith) refl refl (a.drawn + 1)
              (let k = rule.plan.moves.some in total_kept (λ (u : View). u.fresh) vs id v f at refl
              ∙ made a.drawn (total (λ (u : View). u.fresh) vs) rule.history.unmade (omega arith)) refl;
          forest = rule.forest;
          bare = bare_kept p a.trees (openings a.vertices vs) (openings a.vertices after) a.nodes (halves vs) (halves after) (aboves vs)
              (aboves after) (λ f z. sym (openings' f) ∙ z) (λ n. total_kept (half_of n) vs id v f at refl)
              (λ n. total_kept (above_of n) vs id v f at refl) rule.bare;
          trees = each_kept (λ (u : View). TreeOk p a.trees a.nodes u.known u.links u.halves u.sprout) vs id f (rule.trees id v at) rule.trees;
          growth = growth_view p a.trees a.bred vs id v f at refl refl refl rule.growth;
          grows = each_kept (λ (u : View). GrowsOk p a.bred u.grow_draws u.full_grows u.spawns u.seats) vs id f (rule.grows id v at) rule.grows;
        }
