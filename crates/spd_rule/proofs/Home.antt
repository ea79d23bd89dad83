-- The slot of a vertex that was started may go home from a share that runs nothing and has no move in flight.
use Rattle.std.proofs.Common.{◌≡◌, ◌≢◌, ℕ, ◌+◌, ◌*◌, ◌<◌, ◌≤◌, List, [], ◌∷◌, length, set, refl, sym, ap, ◌∙◌, arith, Option, None}
use mathlib.Core.Option.{some}
use mathlib.Core.Option as maybe
use mathlib.Core.Logic.{dite}
use native.Mathlib.Decide.{ℕ_discrete}
use lib.ListN.{get_elem?}
use Rattle.atomic_table.proofs.Lists.{set_here, set_else}
use Rattle.spd_words.specs.Plan.{PlanView}
use Rattle.spd_words.specs.Words.{Vertex}
use Rattle.spd_state.specs.Sums.{same, count}
use Rattle.spd_state.specs.Tree.{TreeOk}
use Rattle.spd_state.specs.Dag.{Dag, runners, flights, earlies, tellers, holders, units, rights, openings, right_of, units_of, halves, half_of, aboves}
use Rattle.spd_state.specs.Dag.{above_of, runs_it, opens_in, flies_in, early_in}
use Rattle.spd_state.specs.Parts.{RunsOk, FlightsOk, OwnOk, Rule, SlotRule, home, GrowsOk, no_vertex}
use Rattle.spd_state.specs.declared.view.View.{View}
use Rattle.spd_state.proofs.Sums.{total_set, total_kept, each_kept, same_self, same_else}
use Rattle.spd_state.proofs.Makers.{maker_none}
use Rattle.spd_state.proofs.Past.{past_view}
use Rattle.spd_state.proofs.Frames.{moves_kept, runs_kept, live_kept, counts_kept, balances_kept, finishes_kept, marks_kept, bare_kept, growth_view, starts_kept}

module _ {B : Type 0} (p : PlanView) (a : Dag) (homes : List (maybe.Option (Option B))) (vs : List View) (rule : Rule p a homes vs) (id : ℕ) (v : View)
    (at : get_elem? vs id ≡ some v)
    (deep : length homes ≡ 2 * p.moves) (free : v.flight ≡ None) (i : ℕ) (low : i < 2 * p.moves) (started : 3 ≤ (a.vertices i).state) (slots : v.slots ≡ i ∷ [])
    (y : Option B) where
  abbrev w : View
  w = record v { slots = [] }

  abbrev after : List View
  after = set vs id w

  abbrev homes' : List (maybe.Option (Option B))
  homes' = set homes i (some y)

  own : OwnOk p a.trees v
  own = rule.own id v at

  held' : (x : ℕ) → holders after x + same x i ≡ holders vs x
  held' x = let t = total_set (λ (u : View). count x u.slots) vs id v w at in let c : count x v.slots ≡ same x i + 0 = ap (count x) slots in omega arith

  there : get_elem? homes' i ≡ some (some y)
  there = set_here homes i (some y) (omega arith)

  else : (x : ℕ) → x ≢ i → get_elem? homes' x ≡ get_elem? homes x
  else x n = set_else homes i x (some y) n

  blank_not : (j : ℕ) → a.vertices j ≡ no_vertex → j ≢ i
  blank_not j e k = let s : (a.vertices i).state ≡ 0 = ap (λ n. (a.vertices n).state) (sym k) ∙ ap (λ (x : Vertex). x.state) e in omega arith

  started_not : (j : ℕ) → (a.vertices j).state < 3 → j ≢ i
  started_not j s k = let e : (a.vertices j).state ≡ (a.vertices i).state = ap (λ n. (a.vertices n).state) k in omega arith

  slots' : SlotRule p.moves a.drawn a.vertices (holders after) homes'
  slots' = record {
    one = λ x l. let h = held' x in let o = rule.slots.one x l in dite (ℕ_discrete x i)
        (λ e. let s = same_self x i e in let k : home (get_elem? homes' x) ≡ 1 = ap (λ j. home (get_elem? homes' j)) e ∙ ap home there in
        let m : home (get_elem? homes x) + holders vs x ≡ 1 = o in omega arith)
        (λ n. let s = same_else x i n in let k : home (get_elem? homes' x) ≡ home (get_elem? homes x) = ap home (else x n) in omega arith);
    body = λ x l s t n. let b = rule.slots.body x l s t n in (b.0, else x (started_not x t) ∙ b.1);
    end = λ s t. else 1 (started_not 1 t) ∙ rule.slots.end s t;
    fresh = λ d l k. let f = rule.slots.fresh d l k in (
      else (2 * d) (blank_not (2 * d) (rule.moves.blank_body d l k))
          ∙ f.0,
      else (2 * d + 1) (blank_not (2 * d + 1) (rule.moves.blank_rest d l k)) ∙ f.1,
    );
  }

  pub slot_home : Rule p a homes' after
  slot_home = let openings' : (d : ℕ) → openings a.vertices after d ≡ openings a.vertices vs d = λ d. let t =
      total_kept (λ (u : View). opens_in d u.flight) vs id v w at refl in omega arith in
      let units' : (n : ℕ) → units p a after n ≡ units p a vs n = λ n. let t = total_kept (units_of a.trees n) vs id v w at refl in omega arith in record {
        own = each_kept (OwnOk p a.trees) vs id w record {
          claims = own.claims;
          rooted = own.rooted;
          there = own.there;
          lifts = own.lifts;
          single = own.single;
          tells = own.tells;
          spent = λ z. let k = own.spent z in let e : length v.slots ≡ 1 = ap length slots in omega arith;
          few = own.few;
          seated = own.seated;
          sitting = own.sitting;
        } rule.own;
        running = each_kept (λ (u : View). RunsOk p a.trees a.pairs a.vertices u.running) vs id w (rule.running id v at) rule.running;
        flying = each_kept (λ (u : View). FlightsOk p a.trees a.drawn a.nodes a.pairs a.vertices u.flight) vs id w (rule.flying id v at) rule.flying;
        moves = moves_kept p.moves a.drawn a.nodes a.pairs a.vertices (flights vs) (flights after)
            (λ d. total_kept (λ (u : View). flies_in d u.flight) vs id v w at refl) rule.moves;
        marks = marks_kept p.moves a.drawn vs id v w at refl refl refl rule.marks;
        starts = starts_kept p.moves a.vertices vs id v w at refl refl rule.starts;
        runs = runs_kept p.moves a.vertices (runners vs) (runners after) (λ x. total_kept (λ (u : View). runs_it x u.running) vs id v w at refl) rule.runs;
        live = live_kept p a.trees (openings a.vertices vs) (openings a.vertices after) (units p a vs) (units p a after) a.vertices openings' units' rule.live;
        counts = counts_kept p.moves p.grown a.nodes (units p a vs) (units p a after) (halves vs) (halves after) units'
            (λ n. total_kept (half_of n) vs id v w at refl) rule.counts;
        balances = balances_kept p a.trees a.pairs a.vertices (rights p a.vertices vs) (rights p a.vertices after)
            (λ d. let t = total_kept (right_of d) vs id v w at refl in omega arith) rule.balances;
        finishes = finishes_kept p.moves a.vertices (openings a.vertices vs) (openings a.vertices after) (units p a vs) (units p a after) (tellers vs)
            (tellers after) (earlies vs) (earlies after) openings'
            (λ f l. ((λ z. sym (units' f) ∙ z), (λ z. units' f ∙ z))) (λ f. total_kept (λ (u : View). count f u.told) vs id v w at refl)
            (λ f. total_kept (λ (u : View). early_in f u.flight) vs id v w at refl) rule.finishes;
        slots = slots';
        plan = rule.plan;
        history = past_view p a vs rule.history id v at w (maker_none w free) openings' (omega arith) refl refl refl refl refl;
        forest = rule.forest;
        bare = bare_kept p a.trees (openings a.vertices vs) (openings a.vertices after) a.nodes (halves vs) (halves after) (aboves vs) (aboves after)
            (λ f z. sym (openings' f) ∙ z)
            (λ n. total_kept (half_of n) vs id v w at refl) (λ n. total_kept (above_of n) vs id v w at refl) rule.bare;
        trees = each_kept (λ (u : View). TreeOk p a.trees a.nodes u.known u.links u.halves u.sprout) vs id w (rule.trees id v at) rule.trees;
        growth = growth_view p a.trees a.bred vs id v w at refl refl refl rule.growth;
        grows = each_kept (λ (u : View). GrowsOk p a.bred u.grow_draws u.full_grows u.spawns u.seats) vs id w (rule.grows id v at) rule.grows;
      }
