-- `start_vertex` keeps the rule.
use Rattle.std.proofs.Common.{◌≡◌, ◌≢◌, ℕ, ◌+◌, ◌*◌, ◌<◌, ◌≤◌, List, [], length, set, refl, sym, ap, ◌∙◌, subst, arith, Option, Some, None}
use Prim.Native.Nat.{zero, suc}
use mathlib.Core.Option.{some, none}
use mathlib.Core.Option as maybe
use mathlib.Core.Logic.{dite}
use native.Mathlib.Decide.{ℕ_discrete}
use lib.ListN.{get_elem?}
use Rattle.atomic_table.proofs.Lists.{set_here, set_else}
use Rattle.spd_words.specs.Plan.{PlanView}
use Rattle.spd_words.specs.Words.{Vertex}
use Rattle.spd_words.specs.Meaning.{Meaning}
use Rattle.spd_state.specs.Sums.{same, gate, count, put}
use Rattle.spd_state.specs.Dag.{Dag, stands, waits, stored, started, not_end, runners, flights, earlies, tellers, holders, units, rights, openings}
use Rattle.spd_state.specs.Dag.{has_right, right_of, units_of, runs_it, named, opens_in, flies_in, early_in}
use Rattle.spd_state.specs.Parts.{Tops, RunsOk, ClaimsOk, FlightsOk, OwnOk, Rule, MoveRule, FinishRule, SlotRule, home, no_vertex}
use Rattle.spd_state.specs.Steps.{start_word, start_view}
use Rattle.spd_state.specs.declared.view.Running.{Running}
use Rattle.spd_state.specs.declared.view.Flight.{Flight}
use Rattle.spd_state.proofs.Sums.{each_cons}
use Rattle.spd_state.proofs.Makers.{maker_none}
use Rattle.spd_state.proofs.Past.{past_vertex}
use Rattle.spd_state.specs.History.{woken}
use Rattle.spd_state.specs.declared.view.View.{View}
use Rattle.spd_state.proofs.Sums.{same_self, same_else, put_case, put_here, put_kept, sum_put, total_set, total_kept, each_set, each_kept}
use Rattle.spd_state.proofs.Frames.{moves_kept, live_kept, counts_kept, finishes_kept, marks_kept}
use Rattle.spd_state.specs.Tree.{Under, TreeOk}
use Rattle.spd_state.specs.Dag.{halves, half_of, aboves, above_of}
use Rattle.spd_state.specs.Parts.{GrowsOk}
use Rattle.spd_state.proofs.Frames.{bare_kept, growth_view, starts_put}

not_end_le : (i : ℕ) → not_end i ≤ 1
not_end_le zero = omega arith
not_end_le (suc zero) = omega arith
not_end_le (suc (suc i)) = omega arith

not_end_means : (i : ℕ) → not_end i ≡ 1 → i ≢ 1
not_end_means zero e z = omega arith
not_end_means (suc zero) e z = omega arith
not_end_means (suc (suc i)) e z = omega arith

module _ {B : Type 0} (p : PlanView) (a : Dag) (homes : List (maybe.Option (Option B))) (vs : List View) (rule : Rule p a homes vs) (id : ℕ)
    (v : View) (at : get_elem? vs id ≡ some v)
    (deep : length homes ≡ 2 * p.moves) (idle : v.running ≡ None) (free : v.flight ≡ None) (seated : 0 < v.seats) (i : ℕ) (low : i < 2 * p.moves)
    (m : Option Meaning) (ready : (a.vertices i).state ≡ 2) where
  abbrev x : Vertex
  x = a.vertices i

  abbrev w : View
  w = start_view i x m v

  abbrev after : List View
  after = set vs id w

  abbrev vertices' : ℕ → Vertex
  vertices' = put a.vertices i (start_word x)

  abbrev homes' : List (maybe.Option (Option B))
  homes' = set homes i none

  no_claim : v.claimed ≡ []
  no_claim = subst (λ (o : Option Running). ClaimsOk p a.trees o v.claimed) idle (rule.own id v at).claims

  ready_not : (y : Vertex) → y ≡ no_vertex → y.state ≡ 0
  ready_not y e = ap (λ (z : Vertex). z.state) e

  -- the word isn't as at the start, and no share runs it
  not_blank : (j : ℕ) → j ≡ i → a.vertices j ≡ no_vertex → ⊥
  not_blank j e z = let s = ready in let t : (a.vertices i).state ≡ 0 = ap (λ k. (a.vertices k).state) (sym e) ∙ ready_not (a.vertices j) z in
      omega arith

  rights' : (d : ℕ) → rights p vertices' after d ≡ rights p a.vertices vs d
  rights' d = let s = sum_put (2 * p.moves) (λ (k : ℕ) (y : Vertex). stands d k y) a.vertices i (start_word x) low in
      let t = total_set (right_of d) vs id v w at in
      let old : stands d i x ≡ gate (not_end i) (same d x.pair) = ap (λ k. gate (not_end i) (gate (waits k) (same d x.pair))) ready in
      let new : stands d i (start_word x) ≡ 0 = gate_none (not_end i) in
      let none : has_right d v.running ≡ 0 = ap (has_right d) idle in omega arith
    where
      gate_none : (k : ℕ) → gate k 0 ≡ 0
      gate_none zero = refl
      gate_none (suc k) = refl

  named' : (d j : ℕ) → named d (vertices' j) ≡ named d (a.vertices j)
  named' d j = put_kept (named d) a.vertices i (start_word x) j (sym (ap (λ k. gate (stored k) (same d x.finish)) ready))

  openings' : (d : ℕ) → openings vertices' after d ≡ openings a.vertices vs d
  openings' d = let n = named' d (2 * d) in let t = total_kept (λ (u : View). opens_in d u.flight) vs id v w at refl in omega arith

  units' : (n : ℕ) → units p a after n ≡ units p a vs n
  units' n = let t = total_kept (units_of a.trees n) vs id v w at refl in omega arith

  runners' : (k : ℕ) → runners after k ≡ runners vs k + same k i
  runners' k = let t = total_set (λ (u : View). runs_it k u.running) vs id v w at in let none : runs_it k v.running ≡ 0 = ap (runs_it k) idle in
      omega arith

  holders' : (k : ℕ) → holders after k ≡ holders vs k + same k i
  holders' k = let t = total_set (λ (u : View). count k u.slots) vs id v w at in omega arith

  own : OwnOk p a.trees v
  own = rule.own id v at

  own' : OwnOk p a.trees w
  own' = record {
    claims = ((λ _. no_claim), λ n z. let c : count n v.claimed ≡ 0 = ap (count n) no_claim in absurd (omega arith));
    rooted = own.rooted;
    there = own.there;
    lifts = own.lifts;
    single = own.single;
    tells = own.tells;
    spent = λ z. absurd (omega arith);
    few = own.few;
    seated = seated;
    sitting = own.sitting;
  }

  runs_on : (o : Option Running) → RunsOk p a.trees a.pairs a.vertices o → RunsOk p a.trees a.pairs vertices' o
  runs_on None k = tt
  runs_on (Some r) k = record {
    vertex = k.vertex;
    right = k.right;
    other = k.other;
    tops = k.tops;
    word = put_case (λ (y : Vertex). y ≡ record { state = 3; side = r.side; pair = r.pair; finish = r.finish; inc = r.inc }) a.vertices i
        (start_word x) r.vertex
        (λ e. let s : x.state ≡ 3 = ap (λ j. (a.vertices j).state) (sym e) ∙ ap (λ (y : Vertex). y.state) k.word in let t = ready in
        absurd (omega arith)) (λ _. k.word);
  }

  flies : (o : Option Flight) → FlightsOk p a.trees a.drawn a.nodes a.pairs a.vertices o → FlightsOk p a.trees a.drawn a.nodes a.pairs vertices' o
  flies None k = tt
  flies (Some f) k = record {
    number = k.number;
    begun = k.begun;
    root = k.root;
    pair = k.pair;
    finish = k.finish;
    tops = k.tops;
    root_finish = k.root_finish;
    below = k.below;
    handle = k.handle;
    body_there = λ z. put_case (λ (y : Vertex). 0 < y.state) a.vertices i (start_word x) (2 * f.number) (λ _. omega arith) (λ _. k.body_there z);
    names = λ z. put_case (λ (y : Vertex). y.finish ≡ f.finish) a.vertices i (start_word x) (2 * f.number)
        (λ e. ap (λ k. (a.vertices k).finish) (sym e) ∙ k.names z) (λ _. k.names z);
    rest_there = λ z. put_case (λ (y : Vertex). 0 < y.state) a.vertices i (start_word x) (2 * f.number + 1) (λ _. omega arith) (λ _. k.rest_there z);
    body = λ z. put_case (λ y. y ≡ no_vertex) a.vertices i (start_word x) (2 * f.number) (λ e. absurd (not_blank (2 * f.number) e (k.body z)))
        (λ _. k.body z);
    rest = λ z. put_case (λ y. y ≡ no_vertex) a.vertices i (start_word x) (2 * f.number + 1) (λ e. absurd (not_blank (2 * f.number + 1) e (k.rest z)))
        (λ _. k.rest z);
  }

  moves' : MoveRule p.moves a.drawn a.nodes a.pairs vertices' (flights after)
  moves' = let h = moves_kept p.moves a.drawn a.nodes a.pairs a.vertices (flights vs) (flights after)
      (λ d. total_kept (λ (u : View). flies_in d u.flight) vs id v w at refl) rule.moves in record {
        blank_root = h.blank_root;
        blank_pair = h.blank_pair;
        grounded = h.grounded;
        alone = h.alone;
        blank_body = λ d l b. put_case (λ y. y ≡ no_vertex) a.vertices i (start_word x) (2 * d)
            (λ e. absurd (not_blank (2 * d) e (h.blank_body d l b)))
            (λ _. h.blank_body d l b);
        blank_rest = λ d l b. put_case (λ y. y ≡ no_vertex) a.vertices i (start_word x) (2 * d + 1)
            (λ e. absurd (not_blank (2 * d + 1) e (h.blank_rest d l b))) (λ _. h.blank_rest d l b);
        body_there = λ d l b z. put_case (λ (y : Vertex). 0 < y.state) a.vertices i (start_word x) (2 * d) (λ _. omega arith)
            (λ _. h.body_there d l b z);
        rest_there = λ d l b z. put_case (λ (y : Vertex). 0 < y.state) a.vertices i (start_word x) (2 * d + 1) (λ _. omega arith)
            (λ _. h.rest_there d l b z);
      }

  finishes' : FinishRule p.moves vertices' (openings vertices' after) (units p a after) (tellers after) (earlies after)
  finishes' = let s = ready in
      let h = finishes_kept p.moves a.vertices (openings a.vertices vs) (openings vertices' after) (units p a vs) (units p a after) (tellers vs)
      (tellers after) (earlies vs) (earlies after) openings' (λ f l. ((λ z. sym (units' f) ∙ z), (λ z. units' f ∙ z)))
      (λ f. total_kept (λ (u : View). count f u.told) vs id v w at refl)
      (λ f. total_kept (λ (u : View). early_in f u.flight) vs id v w at refl) rule.finishes in
      let was : (f : ℕ) → 2 * f + 1 ≡ i → (a.vertices (2 * f + 1)).state ≡ 2 = λ f e. ap (λ k. (a.vertices k).state) e ∙ ready in record {
        untold = h.untold;
        going = λ f l z g. let k = h.going f l z g in let k₀ = k.0 in
            put_case (λ (y : Vertex). (y.state ≤ 1) × (tellers after f ≡ 0)) a.vertices i (start_word x) (2 * f + 1)
            (λ e. let t = was f e in absurd (omega arith)) (λ _. k);
        coming = λ f l z. put_case (λ (y : Vertex). y.state ≡ 0 → earlies after f ≡ 1) a.vertices i (start_word x) (2 * f + 1)
            (λ e (k : 3 ≡ 0). absurd (omega arith)) (λ _. h.coming f l z);
        over = λ f l z g. put_case (λ (y : Vertex). 0 < y.state) a.vertices i (start_word x) (2 * f + 1) (λ e. omega arith) (λ _. h.over f l z g);
        tell = λ f l z g. put_case (λ (y : Vertex). y.state ≡ 1 → tellers after f ≡ 1) a.vertices i (start_word x) (2 * f + 1)
            (λ e (k : 3 ≡ 1). absurd (omega arith)) (λ _. h.tell f l z g);
        woken = λ f l z g. put_case (λ (y : Vertex). 2 ≤ y.state → tellers after f ≡ 0) a.vertices i (start_word x) (2 * f + 1)
            (λ e _. let t = was f e in h.woken f l z g (omega arith)) (λ _. h.woken f l z g);
      }

  home_was : (y : Option B) → get_elem? homes i ≡ some (some y) → holders vs i ≡ 0
  home_was y e = let o = rule.slots.one i low in let h : home (get_elem? homes i) ≡ 1 = ap home e in omega arith

  slots' : (y : Option B) → get_elem? homes i ≡ some (some y) → SlotRule p.moves a.drawn vertices' (holders after) homes'
  slots' y there = let h = rule.slots in let s = ready in record {
    one = λ k l. let o = h.one k l in let t = holders' k in dite (ℕ_discrete k i)
        (λ e. let q : holders vs k ≡ 0 = ap (holders vs) e ∙ home_was y there in let u = same_self k i e in
        let z : home (get_elem? homes' k) ≡ 0 = ap (λ j. home (get_elem? homes' j)) e ∙ ap home (set_here homes i none (omega arith)) in
        omega arith)
        (λ e. let u = same_else k i e in let z : home (get_elem? homes' k) ≡ home (get_elem? homes k) = ap home (set_else homes i k none e) in
        omega arith);
    body = λ k l. put_case (λ (z : Vertex). 0 < z.state → z.state < 3 → k ≢ 1 → (b : B) × (get_elem? homes' k ≡ some (some (Some b)))) a.vertices i
        (start_word x) k (λ e _ (g : 3 < 3). absurd (omega arith))
        (λ e t g n. let b = h.body k l t g n in (b.0, set_else homes i k none e ∙ b.1));
    end = put_case (λ (z : Vertex). 0 < z.state → z.state < 3 → get_elem? homes' 1 ≡ some (some None)) a.vertices i (start_word x) 1
        (λ e _ (g : 3 < 3). absurd (omega arith)) (λ e t g. set_else homes i 1 none e ∙ h.end t g);
    fresh = λ d l b. let f = h.fresh d l b in (
      set_else homes i (2 * d) none (λ e. not_blank (2 * d) e (rule.moves.blank_body d l b))
          ∙ f.0,
      set_else homes i (2 * d + 1) none (λ e. not_blank (2 * d + 1) e (rule.moves.blank_rest d l b)) ∙ f.1,
    );
  }

  -- the node at which the vertex increments is known from now on
  knows_inc : TreeOk p a.trees a.nodes w.known w.links w.halves w.sprout
  knows_inc = let h = rule.trees id v at in let s = ready in record {
    knows = each_cons
        (λ k. Under p a.trees k.top k.node) (record { node = x.inc; top = x.finish }) v.known (rule.live.inc i low (omega arith)) h.knows;
    linked = h.linked;
    halved = h.halved;
    sprouts = h.sprouts;
  }

  pub start_keeps : (y : Option B) → get_elem? homes i ≡ some (some y) → Rule p (record a { vertices = vertices' }) homes' after
  start_keeps y there = let s = ready in record {
    own = each_kept (OwnOk p a.trees) vs id w own' rule.own;
    running = each_set (λ (u : View). RunsOk p a.trees a.pairs a.vertices u.running)
        (λ (u : View). RunsOk p a.trees a.pairs vertices' u.running) vs id w
        record {
          vertex = low;
          word = put_here a.vertices i (start_word x) i refl;
          right = not_end_le i;
          other = not_end_means i;
          tops = λ z. rule.balances.tops i low (omega arith) (omega arith) (not_end_means i z);
        }
        rule.running (λ j u _ _ k. runs_on u.running k);
    flying = each_set (λ (u : View). FlightsOk p a.trees a.drawn a.nodes a.pairs a.vertices u.flight)
        (λ (u : View). FlightsOk p a.trees a.drawn a.nodes a.pairs vertices' u.flight) vs id w
        (flies v.flight (rule.flying id v at)) rule.flying (λ j u _ _ k. flies u.flight k);
    moves = moves';
    marks = marks_kept p.moves a.drawn vs id v w at refl refl refl rule.marks;
    starts = starts_put p.moves a.vertices vs id v w at i (start_word x) low (let z : started x.state ≡ 0 = ap started ready in omega arith)
        (λ z. absurd (omega arith)) rule.starts;
    runs = record {
      one = λ k l. let t = runners' k in let b = rule.runs.one k l in
          put_case (λ (y : Vertex). runners after k ≤ started y.state) a.vertices i (start_word x) k
          (λ e. let u = same_self k i e in let z : started (a.vertices k).state ≡ 0 = ap (λ j. started (a.vertices j).state) e ∙ ap started ready in
          omega arith) (λ e. let u = same_else k i e in omega arith);
    };
    live = let h = live_kept p a.trees (openings a.vertices vs) (openings vertices' after) (units p a vs)
        (units p a after) a.vertices openings' units' rule.live in record {
          shut = h.shut;
          finish = λ k l. put_case (λ (y : Vertex). 0 < y.state → (y.finish < p.moves) × (0 < openings vertices' after y.finish)) a.vertices i
              (start_word x) k (λ _ _. h.finish i low (omega arith)) (λ _. h.finish k l);
          inc = λ k l. put_case (λ (y : Vertex). 0 < y.state → Under p a.trees y.finish y.inc) a.vertices i (start_word x) k
              (λ _ _. h.inc i low (omega arith)) (λ _. h.inc k l);
        };
    counts = counts_kept p.moves p.grown a.nodes (units p a vs) (units p a after) (halves vs) (halves after) units'
        (λ n. total_kept (half_of n) vs id v w at refl) rule.counts;
    balances = record {
      balance = λ d l. ap (λ k. (a.pairs d).claims + k) (rights' d) ∙ rule.balances.balance d l;
      most = rule.balances.most;
      pair = λ k l. put_case (λ (y : Vertex). 0 < y.state → y.pair < p.moves) a.vertices i (start_word x) k
          (λ _ _. rule.balances.pair i low (omega arith)) (λ _. rule.balances.pair k l);
      tops = λ k l. put_case (λ (y : Vertex). 0 < y.state → y.state < 3 → k ≢ 1 → Tops p a.trees y.finish (a.pairs y.pair)) a.vertices i
          (start_word x) k (λ e _ (g : 3 < 3). absurd (omega arith)) (λ _. rule.balances.tops k l);
    };
    finishes = finishes';
    slots = slots' y there;
    plan = rule.plan;
    history = past_vertex p a vs rule.history id v at w (maker_none w free) i (start_word x) low (omega arith) openings'
        (λ e q l z. subst (λ (k : ℕ). (a.vertices k).finish < e) (sym q)
        (rule.history.below.rest e l z (subst (λ (k : ℕ). 0 < (a.vertices k).state) q (omega arith))))
        (λ e q l. subst (λ (k : ℕ). (a.vertices k).finish ≤ e) (sym q)
        (rule.history.below.body e l (subst (λ (k : ℕ). 0 < (a.vertices k).state) q (omega arith))))
        (λ e. ap (λ k. (a.vertices k).finish) e ∙ rule.history.below.end (subst (λ (k : ℕ). 0 < (a.vertices k).state) e (omega arith)))
        (λ e. let t = same_else 1 i (λ q. e (sym q)) in omega arith) refl (let e : woken x.state ≡ 1 = ap woken ready in omega arith) refl refl refl;
    forest = rule.forest;
    bare = bare_kept p a.trees (openings a.vertices vs) (openings vertices' after) a.nodes (halves vs) (halves after) (aboves vs) (aboves after)
        (λ f z. sym (openings' f) ∙ z) (λ n. total_kept (half_of n) vs id v w at refl) (λ n. total_kept (above_of n) vs id v w at refl) rule.bare;
    trees = each_kept (λ (u : View). TreeOk p a.trees a.nodes u.known u.links u.halves u.sprout) vs id w knows_inc rule.trees;
    growth = growth_view p a.trees a.bred vs id v w at refl refl refl rule.growth;
    grows = each_kept (λ (u : View). GrowsOk p a.bred u.grow_draws u.full_grows u.spawns u.seats) vs id w (rule.grows id v at) rule.grows;
  }
