-- `wake_vertex`: the share that is told a finish makes its waiting vertex ready, and may be over then.
use Rattle.std.proofs.Common.{◌≡◌, ◌≢◌, ℕ, ◌+◌, ◌*◌, ◌<◌, ◌≤◌, List, set, refl, sym, ap, ◌∙◌, subst, arith, Option, Some, None}
use mathlib.Core.Option.{some}
use mathlib.Core.Option as maybe
use mathlib.Core.Logic.{dite}
use native.Mathlib.Decide.{ℕ_discrete}
use lib.ListN.{get_elem?}
use lib.Seq.{set-set}
use Rattle.spd_words.specs.Plan.{PlanView}
use Rattle.spd_words.specs.Words.{Vertex}
use Rattle.spd_state.specs.Sums.{same, gate, count, put}
use Rattle.spd_state.specs.Dag.{Dag, stands, waits, stored, started, not_end, runners, flights, earlies, tellers, holders, units, rights, openings}
use Rattle.spd_state.specs.Dag.{right_of, units_of, runs_it, named, opens_in, flies_in, early_in, halves, half_of, aboves, above_of}
use Rattle.spd_state.specs.Tree.{Under, TreeOk}
use Rattle.spd_state.specs.History.{woken}
use Rattle.spd_state.specs.Parts.{Tops, RunsOk, FlightsOk, OwnOk, Rule, MoveRule, FinishRule, SlotRule, GrowsOk, no_vertex}
use Rattle.spd_state.specs.Steps.{wake_word, wake_view, wake_after, settle_view}
use Rattle.spd_state.specs.declared.view.Flight.{Flight}
use Rattle.spd_state.specs.declared.view.View.{View}
use Rattle.spd_state.proofs.Sums.{same_self, same_else, put_case, put_kept, sum_put, total_set, total_kept, total_has, each_set}
use Rattle.spd_state.proofs.Sums.{each_kept}
use Rattle.spd_state.proofs.Frames.{moves_kept, live_kept, counts_kept, slots_kept, marks_kept, bare_kept, growth_view, starts_put}
use Rattle.spd_state.proofs.Makers.{maker_alike}
use Rattle.spd_state.proofs.Past.{past_vertex}
use Rattle.spd_state.proofs.Rights.{count_le}
use Rattle.spd_state.proofs.Settle.{count_without, settle_keeps, there_set}
use Rattle.spd_state.proofs.Store.{runs_beside}

module _ {B : Type 0} (p : PlanView) (a : Dag) (homes : List (maybe.Option (Option B))) (vs : List View) (rule : Rule p a homes vs) (id : ℕ)
    (v : View) (at : get_elem? vs id ≡ some v) (f : ℕ) (low : f < p.moves) (told : 0 < count f v.told) where
  abbrev i : ℕ
  i = 2 * f + 1

  abbrev x : Vertex
  x = a.vertices i

  abbrev w : View
  w = wake_view f v

  abbrev after : List View
  after = set vs id w

  abbrev vertices' : ℕ → Vertex
  vertices' = put a.vertices i (wake_word x)

  is_told : 0 < tellers vs f
  is_told = let t = total_has (λ (u : View). count f u.told) vs id v at in omega arith

  is_open : 0 < openings a.vertices vs f
  is_open = let t = is_told in dite (ℕ_discrete (openings a.vertices vs f) 0) (λ e. let z = rule.finishes.untold f low e in absurd (omega arith))
      (λ e. omega arith)

  none : units p a vs f ≡ 0
  none = let t = is_told in dite (ℕ_discrete (units p a vs f) 0) (λ e. e)
      (λ e. let z = (rule.finishes.going f low is_open (omega arith)).1 in absurd (omega arith))

  -- the waiting vertex waits, and this share alone is told
  pub waiting : x.state ≡ 1
  waiting = let t = is_told in let o = rule.finishes.over f low is_open none in
      dite (ℕ_discrete x.state 1) (λ e. e) (λ e. let z = rule.finishes.woken f low is_open none (omega arith) in absurd (omega arith))

  one : tellers vs f ≡ 1
  one = rule.finishes.tell f low is_open none waiting

  inside : i < 2 * p.moves
  inside = omega arith

  not_blank : (j : ℕ) → j ≡ i → a.vertices j ≡ no_vertex → ⊥
  not_blank j e z = let s = waiting in let t : (a.vertices i).state ≡ 0 = ap (λ k. (a.vertices k).state) (sym e) ∙ ap (λ (y : Vertex). y.state) z in
      omega arith

  waits_same : waits (x.state + 1) ≡ waits x.state
  waits_same = ap (λ k. waits (k + 1)) waiting ∙ sym (ap waits waiting)

  rights' : (d : ℕ) → rights p vertices' after d ≡ rights p a.vertices vs d
  rights' d = let s = sum_put (2 * p.moves) (λ (k : ℕ) (y : Vertex). stands d k y) a.vertices i (wake_word x) inside in
      let t = total_kept (right_of d) vs id v w at refl in
      let e : stands d i (wake_word x) ≡ stands d i x = ap (λ k. gate (not_end i) (gate k (same d x.pair))) waits_same in omega arith

  openings' : (d : ℕ) → openings vertices' after d ≡ openings a.vertices vs d
  openings' d = let s = waiting in
      let n : named d (vertices' (2 * d)) ≡ named d (a.vertices (2 * d)) = put_kept (named d) a.vertices i (wake_word x) (2 * d)
      (ap (λ k. gate (stored (k + 1)) (same d x.finish)) waiting ∙ sym (ap (λ k. gate (stored k) (same d x.finish)) waiting)) in
      let t = total_kept (λ (u : View). opens_in d u.flight) vs id v w at refl in omega arith

  units' : (n : ℕ) → units p a after n ≡ units p a vs n
  units' n = let t = total_kept (units_of a.trees n) vs id v w at refl in omega arith

  told' : (g : ℕ) → tellers after g + same g f ≡ tellers vs g
  told' g = let t = total_set (λ (u : View). count g u.told) vs id v w at in let c = count_without g f v.told told in omega arith

  own : OwnOk p a.trees v
  own = rule.own id v at

  own' : OwnOk p a.trees w
  own' = record {
    claims = own.claims;
    rooted = own.rooted;
    there = own.there;
    lifts = own.lifts;
    single = own.single;
    tells = λ n z. let c = count_without n f v.told told in own.tells n (omega arith);
    spent = λ z. let g = own.spent z in let c = count_le f v.told in absurd (omega arith);
    few = own.few;
    seated = own.seated;
    sitting = own.sitting;
  }

  flies : (o : Option Flight) → FlightsOk p a.trees a.drawn a.nodes a.pairs a.vertices o → FlightsOk p a.trees a.drawn a.nodes a.pairs vertices' o
  flies None k = tt
  flies (Some g) k = record {
    number = k.number;
    begun = k.begun;
    root = k.root;
    pair = k.pair;
    finish = k.finish;
    tops = k.tops;
    root_finish = k.root_finish;
    below = k.below;
    handle = k.handle;
    body_there = λ z. put_case (λ (y : Vertex). 0 < y.state) a.vertices i (wake_word x) (2 * g.number) (λ _. omega arith) (λ _. k.body_there z);
    names = λ z. put_case (λ (y : Vertex). y.finish ≡ g.finish) a.vertices i (wake_word x) (2 * g.number) (λ e. absurd (omega arith))
        (λ _. k.names z);
    rest_there = λ z. put_case (λ (y : Vertex). 0 < y.state) a.vertices i (wake_word x) (2 * g.number + 1) (λ _. omega arith) (λ _. k.rest_there z);
    body = λ z. put_case (λ y. y ≡ no_vertex) a.vertices i (wake_word x) (2 * g.number) (λ e. absurd (not_blank (2 * g.number) e (k.body z)))
        (λ _. k.body z);
    rest = λ z. put_case (λ y. y ≡ no_vertex) a.vertices i (wake_word x) (2 * g.number + 1) (λ e. absurd (not_blank (2 * g.number + 1) e (k.rest z)))
        (λ _. k.rest z);
  }

  moves' : MoveRule p.moves a.drawn a.nodes a.pairs vertices' (flights after)
  moves' = let h = moves_kept p.moves a.drawn a.nodes a.pairs a.vertices (flights vs) (flights after)
      (λ d. total_kept (λ (u : View). flies_in d u.flight) vs id v w at refl) rule.moves in record {
        blank_root = h.blank_root;
        blank_pair = h.blank_pair;
        grounded = h.grounded;
        alone = h.alone;
        blank_body = λ d l b. put_case (λ y. y ≡ no_vertex) a.vertices i (wake_word x) (2 * d)
            (λ e. absurd (not_blank (2 * d) e (h.blank_body d l b)))
            (λ _. h.blank_body d l b);
        blank_rest = λ d l b. put_case (λ y. y ≡ no_vertex) a.vertices i (wake_word x) (2 * d + 1)
            (λ e. absurd (not_blank (2 * d + 1) e (h.blank_rest d l b))) (λ _. h.blank_rest d l b);
        body_there = λ d l b z. put_case (λ (y : Vertex). 0 < y.state) a.vertices i (wake_word x) (2 * d) (λ _. omega arith)
            (λ _. h.body_there d l b z);
        rest_there = λ d l b z. put_case (λ (y : Vertex). 0 < y.state) a.vertices i (wake_word x) (2 * d + 1) (λ _. omega arith)
            (λ _. h.rest_there d l b z);
      }

  finishes' : FinishRule p.moves vertices' (openings vertices' after) (units p a after) (tellers after) (earlies after)
  finishes' = let h = rule.finishes in let n = none in let s = waiting in let o₁ = one in
      let op : (g : ℕ) → 0 < openings vertices' after g → 0 < openings a.vertices vs g = λ g z. let e = openings' g in omega arith in
      let early : (g : ℕ) → earlies after g ≡ earlies vs g = λ g. total_kept (λ (u : View). early_in g u.flight) vs id v w at refl in
      let here : (g : ℕ) → 2 * g + 1 ≡ i → (units p a vs g ≡ 0) × (tellers after g ≡ 0) = λ g e. let q : g ≡ f = omega arith in let t = told' g in
      let z = same_self g f q in let k : tellers vs g ≡ tellers vs f = ap (tellers vs) q in
      (ap (units p a vs) q ∙ n, omega arith) in
      let else : (g : ℕ) → 2 * g + 1 ≢ i → tellers after g ≡ tellers vs g = λ g e. let t = told' g in let z = same_else g f (λ q. e (omega arith)) in
      omega arith in record {
        untold = λ g l z. let e = openings' g in let t = told' g in let k = h.untold g l (omega arith) in omega arith;
        going = λ g l z m. let u = units' g in put_case (λ (y : Vertex). (y.state ≤ 1) × (tellers after g ≡ 0)) a.vertices i (wake_word x) (2 * g + 1)
            (λ e. let k = (here g e).0 in absurd (omega arith))
            (λ e. let k = h.going g l (op g z) (omega arith) in (k.0, else g e ∙ k.1));
        coming = λ g l z. put_case (λ (y : Vertex). y.state ≡ 0 → earlies after g ≡ 1) a.vertices i (wake_word x) (2 * g + 1)
            (λ e (k : x.state + 1 ≡ 0). absurd (omega arith)) (λ e k. early g ∙ h.coming g l (op g z) k);
        over = λ g l z m. let u = units' g in put_case (λ (y : Vertex). 0 < y.state) a.vertices i (wake_word x) (2 * g + 1) (λ e. omega arith)
            (λ e. h.over g l (op g z) (omega arith));
        tell = λ g l z m. let u = units' g in put_case (λ (y : Vertex). y.state ≡ 1 → tellers after g ≡ 1) a.vertices i (wake_word x) (2 * g + 1)
            (λ e (k : x.state + 1 ≡ 1). absurd (omega arith)) (λ e k. else g e ∙ h.tell g l (op g z) (omega arith) k);
        woken = λ g l z m. let u = units' g in put_case (λ (y : Vertex). 2 ≤ y.state → tellers after g ≡ 0) a.vertices i (wake_word x) (2 * g + 1)
            (λ e _. (here g e).1) (λ e k. else g e ∙ h.woken g l (op g z) (omega arith) k);
      }

  slots' : SlotRule p.moves a.drawn vertices' (holders after) homes
  slots' = let s = waiting in let h = slots_kept p.moves a.drawn a.vertices (holders vs) (holders after) homes
      (λ k. total_kept (λ (u : View). count k u.slots) vs id v w at refl) rule.slots in record {
        one = h.one;
        body = λ k l. put_case (λ (z : Vertex). 0 < z.state → z.state < 3 → k ≢ 1 → (b : B) × (get_elem? homes k ≡ some (some (Some b)))) a.vertices i
            (wake_word x) k
            (λ e _ _ n. h.body k l (subst (λ j. 0 < (a.vertices j).state) (sym e) (omega arith))
            (subst (λ j. (a.vertices j).state < 3) (sym e) (omega arith)) n) (λ _. h.body k l);
        end = put_case (λ (z : Vertex). 0 < z.state → z.state < 3 → get_elem? homes 1 ≡ some (some None)) a.vertices i (wake_word x) 1
            (λ e _ _. h.end (subst (λ j. 0 < (a.vertices j).state) (sym e) (omega arith))
            (subst (λ j. (a.vertices j).state < 3) (sym e) (omega arith)))
            (λ _. h.end);
        fresh = h.fresh;
      }

  pub wake_keeps : Rule p (record a { vertices = vertices' }) homes after
  wake_keeps = let s = waiting in record {
    plan = rule.plan;
    history = past_vertex p a vs rule.history id v at w (maker_alike v w refl refl refl (λ z. z) (rule.history.makers id v at)) i (wake_word x) inside
        (omega arith) openings'
        (λ e q l z. subst (λ (k : ℕ). (a.vertices k).finish < e) (sym q)
        (rule.history.below.rest e l z (subst (λ (k : ℕ). 0 < (a.vertices k).state) q (omega arith))))
        (λ e q l. subst (λ (k : ℕ). (a.vertices k).finish ≤ e) (sym q)
        (rule.history.below.body e l (subst (λ (k : ℕ). 0 < (a.vertices k).state) q (omega arith))))
        (λ e. ap (λ k. (a.vertices k).finish) e ∙ rule.history.below.end (subst (λ (k : ℕ). 0 < (a.vertices k).state) e (omega arith)))
        (λ e. omega arith) refl (let b : woken x.state ≡ 0 = ap woken waiting in let c : woken (x.state + 1) ≡ 1 = ap (λ k. woken (k + 1)) waiting in
        omega arith) refl refl refl;
    own = each_kept (OwnOk p a.trees) vs id w own' rule.own;
    running = each_set (λ (u : View). RunsOk p a.trees a.pairs a.vertices u.running)
        (λ (u : View). RunsOk p a.trees a.pairs vertices' u.running) vs id w
        (runs_beside p a.trees a.pairs a.vertices i (wake_word x) (omega arith) v.running (rule.running id v at)) rule.running
        (λ j u _ _ k. runs_beside p a.trees a.pairs a.vertices i (wake_word x) (omega arith) u.running k);
    flying = each_set (λ (u : View). FlightsOk p a.trees a.drawn a.nodes a.pairs a.vertices u.flight)
        (λ (u : View). FlightsOk p a.trees a.drawn a.nodes a.pairs vertices' u.flight) vs id w
        (flies v.flight (rule.flying id v at)) rule.flying (λ j u _ _ k. flies u.flight k);
    moves = moves';
    marks = marks_kept p.moves a.drawn vs id v w at refl refl refl rule.marks;
    starts = starts_put p.moves a.vertices vs id v w at i (wake_word x) inside (let z : started x.state ≡ 0 = ap started waiting in
        let y : started (x.state + 1) ≡ 0 = ap (λ k. started (k + 1)) waiting in omega arith) (rule.starts.spent id v at) rule.starts;
    runs = record {
      one = λ k l. let t = total_kept (λ (u : View). runs_it k u.running) vs id v w at refl in let b = rule.runs.one k l in
          put_case (λ (y : Vertex). runners after k ≤ started y.state) a.vertices i (wake_word x) k
          (λ e. let z : started (a.vertices k).state ≡ 0 = ap (λ j. started (a.vertices j).state) e ∙ ap started waiting in omega arith)
          (λ e. omega arith);
    };
    live = let h = live_kept p a.trees (openings a.vertices vs) (openings vertices' after) (units p a vs)
        (units p a after) a.vertices openings' units' rule.live in record {
          shut = h.shut;
          finish = λ k l. put_case (λ (y : Vertex). 0 < y.state → (y.finish < p.moves) × (0 < openings vertices' after y.finish)) a.vertices i
              (wake_word x) k (λ _ _. h.finish i inside (omega arith)) (λ _. h.finish k l);
          inc = λ k l. put_case (λ (y : Vertex). 0 < y.state → Under p a.trees y.finish y.inc) a.vertices i (wake_word x) k
              (λ _ _. h.inc i inside (omega arith)) (λ _. h.inc k l);
        };
    counts = counts_kept p.moves p.grown a.nodes (units p a vs) (units p a after) (halves vs) (halves after) units'
        (λ n. total_kept (half_of n) vs id v w at refl) rule.counts;
    balances = record {
      balance = λ d l. ap (λ k. (a.pairs d).claims + k) (rights' d) ∙ rule.balances.balance d l;
      most = rule.balances.most;
      pair = λ k l. put_case (λ (y : Vertex). 0 < y.state → y.pair < p.moves) a.vertices i (wake_word x) k
          (λ _ _. rule.balances.pair i inside (omega arith)) (λ _. rule.balances.pair k l);
      tops = λ k l. put_case (λ (y : Vertex). 0 < y.state → y.state < 3 → k ≢ 1 → Tops p a.trees y.finish (a.pairs y.pair)) a.vertices i
          (wake_word x) k
          (λ e _ _ n. rule.balances.tops i inside (omega arith) (omega arith) (λ q. n (e ∙ q))) (λ _. rule.balances.tops k l);
    };
    finishes = finishes';
    slots = slots';
    forest = rule.forest;
    bare = bare_kept p a.trees (openings a.vertices vs) (openings vertices' after) a.nodes (halves vs) (halves after) (aboves vs) (aboves after)
        (λ g z. sym (openings' g) ∙ z) (λ n. total_kept (half_of n) vs id v w at refl) (λ n. total_kept (above_of n) vs id v w at refl) rule.bare;
    trees = each_kept (λ (u : View). TreeOk p a.trees a.nodes u.known u.links u.halves u.sprout) vs id w (rule.trees id v at) rule.trees;
    growth = growth_view p a.trees a.bred vs id v w at refl refl refl rule.growth;
    grows = each_kept (λ (u : View). GrowsOk p a.bred u.grow_draws u.full_grows u.spawns u.seats) vs id w (rule.grows id v at) rule.grows;
  }

  -- and the share runs nothing where its vertex is over
  pub wake_all : Rule p (record a { vertices = vertices' }) homes (set vs id (wake_after f v))
  wake_all = subst (λ (l : List View). Rule p (record a { vertices = vertices' }) homes l) (set-set vs id w (settle_view w))
      (settle_keeps p (record a { vertices = vertices' }) homes after wake_keeps id w (there_set vs id v w at))
