-- What every `set_pair` does to the rule: the blank pair of a move in flight gets its handles, which come out of the share's units.
use Rattle.std.proofs.Common.{◌≡◌, ◌≢◌, ℕ, ◌+◌, ◌*◌, ◌<◌, ◌≤◌, List, set, refl, sym, ap, ◌∙◌, subst, arith, Option, Some, None}
use Prim.Native.Nat.{zero, suc}
use mathlib.Core.Option.{some}
use mathlib.Core.Option as maybe
use lib.ListN.{get_elem?}
use Rattle.spd_words.specs.Plan.{PlanView}
use Rattle.spd_words.specs.Words.{Pair, Vertex}
use Rattle.spd_state.specs.Sums.{same, gate, times, count, put}
use Rattle.spd_state.specs.Dag.{Dag, stands, waits, not_end, handles, runners, flights, earlies, tellers, holders, units, rights, openings, has_right}
use Rattle.spd_state.specs.Dag.{right_of, units_of, runs_it, opens_in, flies_in, early_in}
use Rattle.spd_state.specs.Dag.{halves, half_of, aboves, above_of}
use Rattle.spd_state.specs.Tree.{TreeOk}
use Rattle.spd_state.specs.History.{MakerOk, forks_in}
use Rattle.spd_state.specs.Parts.{Tops, RunsOk, FlightsOk, OwnOk, Rule, GrowsOk, no_pair}
use Rattle.spd_state.specs.declared.view.Running.{Running}
use Rattle.spd_state.specs.declared.view.Flight.{Flight}
use Rattle.spd_state.specs.declared.view.View.{View}
use Rattle.spd_state.proofs.Sums.{same_self, same_else, put_case, sum_put, summand_le, total_set, total_kept, total_has, total_two, each_set}
use Rattle.spd_state.proofs.Sums.{each_kept}
use Rattle.spd_state.proofs.Frames.{moves_kept, runs_kept, live_kept, counts_kept, finishes_kept, slots_kept, marks_kept, bare_kept, growth_view, starts_kept}
use Rattle.spd_state.proofs.Past.{past_pair}

-- the step's own part: the pair of the move d in flight becomes x, and the view w
pub record SetsPair (p : PlanView) (a : Dag) (v w : View) (d : ℕ) (x : Pair) : Type 0 where
  pub low : d < p.moves
  pub begun : d < a.drawn
  pub blank : a.pairs d ≡ no_pair
  pub unclaimed : x.claims ≡ 0
  pub most : x.total ≤ 2
  pub mine : flies_in d v.flight ≡ 1
  pub rights_gain : (e : ℕ) → right_of e w ≡ right_of e v + times x.total (same e d)
  pub units_same : (n : ℕ) → count n (handles x) + units_of a.trees n w ≡ units_of a.trees n v
  pub opens_same : (e : ℕ) → opens_in e w.flight ≡ opens_in e v.flight
  pub early_same : (e : ℕ) → early_in e w.flight ≡ early_in e v.flight
  pub flies_same : (e : ℕ) → flies_in e w.flight ≡ flies_in e v.flight
  pub forks : forks_in w.flight + same 2 x.total ≡ forks_in v.flight
  pub above_same : (n : ℕ) → above_of n w ≡ above_of n v
  pub halves_same : (n : ℕ) → half_of n w ≡ half_of n v
  pub told : w.told ≡ v.told
  pub slots : w.slots ≡ v.slots
  pub runs : w.running ≡ v.running
  pub own : OwnOk p a.trees w
  pub maker : MakerOk w
  pub flying : FlightsOk p a.trees a.drawn a.nodes (put a.pairs d x) a.vertices w.flight
  pub trees : TreeOk p a.trees a.nodes w.known w.links w.halves w.sprout
  pub grows : GrowsOk p a.bred w.grow_draws w.full_grows w.spawns w.seats
  pub full_draws : w.full_draws ≡ v.full_draws
  pub seats : w.seats ≡ v.seats
  pub spare : w.spare ≡ v.spare
  pub grow_draws : w.grow_draws ≡ v.grow_draws
  pub full_grows : w.full_grows ≡ v.full_grows
  pub sprout : w.sprout ≡ v.sprout
  pub fresh : w.fresh ≡ v.fresh
  pub starts : w.starts ≡ v.starts
  pub ready : w.ready ≡ v.ready
  pub done : w.done ≡ v.done
  pub spawns : w.spawns ≡ v.spawns

module _ {B : Type 0} (p : PlanView) (a : Dag) (homes : List (maybe.Option (Option B))) (vs : List View) (rule : Rule p a homes vs) (id : ℕ)
    (v : View) (at : get_elem? vs id ≡ some v)
    (w : View) (d : ℕ) (x : Pair) (step : SetsPair p a v w d x) where
  abbrev after : List View
  after = set vs id w

  abbrev pairs' : ℕ → Pair
  pairs' = put a.pairs d x

  -- nobody has a right at the pair before it is set
  no_right : rights p a.vertices vs d ≡ 0
  no_right = let b = rule.balances.balance d step.low in let t : (a.pairs d).total ≡ 0 = ap (λ (q : Pair). q.total) step.blank in omega arith

  times_one : (n : ℕ) → times n 1 ≡ n
  times_one zero = refl
  times_one (suc n) = let h = times_one n in omega arith

  times_none : (n : ℕ) → times n 0 ≡ 0
  times_none zero = refl
  times_none (suc n) = let h = times_none n in omega arith

  rights' : (e : ℕ) → rights p a.vertices after e ≡ rights p a.vertices vs e + times x.total (same e d)
  rights' e = let t = total_set (right_of e) vs id v w at in let g = step.rights_gain e in omega arith

  units' : (n : ℕ) → units p (record a { pairs = pairs' }) after n ≡ units p a vs n
  units' n = let s = sum_put p.moves (λ (e : ℕ) (y : Pair). count n (handles y)) a.pairs d x step.low in
      let t = total_set (units_of a.trees n) vs id v w at in
      let o : count n (handles (a.pairs d)) ≡ 0 = ap (λ (y : Pair). count n (handles y)) step.blank in let g = step.units_same n in omega arith

  openings' : (n : ℕ) → openings a.vertices after n ≡ openings a.vertices vs n
  openings' n = let t = total_kept (λ (y : View). opens_in n y.flight) vs id v w at (step.opens_same n) in omega arith

  -- a view with a right to claim has it at another pair
  runs_on : (j : ℕ) (y : View) → get_elem? vs j ≡ some y → RunsOk p a.trees a.pairs a.vertices y.running
      → RunsOk p a.trees pairs' a.vertices y.running
  runs_on j y e = go y.running refl
    where
      go : (o : Option Running) → y.running ≡ o → RunsOk p a.trees a.pairs a.vertices o → RunsOk p a.trees pairs' a.vertices o
      go None i k = tt
      go (Some r) i k = record {
        vertex = k.vertex;
        word = k.word;
        right = k.right;
        other = k.other;
        tops = λ z. put_case (Tops p a.trees r.finish) a.pairs d x r.pair
            (λ g. let t = total_has (right_of d) vs j y e in let n = no_right in let q : has_right d y.running ≡ same d r.pair = ap (has_right d) i
            ∙ ap (λ s. gate s (same d r.pair)) z in let s = same_self d r.pair (sym g) in absurd (omega arith))
            (λ _. k.tops z);
      }

  -- another flight is of another move
  others_fly : (j : ℕ) (y : View) → j ≢ id → get_elem? vs j ≡ some y → FlightsOk p a.trees a.drawn a.nodes a.pairs a.vertices y.flight
      → FlightsOk p a.trees a.drawn a.nodes pairs' a.vertices y.flight
  others_fly j y n e = go y.flight refl
    where
      go : (o : Option Flight) → y.flight ≡ o → FlightsOk p a.trees a.drawn a.nodes a.pairs a.vertices o
          → FlightsOk p a.trees a.drawn a.nodes pairs' a.vertices o
      go None i k = tt
      go (Some g) i k = record {
        number = k.number;
        begun = k.begun;
        root = k.root;
        body = k.body;
        rest = k.rest;
        finish = k.finish;
        root_finish = k.root_finish;
        below = k.below;
        handle = λ e z. put_case (λ (q : Pair). (q.first ≡ g.number) × (q.total ≡ 1)) a.pairs d x g.number (λ s. absurd (apart s))
            (λ _. k.handle e z);
        body_there = k.body_there;
        names = k.names;
        rest_there = k.rest_there;
        pair = λ z. put_case (λ q. q ≡ no_pair) a.pairs d x g.number (λ s. absurd (apart s)) (λ _. k.pair z);
        tops = λ z. put_case (Tops p a.trees g.finish) a.pairs d x g.number (λ s. absurd (apart s)) (λ _. k.tops z);
      }
        where
          apart : g.number ≡ d → ⊥
          apart s = let t = total_two (λ (q : View). flies_in d q.flight) vs j id y v e at n in let m = rule.moves.alone d step.low in
              let q : flies_in d y.flight ≡ same d g.number = ap (flies_in d) i in
              let s₁ = same_self d g.number (sym s) in let s₂ = step.mine in omega arith

  pub pair_keeps : Rule p (record a { pairs = pairs' }) homes after
  pair_keeps = record {
    own = each_kept (OwnOk p a.trees) vs id w step.own rule.own;
    running = each_set (λ (y : View). RunsOk p a.trees a.pairs a.vertices y.running)
        (λ (y : View). RunsOk p a.trees pairs' a.vertices y.running) vs id w
        (subst (RunsOk p a.trees pairs' a.vertices) (sym step.runs) (runs_on id v at (rule.running id v at))) rule.running
        (λ j y _ e k. runs_on j y e k);
    flying = each_set (λ (y : View). FlightsOk p a.trees a.drawn a.nodes a.pairs a.vertices y.flight)
        (λ (y : View). FlightsOk p a.trees a.drawn a.nodes pairs' a.vertices y.flight) vs id w
        step.flying rule.flying (λ j y n e k. others_fly j y n e k);
    moves = let h = moves_kept p.moves a.drawn a.nodes a.pairs a.vertices (flights vs) (flights after)
        (λ e. total_kept (λ (y : View). flies_in e y.flight) vs id v w at (step.flies_same e)) rule.moves in record {
          blank_root = h.blank_root;
          blank_body = h.blank_body;
          blank_rest = h.blank_rest;
          grounded = h.grounded;
          alone = h.alone;
          body_there = h.body_there;
          rest_there = h.rest_there;
          blank_pair = λ e l b. put_case (λ q. q ≡ no_pair) a.pairs d x e (λ s. let g = step.begun in absurd (omega arith)) (λ _. h.blank_pair e l b);
        };
    marks = marks_kept p.moves a.drawn vs id v w at step.full_draws step.seats step.spare rule.marks;
    starts = starts_kept p.moves a.vertices vs id v w at step.starts step.seats rule.starts;
    runs = runs_kept p.moves a.vertices (runners vs) (runners after)
        (λ k. total_kept (λ (y : View). runs_it k y.running) vs id v w at (ap (runs_it k) step.runs)) rule.runs;
    live = live_kept p a.trees (openings a.vertices vs) (openings a.vertices after) (units p a vs)
        (units p (record a { pairs = pairs' }) after) a.vertices openings' units' rule.live;
    counts = counts_kept p.moves p.grown a.nodes (units p a vs) (units p (record a { pairs = pairs' }) after) (halves vs) (halves after) units'
        (λ n. total_kept (half_of n) vs id v w at (step.halves_same n)) rule.counts;
    balances = record {
      balance = λ e l. let r = rights' e in let b = rule.balances.balance e l in
          put_case (λ (y : Pair). y.claims + rights p a.vertices after e ≡ y.total) a.pairs d x e
          (λ k. let s : times x.total (same e d) ≡ x.total = ap (times x.total) (same_self e d k) ∙ times_one x.total in let c = step.unclaimed in
          let n : rights p a.vertices vs e ≡ 0 = ap (rights p a.vertices vs) k ∙ no_right in omega arith)
          (λ k. let s : times x.total (same e d) ≡ 0 = ap (times x.total) (same_else e d k) ∙ times_none x.total in omega arith);
      most = λ e l. put_case (λ (y : Pair). y.total ≤ 2) a.pairs d x e (λ _. step.most) (λ _. rule.balances.most e l);
      pair = rule.balances.pair;
      tops = λ k l s t n. let g = rule.balances.tops k l s t n in put_case (Tops p a.trees (a.vertices k).finish) a.pairs d x (a.vertices k).pair
          (λ e. let q = summand_le (2 * p.moves) (λ (j : ℕ). stands d j (a.vertices j)) k l in let o = counts_one k (a.vertices k) n s t (sym e) in
          let z = no_right in absurd (omega arith)) (λ _. g);
    };
    finishes = finishes_kept p.moves a.vertices (openings a.vertices vs) (openings a.vertices after) (units p a vs)
        (units p (record a { pairs = pairs' }) after) (tellers vs) (tellers after) (earlies vs) (earlies after) openings'
        (λ g l. ((λ z. sym (units' g) ∙ z), (λ z. units' g ∙ z)))
        (λ g. total_kept (λ (y : View). count g y.told) vs id v w at (ap (count g) step.told))
        (λ g. total_kept (λ (y : View). early_in g y.flight) vs id v w at (step.early_same g)) rule.finishes;
    slots = slots_kept p.moves a.drawn a.vertices (holders vs) (holders after) homes
        (λ k. total_kept (λ (y : View). count k y.slots) vs id v w at (ap (count k) step.slots)) rule.slots;
    plan = rule.plan;
    history = past_pair p a vs rule.history id v at w step.maker openings'
        (let e : runs_it 1 w.running ≡ runs_it 1 v.running = ap (runs_it 1) step.runs in
        omega arith) step.done step.ready d x step.low step.fresh step.spawns
        (let f = step.forks in let o : same 2 (a.pairs d).total ≡ 0 = ap (λ (y : Pair). same 2 y.total) step.blank
        ∙ same_else 2 0 (λ e. absurd (omega arith)) in omega arith);
    forest = rule.forest;
    bare = bare_kept p a.trees (openings a.vertices vs) (openings a.vertices after) a.nodes (halves vs) (halves after) (aboves vs) (aboves after)
        (λ f z. sym (openings' f) ∙ z) (λ n. total_kept (half_of n) vs id v w at (step.halves_same n))
        (λ n. total_kept (above_of n) vs id v w at (step.above_same n)) rule.bare;
    trees = each_kept (λ (u : View). TreeOk p a.trees a.nodes u.known u.links u.halves u.sprout) vs id w step.trees rule.trees;
    growth = growth_view p a.trees a.bred vs id v w at step.grow_draws step.full_grows step.sprout rule.growth;
    grows = each_kept (λ (u : View). GrowsOk p a.bred u.grow_draws u.full_grows u.spawns u.seats) vs id w step.grows rule.grows;
  }
    where
      counts_one : (k : ℕ) (y : Vertex) → k ≢ 1 → 0 < y.state → y.state < 3 → d ≡ y.pair → stands d k y ≡ 1
      counts_one k y n s t e = by k n y.state refl s t
        where
          there : (j : ℕ) → j ≢ 1 → (s : ℕ) → waits s ≡ 1 → gate (not_end j) (gate (waits s) (same d y.pair)) ≡ same d y.pair
          there zero n s g = ap (λ q. gate q (same d y.pair)) g
          there (suc zero) n s g = absurd (n refl)
          there (suc (suc j)) n s g = ap (λ q. gate q (same d y.pair)) g

          by : (j : ℕ) → j ≢ 1 → (s : ℕ) → y.state ≡ s → 0 < s → s < 3 → gate (not_end j) (gate (waits y.state) (same d y.pair)) ≡ 1
          by j n zero i a b = absurd (omega arith)
          by j n (suc zero) i a b = there j n y.state (ap waits i) ∙ same_self d y.pair e
          by j n (suc (suc zero)) i a b = there j n y.state (ap waits i) ∙ same_self d y.pair e
          by j n (suc (suc (suc s))) i a b = absurd (omega arith)
