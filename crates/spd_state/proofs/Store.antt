-- A vertex is stored: what all kinds of `set_vertex` share. What differs among a make, a chain and a spawn is told by `Stored`.
use Rattle.std.proofs.Common.{◌≡◌, ◌≢◌, ◌⊎◌, ℕ, ◌+◌, ◌*◌, ◌<◌, ◌≤◌, List, [], ◌∷◌, length, set, refl, sym, ap, ◌∙◌, subst, arith, Option, Some, None}
use Rattle.std.proofs.Common.{⊎_elim}
use Prim.Native.Nat.{zero, suc}
use mathlib.Core.Option.{some, none}
use mathlib.Core.Option as maybe
use mathlib.Core.Logic.{dite}
use native.Mathlib.Decide.{ℕ_discrete}
use lib.ListN.{get_elem?}
use Rattle.atomic_table.proofs.Lists.{set_here, set_else}
use Rattle.spd_words.specs.Plan.{PlanView}
use Rattle.spd_words.specs.Words.{Pair, Vertex}
use Rattle.spd_state.specs.Sums.{same, gate, count, put}
use Rattle.spd_state.specs.Dag.{Dag, stands, started, not_end, runners, flights, earlies, tellers, holders, units, rights, openings, right_of}
use Rattle.spd_state.specs.Dag.{units_of, runs_it, named, opens_in, flies_in}
use Rattle.spd_state.specs.Parts.{Tops, RunsOk, FlightsOk, OwnOk, Rule, MoveRule, FinishRule, SlotRule, home, no_vertex}
use Rattle.spd_state.specs.declared.view.Running.{Running}
use Rattle.spd_state.specs.declared.view.Flight.{Flight}
use Rattle.spd_state.proofs.Past.{past_vertex}
use Rattle.spd_state.specs.History.{MakerOk, woken, forks_in}
use Rattle.spd_state.specs.declared.view.View.{View}
use Rattle.spd_state.proofs.Sums.{same_self, same_else, same_means, put_case, put_here, put_else, sum_put, total_set, total_kept, total_has}
use Rattle.spd_state.proofs.Sums.{total_two, each_set, each_kept}
use Rattle.spd_state.proofs.Frames.{counts_kept, marks_kept}
use Rattle.spd_state.specs.Tree.{Trees, Under, TreeOk}
use Rattle.spd_state.specs.Dag.{halves, half_of, aboves, above_of}
use Rattle.spd_state.specs.Parts.{GrowsOk}
use Rattle.spd_state.proofs.Frames.{bare_kept, growth_view, lives_alike, starts_put}

-- the step's own part: the vertex i of the move d in flight becomes x, and the view w
pub record Stored (p : PlanView) (a : Dag) (v w : View) (d i : ℕ) (x : Vertex) : Type 0 where
  pub low : i < 2 * p.moves
  pub of : (i ≡ 2 * d) ⊎ (i ≡ 2 * d + 1)
  pub flies : flies_in d v.flight ≡ 1
  pub begun : d < a.drawn
  pub blank : a.vertices i ≡ no_vertex
  pub is_stored : 0 < x.state
  pub not_started : x.state < 3
  pub rights_gain : (e : ℕ) → stands e i x + right_of e w ≡ right_of e v
  pub opens_gain : (e : ℕ) → gate (same i (2 * e)) (named e x) + opens_in e w.flight ≡ opens_in e v.flight
  pub units_same : (n : ℕ) → units_of a.trees n w ≡ units_of a.trees n v
  pub runs_less : (k : ℕ) → runs_it k w.running ≤ runs_it k v.running
  pub flies_less : (e : ℕ) → flies_in e w.flight ≤ flies_in e v.flight
  pub body_done : flies_in d w.flight ≡ 0 → 0 < (put a.vertices i x (2 * d)).state
  pub rest_done : flies_in d w.flight ≡ 0 → 0 < (put a.vertices i x (2 * d + 1)).state
  pub slots_less : (k : ℕ) → count k w.slots + same k i ≡ count k v.slots
  pub maker : MakerOk w
  pub below_rest : (e : ℕ) → i ≡ 2 * e + 1 → e < p.moves → 0 < e → x.finish < e
  pub below_body : (e : ℕ) → i ≡ 2 * e → e < p.moves → x.finish ≤ e
  pub end : i ≡ 1 → x.finish ≡ 0
  pub ready : w.ready ≡ v.ready + woken x.state
  pub forks : forks_in w.flight ≡ forks_in v.flight
  pub done : w.done ≡ v.done
  pub fresh : w.fresh ≡ v.fresh
  pub starts : w.starts ≡ v.starts
  pub spawns : w.spawns ≡ v.spawns
  pub own : OwnOk p a.trees w
  pub running : RunsOk p a.trees a.pairs (put a.vertices i x) w.running
  pub flying : FlightsOk p a.trees a.drawn a.nodes a.pairs (put a.vertices i x) w.flight
  pub draws : w.full_draws ≡ v.full_draws
  pub seats : w.seats ≡ v.seats
  pub spare : w.spare ≡ v.spare
  pub finish : x.finish < p.moves
  pub pair : x.pair < p.moves
  pub inc : Under p a.trees x.finish x.inc
  pub above_same : (n : ℕ) → above_of n w ≡ above_of n v
  pub halves_same : (n : ℕ) → half_of n w ≡ half_of n v
  pub trees : TreeOk p a.trees a.nodes w.known w.links w.halves w.sprout
  pub grows : GrowsOk p a.bred w.grow_draws w.full_grows w.spawns w.seats
  pub grow_draws : w.grow_draws ≡ v.grow_draws
  pub full_grows : w.full_grows ≡ v.full_grows
  pub sprout : w.sprout ≡ v.sprout
  pub tops : i ≢ 1 → Tops p a.trees x.finish (a.pairs x.pair)

before_start : (s : ℕ) → s < 3 → started s ≡ 0
before_start zero l = refl
before_start (suc zero) l = refl
before_start (suc (suc zero)) l = refl
before_start (suc (suc (suc s))) l = absurd (omega arith)

-- a vertex that is written isn't one that a share runs
pub runs_beside : (p : PlanView) (t : Trees) (pairs : ℕ → Pair) (vertices : ℕ → Vertex) (i : ℕ) (x : Vertex) → (vertices i).state < 3
    → (o : Option Running) → RunsOk p t pairs vertices o → RunsOk p t pairs (put vertices i x) o
runs_beside p t pairs vertices i x z None k = tt
runs_beside p t pairs vertices i x z (Some r) k = record {
  vertex = k.vertex;
  right = k.right;
  other = k.other;
  tops = k.tops;
  word = put_case (λ (y : Vertex). y ≡ record { state = 3; side = r.side; pair = r.pair; finish = r.finish; inc = r.inc }) vertices i x r.vertex
      (λ e. let s : (vertices i).state ≡ 3 = ap (λ j. (vertices j).state) (sym e) ∙ ap (λ (y : Vertex). y.state) k.word in absurd (omega arith))
      (λ _. k.word);
}

module _ {B : Type 0} (p : PlanView) (a : Dag) (homes : List (maybe.Option (Option B))) (vs : List View) (rule : Rule p a homes vs) (id : ℕ)
    (v : View) (at : get_elem? vs id ≡ some v)
    (w : View) (d i : ℕ) (x : Vertex) (step : Stored p a v w d i x) where
  abbrev after : List View
  after = set vs id w

  abbrev vertices' : ℕ → Vertex
  vertices' = put a.vertices i x

  zero_before : (a.vertices i).state ≡ 0
  zero_before = ap (λ (y : Vertex). y.state) step.blank

  gate_none : (k : ℕ) → gate k 0 ≡ 0
  gate_none zero = refl
  gate_none (suc k) = refl

  rights' : (e : ℕ) → rights p vertices' after e ≡ rights p a.vertices vs e
  rights' e = let s = sum_put (2 * p.moves) (λ (k : ℕ) (y : Vertex). stands e k y) a.vertices i x step.low in
      let t = total_set (right_of e) vs id v w at in let g = step.rights_gain e in
      let o : stands e i (a.vertices i) ≡ 0 = ap (λ (y : Vertex). stands e i y) step.blank ∙ gate_none (not_end i) in omega arith

  pub openings' : (e : ℕ) → openings vertices' after e ≡ openings a.vertices vs e
  openings' e = let t = total_set (λ (y : View). opens_in e y.flight) vs id v w at in let g = step.opens_gain e in dite (ℕ_discrete i (2 * e))
      (λ k. let o : named e (a.vertices (2 * e)) ≡ 0 = ap (λ j. named e (a.vertices j)) (sym k) ∙ ap (named e) step.blank in
      let n : named e (vertices' (2 * e)) ≡ named e x = ap (named e) (put_here a.vertices i x (2 * e) (sym k)) in
      let q : gate (same i (2 * e)) (named e x) ≡ named e x = ap (λ z. gate z (named e x)) (same_self i (2 * e) k) in omega arith)
      (λ k. let n : named e (vertices' (2 * e)) ≡ named e (a.vertices (2 * e)) = ap (named e) (put_else a.vertices i x (2 * e) (λ z. k (sym z))) in
      let q : gate (same i (2 * e)) (named e x) ≡ 0 = ap (λ z. gate z (named e x)) (same_else i (2 * e) k) in omega arith)

  pub units' : (n : ℕ) → units p a after n ≡ units p a vs n
  units' n = let t = total_kept (units_of a.trees n) vs id v w at (step.units_same n) in omega arith

  holders' : (k : ℕ) → holders after k + same k i ≡ holders vs k
  holders' k = let t = total_set (λ (y : View). count k y.slots) vs id v w at in let g = step.slots_less k in omega arith

  flights_less : (e : ℕ) → flights after e ≤ flights vs e
  flights_less e = let t = total_set (λ (y : View). flies_in e y.flight) vs id v w at in let g = step.flies_less e in omega arith

  others_fly : (j : ℕ) (y : View) → j ≢ id → get_elem? vs j ≡ some y → FlightsOk p a.trees a.drawn a.nodes a.pairs a.vertices y.flight
      → FlightsOk p a.trees a.drawn a.nodes a.pairs vertices' y.flight
  others_fly j y n e = go y.flight refl
    where
      go : (o : Option Flight) → y.flight ≡ o → FlightsOk p a.trees a.drawn a.nodes a.pairs a.vertices o
          → FlightsOk p a.trees a.drawn a.nodes a.pairs vertices' o
      go None q k = tt
      go (Some g) q k = record {
        number = k.number;
        begun = k.begun;
        root = k.root;
        pair = k.pair;
        finish = k.finish;
        tops = k.tops;
        root_finish = k.root_finish;
        below = k.below;
        handle = k.handle;
        body_there = λ z. put_case (λ (y : Vertex). 0 < y.state) a.vertices i x (2 * g.number) (λ _. step.is_stored) (λ _. k.body_there z);
        names = λ z. put_case (λ (y : Vertex). y.finish ≡ g.finish) a.vertices i x (2 * g.number)
            (λ s. absurd (apart (⊎_elim (λ (t : i ≡ 2 * d). omega arith) (λ (t : i ≡ 2 * d + 1). absurd (omega arith)) step.of))) (λ _. k.names z);
        rest_there = λ z. put_case (λ (y : Vertex). 0 < y.state) a.vertices i x (2 * g.number + 1) (λ _. step.is_stored) (λ _. k.rest_there z);
        body = λ z. put_case (λ y. y ≡ no_vertex) a.vertices i x (2 * g.number)
            (λ s. absurd (apart (⊎_elim (λ (t : i ≡ 2 * d). omega arith) (λ (t : i ≡ 2 * d + 1). absurd (omega arith)) step.of))) (λ _. k.body z);
        rest = λ z. put_case (λ y. y ≡ no_vertex) a.vertices i x (2 * g.number + 1)
            (λ s. absurd (apart (⊎_elim (λ (t : i ≡ 2 * d). absurd (omega arith)) (λ (t : i ≡ 2 * d + 1). omega arith) step.of))) (λ _. k.rest z);
      }
        where
          apart : g.number ≡ d → ⊥
          apart s = let t = total_two (λ (q : View). flies_in d q.flight) vs j id y v e at n in let low = k.number in
              let m = rule.moves.alone d (omega arith) in let r : flies_in d y.flight ≡ same d g.number = ap (flies_in d) q in
              let s₁ = same_self d g.number (sym s) in let s₂ = step.flies in omega arith

  apart_drawn : (e : ℕ) → a.drawn ≤ e → (2 * e ≢ i) × (2 * e + 1 ≢ i)
  apart_drawn e l = let b = step.begun in (
    (λ z. ⊎_elim (λ (t : i ≡ 2 * d). omega arith) (λ (t : i ≡ 2 * d + 1). omega arith) step.of),
    (λ z. ⊎_elim (λ (t : i ≡ 2 * d). omega arith) (λ (t : i ≡ 2 * d + 1). omega arith) step.of),
  )

  moves' : MoveRule p.moves a.drawn a.nodes a.pairs vertices' (flights after)
  moves' = let h = rule.moves in record {
    blank_root = h.blank_root;
    blank_pair = h.blank_pair;
    blank_body = λ e l b. put_else a.vertices i x (2 * e) (apart_drawn e b).0 ∙ h.blank_body e l b;
    blank_rest = λ e l b. put_else a.vertices i x (2 * e + 1) (apart_drawn e b).1 ∙ h.blank_rest e l b;
    grounded = λ e l b. let f = flights_less e in let g = h.grounded e l b in omega arith;
    alone = λ e l. let f = flights_less e in let g = h.alone e l in omega arith;
    body_there = λ e l b z. there e (λ n. h.body_there e l b n) z
        (λ s. subst (λ j. 0 < (vertices' (2 * j)).state) (sym s) (step.body_done (down e s z)))
        (λ s. put_case (λ (y : Vertex). 0 < y.state) a.vertices i x (2 * e) (λ _. step.is_stored) (λ _. s));
    rest_there = λ e l b z. there e (λ n. h.rest_there e l b n) z
        (λ s. subst (λ j. 0 < (vertices' (2 * j + 1)).state) (sym s) (step.rest_done (down e s z)))
        (λ s. put_case (λ (y : Vertex). 0 < y.state) a.vertices i x (2 * e + 1) (λ _. step.is_stored) (λ _. s));
  }
    where
      down : (e : ℕ) → e ≡ d → flights after e ≡ 0 → flies_in d w.flight ≡ 0
      down e s z = let g = total_has (λ (y : View). flies_in d y.flight) after id w (there_set vs id v w at) in
          let q : flights after d ≡ flights after e = ap (flights after) (sym s) in omega arith
        where
          there_set : {A : Type 0} (l : List A) (i : ℕ) (a b : A) → get_elem? l i ≡ some a → get_elem? (set l i b) i ≡ some b
          there_set [] i a b e = absurd (maybe.some-ne-none a (sym e))
          there_set (x ∷ xs) zero a b e = refl
          there_set (x ∷ xs) (suc i) a b e = there_set xs i a b e

      there : {P Q : Type 0} (e : ℕ) → (flights vs e ≡ 0 → P) → flights after e ≡ 0 → (e ≡ d → Q) → (P → Q) → Q
      there {P} {Q} e old z own other = dite (ℕ_discrete e d) own (λ n. other
          (old (let t = total_set (λ (y : View). flies_in e y.flight) vs id v w at in let k = unlike e n in omega arith)))
        where
          unlike : (e : ℕ) → e ≢ d → flies_in e v.flight ≡ 0
          unlike e n = go v.flight refl
            where
              go : (o : Option Flight) → v.flight ≡ o → flies_in e o ≡ 0
              go None q = refl
              go (Some g) q = same_else e g.number (λ s. n (s ∙ sym (same_means d g.number
                  (let f = step.flies in let r : flies_in d v.flight ≡ same d g.number = ap (flies_in d) q in omega arith))))

  slots' : (y : Option B) → (i ≢ 1 → (b : B) × (y ≡ Some b)) → (i ≡ 1 → y ≡ None) → length homes ≡ 2 * p.moves
      → SlotRule p.moves a.drawn vertices' (holders after) (set homes i (some y))
  slots' y body end deep = let h = rule.slots in let low = step.low in record {
    one = λ k l. let o = h.one k l in let t = holders' k in dite (ℕ_discrete k i)
        (λ e. let s = same_self k i e in let q : home (get_elem? (set homes i (some y)) k) ≡ 1 = ap (λ j. home (get_elem? (set homes i (some y)) j)) e
        ∙ ap home (set_here homes i (some y) (omega arith)) in omega arith)
        (λ e. let s = same_else k i e in let q : home (get_elem? (set homes i (some y)) k) ≡ home (get_elem? homes k) =
        ap home (set_else homes i k (some y) e) in omega arith);
    body = λ k l. put_case (λ (z : Vertex). 0 < z.state → z.state < 3 → k ≢ 1 → (b : B)
        × (get_elem? (set homes i (some y)) k ≡ some (some (Some b)))) a.vertices i x k
        (λ e _ _ n. let b = body (λ z. n (e ∙ z)) in (
          b.0,
          ap (get_elem? (set homes i (some y))) e
              ∙ (set_here homes i (some y) (omega arith) ∙ ap (λ (z : Option B). some (some z)) b.1),
        ))
        (λ e s t n. let b = h.body k l s t n in (b.0, set_else homes i k (some y) e ∙ b.1));
    end = put_case (λ (z : Vertex). 0 < z.state → z.state < 3 → get_elem? (set homes i (some y)) 1 ≡ some (some None)) a.vertices i x 1
        (λ e _ _. ap (get_elem? (set homes i (some y))) e ∙ (set_here homes i (some y) (omega arith)
        ∙ ap (λ (z : Option B). some (some z)) (end (sym e))))
        (λ e s t. set_else homes i 1 (some y) e ∙ h.end s t);
    fresh = λ e l b. let f = h.fresh e l b in let g = apart_drawn e b in
        (set_else homes i (2 * e) (some y) g.0 ∙ f.0, set_else homes i (2 * e + 1) (some y) g.1 ∙ f.1);
  }

  pub store_keeps : (y : Option B) → (i ≢ 1 → (b : B) × (y ≡ Some b)) → (i ≡ 1 → y ≡ None) → length homes ≡ 2 * p.moves
      → 0 < openings a.vertices vs x.finish
      → FinishRule p.moves vertices' (openings vertices' after) (units p a after) (tellers after) (earlies after)
      → Rule p (record a { vertices = vertices' }) (set homes i (some y)) after
  store_keeps y body end deep is_open finishes' = record {
    own = each_kept (OwnOk p a.trees) vs id w step.own rule.own;
    running = each_set (λ (u : View). RunsOk p a.trees a.pairs a.vertices u.running)
        (λ (u : View). RunsOk p a.trees a.pairs vertices' u.running) vs id w step.running rule.running
        (λ j u _ _ k. let z = zero_before in runs_beside p a.trees a.pairs a.vertices i x (omega arith) u.running k);
    flying = each_set (λ (u : View). FlightsOk p a.trees a.drawn a.nodes a.pairs a.vertices u.flight)
        (λ (u : View). FlightsOk p a.trees a.drawn a.nodes a.pairs vertices' u.flight) vs id w step.flying rule.flying
        (λ j u n e k. others_fly j u n e k);
    moves = moves';
    marks = marks_kept p.moves a.drawn vs id v w at step.draws step.seats step.spare rule.marks;
    starts = starts_put p.moves a.vertices vs id v w at i x step.low (let s = step.starts in let z : started (a.vertices i).state ≡ 0 = ap started zero_before in
        let y = before_start x.state step.not_started in omega arith) (λ z. step.starts ∙ rule.starts.spent id v at (sym step.seats ∙ z)) rule.starts;
    runs = record {
      one = λ k l. let t = total_set (λ (u : View). runs_it k u.running) vs id v w at in let f = step.runs_less k in let b = rule.runs.one k l in
          put_case (λ (z : Vertex). runners after k ≤ started z.state) a.vertices i x k
          (λ e. let q : started (a.vertices k).state ≡ 0 = ap (λ j. started (a.vertices j).state) e ∙ ap started zero_before in omega arith)
          (λ _. omega arith);
    };
    live = record {
      shut = λ n l z. units' n ∙ rule.live.shut n l (sym (lives_alike a.trees (openings a.vertices vs) (openings vertices' after) openings' n) ∙ z);
      finish = λ k l. put_case (λ (z : Vertex). 0 < z.state → (z.finish < p.moves) × (0 < openings vertices' after z.finish)) a.vertices i x k
          (λ _ _. (step.finish, subst (λ j. 0 < j) (sym (openings' x.finish)) is_open))
          (λ _ s. let t = rule.live.finish k l s in (t.0, subst (λ j. 0 < j) (sym (openings' (a.vertices k).finish)) t.1));
      inc = λ k l. put_case (λ (z : Vertex). 0 < z.state → Under p a.trees z.finish z.inc) a.vertices i x k (λ _ _. step.inc)
          (λ _. rule.live.inc k l);
    };
    counts = counts_kept p.moves p.grown a.nodes (units p a vs) (units p a after) (halves vs) (halves after) units'
        (λ n. total_kept (half_of n) vs id v w at (step.halves_same n)) rule.counts;
    balances = record {
      balance = λ e l. ap (λ k. (a.pairs e).claims + k) (rights' e) ∙ rule.balances.balance e l;
      most = rule.balances.most;
      pair = λ k l. put_case (λ (z : Vertex). 0 < z.state → z.pair < p.moves) a.vertices i x k (λ _ _. step.pair) (λ _. rule.balances.pair k l);
      tops = λ k l. put_case (λ (z : Vertex). 0 < z.state → z.state < 3 → k ≢ 1 → Tops p a.trees z.finish (a.pairs z.pair)) a.vertices i x k
          (λ e _ _ n. step.tops (λ z. n (e ∙ z))) (λ _. rule.balances.tops k l);
    };
    finishes = finishes';
    slots = slots' y body end deep;
    plan = rule.plan;
    history = past_vertex p a vs rule.history id v at w step.maker i x step.low (let z = zero_before in omega arith) openings'
        step.below_rest step.below_body step.end (λ _. step.runs_less 1) step.done
        (let e = step.ready in let z : woken (a.vertices i).state ≡ 0 = ap woken zero_before in omega arith) step.fresh step.spawns step.forks;
    forest = rule.forest;
    bare = bare_kept p a.trees (openings a.vertices vs) (openings vertices' after) a.nodes (halves vs) (halves after) (aboves vs) (aboves after)
        (λ f z. sym (openings' f) ∙ z) (λ n. total_kept (half_of n) vs id v w at (step.halves_same n))
        (λ n. total_kept (above_of n) vs id v w at (step.above_same n)) rule.bare;
    trees = each_kept (λ (u : View). TreeOk p a.trees a.nodes u.known u.links u.halves u.sprout) vs id w step.trees rule.trees;
    growth = growth_view p a.trees a.bred vs id v w at step.grow_draws step.full_grows step.sprout rule.growth;
    grows = each_kept (λ (u : View). GrowsOk p a.bred u.grow_draws u.full_grows u.spawns u.seats) vs id w step.grows rule.grows;
  }
