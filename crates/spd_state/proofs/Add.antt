-- `add_root` keeps the rule.
use Rattle.std.proofs.Common.{◌≡◌, ◌≢◌, ℕ, ◌+◌, ◌*◌, ◌<◌, ◌≤◌, List, length, set, refl, sym, ap, ◌∙◌, subst, arith, Option, Some, None, ⊎_elim}
use Prim.Native.Nat.{zero, suc}
use mathlib.Core.Option.{some}
use mathlib.Core.Option as maybe
use mathlib.Core.Logic.{dite}
use native.Mathlib.Decide.{dec_lt}
use lib.ListN.{get_elem?}
use Rattle.spd_words.specs.Plan.{PlanView}
use Rattle.spd_words.specs.Words.{Node, NodeFits}
use Rattle.spd_state.specs.Sums.{same, gate, count, put}
use Rattle.spd_state.specs.Dag.{Dag, runners, flights, earlies, tellers, holders, units, rights, openings, right_of, units_of, load_of, runs_it}
use Rattle.spd_state.specs.Dag.{named, opens_in, flies_in, early_in, busy, right_at, tree_right}
use Rattle.spd_state.specs.Parts.{RunsOk, FlightsOk, OwnOk, Rule, MoveRule}
use Rattle.spd_state.specs.Steps.{add_node, add_view}
use Rattle.spd_state.specs.declared.view.Running.{Running}
use Rattle.spd_state.specs.declared.view.Flight.{Flight}
use Rattle.spd_state.specs.declared.trees.Known.{Known}
use Rattle.spd_state.specs.Dag.{hand, claimed_at}
use Rattle.spd_state.proofs.Sums.{total_some}
use Rattle.spd_state.proofs.Roots.{tree_roots, root_else, counts_root, bare_root, trees_root}
use Rattle.spd_state.proofs.Makers.{maker_alike}
use Rattle.spd_state.proofs.Past.{past_view}
use Rattle.spd_state.specs.declared.view.View.{View}
use Rattle.spd_state.proofs.Sums.{same_self, same_else, same_means, same_tells, put_case, total_set, total_kept, each_set, each_kept}
use Rattle.spd_state.proofs.Frames.{moves_kept, runs_kept, balances_kept, finishes_kept, slots_kept, marks_kept}
use Rattle.spd_state.proofs.Rights.{count_le, units_few, unit_counts, right_holds}
use Rattle.spd_state.specs.Tree.{Under, no_node, TreeOk}
use Rattle.spd_state.specs.Dag.{halves, half_of, aboves, above_of, claimed_units}
use Rattle.spd_state.specs.Parts.{GrowsOk}
use Rattle.spd_state.proofs.Frames.{bare_kept, growth_view, lives_alike, starts_kept}
use Rattle.spd_state.proofs.Rights.{unit_roots}

module _ {B : Type 0} (p : PlanView) (a : Dag) (homes : List (maybe.Option (Option B))) (vs : List View) (rule : Rule p a homes vs) (id : ℕ)
    (v : View) (at : get_elem? vs id ≡ some v) where
  -- a right in a tree keeps a unit at its root
  pub right_counts_there : (d : ℕ) → 0 < tree_right d v → 0 < units p a vs d
  right_counts_there d h = dite (dec_lt 0 (right_at d v.running)) (λ z. by_running v.running refl z)
      (λ z. by_known (total_some (λ (k : Known). gate (same d k.top) (hand k.node v)) v.known (omega arith)))
    where
      by_running : (o : Option Running) → v.running ≡ o → 0 < right_at d o → 0 < units p a vs d
      by_running None e k = absurd (omega arith)
      by_running (Some r) e k = held r.right refl k
        where
          held : (x : ℕ) → r.right ≡ x → 0 < gate x (same d r.finish) → 0 < units p a vs d
          held zero i j = absurd (omega arith)
          held (suc x) i j = let ok = subst (RunsOk p a.trees a.pairs a.vertices) e (rule.running id v at) in let le = ok.right in
              subst (λ n. 0 < units p a vs n) (sym (same_means d r.finish j)) (right_holds p a homes vs rule id v at r e (omega arith))

      gate_both : (x n : ℕ) → 0 < gate x n → (0 < x) × (0 < n)
      gate_both zero n z = absurd (omega arith)
      gate_both (suc x) n z = (omega arith, z)

      by_known : (j : ℕ) × (k : Known) × (get_elem? v.known j ≡ some k) × (0 < gate (same d k.top) (hand k.node v)) → 0 < units p a vs d
      by_known t = let k : Known = t.1 in let g = gate_both (same d k.top) (hand k.node v) t.3 in let under = (rule.trees id v at).knows t.0 k t.2 in
          let hands = hand_units v.lifted refl k.node in
          unit_roots p a homes vs rule k.node d (subst (λ f. Under p a.trees f k.node) (sym (same_means d k.top g.0)) under)
          (unit_counts p a homes vs rule id v at k.node (let g₁ = g.1 in omega arith))
        where
          hand_units : (s : ℕ) → v.lifted ≡ s → (n : ℕ) → hand n v ≤ units_of a.trees n v
          hand_units zero e n = let x : claimed_units a.trees n v.lifted v.claimed ≡ count n v.claimed = ap
              (λ j. claimed_units a.trees n j v.claimed) e in let y : claimed_at v.lifted n v.claimed ≡ count n v.claimed = ap
              (λ j. claimed_at j n v.claimed) e in omega arith
          hand_units (suc s) e n = let y : claimed_at v.lifted n v.claimed ≡ 0 = ap (λ j. claimed_at j n v.claimed) e in omega arith

  -- a view with a right has a seat
  pub right_sits : (d : ℕ) → 0 < tree_right d v → 0 < v.seats
  right_sits d h = let own = rule.own id v at in let few = own.few in let s = own.seated in
      dite (dec_lt 0 (right_at d v.running)) (λ z. let b = by_running v.running z in omega arith)
      (λ z. let t = total_some (λ (k : Known). gate (same d k.top) (hand k.node v)) v.known (omega arith) in
      let g = gate_le (same d t.1.top) (hand t.1.node v) in let t₃ = t.3 in
      let x = count_le t.1.node v.held in let y = claimed_le v.lifted t.1.node v.claimed in let z = count_le t.1.node v.rooted in omega arith)
    where
      by_running : (o : Option Running) → 0 < right_at d o → 0 < busy o
      by_running None k = k
      by_running (Some r) k = omega arith

      gate_le : (x n : ℕ) → gate x n ≤ n
      gate_le zero n = omega arith
      gate_le (suc x) n = omega arith

      claimed_le : (s n : ℕ) (l : List ℕ) → claimed_at s n l ≤ length l
      claimed_le zero n l = count_le n l
      claimed_le (suc s) n l = omega arith

  module _ (d : ℕ) (low : d < p.moves) (right : 0 < tree_right d v) (room : load_of v < 64) where
    abbrev n : Node
    n = a.nodes d

    abbrev w : View
    w = add_view d v

    abbrev after : List View
    after = set vs id w

    abbrev nodes' : ℕ → Node
    nodes' = put a.nodes d (add_node n)

    lives : 0 < units p a vs d
    lives = right_counts_there d right

    counted : n.twice ≡ 2 * units p a vs d
    counted = rule.counts.count d low

    pub add_fits : NodeFits n → NodeFits (add_node n)
    add_fits h = let few = units_few p a homes vs rule d in let c = counted in let m₁ = rule.plan.moves.most in
        record { twice = omega arith; version = h.version }

    units' : (k : ℕ) → units p (record a { nodes = nodes' }) after k ≡ units p a vs k + same k d
    units' k = let t = total_set (units_of a.trees k) vs id v w at in
        let r = tree_roots p.moves p.grown a.trees.parents a.nodes nodes' (root_else p.moves a.nodes d (add_node n) low) k in omega arith

    halves' : (k : ℕ) → halves after k ≡ halves vs k
    halves' k = total_kept (half_of k) vs id v w at refl

    openings' : (k : ℕ) → openings a.vertices after k ≡ openings a.vertices vs k
    openings' k = ap (λ j. named k (a.vertices (2 * k)) + j) (total_kept (λ (x : View). opens_in k x.flight) vs id v w at refl)

    own : OwnOk p a.trees v
    own = rule.own id v at

    own' : OwnOk p a.trees w
    own' = let few = own.few in let s = right_sits d right in record {
      claims = own.claims;
      rooted = own.rooted;
      there = λ k z. ⊎_elim (λ (t : (k ≡ d) × (same k d ≡ 1)). let e = t.0 in omega arith)
          (λ (t : (k ≢ d) × (same k d ≡ 0)). let e = t.1 in own.there k (omega arith)) (same_tells k d);
      lifts = own.lifts;
      single = own.single;
      tells = own.tells;
      spent = λ z. absurd (omega arith);
      few = omega arith;
      seated = own.seated;
      sitting = own.sitting;
    }

    -- a node with a count isn't as at the start
    set_root : a.nodes d ≡ no_node → ⊥
    set_root e = let t : n.twice ≡ 0 = ap (λ (x : Node). x.twice) e in let c = counted in let u = lives in omega arith

    flies : (o : Option Flight) → FlightsOk p a.trees a.drawn a.nodes a.pairs a.vertices o → FlightsOk p a.trees a.drawn nodes' a.pairs a.vertices o
    flies None k = tt
    flies (Some f) k = record {
      number = k.number;
      begun = k.begun;
      pair = k.pair;
      body = k.body;
      rest = k.rest;
      finish = k.finish;
      tops = k.tops;
      root_finish = k.root_finish;
      below = k.below;
      handle = k.handle;
      body_there = k.body_there;
      names = k.names;
      rest_there = k.rest_there;
      root = λ z. put_case (λ x. x ≡ no_node) a.nodes d (add_node n) f.number (λ e. absurd (set_root (ap a.nodes (sym e) ∙ k.root z)))
          (λ _. k.root z);
    }

    moves' : MoveRule p.moves a.drawn nodes' a.pairs a.vertices (flights after)
    moves' = let h = moves_kept p.moves a.drawn a.nodes a.pairs a.vertices (flights vs) (flights after)
        (λ k. total_kept (λ (u : View). flies_in k u.flight) vs id v w at refl) rule.moves in record {
          blank_pair = h.blank_pair;
          blank_body = h.blank_body;
          blank_rest = h.blank_rest;
          grounded = h.grounded;
          alone = h.alone;
          body_there = h.body_there;
          rest_there = h.rest_there;
          blank_root = λ k l b. put_case (λ x. x ≡ no_node) a.nodes d (add_node n) k
              (λ e. absurd (set_root (ap a.nodes (sym e) ∙ h.blank_root k l b)))
              (λ _. h.blank_root k l b);
        }

    roots : (u : View) → TreeOk p a.trees a.nodes u.known u.links u.halves u.sprout → TreeOk p a.trees nodes' u.known u.links u.halves u.sprout
    roots u k = trees_root p a.trees a.nodes d (add_node n) low u.known u.links u.halves u.sprout k

    pub add_keeps : Rule p (record a { nodes = nodes' }) homes after
    add_keeps = record {
      own = each_kept (OwnOk p a.trees) vs id w own' rule.own;
      running = each_kept (λ (u : View). RunsOk p a.trees a.pairs a.vertices u.running) vs id w (rule.running id v at) rule.running;
      flying = each_set (λ (u : View). FlightsOk p a.trees a.drawn a.nodes a.pairs a.vertices u.flight)
          (λ (u : View). FlightsOk p a.trees a.drawn nodes' a.pairs a.vertices u.flight) vs id w
          (flies v.flight (rule.flying id v at)) rule.flying (λ j u _ _ k. flies u.flight k);
      moves = moves';
      marks = marks_kept p.moves a.drawn vs id v w at refl refl refl rule.marks;
      starts = starts_kept p.moves a.vertices vs id v w at refl refl rule.starts;
      runs = runs_kept p.moves a.vertices (runners vs) (runners after)
          (λ x. total_kept (λ (u : View). runs_it x u.running) vs id v w at refl) rule.runs;
      live = record {
        shut = λ k l z. let u = units' k in let h = rule.live.shut k l
            (sym (lives_alike a.trees (openings a.vertices vs) (openings a.vertices after) openings' k) ∙ z) in
            ⊎_elim (λ (t : (k ≡ d) × (same k d ≡ 1)). let g = lives in absurd (let e = ap (units p a vs) t.0 in omega arith))
            (λ (t : (k ≢ d) × (same k d ≡ 0)). let e = t.1 in omega arith) (same_tells k d);
        finish = λ x l s. let t = rule.live.finish x l s in (t.0, subst (λ k. 0 < k) (sym (openings' (a.vertices x).finish)) t.1);
        inc = rule.live.inc;
      };
      counts = counts_root p.moves p.grown a.nodes (units p a vs) (units p (record a { nodes = nodes' }) after) (halves vs) (halves after) d
          (add_node n) low (let u = units' d in let c = counted in let s = same_self d d refl in omega arith) (rule.counts.plain d low)
          (λ k e. let u = units' k in let s = same_else k d e in omega arith) halves' rule.counts;
      balances = balances_kept p a.trees a.pairs a.vertices (rights p a.vertices vs) (rights p a.vertices after)
          (λ k. let t = total_kept (right_of k) vs id v w at refl in omega arith) rule.balances;
      finishes = finishes_kept p.moves a.vertices (openings a.vertices vs) (openings a.vertices after) (units p a vs)
          (units p (record a { nodes = nodes' }) after) (tellers vs) (tellers after) (earlies vs) (earlies after) openings'
          (λ f l. let u = units' f in (
            (λ z. omega arith),
            (λ z. ⊎_elim
                (λ (t : (f ≡ d) × (same f d ≡ 1)). let g = lives in absurd (let e = ap (units p a vs) t.0 in omega arith))
                (λ (t : (f ≢ d) × (same f d ≡ 0)). let e = t.1 in omega arith) (same_tells f d)),
          ))
          (λ f. total_kept (λ (u : View). count f u.told) vs id v w at refl)
          (λ f. total_kept (λ (u : View). early_in f u.flight) vs id v w at refl) rule.finishes;
      slots = slots_kept p.moves a.drawn a.vertices (holders vs) (holders after) homes
          (λ x. total_kept (λ (u : View). count x u.slots) vs id v w at refl) rule.slots;
      plan = rule.plan;
      history = past_view p a vs rule.history id v at w (maker_alike v w refl refl refl (λ z. z) (rule.history.makers id v at)) openings'
          (omega arith) refl refl refl refl refl;
      forest = rule.forest;
      bare = bare_root p a.trees (openings a.vertices after) a.nodes (halves after) (aboves after) d (add_node n) low
          (bare_kept p a.trees (openings a.vertices vs) (openings a.vertices after) a.nodes (halves vs) (halves after) (aboves vs) (aboves after)
          (λ f z. sym (openings' f) ∙ z) (λ n. total_kept (half_of n) vs id v w at refl) (λ n. total_kept (above_of n) vs id v w at refl) rule.bare);
      trees = each_set (λ (u : View). TreeOk p a.trees a.nodes u.known u.links u.halves u.sprout)
          (λ (u : View). TreeOk p a.trees nodes' u.known u.links u.halves u.sprout) vs id w (roots v (rule.trees id v at)) rule.trees
          (λ j u _ _ k. roots u k);
      growth = growth_view p a.trees a.bred vs id v w at refl refl refl rule.growth;
      grows = each_kept (λ (u : View). GrowsOk p a.bred u.grow_draws u.full_grows u.spawns u.seats) vs id w (rule.grows id v at) rule.grows;
    }
