-- `set_root` keeps the rule.
use Rattle.std.proofs.Common.{◌≡◌, ◌≢◌, ◌⊎◌, ℕ, ◌+◌, ◌-◌, ◌*◌, ◌<◌, ◌≤◌, List, [], ◌∷◌, cond, true, length, set, refl, sym, ap, ◌∙◌, subst, arith}
use Rattle.std.proofs.Common.{Option, Some, None, ⊎_elim, inl, inr}
use mathlib.Core.Option.{some}
use mathlib.Core.Option as maybe
use mathlib.Core.Logic.{dite}
use native.Mathlib.Decide.{ℕ_discrete}
use lib.ListN.{get_elem?}
use Rattle.spd_words.specs.Plan.{PlanView}
use Rattle.spd_words.specs.Words.{Node, Vertex}
use Rattle.spd_words.specs.Meaning.{Meaning}
use Rattle.spd_state.specs.Sums.{same, gate, times, count, put}
use Rattle.spd_state.specs.Dag.{Dag, runners, flights, earlies, tellers, holders, units, rights, openings, right_of, yet_of, yet_in, root_of}
use Rattle.spd_state.specs.Dag.{early_of, root_only, body_left, rest_left, units_of, load_of, runs_it, named, opens_in, flies_in, early_in, busy}
use Rattle.spd_state.specs.Parts.{RunsOk, RootedOk, FlightOk, FlightsOk, OwnOk, Rule, FinishRule}
use Rattle.spd_state.specs.Stages.{root_node, rooted_view}
use Rattle.spd_state.specs.declared.view.Flight.{Flight}
use Rattle.spd_state.specs.declared.view.Draw.{Draw}
use Rattle.spd_state.specs.declared.view.Draw.TheVariants.{Make, Chain}
use Rattle.spd_state.proofs.Roots.{tree_roots, root_else, counts_root, bare_root, trees_root}
use Rattle.spd_state.proofs.Sums.{each_cons, gate_le}
use Rattle.spd_state.proofs.Makers.{maker_stage}
use Rattle.spd_state.proofs.Past.{past_opened}
use Rattle.spd_state.specs.History.{fork_of, forks_in, working_of}
use Rattle.spd_state.specs.declared.view.View.{View}
use Rattle.spd_state.proofs.Sums.{same_self, same_else, same_tells, put_case, total_set, total_kept, total_two, total_le_at, each_set, each_kept}
use Rattle.spd_state.proofs.Frames.{moves_kept, runs_kept, balances_kept, slots_kept, marks_kept}
use Rattle.spd_state.specs.Tree.{Under, lives, live_under, TreeOk, no_node}
use Rattle.spd_state.specs.Dag.{halves, half_of, aboves, above_of}
use Rattle.spd_state.specs.Parts.{GrowsOk}
use Rattle.spd_state.proofs.Frames.{bare_kept, growth_view, lives_on, starts_kept}
use Rattle.spd_state.proofs.Rights.{under_itself}

-- a make or a chain
pub record Opens (draw : Draw) : Type 0 where
  pub yet_0 : yet_of draw 0 ≡ 0
  pub yet_1 : yet_of draw 1 ≡ 0
  pub root_0 : root_of draw 0 ≡ 0
  pub root_1 : root_of draw 1 ≡ 1
  pub early_0 : early_of draw 0 ≡ 0
  pub early_1 : early_of draw 1 ≡ 1
  pub only_0 : root_only draw 0 ≡ Rattle.std.proofs.Common.false
  pub only_1 : root_only draw 1 ≡ true
  pub body_0 : body_left draw 0 ≡ 1
  pub body_1 : body_left draw 1 ≡ 1
  pub rest_0 : rest_left draw 0 ≡ 1
  pub rest_1 : rest_left draw 1 ≡ 1
  pub fork_0 : fork_of draw 0 ≡ 0
  pub fork_1 : fork_of draw 1 ≡ 0
  pub works : working_of draw 1 ≡ working_of draw 0

pub make_opens : Opens Make
make_opens = record {
  yet_0 = refl;
  yet_1 = refl;
  root_0 = refl;
  root_1 = refl;
  early_0 = refl;
  early_1 = refl;
  only_0 = refl;
  only_1 = refl;
  body_0 = refl;
  body_1 = refl;
  rest_0 = refl;
  rest_1 = refl;
  fork_0 = refl;
  fork_1 = refl;
  works = refl;
}

pub chain_opens : Opens Chain
chain_opens = record {
  yet_0 = refl;
  yet_1 = refl;
  root_0 = refl;
  root_1 = refl;
  early_0 = refl;
  early_1 = refl;
  only_0 = refl;
  only_1 = refl;
  body_0 = refl;
  body_1 = refl;
  rest_0 = refl;
  rest_1 = refl;
  fork_0 = refl;
  fork_1 = refl;
  works = refl;
}

pub opens_le : (d : ℕ) (o : Option Flight) → opens_in d o ≤ flies_in d o
opens_le d None = omega arith
opens_le d (Some g) = gate_le (root_of g.draw g.stage) (same d g.number)

early_le : (d : ℕ) (o : Option Flight) → early_in d o ≤ flies_in d o
early_le d None = omega arith
early_le d (Some g) = gate_le (early_of g.draw g.stage) (same d g.number)

module _ {B : Type 0} (p : PlanView) (a : Dag) (homes : List (maybe.Option (Option B))) (vs : List View) (rule : Rule p a homes vs) (id : ℕ)
    (v : View) (at : get_elem? vs id ≡ some v)
    (draw : Draw) (kind : Opens draw) (m : Meaning) (d : ℕ) (flies : v.flight ≡ Some record { draw = draw; number = d; finish = d; stage = 0 })
    (room : load_of v < 66) where
  abbrev w : View
  w = rooted_view draw d m v

  abbrev after : List View
  after = set vs id w

  abbrev nodes' : ℕ → Node
  nodes' = put a.nodes d root_node

  ok : FlightOk p a.trees a.drawn a.nodes a.pairs a.vertices record { draw = draw; number = d; finish = d; stage = 0 }
  ok = subst (FlightsOk p a.trees a.drawn a.nodes a.pairs a.vertices) flies (rule.flying id v at)

  own : OwnOk p a.trees v
  own = rule.own id v at

  blank : a.nodes d ≡ no_node
  blank = ok.root refl

  none_rooted : v.rooted ≡ []
  none_rooted = subst (λ (o : Option Flight). RootedOk o v.rooted) flies own.rooted ∙ ap (λ b. cond b (d ∷ []) []) kind.only_0

  pub no_units : units p a vs d ≡ 0
  no_units = let c = rule.counts.count d ok.number in let t : (a.nodes d).twice ≡ 0 = ap (λ (x : Node). x.twice) blank in omega arith

  mine : flies_in d v.flight ≡ 1
  mine = ap (flies_in d) flies ∙ same_self d d refl

  -- the finish isn't open before, and no flight of its number is early
  pub shut : openings a.vertices vs d ≡ 0
  shut = let n : named d (a.vertices (2 * d)) ≡ 0 = ap (named d) (ok.body (let b = kind.body_0 in omega arith)) in let m = mine in
      let f = rule.moves.alone d ok.number in
      let o : opens_in d v.flight ≡ 0 = ap (opens_in d) flies ∙ ap (λ k. gate k (same d d)) kind.root_0 in
      let t = total_le_at (λ (u : View). opens_in d u.flight) (λ (u : View). flies_in d u.flight) vs id v at (λ u. opens_le d u.flight) in omega arith

  not_early : earlies vs d ≡ 0
  not_early = let m = mine in let f = rule.moves.alone d ok.number in let o : early_in d v.flight ≡ 0 = ap (early_in d) flies
      ∙ ap (λ k. gate k (same d d)) kind.early_0 in
      let t = total_le_at (λ (u : View). early_in d u.flight) (λ (u : View). flies_in d u.flight) vs id v at (λ u. early_le d u.flight) in omega arith

  units' : (n : ℕ) → units p (record a { nodes = nodes' }) after n ≡ units p a vs n + same n d
  units' n = let t = total_set (units_of a.trees n) vs id v w at in let c : count n v.rooted ≡ 0 = ap (count n) none_rooted in
      let r = tree_roots p.moves p.grown a.trees.parents a.nodes nodes' (root_else p.moves a.nodes d root_node ok.number) n in omega arith

  halves' : (n : ℕ) → halves after n ≡ halves vs n
  halves' n = total_kept (half_of n) vs id v w at refl

  openings' : (e : ℕ) → openings a.vertices after e ≡ openings a.vertices vs e + same e d
  openings' e = let t = total_set (λ (u : View). opens_in e u.flight) vs id v w at in let o : opens_in e v.flight ≡ 0 = ap (opens_in e) flies
      ∙ ap (λ k. gate k (same e d)) kind.root_0 in
      let n : opens_in e w.flight ≡ same e d = ap (λ k. gate k (same e d)) kind.root_1 in omega arith

  early' : (e : ℕ) → earlies after e ≡ earlies vs e + same e d
  early' e = let t = total_set (λ (u : View). early_in e u.flight) vs id v w at in let o : early_in e v.flight ≡ 0 = ap (early_in e) flies
      ∙ ap (λ k. gate k (same e d)) kind.early_0 in
      let n : early_in e w.flight ≡ same e d = ap (λ k. gate k (same e d)) kind.early_1 in omega arith

  told' : (f : ℕ) → tellers after f ≡ tellers vs f
  told' f = total_kept (λ (u : View). count f u.told) vs id v w at refl

  own' : OwnOk p a.trees w
  own' = let few = own.few in let l : length v.rooted ≡ 0 = ap length none_rooted in let b : busy v.flight ≡ 1 = ap busy flies in
      let s = own.sitting in let low = ok.number in record {
        claims = own.claims;
        rooted = sym (ap (λ b. cond b (d ∷ []) []) kind.only_1);
        there = own.there;
        lifts = own.lifts;
        single = own.single;
        tells = own.tells;
        spent = λ z. absurd (omega arith);
        few = omega arith;
        seated = own.seated;
        sitting = omega arith;
      }

  others_fly : (j : ℕ) (y : View) → j ≢ id → get_elem? vs j ≡ some y → FlightsOk p a.trees a.drawn a.nodes a.pairs a.vertices y.flight
      → FlightsOk p a.trees a.drawn nodes' a.pairs a.vertices y.flight
  others_fly j y n e = go y.flight refl
    where
      go : (o : Option Flight) → y.flight ≡ o → FlightsOk p a.trees a.drawn a.nodes a.pairs a.vertices o
          → FlightsOk p a.trees a.drawn nodes' a.pairs a.vertices o
      go None i k = tt
      go (Some g) i k = record {
        number = k.number;
        begun = k.begun;
        pair = k.pair;
        body = k.body;
        rest = k.rest;
        finish = k.finish;
        tops = k.tops;
        root_finish = k.root_finish;
        below = k.below;
        handle = k.handle;
        body_there = k.body_there;
        names = k.names;
        rest_there = k.rest_there;
        root = λ z. put_case (λ x. x ≡ no_node) a.nodes d root_node g.number
            (λ s. absurd (let t = total_two (λ (q : View). flies_in d q.flight) vs j id y v e at n in let m = rule.moves.alone d ok.number in
            let q : flies_in d y.flight ≡ same d g.number = ap (flies_in d) i in let s₁ = same_self d g.number (sym s) in let s₂ = mine in
            omega arith)) (λ _. k.root z);
      }

  finishes' : FinishRule p.moves a.vertices (openings a.vertices after) (units p (record a { nodes = nodes' }) after) (tellers after) (earlies after)
  finishes' = let h = rule.finishes in let none = shut in let empty = no_units in
      let blank_rest : (a.vertices (2 * d + 1)).state ≡ 0 = ap (λ (x : Vertex). x.state) (ok.rest (let b = kind.rest_0 in omega arith)) in
      let quiet = h.untold d ok.number none in let ne = not_early in
      let at_d : (f : ℕ) → f ≡ d → ((a.vertices (2 * f + 1)).state ≡ 0) × (tellers after f ≡ 0) × (earlies after f ≡ 1)
      × (0 < units p (record a { nodes = nodes' }) after f) = λ f e. let s = same_self f d e in let y = early' f in let u = units' f in
      let q : earlies vs f ≡ 0 = ap (earlies vs) e ∙ ne in (
        ap (λ j. (a.vertices (2 * j + 1)).state) e ∙ blank_rest,
        told' f
            ∙ (ap (tellers vs) e ∙ quiet),
        omega arith,
        omega arith,
      ) in record {
        untold = λ f l z. let o = openings' f in told' f ∙ h.untold f l (omega arith);
        going = λ f l z g. dite (ℕ_discrete f d) (λ e. let k = at_d f e in let k₀ = k.0 in (omega arith, k.1))
            (λ e. let s = same_else f d e in let o = openings' f in let u = units' f in let k = h.going f l (omega arith) (omega arith) in
            (k.0, told' f ∙ k.1));
        coming = λ f l z g. dite (ℕ_discrete f d) (λ e. (at_d f e).2)
            (λ e. let s = same_else f d e in let o = openings' f in let y = early' f in let k = h.coming f l (omega arith) g in omega arith);
        over = λ f l z g. dite (ℕ_discrete f d) (λ e. let k = (at_d f e).3 in absurd (omega arith))
            (λ e. let s = same_else f d e in let o = openings' f in let u = units' f in h.over f l (omega arith) (omega arith));
        tell = λ f l z g y. dite (ℕ_discrete f d) (λ e. let k = (at_d f e).3 in absurd (omega arith))
            (λ e. let s = same_else f d e in let o = openings' f in let u = units' f in told' f ∙ h.tell f l (omega arith) (omega arith) y);
        woken = λ f l z g y. dite (ℕ_discrete f d) (λ e. let k = (at_d f e).3 in absurd (omega arith))
            (λ e. let s = same_else f d e in let o = openings' f in let u = units' f in told' f ∙ h.woken f l (omega arith) (omega arith) y);
      }

  fewer : (f : ℕ) → openings a.vertices after f ≡ 0 → openings a.vertices vs f ≡ 0
  fewer f z = let o = openings' f in omega arith

  roots : (u : View) → TreeOk p a.trees a.nodes u.known u.links u.halves u.sprout → TreeOk p a.trees nodes' u.known u.links u.halves u.sprout
  roots u k = trees_root p a.trees a.nodes d root_node ok.number u.known u.links u.halves u.sprout k

  knows_root : TreeOk p a.trees nodes' w.known w.links w.halves w.sprout
  knows_root = let h = roots v (rule.trees id v at) in record {
    knows = each_cons
        (λ k. Under p a.trees k.top k.node) (record { node = d; top = d }) v.known (under_itself p a homes vs rule d ok.number) h.knows;
    linked = h.linked;
    halved = h.halved;
    sprouts = h.sprouts;
  }

  pub root_keeps : Rule p (record a { nodes = nodes' }) homes after
  root_keeps = record {
    own = each_kept (OwnOk p a.trees) vs id w own' rule.own;
    running = each_kept (λ (u : View). RunsOk p a.trees a.pairs a.vertices u.running) vs id w (rule.running id v at) rule.running;
    flying = each_set (λ (y : View). FlightsOk p a.trees a.drawn a.nodes a.pairs a.vertices y.flight)
        (λ (y : View). FlightsOk p a.trees a.drawn nodes' a.pairs a.vertices y.flight) vs id w
        record {
          number = ok.number;
          begun = ok.begun;
          finish = ok.finish;
          root_finish = λ _. refl;
          below = ok.below;
          handle = λ _ (z : 2 ≤ 1). absurd (omega arith);
          root = λ (z : 1 ≡ 0). absurd (omega arith);
          pair = λ _. ok.pair (let e : 0 < 2 = omega arith in e);
          tops = λ (z : 2 ≤ 1). absurd (omega arith);
          body = λ _. ok.body (let b = kind.body_0 in omega arith);
          rest = λ _. ok.rest (let b = kind.rest_0 in omega arith);
          body_there = λ z. let b = kind.body_1 in absurd (omega arith);
          names = λ z. let b = kind.body_1 in absurd (omega arith);
          rest_there = λ z. let b = kind.rest_1 in absurd (omega arith);
        }
        rule.flying (λ j y n e k. others_fly j y n e k);
    moves = let h = moves_kept p.moves a.drawn a.nodes a.pairs a.vertices (flights vs) (flights after)
        (λ e. total_kept (λ (y : View). flies_in e y.flight) vs id v w at (sym (ap (flies_in e) flies))) rule.moves in record {
          blank_pair = h.blank_pair;
          blank_body = h.blank_body;
          blank_rest = h.blank_rest;
          grounded = h.grounded;
          alone = h.alone;
          body_there = h.body_there;
          rest_there = h.rest_there;
          blank_root = λ e l b. put_case (λ x. x ≡ no_node) a.nodes d root_node e (λ s. let g = ok.begun in absurd (omega arith))
              (λ _. h.blank_root e l b);
        };
    marks = marks_kept p.moves a.drawn vs id v w at refl refl refl rule.marks;
    starts = starts_kept p.moves a.vertices vs id v w at refl refl rule.starts;
    runs = runs_kept p.moves a.vertices (runners vs) (runners after)
        (λ x. total_kept (λ (u : View). runs_it x u.running) vs id v w at refl) rule.runs;
    live = record {
      shut = λ n l z. let u = units' n in let h = rule.live.shut n l
          (lives_on a.trees (openings a.vertices vs) (openings a.vertices after) fewer n z) in
          ⊎_elim (λ (t : (n ≡ d) × (same n d ≡ 1)). let s = same_self d d refl in let o = openings' d in
          let e : lives a.trees (openings a.vertices after) n ≡ openings a.vertices after d = ap (lives a.trees (openings a.vertices after)) t.0
          ∙ ap (live_under (openings a.vertices after)) (rule.forest.root d ok.number) in absurd (omega arith))
          (λ (t : (n ≢ d) × (same n d ≡ 0)). let e = t.1 in omega arith) (same_tells n d);
      finish = λ x l s. let t = rule.live.finish x l s in let o = openings' (a.vertices x).finish in let g = t.1 in (t.0, omega arith);
      inc = rule.live.inc;
    };
    counts = counts_root p.moves p.grown a.nodes (units p a vs) (units p (record a { nodes = nodes' }) after) (halves vs)
        (halves after) d root_node ok.number (let u = units' d in let s = same_self d d refl in let z = no_units in omega arith) refl
        (λ n e. let u = units' n in let s = same_else n d e in omega arith) halves' rule.counts;
    balances = balances_kept p a.trees a.pairs a.vertices (rights p a.vertices vs) (rights p a.vertices after)
        (λ e. let o : yet_in e v.flight ≡ 0 = ap (yet_in e) flies ∙ ap (λ k. times k (same e d)) kind.yet_0 in
        let n : yet_in e w.flight ≡ 0 = ap (λ k. times k (same e d)) kind.yet_1 in
        let t = total_kept (right_of e) vs id v w at (let q : right_of e w ≡ right_of e v = omega arith in q) in omega arith) rule.balances;
    finishes = finishes';
    slots = slots_kept p.moves a.drawn a.vertices (holders vs) (holders after) homes
        (λ x. total_kept (λ (u : View). count x u.slots) vs id v w at refl) rule.slots;
    plan = rule.plan;
    history = past_opened p a vs rule.history id v at w (maker_stage v w draw d d 0 1 flies refl refl refl
        (λ z. z) kind.works (rule.history.makers id v at)) d openings' (omega arith) refl refl refl refl
        (kind.fork_1 ∙ sym (ap forks_in flies ∙ kind.fork_0));
    forest = rule.forest;
    bare = bare_root p a.trees (openings a.vertices after) a.nodes (halves after) (aboves after) d root_node ok.number
        (bare_kept p a.trees (openings a.vertices vs) (openings a.vertices after) a.nodes (halves vs) (halves after) (aboves vs) (aboves after) fewer
        (λ n. total_kept (half_of n) vs id v w at refl) (λ n. total_kept (above_of n) vs id v w at refl) rule.bare);
    trees = each_set (λ (u : View). TreeOk p a.trees a.nodes u.known u.links u.halves u.sprout)
        (λ (u : View). TreeOk p a.trees nodes' u.known u.links u.halves u.sprout) vs id w knows_root rule.trees (λ j u _ _ k. roots u k);
    growth = growth_view p a.trees a.bred vs id v w at refl refl refl rule.growth;
    grows = each_kept (λ (u : View). GrowsOk p a.bred u.grow_draws u.full_grows u.spawns u.seats) vs id w (rule.grows id v at) rule.grows;
  }
