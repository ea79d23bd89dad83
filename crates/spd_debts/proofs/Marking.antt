-- `set_done` keeps the rule of the table: vertex 1 is over, and one share has the mark of the end.
use Rattle.std.proofs.Common.{◌≡◌, ℕ, ◌+◌, List, [], set, refl, sym, ap, ◌∙◌, subst, arith, Option, Some, None}
use mathlib.Core.Option.{some}
use mathlib.Core.Option as maybe
use mathlib.Core.Logic.{dite}
use native.Mathlib.Decide.{ℕ_discrete}
use lib.ListN.{get_elem?}
use lib.Seq.{set-set}
use Rattle.spd_words.specs.Plan.{PlanView}
use Rattle.spd_state.specs.Sums.{count, total}
use Rattle.spd_state.specs.Dag.{Dag, started, runners, flights, earlies, tellers, holders, units, rights, openings, right_of, units_of, runs_it, opens_in}
use Rattle.spd_state.specs.Dag.{flies_in, early_in}
use Rattle.spd_state.specs.Dag.{halves, half_of, aboves, above_of}
use Rattle.spd_state.specs.History.{Done, MakerOk, forks_in}
use Rattle.spd_state.specs.Parts.{RunsOk, FlightsOk, OwnOk, GrowsOk, Rule}
use Rattle.spd_state.specs.Tree.{TreeOk}
use Rattle.spd_state.specs.declared.view.Running.{Running}
use Rattle.spd_state.specs.declared.view.View.{View}
use Rattle.spd_state.proofs.Frames.{moves_kept, live_kept, counts_kept, balances_kept, finishes_kept, slots_kept, marks_kept, bare_kept, growth_view, starts_kept}
use Rattle.spd_state.proofs.Loads.{over_keeps}
use Rattle.spd_state.proofs.Makers.{maker_alike}
use Rattle.spd_state.proofs.Rights.{running_ok}
use Rattle.spd_state.proofs.Settle.{there_set}
use Rattle.spd_state.proofs.Sums.{same_self, total_set, total_kept, total_has, each_kept}
use Rattle.spd_debts.specs.Payments.{done_view}
use Rattle.spd_debts.proofs.Ends.{done_done, shut_kept}
use Rattle.spd_debts.proofs.Keeping.{owing_same}

-- ---- the mark alone, which nothing of the rule reads but the word of the end

module _ {B : Type 0} (p : PlanView) (a : Dag) (homes : List (maybe.Option (Option B))) (vs : List View) (rule : Rule p a homes vs) (id : ℕ)
    (v : View) (at : get_elem? vs id ≡ some v) (done' n : ℕ) where
  abbrev w : View
  w = record v { done = n }

  abbrev after : List View
  after = set vs id w

  units' : (k : ℕ) → units p a after k ≡ units p a vs k
  units' k = let t = total_kept (units_of a.trees k) vs id v w at refl in omega arith

  openings' : (d : ℕ) → openings a.vertices after d ≡ openings a.vertices vs d
  openings' d = let t = total_kept (λ (u : View). opens_in d u.flight) vs id v w at refl in omega arith

  pub mark_rule : Done done' (a.vertices 1) (runners after 1) (total (λ (u : View). u.done) after) → Rule p (record a { done = done' }) homes after
  mark_rule ended = let own = rule.own id v at in let h = rule.history in record {
    plan = rule.plan;
    history = record {
      makers = each_kept MakerOk vs id w (maker_alike v w refl refl refl (λ z. z) (h.makers id v at)) h.makers;
      below = h.below;
      unmade = let t = total_kept (λ (u : View). u.fresh) vs id v w at refl in let u = h.unmade in let l = u.alone in
          record { alone = omega arith; none = λ z. u.none (omega arith) };
      shut = shut_kept p.moves (openings a.vertices vs) (openings a.vertices after) a.gifts a.faults (λ f z. sym (openings' f) ∙ z) h.shut;
      ended = ended;
      tallied = let t = total_kept (λ (u : View). u.ready) vs id v w at refl in let s = total_kept (λ (u : View). u.spawns) vs id v w at refl in
          let k = total_kept (λ (u : View). forks_in u.flight) vs id v w at refl in let x = h.tallied.ready in let y = h.tallied.spawns in
          record { ready = omega arith; spawns = omega arith };
    };
    own = each_kept (OwnOk p a.trees) vs id w
        record {
          claims = own.claims;
          rooted = own.rooted;
          there = own.there;
          lifts = own.lifts;
          single = own.single;
          tells = own.tells;
          spent = own.spent;
          few = own.few;
          seated = own.seated;
          sitting = own.sitting;
        }
        rule.own;
    running = each_kept (λ (u : View). RunsOk p a.trees a.pairs a.vertices u.running) vs id w (rule.running id v at) rule.running;
    flying = each_kept (λ (u : View). FlightsOk p a.trees a.drawn a.nodes a.pairs a.vertices u.flight) vs id w (rule.flying id v at) rule.flying;
    moves = moves_kept p.moves a.drawn a.nodes a.pairs a.vertices (flights vs) (flights after)
        (λ d. total_kept (λ (u : View). flies_in d u.flight) vs id v w at refl) rule.moves;
    marks = marks_kept p.moves a.drawn vs id v w at refl refl refl rule.marks;
    starts = starts_kept p.moves a.vertices vs id v w at refl refl rule.starts;
    runs = record { one = λ k l. let t = total_kept (λ (u : View). runs_it k u.running) vs id v w at refl in let b = rule.runs.one k l in omega arith };
    live = live_kept p a.trees (openings a.vertices vs) (openings a.vertices after) (units p a vs) (units p a after) a.vertices openings' units' rule.live;
    counts = counts_kept p.moves p.grown a.nodes (units p a vs) (units p a after) (halves vs) (halves after) units'
        (λ k. total_kept (half_of k) vs id v w at refl) rule.counts;
    balances = balances_kept p a.trees a.pairs a.vertices (rights p a.vertices vs) (rights p a.vertices after)
        (λ d. let t = total_kept (right_of d) vs id v w at refl in omega arith) rule.balances;
    finishes = finishes_kept p.moves a.vertices (openings a.vertices vs) (openings a.vertices after) (units p a vs) (units p a after) (tellers vs)
        (tellers after) (earlies vs) (earlies after) openings' (λ f l. ((λ z. sym (units' f) ∙ z), (λ z. units' f ∙ z)))
        (λ f. total_kept (λ (u : View). count f u.told) vs id v w at refl) (λ f. total_kept (λ (u : View). early_in f u.flight) vs id v w at refl)
        rule.finishes;
    slots = slots_kept p.moves a.drawn a.vertices (holders vs) (holders after) homes (λ x. total_kept (λ (u : View). count x u.slots) vs id v w at refl)
        rule.slots;
    forest = rule.forest;
    bare = bare_kept p a.trees (openings a.vertices vs) (openings a.vertices after) a.nodes (halves vs) (halves after) (aboves vs) (aboves after)
        (λ f z. sym (openings' f) ∙ z) (λ k. total_kept (half_of k) vs id v w at refl) (λ k. total_kept (above_of k) vs id v w at refl) rule.bare;
    trees = each_kept (λ (u : View). TreeOk p a.trees a.nodes u.known u.links u.halves u.sprout) vs id w (rule.trees id v at) rule.trees;
    growth = growth_view p a.trees a.bred vs id v w at refl refl refl rule.growth;
    grows = each_kept (λ (u : View). GrowsOk p a.bred u.grow_draws u.full_grows u.spawns u.seats) vs id w (rule.grows id v at) rule.grows;
  }

-- ---- the share of vertex 1, with nothing in hand

module _ {B : Type 0} (p : PlanView) (a : Dag) (homes : List (maybe.Option (Option B))) (vs : List View) (rule : Rule p a homes vs) (id : ℕ)
    (v : View) (at : get_elem? vs id ≡ some v) (r : Running) (is : v.running ≡ Some r) (end : r.vertex ≡ 1) (free : v.flight ≡ None)
    (empty : v.claimed ≡ []) where
  abbrev idle : View
  idle = record v { running = None; steps = v.steps + 1 }

  state : (a.vertices 1).state ≡ 3
  state = ap (λ k. (a.vertices k).state) (sym end) ∙ ap (λ x. x.state) (running_ok p a homes vs rule id v at r is).word

  right_none : r.right ≡ 0
  right_none = let k = running_ok p a homes vs rule id v at r is in let l = k.right in
      dite (ℕ_discrete r.right 0) (λ e. e) (λ e. absurd (k.other (omega arith) end))

  runs_one : runs_it 1 v.running ≡ 1
  runs_one = ap (runs_it 1) is ∙ same_self 1 r.vertex (sym end)

  one_runs : runners vs 1 ≡ 1
  one_runs = let b = rule.runs.one 1 (let k = (running_ok p a homes vs rule id v at r is).vertex in omega arith) in
      let s : started (a.vertices 1).state ≡ 1 = ap started state in let t = total_has (λ (u : View). runs_it 1 u.running) vs id v at in let o = runs_one in
      omega arith

  unmarked : v.done ≡ 0
  unmarked = let h = rule.history.ended in let t = total_has (λ (u : View). u.done) vs id v at in let m = h.mark in let o = h.one in let n = one_runs in
      dite (ℕ_discrete a.done 1) (λ e. let z = (h.over e).1 in absurd (omega arith)) (λ e. omega arith)

  pub done_rule : Rule p (record a { done = 1 }) homes (set vs id (done_view v))
  done_rule = let k = over_keeps p a homes vs rule id v at idle (owing_same v idle refl) free r is right_none empty refl in
      subst (λ (l : List View). Rule p (record a { done = 1 }) homes l) (set-set vs id idle (done_view v))
      (mark_rule p a homes (set vs id idle) k id idle (there_set vs id v idle at) 1 1 ended)
    where
      ended : Done 1 (a.vertices 1) (runners (set (set vs id idle) id (done_view v)) 1) (total (λ (u : View). u.done) (set (set vs id idle) id (done_view v)))
      ended = subst (λ (l : List View). Done 1 (a.vertices 1) (runners l 1) (total (λ (u : View). u.done) l)) (sym (set-set vs id idle (done_view v)))
          (done_done a.done (runners vs 1) (total (λ (u : View). u.done) vs) (runners (set vs id (done_view v)) 1)
          (total (λ (u : View). u.done) (set vs id (done_view v))) (a.vertices 1) rule.history.ended (let s = state in omega arith) one_runs
          (let t = total_set (λ (u : View). runs_it 1 u.running) vs id v (done_view v) at in let o = runs_one in omega arith)
          (let t = total_set (λ (u : View). u.done) vs id v (done_view v) at in let u = unmarked in omega arith))

-- the word of the end is 0 while a share runs vertex 1
pub not_done : {B : Type 0} (p : PlanView) (a : Dag) (homes : List (maybe.Option (Option B))) (vs : List View) (rule : Rule p a homes vs) (id : ℕ)
    (v : View) (at : get_elem? vs id ≡ some v) (r : Running) (is : v.running ≡ Some r) → r.vertex ≡ 1 → a.done ≡ 0
not_done p a homes vs rule id v at r is end = let h = rule.history.ended in let o = h.one in
    let t = total_has (λ (u : View). runs_it 1 u.running) vs id v at in
    let one : runs_it 1 v.running ≡ 1 = ap (runs_it 1) is ∙ same_self 1 r.vertex (sym end) in
    dite (ℕ_discrete a.done 1) (λ e. let z = (h.over e).1 in absurd (omega arith)) (λ e. omega arith)
