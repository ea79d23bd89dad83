-- A view that changes in nothing that the rule reads, as at a load; and a vertex that is over.
use Rattle.std.proofs.Common.{◌≡◌, ℕ, ◌+◌, ◌<◌, ◌≤◌, List, [], length, set, sym, ap, ◌∙◌, subst, arith, Option, Some, None}
use mathlib.Core.Option.{some}
use mathlib.Core.Option as maybe
use lib.ListN.{get_elem?}
use Rattle.spd_words.specs.Plan.{PlanView}
use Rattle.spd_state.specs.Sums.{same, gate, count}
use Rattle.spd_state.specs.Dag.{Dag, runners, flights, earlies, tellers, holders, units, rights, openings, right_of, has_right, units_of, load_of}
use Rattle.spd_state.specs.Dag.{goods, runs_it, named, opens_in, flies_in, early_in, busy}
use Rattle.spd_state.specs.Parts.{RunsOk, ClaimsOk, RootedOk, FlightsOk, OwnOk, Rule}
use Rattle.spd_state.specs.declared.view.Running.{Running}
use Rattle.spd_state.specs.declared.view.Flight.{Flight}
use Rattle.spd_state.specs.declared.trees.Half.{Half}
use Rattle.spd_state.proofs.Makers.{maker_alike, maker_none}
use Rattle.spd_state.proofs.Past.{past_view}
use Rattle.spd_state.specs.History.{MakerOk, forks_in}
use Rattle.spd_state.specs.declared.view.View.{View}
use Rattle.spd_state.proofs.Sums.{total_set, total_kept, each_kept}
use Rattle.spd_state.proofs.Frames.{moves_kept, live_kept, counts_kept, balances_kept, finishes_kept, slots_kept, marks_kept}
use Rattle.spd_state.specs.Sums.{total}
use Rattle.spd_state.specs.Tree.{TreeOk}
use Rattle.spd_state.specs.Dag.{halves, half_of, aboves, above_of, nursed, nurses, claimed_units, claimed_above, above_units}
use Rattle.spd_state.specs.Parts.{GrowsOk}
use Rattle.spd_state.proofs.Frames.{bare_kept, growth_view, starts_kept}

-- the entries that the rule reads, but for the running vertex
pub record Same (v w : View) : Type 0 where
  pub flight : w.flight ≡ v.flight
  pub held : w.held ≡ v.held
  pub claimed : w.claimed ≡ v.claimed
  pub rooted : w.rooted ≡ v.rooted
  pub told : w.told ≡ v.told
  pub slots : w.slots ≡ v.slots
  pub full_draws : w.full_draws ≡ v.full_draws
  pub seats : w.seats ≡ v.seats
  pub spare : w.spare ≡ v.spare
  pub lifted : w.lifted ≡ v.lifted
  pub above : w.above ≡ v.above
  pub halves : w.halves ≡ v.halves
  pub known : w.known ≡ v.known
  pub links : w.links ≡ v.links
  pub sprout : w.sprout ≡ v.sprout
  pub grow_draws : w.grow_draws ≡ v.grow_draws
  pub full_grows : w.full_grows ≡ v.full_grows
  pub spawns : w.spawns ≡ v.spawns
  pub fresh : w.fresh ≡ v.fresh
  pub ready : w.ready ≡ v.ready
  pub starts : w.starts ≡ v.starts
  pub done : w.done ≡ v.done

module _ {B : Type 0} (p : PlanView) (a : Dag) (homes : List (maybe.Option (Option B))) (vs : List View) (rule : Rule p a homes vs) (id : ℕ)
    (v : View) (at : get_elem? vs id ≡ some v) (w : View) (like : Same v w) where
  abbrev after : List View
  after = set vs id w

  own : OwnOk p a.trees v
  own = rule.own id v at

  units_same : (n : ℕ) → units_of a.trees n w ≡ units_of a.trees n v
  units_same n i = count n (like.held i) + claimed_units a.trees n (like.lifted i) (like.claimed i) + count n (like.rooted i) + above_units a.trees n
      (like.above i)

  above_same : (n : ℕ) → above_of n w ≡ above_of n v
  above_same n i = count n (like.above i) + claimed_above (like.lifted i) n (like.claimed i)

  load_same : load_of w ≡ load_of v
  load_same i = length (like.held i) + length (like.claimed i) + length (like.rooted i) + length (like.above i)

  -- but for the running vertex
  goods_same : goods w + busy v.running ≡ goods v + busy w.running
  goods_same = let l = load_same in let f : busy w.flight ≡ busy v.flight = ap busy like.flight in
      let h : length w.halves ≡ length v.halves = ap length like.halves in let q : busy w.sprout ≡ busy v.sprout = ap busy like.sprout in
      let t : length w.told ≡ length v.told = ap length like.told in let k : length w.slots ≡ length v.slots = ap length like.slots in omega arith

  trees_same : TreeOk p a.trees a.nodes v.known v.links v.halves v.sprout → TreeOk p a.trees a.nodes w.known w.links w.halves w.sprout
  trees_same h = subst (λ (X : Type 0). X) (sym (λ i. TreeOk p a.trees a.nodes (like.known i) (like.links i) (like.halves i) (like.sprout i))) h

  grows_same : GrowsOk p a.bred v.grow_draws v.full_grows v.spawns v.seats → GrowsOk p a.bred w.grow_draws w.full_grows w.spawns w.seats
  grows_same h = subst (λ (X : Type 0). X) (sym (λ i. GrowsOk p a.bred (like.grow_draws i) (like.full_grows i) (like.spawns i) (like.seats i))) h

  -- the running vertex may be another's part of the rule
  pub same_keeps : (maker : MakerOk w) (claims : ClaimsOk p a.trees w.running v.claimed) → busy w.running ≤ v.seats
      → RunsOk p a.trees a.pairs a.vertices w.running → ((k : ℕ) → runs_it k w.running ≤ runs_it k v.running)
      → ((d : ℕ) → has_right d w.running ≡ has_right d v.running)
      → Rule p a homes after
  same_keeps maker claims busy_now runs_now fewer rights_now =
      let units' : (n : ℕ) → units p a after n ≡ units p a vs n = λ n. let t = total_kept (units_of a.trees n) vs id v w at (units_same n) in
      omega arith in
      let openings' : (d : ℕ) → openings a.vertices after d ≡ openings a.vertices vs d = λ d. let t =
      total_kept (λ (u : View). opens_in d u.flight) vs id v w at (ap (opens_in d) like.flight) in omega arith in record {
        own = each_kept (OwnOk p a.trees) vs id w record {
          claims = subst (ClaimsOk p a.trees w.running) (sym like.claimed) claims;
          rooted = subst (RootedOk w.flight) (sym like.rooted) (subst (λ (o : Option Flight). RootedOk o v.rooted) (sym like.flight) own.rooted);
          there = λ n z. own.there n (subst (λ j. 0 < j) (λ i. count n (like.held i) + count n (like.above i)) z);
          lifts = λ n z. own.lifts n (subst (λ j. 0 < j) (above_same n) z);
          single = subst (λ l. length l ≤ 1) (sym like.claimed) own.single;
          tells = λ n z. own.tells n (subst (λ l. 0 < count n l) like.told z);
          spent = λ z. let e = goods_same in let s = like.seats in let k = own.spent (omega arith) in omega arith;
          few = let e = load_same in let s = like.seats in let f = own.few in omega arith;
          seated = let s = like.seats in omega arith;
          sitting = let s = like.seats in let f = own.sitting in let e : busy w.flight ≡ busy v.flight = ap busy like.flight in omega arith;
        } rule.own;
        running = each_kept (λ (u : View). RunsOk p a.trees a.pairs a.vertices u.running) vs id w runs_now rule.running;
        flying = each_kept (λ (u : View). FlightsOk p a.trees a.drawn a.nodes a.pairs a.vertices u.flight) vs id w
            (subst (FlightsOk p a.trees a.drawn a.nodes a.pairs a.vertices) (sym like.flight) (rule.flying id v at)) rule.flying;
        moves = moves_kept p.moves a.drawn a.nodes a.pairs a.vertices (flights vs) (flights after)
            (λ d. total_kept (λ (u : View). flies_in d u.flight) vs id v w at (ap (flies_in d) like.flight)) rule.moves;
        marks = marks_kept p.moves a.drawn vs id v w at like.full_draws like.seats like.spare rule.marks;
        starts = starts_kept p.moves a.vertices vs id v w at like.starts like.seats rule.starts;
        runs = record {
          one = λ k l. let t = total_set (λ (u : View). runs_it k u.running) vs id v w at in let f = fewer k in
              let b = rule.runs.one k l in omega arith;
        };
        live = live_kept p a.trees (openings a.vertices vs) (openings a.vertices after) (units p a vs)
            (units p a after) a.vertices openings' units' rule.live;
        counts = counts_kept p.moves p.grown a.nodes (units p a vs) (units p a after) (halves vs) (halves after) units'
            (λ n. total_kept (half_of n) vs id v w at (ap (λ l. total (λ (h : Half). same n h.node) l) like.halves)) rule.counts;
        balances = balances_kept p a.trees a.pairs a.vertices (rights p a.vertices vs) (rights p a.vertices after)
            (λ d. let t = total_kept (right_of d) vs id v w at (λ i. rights_now d i + Rattle.spd_state.specs.Dag.yet_in d (like.flight i)) in
            omega arith) rule.balances;
        finishes = finishes_kept p.moves a.vertices (openings a.vertices vs) (openings a.vertices after) (units p a vs) (units p a after) (tellers vs)
            (tellers after) (earlies vs) (earlies after) openings' (λ f l. ((λ z. sym (units' f) ∙ z), (λ z. units' f ∙ z)))
            (λ f. total_kept (λ (u : View). count f u.told) vs id v w at (ap (count f) like.told))
            (λ f. total_kept (λ (u : View). early_in f u.flight) vs id v w at (ap (early_in f) like.flight)) rule.finishes;
        slots = slots_kept p.moves a.drawn a.vertices (holders vs) (holders after) homes
            (λ x. total_kept (λ (u : View). count x u.slots) vs id v w at (ap (count x) like.slots)) rule.slots;
        plan = rule.plan;
        history = past_view p a vs rule.history id v at w maker openings' (fewer 1) like.done like.ready like.fresh like.spawns
            (ap forks_in like.flight);
        forest = rule.forest;
        bare = bare_kept p a.trees (openings a.vertices vs) (openings a.vertices after) a.nodes (halves vs) (halves after) (aboves vs) (aboves after)
            (λ f z. sym (openings' f) ∙ z) (λ n. total_kept (half_of n) vs id v w at (ap (λ l. total (λ (h : Half). same n h.node) l) like.halves))
            (λ n. total_kept (above_of n) vs id v w at (above_same n)) rule.bare;
        trees = each_kept (λ (u : View). TreeOk p a.trees a.nodes u.known u.links u.halves u.sprout) vs id w
            (trees_same (rule.trees id v at)) rule.trees;
        growth = growth_view p a.trees a.bred vs id v w at like.grow_draws like.full_grows like.sprout rule.growth;
        grows = each_kept (λ (u : View). GrowsOk p a.bred u.grow_draws u.full_grows u.spawns u.seats) vs id w
            (grows_same (rule.grows id v at)) rule.grows;
      }

  -- a load
  pub load_keeps : w.running ≡ v.running → (busy v.awaited + v.hurt ≡ 0 → busy w.awaited + w.hurt ≡ 0) → Rule p a homes after
  load_keeps e still = let s = own.seated in let b : busy w.running ≡ busy v.running = ap busy e in
      same_keeps (maker_alike v w like.flight e like.claimed still (rule.history.makers id v at))
      (subst (λ (o : Option Running). ClaimsOk p a.trees o v.claimed) (sym e) own.claims) (omega arith)
      (subst (RunsOk p a.trees a.pairs a.vertices) (sym e) (rule.running id v at))
      (λ k. let h : runs_it k w.running ≡ runs_it k v.running = ap (runs_it k) e in omega arith) (λ d. ap (has_right d) e)

  -- a vertex that is over
  pub over_keeps : v.flight ≡ None → (r : Running) → v.running ≡ Some r → r.right ≡ 0 → v.claimed ≡ [] → w.running ≡ None → Rule p a homes after
  over_keeps free r is none_left no_claim e = let b : busy w.running ≡ 0 = ap busy e in
      same_keeps (maker_none w (like.flight ∙ free)) (subst (λ (o : Option Running). ClaimsOk p a.trees o v.claimed) (sym e) no_claim) (omega arith)
      (subst (RunsOk p a.trees a.pairs a.vertices) (sym e) tt) (λ k. let h : runs_it k w.running ≡ 0 = ap (runs_it k) e in omega arith)
      (λ d. ap (has_right d) e ∙ sym (ap (has_right d) is ∙ ap (λ k. gate k (same d r.pair)) none_left))
