-- A split and a join keep the rule, and so does the opening.
use Rattle.std.proofs.Common.{None, ◌≡◌, ◌≢◌, ℕ, ◌+◌, ◌<◌, ◌≤◌, List, [], ◌∷◌, ◌++◌, set, refl, sym, ap, ◌∙◌, arith, Option}
use mathlib.Core.Option.{some, some-ne-none}
use mathlib.Core.Option as maybe
use lib.ListN.{get_elem?}
use Rattle.spd_words.specs.Plan.{PlanView}
use Rattle.spd_state.specs.Sums.{total, count, Each}
use Rattle.spd_state.specs.Dag.{Dag, runners, flights, earlies, tellers, holders, units, rights, openings, right_of, has_right, units_of, runs_it}
use Rattle.spd_state.specs.Dag.{opens_in, flies_in, early_in, yet_in}
use Rattle.spd_state.specs.Parts.{RunsOk, FlightsOk, OwnOk, Rule}
use Rattle.spd_state.specs.Seats.{kept_view, given_view, joined_view, spent_view, IsEmpty}
use Rattle.spd_words.specs.Words.{Node}
use Rattle.spd_state.specs.Sums.{same}
use Rattle.spd_state.specs.Dag.{halves as all_halves}
use Rattle.spd_state.specs.declared.trees.Half.{Half}
use Rattle.spd_state.proofs.Rights.{claimed_none, above_none}
use Rattle.spd_state.proofs.Makers.{maker_alike, maker_none}
use Rattle.spd_state.proofs.Past.{shut_kept}
use Rattle.spd_state.specs.History.{MakerOk, forks_in}
use Rattle.spd_state.specs.declared.view.View.{View}
use Rattle.spd_state.proofs.Sums.{total_set, total_more, each_kept, each_more}
use Rattle.atomic_table.proofs.Lists.{set_else}
use mathlib.Core.Logic.{dite}
use native.Mathlib.Decide.{dec_lt}
use Rattle.spd_state.proofs.Frames.{moves_kept, runs_kept, live_kept, counts_kept, balances_kept, finishes_kept, slots_kept}
use Rattle.spd_state.specs.Tree.{Trees, TreeOk}
use Rattle.spd_state.specs.Dag.{half_of, aboves, above_of, nursed, nurses, claimed_units, claimed_above, above_units}
use Rattle.spd_state.specs.Parts.{GrowsOk}
use Rattle.spd_state.proofs.Frames.{bare_kept, growth_kept}

-- a share that knows nothing of nodes
pub nothing : (p : PlanView) (t : Trees) (nodes : ℕ → Node) → TreeOk p t nodes [] [] [] None
nothing p t nodes = record {
  knows = λ j x e. absurd (some-ne-none x (sym e));
  linked = λ j x e. absurd (some-ne-none x (sym e));
  halved = λ j x e. absurd (some-ne-none x (sym e));
  sprouts = λ q e. absurd (cc);
}

module _ {B : Type 0} (p : PlanView) (a : Dag) (homes : List (maybe.Option (Option B))) (vs : List View) (rule : Rule p a homes vs) (id : ℕ)
    (v : View) (at : get_elem? vs id ≡ some v) where
  module _ (more : 0 < v.spare) where
    abbrev after : List View
    after = set vs id (kept_view v) ++ given_view v ∷ []

    -- what the new view doesn't have, and the old one keeps
    halves : (f : View → ℕ) → f (kept_view v) + f (given_view v) ≡ f v → total f after ≡ total f vs
    halves f e = let t = total_set f vs id v (kept_view v) at in let m = total_more f (set vs id (kept_view v)) (given_view v) in omega arith

    each_half : (P : View → Type 0) → P (kept_view v) → P (given_view v) → Each P vs → Each P after
    each_half P k n all = each_more P (set vs id (kept_view v)) (given_view v) n (each_kept P vs id (kept_view v) k all)

    pub split_keeps : Rule p a homes after
    split_keeps = let own = rule.own id v at in let few = own.few in
        let units' : (n : ℕ) → units p a after n ≡ units p a vs n = λ n. let t = halves (units_of a.trees n) (omega arith) in omega arith in
        let openings' : (d : ℕ) → openings a.vertices after d ≡ openings a.vertices vs d = λ d. let t =
        halves (λ (u : View). opens_in d u.flight) (omega arith) in omega arith in record {
          own = each_half (OwnOk p a.trees) record {
            claims = own.claims;
            rooted = own.rooted;
            there = own.there;
            lifts = own.lifts;
            single = own.single;
            tells = own.tells;
            spent = own.spent;
            few = own.few;
            seated = own.seated;
            sitting = own.sitting;
          }
              record {
                claims = refl;
                rooted = refl;
                there = λ n (z : 0 < 0). absurd (omega arith);
                lifts = λ n (z : 0 < 0). absurd (omega arith);
                single = omega arith;
                tells = λ n (z : 0 < 0). absurd (omega arith);
                spent = λ (z : 1 ≡ 0). absurd (omega arith);
                few = omega arith;
                seated = omega arith;
                sitting = omega arith;
              } rule.own;
          running = each_half (λ (u : View). RunsOk p a.trees a.pairs a.vertices u.running) (rule.running id v at) tt rule.running;
          flying = each_half (λ (u : View). FlightsOk p a.trees a.drawn a.nodes a.pairs a.vertices u.flight) (rule.flying id v at) tt rule.flying;
          moves = moves_kept p.moves a.drawn a.nodes a.pairs a.vertices (flights vs) (flights after)
              (λ d. halves (λ (u : View). flies_in d u.flight) (omega arith)) rule.moves;
          marks = let m = rule.marks in let f = halves (λ (u : View). u.full_draws) (omega arith) in
              let s = halves (λ (u : View). u.seats + u.spare) (omega arith) in let most = m.most in let seats = m.seats in record {
                most = omega arith;
                passed = each_half (λ (u : View). 0 < u.full_draws → p.moves < a.drawn) (m.passed id v at)
                    (λ (z : 0 < 0). absurd (omega arith)) m.passed;
                by_seats = each_half (λ (u : View). u.full_draws ≤ u.seats) (m.by_seats id v at) (omega arith) m.by_seats;
                seats = omega arith;
              };
          starts = record {
            all = halves (λ (u : View). u.starts) (omega arith) ∙ rule.starts.all;
            spent = each_half (λ (u : View). u.seats ≡ 0 → u.starts ≡ 0) (rule.starts.spent id v at) (λ _. refl) rule.starts.spent;
          };
          runs = runs_kept p.moves a.vertices (runners vs) (runners after) (λ x. halves (λ (u : View). runs_it x u.running) (omega arith)) rule.runs;
          live = live_kept p a.trees (openings a.vertices vs) (openings a.vertices after) (units p a vs)
              (units p a after) a.vertices openings' units' rule.live;
          counts = counts_kept p.moves p.grown a.nodes (units p a vs) (units p a after) (all_halves vs) (all_halves after) units'
              (λ n. halves (half_of n) (omega arith)) rule.counts;
          balances = balances_kept p a.trees a.pairs a.vertices (rights p a.vertices vs) (rights p a.vertices after)
              (λ d. let t = halves (right_of d) (omega arith) in omega arith) rule.balances;
          finishes = finishes_kept p.moves a.vertices (openings a.vertices vs) (openings a.vertices after) (units p a vs) (units p a after)
              (tellers vs) (tellers after) (earlies vs) (earlies after) openings' (λ f l. ((λ z. sym (units' f) ∙ z), (λ z. units' f ∙ z)))
              (λ g. halves (λ (u : View). count g u.told) (omega arith)) (λ g. halves
              (λ (u : View). early_in g u.flight) (omega arith)) rule.finishes;
          slots = slots_kept p.moves a.drawn a.vertices (holders vs) (holders after) homes
              (λ x. halves (λ (u : View). count x u.slots) (omega arith)) rule.slots;
          plan = rule.plan;
          history = let h = rule.history in record {
            makers = each_half MakerOk (maker_alike v (kept_view v) refl refl refl (λ z. z) (h.makers id v at))
                (maker_none (given_view v) refl) h.makers;
            below = h.below;
            unmade = let u = h.unmade in let k = u.alone in let t = halves (λ (u : View). u.fresh) (omega arith) in
                record { alone = omega arith; none = λ z. u.none (omega arith) };
            shut = shut_kept p.moves (openings a.vertices vs) (openings a.vertices after) a.gifts a.faults (λ f z. sym (openings' f) ∙ z) h.shut;
            ended = record {
              one = h.ended.one;
              mark = halves (λ (u : View). u.done) (omega arith)
                  ∙ h.ended.mark;
              over = λ z. let o = h.ended.over z in (o.0, halves (λ (u : View). runs_it 1 u.running) (omega arith) ∙ o.1);
            };
            tallied = let t = h.tallied.spawns in let s = halves (λ (u : View). u.spawns) (omega arith) in
                let k = halves (λ (u : View). forks_in u.flight) (omega arith) in
                record { ready = halves (λ (u : View). u.ready) (omega arith) ∙ h.tallied.ready; spawns = omega arith };
          };
          forest = rule.forest;
          bare = bare_kept p a.trees (openings a.vertices vs) (openings a.vertices after) a.nodes (all_halves vs) (all_halves after) (aboves vs)
              (aboves after) (λ f z. sym (openings' f) ∙ z) (λ n. halves (half_of n) (omega arith))
              (λ n. halves (above_of n) (let z = above_none n v.lifted in omega arith)) rule.bare;
          trees = each_half (λ (u : View). TreeOk p a.trees a.nodes u.known u.links u.halves u.sprout) (rule.trees id v at)
              (nothing p a.trees a.nodes) rule.trees;
          growth = growth_kept p a.trees a.bred (total (λ (u : View). u.grow_draws) vs) (total (λ (u : View). u.grow_draws) after)
              (total (λ (u : View). u.full_grows) vs) (total (λ (u : View). u.full_grows) after) (nursed vs) (nursed after)
              (halves (λ (u : View). u.grow_draws) (omega arith)) (halves (λ (u : View). u.full_grows) (omega arith))
              (λ l. halves (λ (u : View). nurses l u.sprout) (omega arith)) rule.growth;
          grows = each_half (λ (u : View). GrowsOk p a.bred u.grow_draws u.full_grows u.spawns u.seats)
              (rule.grows id v at) record { paid = omega arith; passed = λ (z : 0 < 0). absurd (omega arith); by_seats = omega arith } rule.grows;
        }

  -- the other share holds nothing, and its seats, draws and starts go to this one
  module _ (other : ℕ) (o : View) (apart : other ≢ id) (there : get_elem? (set vs id (joined_view v o)) other ≡ some o) (empty : IsEmpty o) where
    abbrev w : View
    w = joined_view v o

    abbrev joined : List View
    joined = set (set vs id w) other spent_view

    -- what the spent view doesn't have, and the joined one has of both
    sums : (f : View → ℕ) → f w + f spent_view ≡ f v + f o → total f joined ≡ total f vs
    sums f q = let t = total_set f vs id v w at in let m = total_set f (set vs id w) other o spent_view there in omega arith

    each_both : (P : View → Type 0) → P w → P spent_view → Each P vs → Each P joined
    each_both P k n all = each_kept P (set vs id w) other spent_view n (each_kept P vs id w k all)

    there_before : get_elem? vs other ≡ some o
    there_before = sym (set_else vs id other w apart) ∙ there

    units_none : (n : ℕ) → units_of a.trees n o ≡ 0
    units_none n = let c : claimed_units a.trees n o.lifted o.claimed ≡ 0 = ap (claimed_units a.trees n o.lifted) empty.claimed
        ∙ claimed_none a.trees n o.lifted in let h : count n o.held ≡ 0 = ap (count n) empty.held in
        let r : count n o.rooted ≡ 0 = ap (count n) empty.rooted in let b : above_units a.trees n o.above ≡ 0 = ap
        (above_units a.trees n) empty.above in omega arith

    aboves_none : (n : ℕ) → above_of n o ≡ 0
    aboves_none n = let c : claimed_above o.lifted n o.claimed ≡ 0 = ap (claimed_above o.lifted n) empty.claimed ∙ above_none n o.lifted in
        let b : count n o.above ≡ 0 = ap (count n) empty.above in omega arith

    halves_none : (n : ℕ) → half_of n o ≡ 0
    halves_none n = ap (λ l. total (λ (h : Half). same n h.node) l) empty.halves

    right_none : (d : ℕ) → right_of d o ≡ 0
    right_none d i = has_right d (empty.running i) + yet_in d (empty.flight i)

    pub join_keeps : Rule p a homes joined
    join_keeps = let own = rule.own id v at in let few = own.few in let seated = own.seated in let sitting = own.sitting in
        let units' : (n : ℕ) → units p a joined n ≡ units p a vs n = λ n. let z = units_none n in let t = sums (units_of a.trees n) (omega arith) in
        omega arith in
        let openings' : (d : ℕ) → openings a.vertices joined d ≡ openings a.vertices vs d = λ d.
        let z : opens_in d o.flight ≡ 0 = ap (opens_in d) empty.flight in let t = sums (λ (u : View). opens_in d u.flight) (omega arith) in
        omega arith in record {
          own = each_both (OwnOk p a.trees) record {
            claims = own.claims;
            rooted = own.rooted;
            there = own.there;
            lifts = own.lifts;
            single = own.single;
            tells = own.tells;
            spent = λ z. own.spent (omega arith);
            few = omega arith;
            seated = omega arith;
            sitting = omega arith;
          }
              record {
                claims = refl;
                rooted = refl;
                there = λ n (z : 0 < 0). absurd (omega arith);
                lifts = λ n (z : 0 < 0). absurd (omega arith);
                single = omega arith;
                tells = λ n (z : 0 < 0). absurd (omega arith);
                spent = λ (z : 0 ≡ 0). refl;
                few = omega arith;
                seated = omega arith;
                sitting = omega arith;
              } rule.own;
          running = each_both (λ (u : View). RunsOk p a.trees a.pairs a.vertices u.running) (rule.running id v at) tt rule.running;
          flying = each_both (λ (u : View). FlightsOk p a.trees a.drawn a.nodes a.pairs a.vertices u.flight) (rule.flying id v at) tt rule.flying;
          moves = moves_kept p.moves a.drawn a.nodes a.pairs a.vertices (flights vs) (flights joined)
              (λ d. sums (λ (u : View). flies_in d u.flight) (let z : flies_in d o.flight ≡ 0 = ap (flies_in d) empty.flight in
              omega arith)) rule.moves;
          marks = let m = rule.marks in let f = sums (λ (u : View). u.full_draws) (omega arith) in
              let s = sums (λ (u : View). u.seats + u.spare) (omega arith) in let most = m.most in let seats = m.seats in
              let p₁ = m.passed id v at in let p₂ = m.passed other o there_before in let b₁ = m.by_seats id v at in
              let b₂ = m.by_seats other o there_before in record {
                most = omega arith;
                passed = each_both (λ (u : View). 0 < u.full_draws → p.moves < a.drawn) (λ z. dite (dec_lt 0 v.full_draws) p₁ (λ n. p₂ (omega arith)))
                    (λ (z : 0 < 0). absurd (omega arith)) m.passed;
                by_seats = each_both (λ (u : View). u.full_draws ≤ u.seats) (omega arith) (omega arith) m.by_seats;
                seats = omega arith;
              };
          starts = let s₁ = rule.starts.spent id v at in let s₂ = rule.starts.spent other o there_before in record {
            all = sums (λ (u : View). u.starts) (omega arith) ∙ rule.starts.all;
            spent = each_both (λ (u : View). u.seats ≡ 0 → u.starts ≡ 0) (λ z. let a = s₁ (omega arith) in let b = s₂ (omega arith) in omega arith)
                (λ _. refl) rule.starts.spent;
          };
          runs = runs_kept p.moves a.vertices (runners vs) (runners joined)
              (λ x. sums (λ (u : View). runs_it x u.running) (let z : runs_it x o.running ≡ 0 = ap (runs_it x) empty.running in
              omega arith)) rule.runs;
          live = live_kept p a.trees (openings a.vertices vs) (openings a.vertices joined) (units p a vs)
              (units p a joined) a.vertices openings' units' rule.live;
          counts = counts_kept p.moves p.grown a.nodes (units p a vs) (units p a joined) (all_halves vs) (all_halves joined) units'
              (λ n. let z = halves_none n in sums (half_of n) (omega arith)) rule.counts;
          balances = balances_kept p a.trees a.pairs a.vertices (rights p a.vertices vs) (rights p a.vertices joined)
              (λ d. let z = right_none d in let t = sums (right_of d) (omega arith) in omega arith) rule.balances;
          finishes = finishes_kept p.moves a.vertices (openings a.vertices vs) (openings a.vertices joined) (units p a vs) (units p a joined)
              (tellers vs) (tellers joined) (earlies vs) (earlies joined) openings' (λ f l. ((λ z. sym (units' f) ∙ z), (λ z. units' f ∙ z)))
              (λ g. sums (λ (u : View). count g u.told) (let z : count g o.told ≡ 0 = ap (count g) empty.told in omega arith))
              (λ g. sums (λ (u : View). early_in g u.flight) (let z : early_in g o.flight ≡ 0 = ap (early_in g) empty.flight in
              omega arith)) rule.finishes;
          slots = slots_kept p.moves a.drawn a.vertices (holders vs) (holders joined) homes
              (λ x. sums (λ (u : View). count x u.slots) (let z : count x o.slots ≡ 0 = ap (count x) empty.slots in omega arith)) rule.slots;
          plan = rule.plan;
          history = let h = rule.history in record {
            makers = each_both MakerOk (maker_alike v w refl refl refl (λ z. z) (h.makers id v at)) (maker_none spent_view refl) h.makers;
            below = h.below;
            unmade = let u = h.unmade in let k = u.alone in let t = sums (λ (u : View). u.fresh) (omega arith) in
                record { alone = omega arith; none = λ z. u.none (omega arith) };
            shut = shut_kept p.moves (openings a.vertices vs) (openings a.vertices joined) a.gifts a.faults (λ f z. sym (openings' f) ∙ z) h.shut;
            ended = record {
              one = h.ended.one;
              mark = sums (λ (u : View). u.done) (omega arith) ∙ h.ended.mark;
              over = λ z. let q = h.ended.over z in (
                q.0,
                sums (λ (u : View). runs_it 1 u.running) (let e : runs_it 1 o.running ≡ 0 = ap (runs_it 1) empty.running in omega arith)
                    ∙ q.1,
              );
            };
            tallied = let t = h.tallied.spawns in let s = sums (λ (u : View). u.spawns) (omega arith) in
                let k = sums (λ (u : View). forks_in u.flight) (let e : forks_in o.flight ≡ 0 = ap forks_in empty.flight in omega arith) in
                record { ready = sums (λ (u : View). u.ready) (omega arith) ∙ h.tallied.ready; spawns = omega arith };
          };
          forest = rule.forest;
          bare = bare_kept p a.trees (openings a.vertices vs) (openings a.vertices joined) a.nodes (all_halves vs) (all_halves joined) (aboves vs)
              (aboves joined) (λ f z. sym (openings' f) ∙ z) (λ n. let z = halves_none n in sums (half_of n) (omega arith))
              (λ n. let z = aboves_none n in sums (above_of n) (omega arith)) rule.bare;
          trees = each_both (λ (u : View). TreeOk p a.trees a.nodes u.known u.links u.halves u.sprout) (rule.trees id v at)
              (nothing p a.trees a.nodes) rule.trees;
          growth = growth_kept p a.trees a.bred (total (λ (u : View). u.grow_draws) vs) (total (λ (u : View). u.grow_draws) joined)
              (total (λ (u : View). u.full_grows) vs) (total (λ (u : View). u.full_grows) joined) (nursed vs) (nursed joined)
              (sums (λ (u : View). u.grow_draws) (omega arith)) (sums (λ (u : View). u.full_grows) (omega arith))
              (λ l. sums (λ (u : View). nurses l u.sprout) (let z : nurses l o.sprout ≡ 0 = ap (nurses l) empty.sprout in
              omega arith)) rule.growth;
          grows = each_both (λ (u : View). GrowsOk p a.bred u.grow_draws u.full_grows u.spawns u.seats)
              (let x = rule.grows id v at in let y = rule.grows other o there_before in let x₁ = x.paid in let y₁ = y.paid in let x₂ = x.by_seats in
              let y₂ = y.by_seats in
              record {
                paid = omega arith;
                passed = λ z. dite (dec_lt 0 v.full_grows) x.passed
                    (λ n. y.passed (omega arith));
                by_seats = omega arith;
              }) record {
                paid = omega arith;
                passed = λ (z : 0 < 0). absurd (omega arith);
                by_seats = omega arith;
              } rule.grows;
        }
