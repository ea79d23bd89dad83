-- `draw_move` that draws a move keeps the rule.
use Rattle.std.proofs.Common.{◌≡◌, ◌≢◌, ℕ, ◌+◌, ◌*◌, ◌<◌, ◌≤◌, List, [], length, set, refl, sym, ap, ◌∙◌, subst, arith, Option, Some, None}
use Rattle.std.proofs.Common.{length-set}
use mathlib.Core.Option.{some, none}
use mathlib.Core.Option as maybe
use mathlib.Core.Logic.{dite}
use native.Mathlib.Decide.{ℕ_discrete}
use lib.ListN.{get_elem?}
use Rattle.atomic_table.proofs.Lists.{set_here, set_else}
use Rattle.spd_words.specs.Plan.{PlanView}
use Rattle.spd_words.specs.Words.{Vertex}
use Rattle.spd_words.specs.Meaning.{Meaning}
use Rattle.spd_state.specs.Sums.{same, gate, times, count, total}
use Rattle.spd_state.specs.Dag.{Dag, runners, flights, earlies, tellers, holders, units, rights, openings, right_of, yet_of, yet_in, root_of}
use Rattle.spd_state.specs.Dag.{early_of, body_left, rest_left, units_of, runs_it, opens_in, flies_in, early_in, busy}
use Rattle.spd_state.specs.Parts.{RunsOk, ClaimsOk, RootedOk, FlightOk, FlightsOk, OwnOk, Rule, SlotRule, home}
use Rattle.spd_state.specs.Stages.{drawn_view, first_slot, second_slot, flight_finish, finish_in, fresh_after, spawns_of, MayDraw}
use Rattle.spd_state.specs.declared.view.Running.{Running}
use Rattle.spd_state.specs.declared.view.Flight.{Flight}
use Rattle.spd_state.specs.declared.view.Draw.{Draw}
use Rattle.spd_state.specs.declared.view.Draw.TheVariants.{Make, Chain, Spawn}
use Rattle.spd_state.proofs.Makers.{maker_drawn}
use Rattle.spd_state.proofs.Past.{made, past_drawn}
use Rattle.spd_state.specs.History.{MakerOk, fork_of, forks_in}
use Rattle.spd_state.proofs.Rights.{finish_inside, finish_begun}
use Rattle.spd_state.specs.declared.view.View.{View}
use Rattle.spd_state.proofs.Sums.{same_self, same_else, total_set, total_kept, total_has, each_set, each_kept}
use Rattle.spd_state.proofs.Full.{later}
use Rattle.spd_state.proofs.Frames.{runs_kept, live_kept, counts_kept, balances_kept, finishes_kept, marks_kept}
use Rattle.spd_state.specs.Tree.{TreeOk}
use Rattle.spd_state.specs.Dag.{halves, half_of, aboves, above_of}
use Rattle.spd_state.specs.Parts.{GrowsOk}
use Rattle.spd_state.proofs.Frames.{bare_kept, growth_view, starts_kept}

module _ {B : Type 0} (p : PlanView) (a : Dag) (homes : List (maybe.Option (Option B))) (vs : List View) (rule : Rule p a homes vs) (id : ℕ)
    (v : View) (at : get_elem? vs id ≡ some v) (seated : 0 < v.seats) where
  own : OwnOk p a.trees v
  own = rule.own id v at

  -- the move is drawn
  module _ (deep : length homes ≡ 2 * p.moves) (free : v.flight ≡ None) (draw : Draw) (m : Meaning) (may : MayDraw draw v)
      (still : busy v.awaited + v.hurt ≡ 0) (room : a.drawn < p.moves) where
    abbrev d₀ : ℕ
    d₀ = a.drawn

    abbrev w : View
    w = drawn_view draw d₀ m v

    abbrev after : List View
    after = set vs id w

    abbrev homes' : List (maybe.Option (Option B))
    homes' = set (set homes (second_slot draw d₀) none) (first_slot draw d₀) none

    -- the finish of the vertices that are to stand with the pair
    under : flight_finish draw d₀ v < p.moves
    under = by draw may
      where
        by : (x : Draw) → MayDraw x v → flight_finish x d₀ v < p.moves
        by Make q = room
        by Chain q = room
        by Spawn q = let e : finish_in v.running ≡ q.0.finish = ap finish_in q.1 in let l = finish_inside p a homes vs rule id v at q.0 q.1 in
            omega arith

    below : root_of draw 1 ≡ 0 → flight_finish draw d₀ v < d₀
    below = by draw may
      where
        by : (x : Draw) → MayDraw x v → root_of x 1 ≡ 0 → flight_finish x d₀ v < d₀
        by Make q z = absurd (omega arith)
        by Chain q z = absurd (omega arith)
        by Spawn q z = let e : finish_in v.running ≡ q.0.finish = ap finish_in q.1 in let l = finish_begun p a homes vs rule id v at q.0 q.1 in
            omega arith

    maker : MakerOk w
    maker = maker_drawn w draw d₀ (flight_finish draw d₀ v) refl still (runs draw may) (makes draw may)
      where
        runs : (x : Draw) → MayDraw x v → x ≢ Make → (r : Running) × (v.running ≡ Some r) × (r.right ≡ 1) × (r.finish < d₀)
            × (x ≡ Spawn → flight_finish x d₀ v ≡ r.finish)
        runs Make q n = absurd (n refl)
        runs Chain q n = (q.0, q.1, q.2, finish_begun p a homes vs rule id v at q.0 q.1, λ e. absurd (cc))
        runs Spawn q n = (q.0, q.1, q.2, finish_begun p a homes vs rule id v at q.0 q.1, λ _. ap finish_in q.1)

        makes : (x : Draw) → MayDraw x v → x ≡ Make → (v.running ≡ None) × (v.claimed ≡ []) × (d₀ ≡ 0)
        makes Make q e = let q₀ = q.0 in let t = total_has (λ (u : View). u.fresh) vs id v at in
            (q.1, subst (λ (o : Option Running). ClaimsOk p a.trees o v.claimed) q.1 own.claims, rule.history.unmade.none (omega arith))
        makes Chain q e = absurd (cc)
        makes Spawn q e = absurd (cc)

    -- from now on no share has yet to begin the make
    all_made : total (λ (u : View). u.fresh) after ≡ 0
    all_made = let t = total_set (λ (u : View). u.fresh) vs id v w at in by draw may t
      where
        by : (x : Draw) → MayDraw x v → total (λ (u : View). u.fresh) after + v.fresh ≡ total (λ (u : View). u.fresh) vs + fresh_after x v.fresh
            → total (λ (u : View). u.fresh) after ≡ 0
        by Make q t = let q₀ = q.0 in let a = rule.history.unmade.alone in omega arith
        by Chain q t = let l = finish_begun p a homes vs rule id v at q.0 q.1 in
            let z = made a.drawn (total (λ (u : View). u.fresh) vs) rule.history.unmade (omega arith) in omega arith
        by Spawn q t = let l = finish_begun p a homes vs rule id v at q.0 q.1 in
            let z = made a.drawn (total (λ (u : View). u.fresh) vs) rule.history.unmade (omega arith) in omega arith

    forks_same : v.spawns + spawns_of draw + forks_in v.flight ≡ v.spawns + forks_in w.flight
    forks_same = let e : forks_in v.flight ≡ 0 = ap forks_in free in let k : fork_of draw 0 ≡ spawns_of draw = by draw in omega arith
      where
        by : (x : Draw) → fork_of x 0 ≡ spawns_of x
        by Make = refl
        by Chain = refl
        by Spawn = refl

    -- what a draw at stage 0 counts for
    yet_none : (x : Draw) → yet_of x 0 ≡ 0
    yet_none Make = refl
    yet_none Chain = refl
    yet_none Spawn = refl

    root_none : (x : Draw) → root_of x 0 ≡ 0
    root_none Make = refl
    root_none Chain = refl
    root_none Spawn = refl

    body_left_one : (x : Draw) → body_left x 0 ≡ 1
    body_left_one Make = refl
    body_left_one Chain = refl
    body_left_one Spawn = refl

    rest_left_one : (x : Draw) → rest_left x 0 ≡ 1
    rest_left_one Make = refl
    rest_left_one Chain = refl
    rest_left_one Spawn = refl

    early_none : (x : Draw) → early_of x 0 ≡ 0
    early_none Make = refl
    early_none Chain = refl
    early_none Spawn = refl

    right_same : (d : ℕ) → right_of d w ≡ right_of d v
    right_same d = let a : yet_in d v.flight ≡ 0 = ap (yet_in d) free in
        let b : yet_in d w.flight ≡ 0 = ap (λ k. times k (same d d₀)) (yet_none draw) in omega arith

    opens_same : (d : ℕ) → opens_in d w.flight ≡ opens_in d v.flight
    opens_same d = ap (λ k. gate k (same d d₀)) (root_none draw) ∙ sym (ap (opens_in d) free)

    early_same : (d : ℕ) → early_in d w.flight ≡ early_in d v.flight
    early_same d = ap (λ k. gate k (same d d₀)) (early_none draw) ∙ sym (ap (early_in d) free)

    no_root : (x : Draw) → (n : ℕ) → v.rooted ≡ [] → RootedOk (Some record {
      draw = x;
      number = n;
      finish = flight_finish draw d₀ v;
      stage = 0;
    }) v.rooted
    no_root Make n e = e
    no_root Chain n e = e
    no_root Spawn n e = e

    own' : OwnOk p a.trees w
    own' = record {
      claims = own.claims;
      rooted = no_root draw d₀ (subst (λ (o : Option Flight). RootedOk o v.rooted) free own.rooted);
      there = own.there;
      lifts = own.lifts;
      single = own.single;
      tells = own.tells;
      spent = λ z. absurd (omega arith);
      few = own.few;
      seated = own.seated;
      sitting = seated;
    }

    flights' : (d : ℕ) → flights after d ≡ flights vs d + same d d₀
    flights' d = let t = total_set (λ (u : View). flies_in d u.flight) vs id v w at in let e : flies_in d v.flight ≡ 0 = ap (flies_in d) free in
        omega arith

    new_flight : FlightOk p a.trees (d₀ + 1) a.nodes a.pairs a.vertices record {
      draw = draw;
      number = d₀;
      finish = flight_finish draw d₀ v;
      stage = 0;
    }
    new_flight = let m = rule.moves in record {
      number = room;
      begun = omega arith;
      root = λ _. m.blank_root d₀ room (omega arith);
      pair = λ _. m.blank_pair d₀ room (omega arith);
      body = λ _. m.blank_body d₀ room (omega arith);
      rest = λ _. m.blank_rest d₀ room (omega arith);
      finish = under;
      tops = λ (z : 2 ≤ 0). absurd (omega arith);
      root_finish = λ z. of draw z;
      below = below;
      handle = λ e (z : 2 ≤ 0). absurd (omega arith);
      body_there = λ z. let e = body_left_one draw in absurd (omega arith);
      names = λ z. let e = body_left_one draw in absurd (omega arith);
      rest_there = λ z. let e = rest_left_one draw in absurd (omega arith);
    }
      where
        of : (x : Draw) → root_of x 1 ≡ 1 → flight_finish x d₀ v ≡ d₀
        of Make z = refl
        of Chain z = refl
        of Spawn z = absurd (omega arith)

    -- the slots in either order
    either_slot : (x : Draw) (k : ℕ) → same k (first_slot x d₀) + same k (second_slot x d₀) ≡ same k (2 * d₀) + same k (2 * d₀ + 1)
    either_slot Make k = omega arith
    either_slot Chain k = omega arith
    either_slot Spawn k = omega arith

    holders' : (k : ℕ) → holders after k ≡ holders vs k + same k (2 * d₀) + same k (2 * d₀ + 1)
    holders' k = let t = total_set (λ (u : View). count k u.slots) vs id v w at in let e = either_slot draw k in omega arith

    homes_else : (k : ℕ) → k ≢ 2 * d₀ → k ≢ 2 * d₀ + 1 → get_elem? homes' k ≡ get_elem? homes k
    homes_else k e g = by draw
      where
        by : (x : Draw) → get_elem? (set (set homes (second_slot x d₀) none) (first_slot x d₀) none) k ≡ get_elem? homes k
        by Make = set_else (set homes (2 * d₀) none) (2 * d₀ + 1) k none g ∙ set_else homes (2 * d₀) k none e
        by Chain = set_else (set homes (2 * d₀) none) (2 * d₀ + 1) k none g ∙ set_else homes (2 * d₀) k none e
        by Spawn = set_else (set homes (2 * d₀ + 1) none) (2 * d₀) k none e ∙ set_else homes (2 * d₀ + 1) k none g

    homes_here : (get_elem? homes' (2 * d₀) ≡ some none) × (get_elem? homes' (2 * d₀ + 1) ≡ some none)
    homes_here = by draw
      where
        chain : (get_elem? (set (set homes (2 * d₀) none) (2 * d₀ + 1) none) (2 * d₀) ≡ some none)
            × (get_elem? (set (set homes (2 * d₀) none) (2 * d₀ + 1) none) (2 * d₀ + 1) ≡ some none)
        chain = let l = length-set homes (2 * d₀) none in (
          set_else (set homes (2 * d₀) none) (2 * d₀ + 1) (2 * d₀) none (λ e. omega arith)
              ∙ set_here homes (2 * d₀) none (omega arith),
          set_here (set homes (2 * d₀) none) (2 * d₀ + 1) none (omega arith),
        )

        by : (x : Draw) → (get_elem? (set (set homes (second_slot x d₀) none) (first_slot x d₀) none) (2 * d₀) ≡ some none)
            × (get_elem? (set (set homes (second_slot x d₀) none) (first_slot x d₀) none) (2 * d₀ + 1) ≡ some none)
        by Make = chain
        by Chain = chain
        by Spawn = let l = length-set homes (2 * d₀ + 1) none in (
          set_here (set homes (2 * d₀ + 1) none) (2 * d₀) none (omega arith),
          set_else
              (set homes (2 * d₀ + 1) none) (2 * d₀) (2 * d₀ + 1) none (λ e. omega arith) ∙ set_here homes (2 * d₀ + 1) none (omega arith),
        )

    slot_of : (d : ℕ) → d ≢ d₀ → (2 * d ≢ 2 * d₀) × (2 * d ≢ 2 * d₀ + 1) × (2 * d + 1 ≢ 2 * d₀) × (2 * d + 1 ≢ 2 * d₀ + 1)
    slot_of d e = ((λ z. e (omega arith)), (λ z. omega arith), (λ z. omega arith), (λ z. e (omega arith)))

    slots' : SlotRule p.moves (d₀ + 1) a.vertices (holders after) homes'
    slots' = let h = rule.slots in let m = rule.moves in let f = h.fresh d₀ room (omega arith) in let here = homes_here in record {
      one = λ k l. let o = h.one k l in let t = holders' k in dite (ℕ_discrete k (2 * d₀))
          (λ e. let s = same_self k (2 * d₀) e in let s' = same_else k (2 * d₀ + 1) (λ z. omega arith) in
          let x : home (get_elem? homes' k) ≡ 0 = ap (λ j. home (get_elem? homes' j)) e ∙ ap home here.0 in
          let y : home (get_elem? homes k) ≡ 1 = ap (λ j. home (get_elem? homes j)) e ∙ ap home f.0 in omega arith)
          (λ e. let s = same_else k (2 * d₀) e in dite (ℕ_discrete k (2 * d₀ + 1))
          (λ g. let s' = same_self k (2 * d₀ + 1) g in let x : home (get_elem? homes' k) ≡ 0 = ap (λ j. home (get_elem? homes' j)) g
          ∙ ap home here.1 in
          let y : home (get_elem? homes k) ≡ 1 = ap (λ j. home (get_elem? homes j)) g ∙ ap home f.1 in omega arith)
          (λ g. let s' = same_else k (2 * d₀ + 1) g in let x : home (get_elem? homes' k) ≡ home (get_elem? homes k) = ap home (homes_else k e g) in
          omega arith));
      body = λ k l s t n. let b = h.body k l s t n in let apart = stored_else k s in (b.0, homes_else k apart.0 apart.1 ∙ b.1);
      end = λ s t. let apart = stored_else 1 s in homes_else 1 apart.0 apart.1 ∙ h.end s t;
      fresh = λ d l b. let f' = h.fresh d l (omega arith) in let apart = slot_of d (λ z. omega arith) in
          (homes_else (2 * d) apart.0 apart.1 ∙ f'.0, homes_else (2 * d + 1) apart.2 apart.3 ∙ f'.1);
    }
      where
        stored_else : (k : ℕ) → 0 < (a.vertices k).state → (k ≢ 2 * d₀) × (k ≢ 2 * d₀ + 1)
        stored_else k s = (
          (λ e. let z : (a.vertices k).state ≡ 0 = ap (λ j. (a.vertices j).state) e
              ∙ ap (λ (x : Vertex). x.state) (rule.moves.blank_body d₀ room (omega arith)) in omega arith),
          (λ e. let z : (a.vertices k).state ≡ 0 = ap (λ j. (a.vertices j).state) e
              ∙ ap (λ (x : Vertex). x.state) (rule.moves.blank_rest d₀ room (omega arith)) in omega arith),
        )

    pub draw_keeps : Rule p (record a { drawn = d₀ + 1 }) homes' after
    draw_keeps =
        let units' : (n : ℕ) → units p a after n ≡ units p a vs n = λ n. let t = total_kept (units_of a.trees n) vs id v w at refl in omega arith in
        let openings' : (d : ℕ) → openings a.vertices after d ≡ openings a.vertices vs d = λ d. let t =
        total_kept (λ (u : View). opens_in d u.flight) vs id v w at (opens_same d) in omega arith in
        let m = rule.moves in record {
          own = each_kept (OwnOk p a.trees) vs id w own' rule.own;
          running = each_kept (λ (u : View). RunsOk p a.trees a.pairs a.vertices u.running) vs id w (rule.running id v at) rule.running;
          flying = each_set (λ (u : View). FlightsOk p a.trees a.drawn a.nodes a.pairs a.vertices u.flight)
              (λ (u : View). FlightsOk p a.trees (d₀ + 1) a.nodes a.pairs a.vertices u.flight) vs id w
              new_flight rule.flying (λ j u _ _ k. later p a u.flight k);
          moves = record {
            blank_root = λ d l b. m.blank_root d l (omega arith);
            blank_pair = λ d l b. m.blank_pair d l (omega arith);
            blank_body = λ d l b. m.blank_body d l (omega arith);
            blank_rest = λ d l b. m.blank_rest d l (omega arith);
            grounded = λ d l b. let t = flights' d in let s = same_else d d₀ (λ e. omega arith) in let g = m.grounded d l (omega arith) in
                omega arith;
            alone = λ d l. let t = flights' d in let g = m.alone d l in dite (ℕ_discrete d d₀)
                (λ e. let s = same_self d d₀ e in let z = m.grounded d l (omega arith) in omega arith) (λ e. let s = same_else d d₀ e in omega arith);
            body_there = λ d l b z. let t = flights' d in dite (ℕ_discrete d d₀) (λ e. let s = same_self d d₀ e in absurd (omega arith))
                (λ e. m.body_there d l (omega arith) (omega arith));
            rest_there = λ d l b z. let t = flights' d in dite (ℕ_discrete d d₀) (λ e. let s = same_self d d₀ e in absurd (omega arith))
                (λ e. m.rest_there d l (omega arith) (omega arith));
          };
          marks = let t = marks_kept p.moves a.drawn vs id v w at refl refl refl rule.marks in record {
            most = omega arith;
            passed = λ j u e z. let g = t.passed j u e z in omega arith;
            by_seats = t.by_seats;
            seats = t.seats;
          };
          starts = starts_kept p.moves a.vertices vs id v w at refl refl rule.starts;
          runs = runs_kept p.moves a.vertices (runners vs) (runners after)
              (λ x. total_kept (λ (u : View). runs_it x u.running) vs id v w at refl) rule.runs;
          live = live_kept p a.trees (openings a.vertices vs) (openings a.vertices after) (units p a vs)
              (units p a after) a.vertices openings' units' rule.live;
          counts = counts_kept p.moves p.grown a.nodes (units p a vs) (units p a after) (halves vs) (halves after) units'
              (λ n. total_kept (half_of n) vs id v w at refl) rule.counts;
          balances = balances_kept p a.trees a.pairs a.vertices (rights p a.vertices vs) (rights p a.vertices after)
              (λ d. let t = total_kept (right_of d) vs id v w at (right_same d) in omega arith) rule.balances;
          finishes = finishes_kept p.moves a.vertices (openings a.vertices vs) (openings a.vertices after) (units p a vs) (units p a after)
              (tellers vs) (tellers after) (earlies vs) (earlies after) openings' (λ f l. ((λ z. sym (units' f) ∙ z), (λ z. units' f ∙ z)))
              (λ g. total_kept (λ (u : View). count g u.told) vs id v w at refl)
              (λ g. total_kept (λ (u : View). early_in g u.flight) vs id v w at (early_same g)) rule.finishes;
          slots = slots';
          plan = rule.plan;
          history = past_drawn p a vs rule.history id v at w maker openings' (omega arith) refl refl (d₀ + 1) all_made forks_same;
          forest = rule.forest;
          bare = bare_kept p a.trees (openings a.vertices vs) (openings a.vertices after) a.nodes (halves vs) (halves after) (aboves vs)
              (aboves after) (λ f z. sym (openings' f) ∙ z) (λ n. total_kept (half_of n) vs id v w at refl)
              (λ n. total_kept (above_of n) vs id v w at refl) rule.bare;
          trees = each_kept (λ (u : View). TreeOk p a.trees a.nodes u.known u.links u.halves u.sprout) vs id w (rule.trees id v at) rule.trees;
          growth = growth_view p a.trees a.bred vs id v w at refl refl refl rule.growth;
          grows = each_kept (λ (u : View). GrowsOk p a.bred u.grow_draws u.full_grows u.spawns u.seats) vs id w
              (let g = rule.grows id v at in let q = g.paid in record { paid = omega arith; passed = g.passed; by_seats = g.by_seats }) rule.grows;
        }
