-- `sub_root` keeps the rule.
use Rattle.std.proofs.Common.{◌≡◌, ◌≢◌, ◌⊎◌, ℕ, ◌+◌, ◌*◌, ◌<◌, ◌≤◌, List, length, set, refl, sym, ap, ◌∙◌, subst, arith, Option, Some, None, ⊎_elim}
use Rattle.std.proofs.Common.{inl, inr}
use Prim.Native.Nat.{zero, suc}
use mathlib.Core.Option.{some, some-injective}
use mathlib.Core.Option as maybe
use mathlib.Core.Logic.{dite}
use native.Mathlib.Decide.{dec_lt, ℕ_discrete}
use lib.ListN.{get_elem?}
use Rattle.spd_words.specs.Plan.{PlanView}
use Rattle.spd_words.specs.Words.{Node, NodeFits}
use Rattle.spd_state.specs.Sums.{same, gate, count, sum_below, put}
use Rattle.spd_state.specs.Dag.{Dag, handles, runners, flights, earlies, tellers, holders, units, rights, openings, right_of, units_of, runs_it}
use Rattle.spd_state.specs.Dag.{named, opens_in, flies_in, early_in, yet_in}
use Rattle.spd_state.specs.Parts.{RunsOk, ClaimsOk, RootedOk, FlightsOk, OwnOk, Rule, MoveRule, FinishRule}
use Rattle.spd_state.specs.Steps.{sub_node, lose_view}
use Rattle.spd_state.specs.declared.view.Flight.{Flight}
use Rattle.spd_state.specs.declared.view.Draw.{Draw}
use Rattle.spd_state.specs.declared.view.Draw.TheVariants.{Make, Chain, Spawn}
use Rattle.spd_state.proofs.Roots.{tree_roots, root_else, counts_root, bare_root, trees_root}
use Rattle.spd_state.proofs.Past.{past_view}
use Rattle.spd_state.specs.History.{MakerOk}
use Rattle.spd_state.proofs.Sums.{gate_le}
use Rattle.spd_state.specs.declared.view.View.{View}
use Rattle.spd_state.proofs.Sums.{same_self, same_else, same_means, same_tells, put_case, summand_le, total_set, total_kept, total_has, total_two}
use Rattle.spd_state.proofs.Sums.{total_some, each_set, each_kept}
use Rattle.spd_state.proofs.Frames.{moves_kept, runs_kept, balances_kept, finishes_kept, slots_kept, marks_kept}
use Rattle.spd_state.proofs.Rights.{unit_opens, unit_counts}
use Rattle.spd_state.specs.Tree.{TreeOk, no_node}
use Rattle.spd_state.specs.Dag.{halves, half_of, aboves, above_of, claimed_units, claimed_above}
use Rattle.spd_state.specs.Parts.{GrowsOk}
use Rattle.spd_state.proofs.Frames.{bare_kept, growth_view, lives_alike, starts_kept}

module _ {B : Type 0} (p : PlanView) (a : Dag) (homes : List (maybe.Option (Option B))) (vs : List View) (rule : Rule p a homes vs) where
  -- where the waiting vertex of a root isn't stored yet, a unit there is the flight's own: it stands in its list, or is a handle
  pub early_flight : (d j : ℕ) (u : View) → d < p.moves → get_elem? vs j ≡ some u → 0 < early_in d u.flight → (0 < count d u.rooted)
      ⊎ (0 < sum_below p.moves (λ k. count d (handles (a.pairs k))))
  early_flight d j u low e z = by_flight u.flight refl z
    where
      set_pair : (f : Flight) → u.flight ≡ Some f → d ≡ f.number → ((a.pairs f.number).first ≡ f.number) × ((a.pairs f.number).total ≡ 1)
          → 0 < yet_in d (Some f) → 0 < sum_below p.moves (λ k. count d (handles (a.pairs k)))
      set_pair f is at handle yet = let r : 0 < right_of d u = let y : yet_in d u.flight ≡ yet_in d (Some f) = ap (yet_in d) is in omega arith in
          let t = total_has (right_of d) vs j u e in let b = rule.balances.balance d low in
          let first : (a.pairs d).first ≡ d = ap (λ k. (a.pairs k).first) at ∙ (handle.0 ∙ sym at) in
          let one : (a.pairs d).total ≡ 1 = ap (λ k. (a.pairs k).total) at ∙ handle.1 in
          let here = any (a.pairs d).claims (a.pairs d).total (a.pairs d).first (a.pairs d).second first one (omega arith) in
          let s = summand_le p.moves (λ (k : ℕ). count d (handles (a.pairs k))) d low in omega arith
        where
          any : (c t f s : ℕ) → f ≡ d → t ≡ 1 → c < t → 0 < count d (handles (record { claims = c; total = t; kind = 0; first = f; second = s }))
          any zero zero f s x y l = absurd (omega arith)
          any zero (suc zero) f s x y l = let g = same_self d f (sym x) in omega arith
          any zero (suc (suc t)) f s x y l = absurd (omega arith)
          any (suc c) t f s x y l = absurd (omega arith)

      at_stage : (draw : Draw) (number finish stage : ℕ) → u.flight ≡ Some record { draw = draw; number = number; finish = finish; stage = stage }
          → 0 < early_in d (Some record { draw = draw; number = number; finish = finish; stage = stage })
          → (0 < count d u.rooted) ⊎ (0 < sum_below p.moves (λ k. count d (handles (a.pairs k))))
      at_stage Spawn number finish stage is k = absurd (omega arith)
      at_stage Make number finish zero is k = absurd (omega arith)
      at_stage Make number finish (suc zero) is k = inl (let r = subst (λ (o : Option Flight). RootedOk o u.rooted) is (rule.own j u e).rooted in
          let c : count d u.rooted ≡ same d number + 0 = ap (count d) r in omega arith)
      at_stage Make number finish (suc (suc zero)) is k = inr (let f : Flight = record { draw = Make; number = number; finish = finish; stage = 2 } in
          let ok = subst (FlightsOk p a.trees a.drawn a.nodes a.pairs a.vertices) is (rule.flying j u e) in
          set_pair f is (same_means d number k) (ok.handle refl (omega arith)) (omega arith))
      at_stage Make number finish (suc (suc (suc s))) is k = absurd (omega arith)
      at_stage Chain number finish zero is k = absurd (omega arith)
      at_stage Chain number finish (suc zero) is k = inl (let r = subst (λ (o : Option Flight). RootedOk o u.rooted) is (rule.own j u e).rooted in
          let c : count d u.rooted ≡ same d number + 0 = ap (count d) r in omega arith)
      at_stage Chain number finish (suc (suc zero)) is k = inr (let f : Flight =
          record { draw = Chain; number = number; finish = finish; stage = 2 } in
          let ok = subst (FlightsOk p a.trees a.drawn a.nodes a.pairs a.vertices) is (rule.flying j u e) in
          set_pair f is (same_means d number k) (ok.handle refl (omega arith)) (omega arith))
      at_stage Chain number finish (suc (suc (suc s))) is k = absurd (omega arith)

      by_flight : (o : Option Flight) → u.flight ≡ o → 0 < early_in d o → (0 < count d u.rooted)
          ⊎ (0 < sum_below p.moves (λ k. count d (handles (a.pairs k))))
      by_flight None is k = absurd (omega arith)
      by_flight (Some f) is k = at_stage f.draw f.number f.finish f.stage is k

  module _ (id : ℕ) (v : View) (at : get_elem? vs id ≡ some v) (d : ℕ) (low : d < p.moves) (held' claimed' told' : List ℕ) (last : ℕ)
      (less : (k : ℕ) → count k held' + claimed_units a.trees k v.lifted claimed' + same k d
      ≡ count k v.held + claimed_units a.trees k v.lifted v.claimed)
      (fewer : (k : ℕ) → count k held' ≤ count k v.held) (one : length claimed' ≤ length v.claimed)
      (lifts : (k : ℕ) → claimed_above v.lifted k claimed' ≡ claimed_above v.lifted k v.claimed)
      (short : length held' + length claimed' + 1 ≡ length v.held + length v.claimed)
      (claims' : ClaimsOk p a.trees v.running claimed') (tells : (f : ℕ) → count f told' ≡ count f v.told + gate last (same f d))
      (when : (last ≡ 1) × ((a.nodes d).twice ≡ 2) ⊎ (last ≡ 0) × ((a.nodes d).twice ≢ 2))
      (maker : MakerOk (lose_view held' claimed' told' v)) where
    abbrev n : Node
    n = a.nodes d

    abbrev w : View
    w = lose_view held' claimed' told' v

    abbrev after : List View
    after = set vs id w

    abbrev nodes' : ℕ → Node
    nodes' = put a.nodes d (sub_node n)

    counted : n.twice ≡ 2 * units p a vs d
    counted = rule.counts.count d low

    listed : 0 < count d v.held + claimed_units a.trees d v.lifted v.claimed
    listed = let l = less d in let s = same_self d d refl in omega arith

    lives : 0 < units p a vs d
    lives = let l = listed in unit_counts p a homes vs rule id v at d (omega arith)

    pub sub_fits : NodeFits n → NodeFits (sub_node n)
    sub_fits h = let t = h.twice in record { twice = omega arith; version = h.version }

    units' : (k : ℕ) → units p (record a { nodes = nodes' }) after k + same k d ≡ units p a vs k
    units' k = let t = total_set (units_of a.trees k) vs id v w at in let l = less k in
        let r = tree_roots p.moves p.grown a.trees.parents a.nodes nodes' (root_else p.moves a.nodes d (sub_node n) low) k in omega arith

    halves' : (k : ℕ) → halves after k ≡ halves vs k
    halves' k = total_kept (half_of k) vs id v w at refl

    openings' : (k : ℕ) → openings a.vertices after k ≡ openings a.vertices vs k
    openings' k = ap (λ j. named k (a.vertices (2 * k)) + j) (total_kept (λ (x : View). opens_in k x.flight) vs id v w at refl)

    told_now : (f : ℕ) → tellers after f ≡ tellers vs f + gate last (same f d)
    told_now f = let t = total_set (λ (u : View). count f u.told) vs id v w at in let c = tells f in omega arith

    is_open : 0 < openings a.vertices vs d
    is_open = unit_opens p a homes vs rule d low lives

    own : OwnOk p a.trees v
    own = rule.own id v at

    own' : OwnOk p a.trees w
    own' = let few = own.few in let s = short in record {
      claims = claims';
      rooted = own.rooted;
      there = λ k z. let l = fewer k in own.there k (omega arith);
      lifts = λ k z. let l = lifts k in own.lifts k (omega arith);
      single = let s = own.single in omega arith;
      tells = λ k z. let e = tells k in ⊎_elim (λ (t : (k ≡ d) × (same k d ≡ 1)). let e = t.0 in omega arith)
          (λ (t : (k ≢ d) × (same k d ≡ 0)). let s = t.1 in let g = gate_le last (same k d) in own.tells k (omega arith)) (same_tells k d);
      spent = λ z. absurd (omega arith);
      few = omega arith;
      seated = own.seated;
      sitting = own.sitting;
    }

    set_root : a.nodes d ≡ no_node → ⊥
    set_root e = let t : n.twice ≡ 0 = ap (λ (x : Node). x.twice) e in let c = counted in let u = lives in omega arith

    flies : (o : Option Flight) → FlightsOk p a.trees a.drawn a.nodes a.pairs a.vertices o → FlightsOk p a.trees a.drawn nodes' a.pairs a.vertices o
    flies None k = tt
    flies (Some f) k = record {
      number = k.number;
      begun = k.begun;
      pair = k.pair;
      body = k.body;
      rest = k.rest;
      finish = k.finish;
      tops = k.tops;
      root_finish = k.root_finish;
      below = k.below;
      handle = k.handle;
      body_there = k.body_there;
      names = k.names;
      rest_there = k.rest_there;
      root = λ z. put_case (λ x. x ≡ no_node) a.nodes d (sub_node n) f.number (λ e. absurd (set_root (ap a.nodes (sym e) ∙ k.root z)))
          (λ _. k.root z);
    }

    moves' : MoveRule p.moves a.drawn nodes' a.pairs a.vertices (flights after)
    moves' = let h = moves_kept p.moves a.drawn a.nodes a.pairs a.vertices (flights vs) (flights after)
        (λ k. total_kept (λ (u : View). flies_in k u.flight) vs id v w at refl) rule.moves in record {
          blank_pair = h.blank_pair;
          blank_body = h.blank_body;
          blank_rest = h.blank_rest;
          grounded = h.grounded;
          alone = h.alone;
          body_there = h.body_there;
          rest_there = h.rest_there;
          blank_root = λ k l b. put_case (λ x. x ≡ no_node) a.nodes d (sub_node n) k
              (λ e. absurd (set_root (ap a.nodes (sym e) ∙ h.blank_root k l b)))
              (λ _. h.blank_root k l b);
        }

    -- with the last unit gone the waiting vertex is there
    stored_last : units p a vs d ≡ 1 → (a.vertices (2 * d + 1)).state ≡ 0 → ⊥
    stored_last one z = let e = rule.finishes.coming d low is_open z in let s = total_some (λ (u : View). early_in d u.flight) vs (omega arith) in
        ⊎_elim
        (λ (r : 0 < count d (s.1).rooted). dite (ℕ_discrete s.0 id)
        (λ i. let c : units_of a.trees d s.1 ≡ units_of a.trees d v =
        ap (units_of a.trees d) (some-injective s.1 v (sym s.2 ∙ (ap (get_elem? vs) i ∙ at))) in
        let c' : count d (s.1).rooted ≡ count d v.rooted = ap (λ (u : View). count d u.rooted)
        (some-injective s.1 v (sym s.2 ∙ (ap (get_elem? vs) i ∙ at))) in
        let l = listed in let t = total_has (units_of a.trees d) vs id v at in omega arith)
        (λ i. let t = total_two (units_of a.trees d) vs s.0 id s.1 v s.2 at i in let l = listed in omega arith))
        (λ (r : 0 < sum_below p.moves (λ k. count d (handles (a.pairs k)))). let t = total_has (units_of a.trees d) vs id v at in let l = listed in
        omega arith)
        (early_flight d s.0 s.1 low s.2 s.3)

    finishes' : FinishRule p.moves a.vertices (openings a.vertices after) (units p (record a { nodes = nodes' }) after) (tellers after)
        (earlies after)
    finishes' = let h = rule.finishes in let c = counted in let u = units' d in let s = same_self d d refl in let live = lives in
        let early : (f : ℕ) → earlies after f ≡ earlies vs f = λ f. total_kept (λ (u : View). early_in f u.flight) vs id v w at refl in
        let op : (f : ℕ) → 0 < openings a.vertices after f → 0 < openings a.vertices vs f = λ f z. let e = openings' f in omega arith in ⊎_elim
        (λ (l : (last ≡ 1) × (n.twice ≡ 2)). let two = l.1 in
        let told : (f : ℕ) → tellers after f ≡ tellers vs f + same f d = λ f. told_now f ∙ ap (λ k. tellers vs f + gate k (same f d)) l.0 in record {
          untold = λ f k z. let t = told f in let o = openings' f in let q = h.untold f k (omega arith) in
              ⊎_elim (λ (e : (f ≡ d) × (same f d ≡ 1)). let g = is_open in absurd (let x = ap (openings a.vertices vs) e.0 in omega arith))
              (λ (e : (f ≢ d) × (same f d ≡ 0)). let x = e.1 in omega arith) (same_tells f d);
          going = λ f k z g. let t = told f in let x = units' f in
              ⊎_elim (λ (e : (f ≡ d) × (same f d ≡ 1)). absurd (let y = ap (units p a vs) e.0 in let y' = e.1 in omega arith))
              (λ (e : (f ≢ d) × (same f d ≡ 0)). let y = e.1 in let q = h.going f k (op f z) (omega arith) in let q₁ = q.1 in (q.0, omega arith))
              (same_tells f d);
          coming = λ f k z g. early f ∙ h.coming f k (op f z) g;
          over = λ f k z g. let x = units' f in ⊎_elim
              (λ (e : (f ≡ d) × (same f d ≡ 1)). let st = stored_last (omega arith) in
              let y : (a.vertices (2 * f + 1)).state ≡ (a.vertices (2 * d + 1)).state = ap (λ j. (a.vertices (2 * j + 1)).state) e.0 in
              dite (dec_lt 0 (a.vertices (2 * f + 1)).state) (λ o. o) (λ o. absurd (st (omega arith))))
              (λ (e : (f ≢ d) × (same f d ≡ 0)). let y = e.1 in h.over f k (op f z) (omega arith)) (same_tells f d);
          tell = λ f k z g y. let t = told f in let x = units' f in ⊎_elim
              (λ (e : (f ≡ d) × (same f d ≡ 1)). let e₁ = e.1 in let q = h.going f k (op f z) (omega arith) in let q₁ = q.1 in omega arith)
              (λ (e : (f ≢ d) × (same f d ≡ 0)). let e₁ = e.1 in let q = h.tell f k (op f z) (omega arith) y in omega arith) (same_tells f d);
          woken = λ f k z g y. let t = told f in let x = units' f in ⊎_elim
              (λ (e : (f ≡ d) × (same f d ≡ 1)). let e₁ = e.1 in let q = h.going f k (op f z) (omega arith) in let q₀ = q.0 in absurd (omega arith))
              (λ (e : (f ≢ d) × (same f d ≡ 0)). let e₁ = e.1 in let q = h.woken f k (op f z) (omega arith) y in omega arith) (same_tells f d);
        })
        (λ (l : (last ≡ 0) × (n.twice ≢ 2)). let not_two = l.1 in finishes_kept p.moves a.vertices (openings a.vertices vs)
        (openings a.vertices after) (units p a vs) (units p (record a { nodes = nodes' }) after) (tellers vs) (tellers after) (earlies vs)
        (earlies after) openings'
        (λ f k. let x = units' f in ⊎_elim
        (λ (e : (f ≡ d) × (same f d ≡ 1)). let e₁ = e.1 in let y : units p a vs f ≡ units p a vs d = ap (units p a vs) e.0 in
        ((λ z. absurd (not_two (omega arith))), (λ z. omega arith)))
        (λ (e : (f ≢ d) × (same f d ≡ 0)). let e₁ = e.1 in ((λ z. omega arith), (λ z. omega arith))) (same_tells f d))
        (λ f. told_now f ∙ (ap (λ k. tellers vs f + gate k (same f d)) l.0 ∙ omega arith)) early h)
        when

    roots : (u : View) → TreeOk p a.trees a.nodes u.known u.links u.halves u.sprout → TreeOk p a.trees nodes' u.known u.links u.halves u.sprout
    roots u k = trees_root p a.trees a.nodes d (sub_node n) low u.known u.links u.halves u.sprout k

    pub sub_keeps : Rule p (record a { nodes = nodes' }) homes after
    sub_keeps = record {
      own = each_kept (OwnOk p a.trees) vs id w own' rule.own;
      running = each_kept (λ (u : View). RunsOk p a.trees a.pairs a.vertices u.running) vs id w (rule.running id v at) rule.running;
      flying = each_set (λ (u : View). FlightsOk p a.trees a.drawn a.nodes a.pairs a.vertices u.flight)
          (λ (u : View). FlightsOk p a.trees a.drawn nodes' a.pairs a.vertices u.flight) vs id w
          (flies v.flight (rule.flying id v at)) rule.flying (λ j u _ _ k. flies u.flight k);
      moves = moves';
      marks = marks_kept p.moves a.drawn vs id v w at refl refl refl rule.marks;
      starts = starts_kept p.moves a.vertices vs id v w at refl refl rule.starts;
      runs = runs_kept p.moves a.vertices (runners vs) (runners after)
          (λ x. total_kept (λ (u : View). runs_it x u.running) vs id v w at refl) rule.runs;
      live = record {
        shut = λ k l z. let u = units' k in let h = rule.live.shut k l
            (sym (lives_alike a.trees (openings a.vertices vs) (openings a.vertices after) openings' k) ∙ z) in omega arith;
        finish = λ x l s. let t = rule.live.finish x l s in (t.0, subst (λ k. 0 < k) (sym (openings' (a.vertices x).finish)) t.1);
        inc = rule.live.inc;
      };
      counts = counts_root p.moves p.grown a.nodes (units p a vs) (units p (record a { nodes = nodes' }) after) (halves vs) (halves after) d
          (sub_node n) low (let u = units' d in let c = counted in let s = same_self d d refl in omega arith) (rule.counts.plain d low)
          (λ k e. let u = units' k in let s = same_else k d e in omega arith) halves' rule.counts;
      balances = balances_kept p a.trees a.pairs a.vertices (rights p a.vertices vs) (rights p a.vertices after)
          (λ k. let t = total_kept (right_of k) vs id v w at refl in omega arith) rule.balances;
      finishes = finishes';
      slots = slots_kept p.moves a.drawn a.vertices (holders vs) (holders after) homes
          (λ x. total_kept (λ (u : View). count x u.slots) vs id v w at refl) rule.slots;
      plan = rule.plan;
      history = past_view p a vs rule.history id v at w maker openings' (omega arith) refl refl refl refl refl;
      forest = rule.forest;
      bare = bare_root p a.trees (openings a.vertices after) a.nodes (halves after) (aboves after) d (sub_node n) low
          (bare_kept p a.trees (openings a.vertices vs) (openings a.vertices after) a.nodes (halves vs) (halves after) (aboves vs) (aboves after)
          (λ f z. sym (openings' f) ∙ z) (λ n. total_kept (half_of n) vs id v w at refl)
          (λ n. total_kept (above_of n) vs id v w at (ap (λ j. count n v.above + j) (lifts n))) rule.bare);
      trees = each_set (λ (u : View). TreeOk p a.trees a.nodes u.known u.links u.halves u.sprout)
          (λ (u : View). TreeOk p a.trees nodes' u.known u.links u.halves u.sprout) vs id w (roots v (rule.trees id v at)) rule.trees
          (λ j u _ _ k. roots u k);
      growth = growth_view p a.trees a.bred vs id v w at refl refl refl rule.growth;
      grows = each_kept (λ (u : View). GrowsOk p a.bred u.grow_draws u.full_grows u.spawns u.seats) vs id w (rule.grows id v at) rule.grows;
    }
