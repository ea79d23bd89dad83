-- What must have come before a step still holds after it: a law for each way in which a step meets the history.
use Rattle.std.proofs.Common.{◌≡◌, ◌≢◌, ℕ, ◌+◌, ◌*◌, ◌<◌, ◌≤◌, List, set, sym, ap, ◌∙◌, subst, arith}
use mathlib.Core.Option.{some}
use mathlib.Core.Logic.{dite}
use native.Mathlib.Decide.{ℕ_discrete}
use lib.ListN.{get_elem?}
use Rattle.spd_words.specs.Plan.{PlanView}
use Rattle.spd_words.specs.Words.{Pair, Vertex}
use Rattle.spd_state.specs.Sums.{same, total, sum_below, put, Each}
use Rattle.spd_state.specs.Dag.{Dag, runs_it, runners, openings}
use Rattle.spd_state.specs.History.{MakerOk, Unmade, Shut, Done, History, woken, forks_in}
use Rattle.spd_state.specs.declared.view.View.{View}
use Rattle.spd_state.proofs.Sums.{put_case, put_else, sum_put, total_set, total_kept, each_kept}

pub shut_kept : (m : ℕ) (o o' : ℕ → ℕ) (gifts faults : ℕ → ℕ) → ((f : ℕ) → o' f ≡ 0 → o f ≡ 0) → Shut m o gifts faults → Shut m o' gifts faults
shut_kept m o o' gifts faults e h = record { gift = λ f l z. h.gift f l (e f z); fault = λ f l z. h.fault f l (e f z) }

-- once a move is drawn, no share has yet to begin the make
pub made : (drawn fresh : ℕ) → Unmade drawn fresh → 0 < drawn → fresh ≡ 0
made drawn fresh u l = dite (ℕ_discrete fresh 0) (λ e. e) (λ e. let z = u.none (omega arith) in absurd (omega arith))

module _ (p : PlanView) (a : Dag) (vs : List View) (past : History p.moves a.drawn a.done a.pairs a.vertices a.gifts a.faults vs) (id : ℕ) (v : View)
    (at : get_elem? vs id ≡ some v) (w : View) (maker : MakerOk w) where
  abbrev after : List View
  after = set vs id w

  makers : Each MakerOk after
  makers = each_kept MakerOk vs id w maker past.makers

  -- a step that opens no finish and writes no vertex, pair or number that is named here
  module _ (opens : (f : ℕ) → openings a.vertices after f ≡ openings a.vertices vs f) (fewer : runs_it 1 w.running ≤ runs_it 1 v.running)
      (marks : w.done ≡ v.done) (ready : w.ready ≡ v.ready) where
    done' : Done a.done (a.vertices 1) (runners after 1) (total (λ (u : View). u.done) after)
    done' = let d = past.ended in record {
      one = d.one;
      mark = total_kept (λ (u : View). u.done) vs id v w at marks ∙ d.mark;
      over = λ z. let o = d.over z in let o₁ = o.1 in let t = total_set (λ (u : View). runs_it 1 u.running) vs id v w at in (o.0, omega arith);
    }

    ready' : total (λ (u : View). u.ready) after ≡ sum_below (2 * p.moves) (λ x. woken (a.vertices x).state)
    ready' = total_kept (λ (u : View). u.ready) vs id v w at ready ∙ past.tallied.ready

    pub past_view : w.fresh ≡ v.fresh → w.spawns ≡ v.spawns → forks_in w.flight ≡ forks_in v.flight
        → History p.moves a.drawn a.done a.pairs a.vertices a.gifts a.faults after
    past_view fresh spawns forks = record {
      makers = makers;
      below = past.below;
      unmade = let u = past.unmade in let a = u.alone in let t = total_kept (λ (u : View). u.fresh) vs id v w at fresh in
          record { alone = omega arith; none = λ z. u.none (omega arith) };
      shut = shut_kept p.moves (openings a.vertices vs) (openings a.vertices after) a.gifts a.faults (λ f z. sym (opens f) ∙ z) past.shut;
      ended = done';
      tallied = let t = past.tallied.spawns in let s = total_kept (λ (u : View). u.spawns) vs id v w at spawns in
          let k = total_kept (λ (u : View). forks_in u.flight) vs id v w at forks in record { ready = ready'; spawns = omega arith };
    }

    -- a pair is written
    pub past_pair : (d : ℕ) (x : Pair) → d < p.moves → w.fresh ≡ v.fresh → w.spawns ≡ v.spawns
        → forks_in w.flight + same 2 x.total ≡ forks_in v.flight + same 2 (a.pairs d).total
        → History p.moves a.drawn a.done (put a.pairs d x) a.vertices a.gifts a.faults after
    past_pair d x low fresh spawns forks = let h = past_spawns in record {
      makers = makers;
      below = past.below;
      unmade = let u = past.unmade in let a = u.alone in let t = total_kept (λ (u : View). u.fresh) vs id v w at fresh in
          record { alone = omega arith; none = λ z. u.none (omega arith) };
      shut = shut_kept p.moves (openings a.vertices vs) (openings a.vertices after) a.gifts a.faults (λ f z. sym (opens f) ∙ z) past.shut;
      ended = done';
      tallied = record { ready = ready'; spawns = h };
    }
      where
        past_spawns : total (λ (u : View). u.spawns) after ≡ sum_below p.moves (λ k. same 2 (put a.pairs d x k).total) + total
            (λ (u : View). forks_in u.flight) after
        past_spawns = let t = past.tallied.spawns in let s = total_kept (λ (u : View). u.spawns) vs id v w at spawns in
            let k = total_set (λ (u : View). forks_in u.flight) vs id v w at in
            let q = sum_put p.moves (λ (_ : ℕ) (y : Pair). same 2 y.total) a.pairs d x low in omega arith

    -- a move is a.drawn, or none was left: from then on no share has yet to begin the make
    pub past_drawn : (drawn' : ℕ) → total (λ (u : View). u.fresh) after ≡ 0 → w.spawns + forks_in v.flight ≡ v.spawns + forks_in w.flight
        → History p.moves drawn' a.done a.pairs a.vertices a.gifts a.faults after
    past_drawn drawn' none spawns = record {
      makers = makers;
      below = past.below;
      unmade = record { alone = omega arith; none = λ z. absurd (omega arith) };
      shut = shut_kept p.moves (openings a.vertices vs) (openings a.vertices after) a.gifts a.faults (λ f z. sym (opens f) ∙ z) past.shut;
      ended = done';
      tallied = let t = past.tallied.spawns in let s = total_set (λ (u : View). u.spawns) vs id v w at in
          let k = total_set (λ (u : View). forks_in u.flight) vs id v w at in record { ready = ready'; spawns = omega arith };
    }

  -- the finish d is opened, whose waiting vertex isn't stored
  pub past_opened : (d : ℕ) → ((f : ℕ) → openings a.vertices after f ≡ openings a.vertices vs f + same f d)
      → runs_it 1 w.running ≤ runs_it 1 v.running → w.done ≡ v.done → w.ready ≡ v.ready → w.fresh ≡ v.fresh → w.spawns ≡ v.spawns
      → forks_in w.flight ≡ forks_in v.flight
      → History p.moves a.drawn a.done a.pairs a.vertices a.gifts a.faults after
  past_opened d opens fewer marks ready fresh spawns forks = record {
    makers = makers;
    below = past.below;
    unmade = let u = past.unmade in let a = u.alone in let t = total_kept (λ (u : View). u.fresh) vs id v w at fresh in
        record { alone = omega arith; none = λ z. u.none (omega arith) };
    shut = shut_kept p.moves (openings a.vertices vs) (openings a.vertices after) a.gifts a.faults (λ f z. let o = opens f in omega arith) past.shut;
    ended = let d = past.ended in record {
      one = d.one;
      mark = total_kept (λ (u : View). u.done) vs id v w at marks
          ∙ d.mark;
      over = λ z. let o = d.over z in let o₁ = o.1 in let t = total_set (λ (u : View). runs_it 1 u.running) vs id v w at in
          (o.0, omega arith);
    };
    tallied = let t = past.tallied.spawns in let r = past.tallied.ready in let s = total_kept (λ (u : View). u.spawns) vs id v w at spawns in
        let k = total_kept (λ (u : View). forks_in u.flight) vs id v w at forks in
        let q = total_kept (λ (u : View). u.ready) vs id v w at ready in record { ready = omega arith; spawns = omega arith };
  }

  -- the vertex i, which wasn't started, is written
  pub past_vertex : (i : ℕ) (x : Vertex) → i < 2 * p.moves → (a.vertices i).state < 3
      → ((f : ℕ) → openings (put a.vertices i x) after f ≡ openings a.vertices vs f)
      → ((d : ℕ) → i ≡ 2 * d + 1 → d < p.moves → 0 < d → x.finish < d) → ((d : ℕ) → i ≡ 2 * d → d < p.moves → x.finish ≤ d) → (i ≡ 1 → x.finish ≡ 0)
      → (i ≢ 1 → runs_it 1 w.running ≤ runs_it 1 v.running) → w.done ≡ v.done → w.ready + woken (a.vertices i).state ≡ v.ready + woken x.state
      → w.fresh ≡ v.fresh → w.spawns ≡ v.spawns → forks_in w.flight ≡ forks_in v.flight
      → History p.moves a.drawn a.done a.pairs (put a.vertices i x) a.gifts a.faults after
  past_vertex i x low early opens rest body end fewer marks ready fresh spawns forks = record {
    makers = makers;
    below = record {
      rest = λ d l z. put_case (λ (y : Vertex). 0 < y.state → y.finish < d) a.vertices i x (2 * d + 1) (λ e _. rest d (sym e) l z)
          (λ _. past.below.rest d l z);
      body = λ d l. put_case (λ (y : Vertex). 0 < y.state → y.finish ≤ d) a.vertices i x (2 * d) (λ e _. body d (sym e) l) (λ _. past.below.body d l);
      end = put_case (λ (y : Vertex). 0 < y.state → y.finish ≡ 0) a.vertices i x 1 (λ e _. end (sym e)) (λ _. past.below.end);
    };
    unmade = let u = past.unmade in let a = u.alone in let t = total_kept (λ (u : View). u.fresh) vs id v w at fresh in
        record { alone = omega arith; none = λ z. u.none (omega arith) };
    shut = shut_kept p.moves (openings a.vertices vs) (openings (put a.vertices i x) after) a.gifts a.faults (λ f z. sym (opens f) ∙ z) past.shut;
    ended = let d = past.ended in record {
      one = d.one;
      mark = total_kept (λ (u : View). u.done) vs id v w at marks ∙ d.mark;
      over = λ z. let o = d.over z in let o₀ = o.0 in let o₁ = o.1 in
          dite (ℕ_discrete i 1) (λ e. let s : (a.vertices i).state ≡ (a.vertices 1).state = ap (λ k. (a.vertices k).state) e in absurd (omega arith))
          (λ e. let f = fewer e in let t = total_set (λ (u : View). runs_it 1 u.running) vs id v w at in
          (subst (λ (y : Vertex). 3 ≤ y.state) (sym (put_else a.vertices i x 1 (λ k. e (sym k)))) o.0, omega arith));
    };
    tallied = let t = past.tallied.spawns in let s = total_kept (λ (u : View). u.spawns) vs id v w at spawns in
        let k = total_kept (λ (u : View). forks_in u.flight) vs id v w at forks in record {
          ready = let r = past.tallied.ready in let q = total_set (λ (u : View). u.ready) vs id v w at in
              let k₁ = sum_put (2 * p.moves) (λ (_ : ℕ) (y : Vertex). woken y.state) a.vertices i x low in omega arith;
          spawns = omega arith;
        };
  }
