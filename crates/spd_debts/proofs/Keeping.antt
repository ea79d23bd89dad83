-- The steps of the books keep the rule of the table too: they change words of an open finish, and entries of a view that it doesn't read.
use Rattle.std.proofs.Common.{◌≡◌, ℕ, ◌<◌, ℤ, List, set, refl, ap, arith, Option, Some}
use Prim.Native.Nat.{zero, suc}
use mathlib.Core.Option.{some}
use mathlib.Core.Option as maybe
use lib.ListN.{get_elem?}
use Rattle.spd_words.specs.Plan.{PlanView}
use Rattle.spd_state.specs.Sums.{put}
use Rattle.spd_state.specs.Dag.{Dag, openings, busy}
use Rattle.spd_state.specs.History.{Shut}
use Rattle.spd_state.specs.Parts.{Rule}
use Rattle.spd_state.specs.declared.promise.Expected.{Expected}
use Rattle.spd_state.specs.declared.view.Running.{Running}
use Rattle.spd_state.specs.declared.view.View.{View}
use Rattle.spd_state.proofs.Loads.{Same, load_keeps}
use Rattle.spd_state.proofs.Rights.{unit_opens, right_holds, finish_inside}
use Rattle.spd_debts.specs.Payments.{collect_view, fault_view, lower_view, offer_view, sees_view, shown_view, sink_view}
use Rattle.spd_debts.proofs.Ends.{shut_lower, shut_put}
use Rattle.spd_debts.proofs.Offers.{opened_kept}

module _ {B : Type 0} (p : PlanView) (a : Dag) (homes : List (maybe.Option (Option B))) (vs : List View) (rule : Rule p a homes vs) where
  -- the words of gifts and faults: the rule says only that those of finishes that aren't open are as at the start
  pub words_rule : (gifts' faults' : ℕ → ℕ) → Shut p.moves (openings a.vertices vs) gifts' faults'
      → Rule p (record a { gifts = gifts'; faults = faults' }) homes vs
  words_rule gifts' faults' shut = let h = rule.history in record {
    plan = rule.plan;
    history = record { makers = h.makers; below = h.below; unmade = h.unmade; shut = shut; ended = h.ended; tallied = h.tallied };
    own = rule.own;
    running = rule.running;
    flying = rule.flying;
    moves = rule.moves;
    marks = rule.marks;
    starts = rule.starts;
    runs = rule.runs;
    live = rule.live;
    counts = rule.counts;
    balances = rule.balances;
    finishes = rule.finishes;
    slots = rule.slots;
    forest = rule.forest;
    bare = rule.bare;
    trees = rule.trees;
    growth = rule.growth;
    grows = rule.grows;
  }

-- a view that differs only in what it runs, owes, awaits, has seen and is marked with
module _ (v : View) where
  pub owing_same : (w : View) → w ≡ record v {
    running = w.running;
    wild = w.wild;
    owes = w.owes;
    awaited = w.awaited;
    seen = w.seen;
    hurt = w.hurt;
    sunk = w.sunk;
    steps = w.steps;
  } → Same v w
  owing_same w e = record {
    flight = ap (λ (u : View). u.flight) e;
    held = ap (λ (u : View). u.held) e;
    claimed = ap (λ (u : View). u.claimed) e;
    rooted = ap (λ (u : View). u.rooted) e;
    told = ap (λ (u : View). u.told) e;
    slots = ap (λ (u : View). u.slots) e;
    full_draws = ap (λ (u : View). u.full_draws) e;
    seats = ap (λ (u : View). u.seats) e;
    spare = ap (λ (u : View). u.spare) e;
    lifted = ap (λ (u : View). u.lifted) e;
    above = ap (λ (u : View). u.above) e;
    halves = ap (λ (u : View). u.halves) e;
    known = ap (λ (u : View). u.known) e;
    links = ap (λ (u : View). u.links) e;
    sprout = ap (λ (u : View). u.sprout) e;
    grow_draws = ap (λ (u : View). u.grow_draws) e;
    full_grows = ap (λ (u : View). u.full_grows) e;
    spawns = ap (λ (u : View). u.spawns) e;
    fresh = ap (λ (u : View). u.fresh) e;
    starts = ap (λ (u : View). u.starts) e;
    ready = ap (λ (u : View). u.ready) e;
    done = ap (λ (u : View). u.done) e;
  }

module _ {B : Type 0} (p : PlanView) (a : Dag) (homes : List (maybe.Option (Option B))) (vs : List View) (rule : Rule p a homes vs) (id : ℕ)
    (v : View) (at : get_elem? vs id ≡ some v) where
  pub shown_rule : (n : ℕ) → Rule p a homes (set vs id (shown_view n v))
  shown_rule n = load_keeps p a homes vs rule id v at (shown_view n v) (owing_same v (shown_view n v) refl) refl (λ z. z)

  pub sees_rule : Rule p a homes (set vs id (sees_view v))
  sees_rule = load_keeps p a homes vs rule id v at (sees_view v) (owing_same v (sees_view v) refl) refl (λ z. z)

  -- a share that awaits is to collect, so it has no move in flight
  pub collect_rule : (x : Expected) → v.awaited ≡ Some x → (n : ℕ) → Rule p a homes (set vs id (collect_view n v))
  collect_rule x waits zero = load_keeps p a homes vs rule id v at (collect_view 0 v) (owing_same v (collect_view 0 v) refl) refl
      (λ z. let b : busy v.awaited ≡ 1 = ap busy waits in absurd (omega arith))
  collect_rule x waits (suc c) = load_keeps p a homes vs rule id v at (collect_view (suc c) v) (owing_same v (collect_view (suc c) v) refl) refl
      (λ z. omega arith)

  -- payments, by a share that has its right: its vertex's finish is open
  module _ (r : Running) (is : v.running ≡ Some r) (mine : r.right ≡ 1) where
    abbrev g : ℕ
    g = r.finish

    is_open : 0 < openings a.vertices vs g
    is_open = unit_opens p a homes vs rule g (finish_inside p a homes vs rule id v at r is) (right_holds p a homes vs rule id v at r is mine)

    pub offer_rule : (left : ℤ) (n : ℕ) → Rule p (record a { gifts = put a.gifts g n }) homes (set vs id (offer_view left v))
    offer_rule left n = let w : View = offer_view left v in let k = load_keeps p a homes vs rule id v at w (owing_same v w refl) refl (λ z. z) in
        words_rule p a homes (set vs id w) k (put a.gifts g n) a.faults
        (shut_put p.moves (openings a.vertices (set vs id w)) a.gifts a.faults g n (opened_kept a vs id v w at refl g is_open) k.history.shut)

    pub lower_rule : (c left n : ℕ) → Rule p (record a { faults = put a.faults g n }) homes (set vs id (lower_view c left v))
    lower_rule zero left n = let w : View = sink_view v in let k = load_keeps p a homes vs rule id v at w (owing_same v w refl) refl (λ z. omega arith) in
        words_rule p a homes (set vs id w) k a.gifts (put a.faults g n)
        (shut_lower p.moves (openings a.vertices (set vs id w)) a.gifts a.faults g n (opened_kept a vs id v w at refl g is_open) k.history.shut)
    lower_rule (suc c) left n = let w : View = fault_view left v in let k = load_keeps p a homes vs rule id v at w (owing_same v w refl) refl (λ z. z) in
        words_rule p a homes (set vs id w) k a.gifts (put a.faults g n)
        (shut_lower p.moves (openings a.vertices (set vs id w)) a.gifts a.faults g n (opened_kept a vs id v w at refl g is_open) k.history.shut)
