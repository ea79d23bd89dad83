-- What a share knows after the last turn of a call: it rests, or works on where no move was left.
use Rattle.std.proofs.Common.{ℕ, Option, Some, None, refl, sym, subst}
use Prim.Native.Nat.{zero, suc}
use Rattle.spd_words.specs.Plan.{PlanView}
use Rattle.spd_state.specs.declared.view.Running.{Running}
use Rattle.spd_state.specs.declared.view.View.{View}
use Rattle.spd_dag.specs.Draws.{unmoved_view}
use Rattle.spd_dag.specs.Ends.{IsOver}
use Rattle.spd_dag.specs.Signals.{SignalEnds}
use Rattle.spd_fork.specs.Workers.{IsResting, IsWorking}

module _ (seats : ℕ) (r : Running) (before : View) (w : IsWorking seats r before) where
  -- a vertex that is over has left nothing in hand
  pub rests_after : (p : PlanView) (after : View) (more turns : ℕ) → IsOver p before after more turns → IsResting seats after
  rests_after p after more turns over = subst (IsResting seats) (sym over.view) (record {
    has = record {
      number = w.has.number;
      flight = w.has.flight;
      held = w.has.held;
      claimed = w.has.claimed;
      rooted = w.has.rooted;
      above = w.has.above;
      halves = w.has.halves;
      sprout = w.has.sprout;
      told = w.has.told;
      hurt = w.has.hurt;
    };
    running = refl;
    slots = refl;
  })

  pub rests_signalled : (p : PlanView) (after : View) (woke : Option ℕ) → SignalEnds p r before after woke → IsResting seats after
  rests_signalled p after None over = rests_after p after 0 2 over
  rests_signalled p after (Some n) ends = rests_after p after 1 3 ends.2

  -- a share that has found no move left still works
  pub works_unmoved : (marks : ℕ) → IsWorking seats r (unmoved_view marks before)
  works_unmoved zero = record {
    has = record {
      number = w.has.number;
      flight = w.has.flight;
      held = w.has.held;
      claimed = w.has.claimed;
      rooted = w.has.rooted;
      above = w.has.above;
      halves = w.has.halves;
      sprout = w.has.sprout;
      told = w.has.told;
      hurt = w.has.hurt;
    };
    running = w.running;
    right = w.right;
    awaited = w.awaited;
    wild = w.wild;
    kind = w.kind;
    knows = w.knows;
  }
  works_unmoved (suc marks) = record {
    has = record {
      number = w.has.number;
      flight = w.has.flight;
      held = w.has.held;
      claimed = w.has.claimed;
      rooted = w.has.rooted;
      above = w.has.above;
      halves = w.has.halves;
      sprout = w.has.sprout;
      told = w.has.told;
      hurt = w.has.hurt;
    };
    running = w.running;
    right = w.right;
    awaited = w.awaited;
    wild = w.wild;
    kind = w.kind;
    knows = w.knows;
  }
