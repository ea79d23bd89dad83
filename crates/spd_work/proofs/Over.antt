-- A vertex is over: the share rests, and its handle has room still.
use Rattle.std.proofs.Common.{◌≡◌, ℕ, ◌+◌, refl, sym, ap, subst, arith}
use Rattle.spd_state.specs.Dag.{load_of}
use Rattle.spd_state.specs.declared.view.Running.{Running}
use Rattle.spd_state.specs.declared.view.View.{View}
use Rattle.spd_rule.specs.Steps.{IsFree, HasPaid}
use Rattle.spd_dag.specs.Acts.{MayAct, MaySignal}
use Rattle.spd_dag.specs.Ends.{over_view}
use Rattle.spd_work.specs.Runs.{HoldsNothing, IsClear, Rests, RunsOn, Lasts}

-- ---- what it has in hand

pub no_load : (v : View) → HoldsNothing v → load_of v ≡ 0
no_load v h = rw h.held (rw h.claimed (rw h.rooted (rw h.above refl)))

pub is_free : (v : View) → IsClear v → IsFree v
is_free v c = rw c.collected (rw c.well refl)

pub may_act : (v : View) (r : Running) → RunsOn v r → IsClear v → MayAct v r
may_act v r on clear = record {
  running = on.running;
  right = on.right;
  flight = on.nothing.flight;
  free = is_free v clear;
  room = (let e = no_load v on.nothing in omega arith);
}

pub may_signal : (v : View) (r : Running) → RunsOn v r → IsClear v → HasPaid v → MaySignal v r
may_signal v r on clear paid = record { acts = may_act v r on clear; held = on.nothing.held; told = on.nothing.told; paid = paid }

-- ---- over

module _ (before after : View) (more : ℕ) (e : after ≡ over_view before after more) where
  pub over_rests : (r : Running) → RunsOn before r → IsClear before → Rests after
  over_rests r on clear = subst Rests (sym e) record {
    running = refl;
    slots = refl;
    nothing = record {
      flight = on.nothing.flight;
      held = on.nothing.held;
      claimed = on.nothing.claimed;
      rooted = on.nothing.rooted;
      above = on.nothing.above;
      halves = on.nothing.halves;
      sprout = on.nothing.sprout;
      told = on.nothing.told;
    };
    clear = record { collected = clear.collected; well = clear.well };
  }

  pub over_lasts : Lasts before after
  over_lasts = subst (Lasts before) (sym e) record { stays = record { whole = refl; seats = refl; spare = refl }; done = refl }

  pub over_ready : after.ready ≡ before.ready + more
  over_ready = ap (λ (v : View). v.ready) e
