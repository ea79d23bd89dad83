use Rattle.std.proofs.Common.{◌∙◌, sym, subst}
use Rattle.spd_spine.specs.Walk.{KeepsToMain}
use Rattle.spd_tests.proofs.spine_rows.expect_turns.Goals as goal

pub loop-turned-init : goal.loop-turned-init
loop-turned-init g c = (
  subst KeepsToMain (sym c.in_ok-spine.ensures.context)
      (record { silent = c.tree.ensures.silent; functions_lined = c.tree.ensures.lined.functions; tasks_lined = c.tree.ensures.lined.tasks }),
  c.in_ok-spine.ensures.standing,
)

pub loop-turned-preserved : goal.loop-turned-preserved
loop-turned-preserved g c =
    (subst KeepsToMain (sym (c.give.ensures.context ∙ c.next-turn.ensures.context)) c.loop-turned.invariant.0, c.give.ensures.standing)
