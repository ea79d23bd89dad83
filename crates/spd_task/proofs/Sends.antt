-- A task may go to another thread. Each step is the law of one type from those of its fields.
use denote.Param.Send.{IsSend, IsSync, sendable}
use denote.Param.SendFields.{declared_send, declared_sync}
use Rattle.std.proofs.Crossing.{crosses}
use Rattle.spd_words.proofs.finish_kind.FinishKind.TheSendSync as kinds
use Rattle.spd_words.proofs.tally.Tally.TheSendSync as tally
use Rattle.spd_data.proofs.column.Column.TheSendSync as columns
use Rattle.spd_code.specs.contracts.stmt.CodeBlock as block
use Rattle.spd_code.specs.contracts.tree.CodeItem as item
use Rattle.spd_code.specs.contracts.tree.CodeTree as code
use Rattle.spd_code.proofs.expr.CodeExpr.TheLaws.TheKnot as expr_knot
use Rattle.spd_code.proofs.stmt.CodeStmtKind.TheLaws.TheKnot as code_knot
use Rattle.spd_level.specs.contracts.frame.Frame as frame
use Rattle.spd_level.specs.contracts.level.Level as level
use Rattle.spd_machine.specs.contracts.machine.Inside as inside
use Rattle.spd_machine.specs.contracts.machine.Machine as machine
use Rattle.spd_task.specs.contracts.task.State as state
use Rattle.spd_task.specs.contracts.task.Task as task

block_sync : IsSync block.the_row
block_sync = search (crosses, expr_knot.crosses, code_knot.crosses, sendable) depth 60 fits 20000

item_sync : IsSync item.the_row
item_sync = declared_sync item.the_type (search sendable, (block_sync, tt))

code_sync : IsSync code.the_row
code_sync = declared_sync code.the_type (search (item_sync, crosses, sendable) depth 30, (search (item_sync, crosses, sendable) depth 30, (block_sync, tt)))

frame_send : (κ : _) → IsSend (frame.the_row κ)
frame_send κ = search (block_sync, crosses, sendable) depth 30

level_send : (κ : _) → IsSend (level.the_row κ)
level_send κ = search (frame_send, crosses, sendable) depth 30

inside_send : (κ : _) → IsSend (inside.the_row κ)
inside_send κ = declared_send (inside.the_type κ) (tally.the_send, (search sendable, (search sendable, (level_send κ, tt))))

machine_send : (κ : _) → IsSend (machine.the_row κ)
machine_send κ = declared_send (machine.the_type κ) (level_send κ, (search (inside_send, crosses, sendable), tt))

state_send : (κ : _) → IsSend (state.the_row κ)
state_send κ = search (block_sync, sendable) depth 60

pub task_send : (κ : _) → IsSend (task.the_row κ)
task_send κ = declared_send (task.the_type κ) (
  search (code_sync, sendable),
  (
    search (columns.the_sync, crosses, sendable) depth 30,
    (
      kinds.the_send,
      (machine_send κ, (state_send κ, tt)),
    ),
  ),
)
