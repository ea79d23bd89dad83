use Rattle.std.proofs.Common.{◌≡◌, ◌+◌, ◌≤◌, refl, sym, ap, subst, ◌∙◌, rules, length, true, false}
use Rattle.spd_code.specs.declared.stmt.CodeBlock.{out-CodeBlock}
use Rattle.spd_level.specs.Columns.{context_of}
use Rattle.spd_level.proofs.Quiet.{quietly_none, turn_further}
use Rattle.spd_level.proofs.Stepping.{BlockRuns, plain_ran, block_over, block_turned, block_ends, block_skipped_back, block_skipped_fault}
use Rattle.spd_level.specs.declared.level.Level.{Level}
use Rattle.spd_level.proofs.level.Level.go_on.Goals as goal

pub loop-at-init : goal.loop-at-init
loop-at-init c = (c.requires, quietly_none _ _)

pub loop-at-preserved : goal.loop-at-preserved
loop-at-preserved c =
    let ran : c.in_ok-plain.field-0 ≡ true = search rules in
    let plain = rw ran at (c.in_ok-plain.ensures c.args.code.now c.args.left) in
    let before = c.loop-at.invariant in (
      c.in-Fell.is,
      plain_ran (context_of c.args.code.now c.args.columns.now) c.args.self.now c.loop-at.self c.plain.new.self c.args.block.now c.args.next c.loop-at.at
          c.args.floor c.args.left c.get-stmt.result.now before.1 before.0 c.get-stmt.ensures plain,
    )

pub returns-in-Back : goal.returns-in-Back
returns-in-Back c =
    let context = context_of c.args.code.now c.args.columns.now in
    let ran : c.in_ok-plain.field-0 ≡ true = search rules in
    let plain = rw ran at (c.in_ok-plain.ensures c.args.code.now c.args.left) in
    let before = c.loop-at.invariant in
    block_over context c.args.self.now c.plain.new.self c.args.block.now c.args.next (c.loop-at.at + 1) c.args.floor c.args.left
    (plain_ran context c.args.self.now c.loop-at.self c.plain.new.self c.args.block.now c.args.next c.loop-at.at c.args.floor c.args.left
    c.get-stmt.result.now before.1 before.0 c.get-stmt.ensures plain)
    (block_skipped_back context c.plain.new.self c.args.block (c.loop-at.at + 1) c.args.floor c.args.left c.in-Back.field-0 c.in-Back.is)

pub returns-in-Fault : goal.returns-in-Fault
returns-in-Fault c =
    let context = context_of c.args.code.now c.args.columns.now in
    let ran : c.in_ok-plain.field-0 ≡ true = search rules in
    let plain = rw ran at (c.in_ok-plain.ensures c.args.code.now c.args.left) in
    let before = c.loop-at.invariant in
    block_over context c.args.self.now c.plain.new.self c.args.block.now c.args.next (c.loop-at.at + 1) c.args.floor c.args.left
    (plain_ran context c.args.self.now c.loop-at.self c.plain.new.self c.args.block.now c.args.next c.loop-at.at c.args.floor c.args.left
    c.get-stmt.result.now before.1 before.0 c.get-stmt.ensures plain)
    (block_skipped_fault context c.plain.new.self c.args.block (c.loop-at.at + 1) c.args.floor c.args.left c.in-Fault.field-0 c.in-Fault.is)

pub returns-then-not-branch : goal.returns-then-not-branch
returns-then-not-branch c =
    let context = context_of c.args.code.now c.args.columns.now in
    let ran : c.in_ok-plain.field-0 ≡ false = search rules in
    let same : c.plain.new.self ≡ c.loop-at.self = rw ran at (c.in_ok-plain.ensures c.args.code.now c.args.left) in
    let before = c.loop-at.invariant in
    let runs = subst (λ (m : Level). BlockRuns context c.args.self.now m c.args.block.now c.args.next c.loop-at.at c.args.floor c.args.left) (sym same)
    before.1 in
    let m : Level = record { flow = c.plain.new.self.flow; vars = c.plain.new.self.vars; frames = c.push.new.self } in
    turn_further context _ _ _ _ c.statement.new.self c.in_ok-step.step runs
    (block_turned context c.plain.new.self m c.statement.new.self c.args.block c.loop-at.at c.args.floor c.args.left c.get-stmt.result.now
    c.in_ok-step.step (ap (λ (m : Level). m.flow) same ∙ before.0) c.get-stmt.ensures c.in_ok-push.ensures.items refl c.in_ok-step.ensures)

pub returns : goal.returns
returns c =
    let context = context_of c.args.code.now c.args.columns.now in
    let before = c.loop-at.invariant in
    let over : length (out-CodeBlock c.args.block.now).stmts ≤ c.loop-at.at = search rules in
    let m : Level = record { flow = c.loop-at.self.flow; vars = c.truncate.new.self; frames = c.loop-at.self.frames } in
    turn_further context _ _ _ _ m _ before.1
    (block_ends context c.loop-at.self m c.args.block c.loop-at.at c.args.floor c.args.left before.0 over refl refl c.truncate.ensures.items)
