use Rattle.std.proofs.Common.{sym, ◌∙◌, ap}
use Rattle.spd_code.specs.declared.stmt.CodeStmtKind.TheVariants as v
use Rattle.spd_code.specs.declared.stmt.CodeStmtKind.TheOpen as code
use Rattle.spd_meaning.specs.Eval.{counted}
use Rattle.spd_code.specs.Coded.{around_of}
use Rattle.spd_code.proofs.Layers.{stmt_is}
use Rattle.spd_level.specs.Columns.{context_of}
use Rattle.spd_level.proofs.level.Level.plain.Goals as goal

pub returns-in_ok-bind-in-Let : goal.returns-in_ok-bind-in-Let
returns-in_ok-bind-in-Let c tree left =
    let z = c.in-Let.is ∙ sym (v.rolls-Let c.in-Let.value) in
    let done = c.in_ok-bind-in-Let.ensures in (
      done.0,
      stmt_is (around_of (context_of tree c.args.columns.now) left) c.args.stmt.now (code.Let c.in-Let.value) c.args.self.now.vars.items z
          ∙ ap counted done.1,
    )

pub returns-in-Assign : goal.returns-in-Assign
returns-in-Assign c tree left =
    let z = c.in-Assign.is ∙ sym (v.rolls-Assign c.in-Assign.place c.in-Assign.value) in
    let done = c.assign.ensures in (
      done.0,
      stmt_is (around_of (context_of tree c.args.columns.now) left) c.args.stmt.now (code.Assign c.in-Assign.place c.in-Assign.value)
          c.args.self.now.vars.items z ∙ ap counted done.1,
    )

pub returns-in-Return : goal.returns-in-Return
returns-in-Return c tree left =
    let z = c.in-Return.is ∙ sym (v.rolls-Return c.in-Return.value) in
    let done = c.give_back.ensures in (
      done.0,
      stmt_is (around_of (context_of tree c.args.columns.now) left) c.args.stmt.now (code.Return c.in-Return.value) c.args.self.now.vars.items z
          ∙ ap counted done.1,
    )
