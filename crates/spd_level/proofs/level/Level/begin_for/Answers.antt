use Rattle.std.proofs.Common.{◌≡◌, rules, w64, FitsSigned, Ok, refl}
use Rattle.std.proofs.lemmas.Int.{to_z-of_z}
use Rattle.spd_code.specs.Coded.{code_value}
use Rattle.spd_level.specs.Columns.{around_columns, context_of}
use Rattle.spd_level.proofs.Turns.{for_begins}
use Rattle.spd_level.proofs.level.Level.begin_for.Goals as goal

pub returns-in_ok-push-in-Ok-value_of-clause-comes : goal.returns-in_ok-push-in-Ok-value_of-clause-comes
returns-in_ok-push-in-Ok-value_of-clause-comes c code =
    let f : FitsSigned w64 c.in-Ok.at = search rules in
    let g : FitsSigned w64 c.in-Ok-value_of.end = search rules in
    let a : code_value (around_columns c.args.columns.now) c.args.from.now c.args.self.now.vars.items c.args.line ≡ Ok c.in-Ok.at = search rules in
    let b : code_value (around_columns c.args.columns.now) c.args.to.now c.args.self.now.vars.items c.args.line ≡ Ok c.in-Ok-value_of.end = search rules in
    rw (a, b)
    (for_begins (context_of code c.args.columns.now) c.args.self.now (record {
      flow = c.args.self.now.flow;
      vars = c.args.self.now.vars;
      frames =
          c.push.new.self;
    })
    c.args.body c.in-Ok.at c.in-Ok-value_of.end c.args.left
    c.requires refl (rw (to_z-of_z w64 c.in-Ok.at f, to_z-of_z w64 c.in-Ok-value_of.end g) at c.in_ok-push-in-Ok-value_of.ensures.items))
