-- The numbers are those of arguments that were given lawfully.
use Rattle.std.proofs.Common.{◌∙◌, ◌≤◌, refl, sym, ap, subst, arith}
use Rattle.std.specs.Option.{option_map_or}
use Rattle.std.specs.Str.Parse.{digits_value}
use Rattle.spd_command.specs.declared.argument.Argument.TheVariants.{Rows, FileSeed}
use Rattle.spd_command.specs.Asked.{AreInRange}
use Rattle.spd_command.proofs.Numbers.{may_be_number, rows_between, settings_between}
use Rattle.spd_command.proofs.command.command_of.Goals as goal

pub number-requires : goal.number-requires
number-requires c = may_be_number c.args.found.now Rows 0 1000000 refl (omega arith) c.requires

pub number-requires-in-Make : goal.number-requires-in-Make
number-requires-in-Make c = may_be_number c.args.found.now FileSeed 0 4294967295 refl (omega arith) c.requires

pub number-requires-in-Job : goal.number-requires-in-Job
number-requires-in-Job c = may_be_number c.args.found.now Rows 0 1000000 refl (omega arith) c.requires

pub number-requires-in-Job-2 : goal.number-requires-in-Job-2
number-requires-in-Job-2 c = may_be_number c.args.found.now FileSeed 0 4294967295 refl (omega arith) c.requires

pub returns-in-Make-clause-ranges : goal.returns-in-Make-clause-ranges
returns-in-Make-clause-ranges c =
    let rows_are = c.number.ensures ∙ ap (λ word. option_map_or (digits_value 10) word 0) (c.requires.1.words Rows refl) in
    subst (λ n. n ≤ 1000000) (sym rows_are) (rows_between c.requires.0 c.requires.1.values)

pub returns-in-Run-clause-ranges : goal.returns-in-Run-clause-ranges
returns-in-Run-clause-ranges c = subst AreInRange (sym (c.settings.ensures c.requires.0 c.requires.1)) (settings_between c.requires.0 c.requires.1.values)

pub returns-in-Job-clause-ranges : goal.returns-in-Job-clause-ranges
returns-in-Job-clause-ranges c =
    let rows_are = c.number-in-Job.ensures ∙ ap (λ word. option_map_or (digits_value 10) word 0) (c.requires.1.words Rows refl) in (
      subst (λ n. n ≤ 1000000) (sym rows_are) (rows_between c.requires.0 c.requires.1.values),
      subst AreInRange (sym (c.settings-in-Job.ensures c.requires.0 c.requires.1)) (settings_between c.requires.0 c.requires.1.values),
    )
