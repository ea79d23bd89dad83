-- Its value stands next, unless it is a flag.
use Rattle.std.proofs.Common.{◌∙◌, sym, ap}
use Rattle.spd_command.specs.Table.{stands_alone}
use Rattle.spd_command.specs.Testing.{fits_from}
use Rattle.spd_command.proofs.Testing.{alone_kind, flag_fits, option_step}
use Rattle.spd_command.proofs.lawful.Next.behind_option.Goals as goal
use Rattle.spd_command.proofs.lawful.Next.behind_option.Goals.{in-Flag, in_default}

pub returns : goal.returns
returns c options word rest named =
    let operands = c.args.self.operands.now in
    elim c.match-kind.branch [
      | in-Flag w ↦
          ap (λ waiting. fits_from waiting operands options rest) w.waiting-is
          ∙ flag_fits operands options word rest c.args.option named (ap stands_alone (sym c.kind.ensures ∙ w.in-Flag.is))
      | in_default w ↦
          ap (λ waiting. fits_from waiting operands options rest) w.waiting-is
          ∙ option_step operands options word rest c.args.option named (alone_kind _ (λ flag. w.in_default.not-Flag (c.kind.ensures ∙ flag)))
    ]
