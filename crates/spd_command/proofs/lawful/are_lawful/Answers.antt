-- Words that fit are lawful where no option's word stands twice.
use Rattle.std.proofs.Common.{◌∙◌, ap, map}
use Rattle.std.specs.String.{string_bytes}
use Rattle.spd_command.specs.Testing.{stand_once}
use Rattle.spd_command.proofs.Once.{once_is}
use Rattle.spd_command.proofs.lawful.are_lawful.Goals as goal

pub returns-then-fit : goal.returns-then-fit
returns-then-fit c =
    let words = map string_bytes c.args.words.now in
    c.stand_once.ensures ∙ ap (λ options. stand_once options words) c.options.ensures ∙ once_is c.args.command words c.if-fit.ensures
