use Rattle.std.proofs.Common.{◌∙◌, ap}
use Rattle.spd_words.specs.Total.{Total, settle}
use Rattle.spd_meaning.specs.Eval.{quiet, finish_end}
use Rattle.spd_code.specs.Places.{bind_if}
use Rattle.spd_machine.proofs.machine.Machine.close.Goals as goal

pub returns-clause-now : goal.returns-clause-now
returns-clause-now c =
    let i = c.args.inside in
    c.in_ok-settle.ensures.now
    ∙ ap (λ (t : Total). quiet (finish_end i.line (bind_if i.binds i.outer.vars.items) t))
    (c.given-given.ensures ∙ ap settle (c.with_end.ensures.total c.args.self.now.level.vars.items))
