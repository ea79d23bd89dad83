use Rattle.spd_fork.proofs.Turning.{rests_signalled}
use Rattle.spd_fork.proofs.turns.turn_signal.Goals as goal

pub returns-in-More-clause-fits : goal.returns-in-More-clause-fits
returns-in-More-clause-fits c = λ seats h. (h.0, (c.in-More.ensures.turned h.0 h.1).comes.0, h.2)

pub returns-in-Done-clause-fits : goal.returns-in-Done-clause-fits
returns-in-Done-clause-fits c = λ seats h. let o = h.0 in let t = c.in-Done.ensures.turned o h.1 in
    rests_signalled seats o.runs o.before h.2 c.args.field.now.plan c.turn.new.share.seat.me.0 c.in-Done.woke t.comes.0
