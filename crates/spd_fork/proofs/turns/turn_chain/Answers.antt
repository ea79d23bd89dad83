use Rattle.std.proofs.Common.{Option, sym, subst}
use Rattle.atomic_table.specs.Table.{Me}
use Rattle.spd_state.specs.declared.view.View.{View}
use Rattle.spd_fork.specs.Workers.{IsWorking}
use Rattle.spd_fork.specs.declared.piece.Piece.{Piece}
use Rattle.spd_fork.proofs.Turning.{rests_after, works_unmoved}
use Rattle.spd_fork.proofs.turns.turn_chain.Goals as goal

pub returns-in-More-clause-fits : goal.returns-in-More-clause-fits
returns-in-More-clause-fits c = λ seats h. (h.0, (c.in-More.ensures.turned h.0 h.1).comes.0, h.2)

pub returns-in-Done-clause-fits : goal.returns-in-Done-clause-fits
returns-in-Done-clause-fits c = λ seats h. let o = h.0 in let t = c.in-Done.ensures.turned o h.1 in
    rests_after seats o.runs o.known.0 h.2 c.args.field.now.plan c.turn.new.share.seat.me.0 1 5 t.comes.2

pub returns-in-Full-clause-fits : goal.returns-in-Full-clause-fits
returns-in-Full-clause-fits c = λ seats h. let o = h.0 in let t = c.in-Full.ensures.turned o h.1 in (
  o.runs,
  subst (λ (m : Me (Option Piece) View). IsWorking seats o.runs m.0) (sym t.comes.3)
      (works_unmoved seats o.runs o.known.0 h.2 o.known.0.full_draws),
)
