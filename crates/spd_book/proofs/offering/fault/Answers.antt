use Rattle.std.proofs.Common.{◌≡◌, subst, sym}
use Rattle.atomic_table.specs.Table.{Me}
use Rattle.std.specs.Prelude.{Option}
use Rattle.spd_state.specs.Promises.{owed_of}
use Rattle.spd_state.specs.declared.view.View.{View}
use Rattle.spd_book.proofs.Takes.{fault_left}
use Rattle.spd_book.proofs.offering.fault.Goals as goal

pub returns-clause-left : goal.returns-clause-left
returns-clause-left g c n z = let share = c.args.share.now in
    subst (λ (m : Me (Option g.row.B.Denot) View). m.0.owes ≡ owed_of g.P.Told.told.promise) (sym c.lower_fault.ensures.view)
    (fault_left share.seat.me.0 c.args.code g.P.Told.told c.requires.may n z)
