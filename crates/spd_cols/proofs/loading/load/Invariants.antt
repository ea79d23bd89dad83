use Rattle.std.proofs.Common.{take}
use Rattle.spd_cols.specs.Loading.{declarations}
use Rattle.spd_cols.proofs.LoadSteps.{AreSoFar}
use Rattle.spd_cols.proofs.loading.load.Given as goal

abbrev pub invariant-loop-item : goal.invariant-loop-item
invariant-loop-item g l =
    AreSoFar (g.F.Shelf.state l.fn.shelf) (g.F.Shelf.state l.shelf) (declarations (take l.item-index l.fn.program.items)) l.data
