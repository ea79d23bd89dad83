use Rattle.std.proofs.Common.{◌≡◌, take, drop}
use Rattle.spd_ready.specs.Looks.{WereEmpty}
use Rattle.spd_ready.proofs.lane.take_first.Given as goal

abbrev pub invariant-loop-place : goal.invariant-loop-place
invariant-loop-place g l =
    WereEmpty g.L.Lane.looks (take l.place l.fn.lanes) (take l.place l.lanes)
    × (drop l.place l.lanes ≡ drop l.place l.fn.lanes)
