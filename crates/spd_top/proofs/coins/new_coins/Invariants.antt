-- There is a coin for each worker before the next.
use Rattle.std.proofs.Common.{◌≡◌, length}
use Rattle.spd_top.specs.Coins.{AreNewCoins}
use Rattle.spd_top.proofs.coins.new_coins.Given as goal

abbrev pub invariant-loop-worker : goal.invariant-loop-worker
invariant-loop-worker l = (length l.coins.items ≡ l.worker) × AreNewCoins l.settings l.coins.items
