-- How often a coin of one side was flipped.
use Rattle.std.specs.Prelude.{ℕ}
use Rattle.spd_grow.specs.declared.steady.Heads.{Heads}
use Rattle.spd_grow.specs.declared.steady.Tails.{Tails}

abbrev pub heads_fallen : Heads → ℕ
heads_fallen coin = coin.heads

abbrev pub tails_fallen : Tails → ℕ
tails_fallen coin = coin.tails
