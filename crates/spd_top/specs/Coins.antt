-- The coins that a run begins with.
use Rattle.std.specs.Prelude.{◌≡◌, ℕ, ◌<◌, List, length, get_or}
use Rattle.rand_pcg.specs.Lcg.{started, increment_of}
use Rattle.rand_pcg.specs.Pcg.{multiplier_64}
use Rattle.spd_grow.specs.Tosses.{PcgCoinState}
use Rattle.spd_command.specs.declared.settings.Settings.{Settings}

-- A coin that hasn't been flipped yet: its generator begins with a seed on the stream of a worker, and so many of 65,536 cases are heads.
pub record IsNewCoin (seed worker heads : ℕ) (coin : PcgCoinState) : Type 0 where
  pub generator : coin.generator ≡ started 64 multiplier_64 seed (increment_of 64 worker)
  pub chance : coin.chance ≡ heads
  pub unflipped : (coin.tails ≡ 0) × (coin.heads ≡ 0)

-- Each worker's coin is one with the seed and the chance of these settings.
abbrev pub AreNewCoins : Settings → List PcgCoinState → Type 0
AreNewCoins settings coins = (worker : ℕ) (d : PcgCoinState) → worker < length coins → IsNewCoin settings.seed worker settings.grow (get_or coins worker d)
