-- Coins that are made one after another.
use Rattle.std.proofs.Common.{below_more, ◌≡◌, ◌<◌, ◌+◌, ℕ, List, [], ◌∷◌, ◌++◌, length, get_or, refl, sym, subst}
use Rattle.std.proofs.lemmas.List.{get_or_push, get_or_append_left, length_push}
use Rattle.spd_grow.specs.Tosses.{PcgCoinState}
use Rattle.spd_command.specs.declared.settings.Settings.{Settings}
use Rattle.spd_top.specs.Coins.{IsNewCoin, AreNewCoins}

pub one_coin_more : (settings : Settings) (coins : List PcgCoinState) (coin : PcgCoinState) (number : ℕ) → length coins ≡ number → AreNewCoins settings coins
    → IsNewCoin settings.seed number settings.grow coin → AreNewCoins settings (coins ++ coin ∷ [])
one_coin_more settings coins coin number count are is worker d within =
    below_more (λ i. IsNewCoin settings.seed i settings.grow (get_or (coins ++ coin ∷ []) i d)) (length coins)
    (λ i lt. subst (IsNewCoin settings.seed i settings.grow) (sym (get_or_append_left coins (coin ∷ []) d i lt)) (are i d lt))
    (subst (IsNewCoin settings.seed (length coins) settings.grow) (sym (get_or_push coins coin d (length coins) refl)) (rw count is))
    worker (subst (λ n. worker < n) (length_push coins coin) within)
