-- A count of 64 bits, which is raised until it stands at its end.
use Rattle.std.specs.Prelude.{◌≡◌, ◌⊎◌, ◌<◌, ◌-◌, ◌^◌, ℕ}

-- where a number of 64 bits ends
abbrev pub number_end : ℕ
number_end = 2 ^ 64 - 1

-- It was raised, or stands at its end.
abbrev pub Raised : ℕ → ℕ → Type 0
Raised before now = (before < now) ⊎ ((now ≡ before) × (before ≡ number_end))
