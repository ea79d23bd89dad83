-- By how much the counts of a log rise.
use Rattle.std.specs.Prelude.{ℕ, ◌+◌, ◌-◌, ◌%◌, ◌^◌, [], Option, Some, None}
use Rattle.spd_work.specs.Logs.{RunLogView}
use Rattle.spd_top.specs.declared.counts.RegionCounts.{RegionCounts}
use Rattle.spd_top.specs.Told.{Bytes, of_counts}

abbrev pub counts_of : RunLogView → RegionCounts
counts_of log = record { regions = log.regions; moves = log.moves }

-- from one number of 64 bits to another, modulo 2^64
abbrev pub rise : ℕ → ℕ → ℕ
rise old new = (new + (2 ^ 64 - old)) % 2 ^ 64

abbrev pub risen : RegionCounts → RegionCounts → RegionCounts
risen old new = record { regions = rise old.regions new.regions; moves = rise old.moves new.moves }

-- what is told of counts, if there are any to tell
abbrev pub counts_told : Option RegionCounts → Bytes
counts_told None = []
counts_told (Some counts) = of_counts counts.regions counts.moves
