-- What a receipt says of a counter that hasn't grown.
use Rattle.std.specs.Prelude.{◌≢◌, ℕ, Option, Some, None}
use Rattle.spd_state.specs.declared.view.Running.{Running}
use Rattle.spd_state.specs.declared.view.View.{View}
use Rattle.spd_grow.specs.declared.grown.Grown.{Grown}
use Rattle.spd_grow.specs.declared.grown.How.TheVariants.{Still}
use Rattle.spd_counter.specs.declared.receipt.Receipt.{Receipt}

-- It runs a vertex.
abbrev pub RunsSome : View → Type 0
RunsSome v = v.running ≢ None

-- the node at which the running vertex increments
abbrev pub inc_in : Option Running → ℕ
inc_in None = 0
inc_in (Some r) = r.inc

-- the counter hasn't grown at this node, which stands in the place of children
abbrev pub still_at : ℕ → Grown
still_at inc = record { how = Still; left = inc; right = inc }

abbrev pub still_receipt : ℕ → ℕ → ℕ → Receipt
still_receipt inc arrived claimed = record { grown = still_at inc; arrived = arrived; claimed = claimed }
