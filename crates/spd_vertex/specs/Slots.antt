-- The slot that a share took last.
use Rattle.std.specs.Prelude.{◌≡◌, ◌∷◌, ℕ, Option}
use Rattle.atomic_table.specs.Table.{rest}
use Rattle.spd_rule.specs.Shares.{share_view, share_bodies, share_known}
use Rattle.spd_rule.specs.declared.field.Share.{Share}

-- It is the slot of the vertex i, and has this.
abbrev pub FirstSlotHas : {B : Type 0} → ℕ → Option B → Share B → Type 0
FirstSlotHas i body s = share_bodies s ≡ (i, body) ∷ rest (share_bodies s)

-- It has this from now on, and the share knows what it knew.
abbrev pub FirstSlotGets : {B : Type 0} → ℕ → Option B → Share B → Share B → Type 0
FirstSlotGets i body s t = share_known t ≡ (share_view s, (i, body) ∷ rest (share_bodies s))
