-- What a look through lanes leaves of them, by each lane's count of empty looks.
use Rattle.std.specs.Prelude.{◌≡◌, ℕ, List, ◌∷◌, ◌++◌}
use Rattle.std.specs.List.{AllZip}
use Rattle.spd_count.specs.Counts.{Raised}

-- The lane was looked at, and nothing was there.
abbrev pub WasEmpty : {L : Type 0} → (L → ℕ) → L → L → Type 0
WasEmpty looks before now = Raised (looks before) (looks now)

-- Each of the lanes was.
abbrev pub WereEmpty : {L : Type 0} → (L → ℕ) → List L → List L → Type 0
WereEmpty looks before now = AllZip (WasEmpty looks) before now

-- One lane gave a vertex: those before it were empty, its own count stays, and those behind it weren't looked at.
pub record OneGave {L : Type 0} (looks : L → ℕ) (before now : List L) : Type 0 where
  pub front : List L
  pub emptied : List L
  pub giver : L
  pub given : L
  pub behind : List L
  pub was : before ≡ front ++ giver ∷ behind
  pub is : now ≡ emptied ++ given ∷ behind
  pub tried : WereEmpty looks front emptied
  pub counted : looks given ≡ looks giver
