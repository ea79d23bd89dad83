-- What contracts see of a sink.
use Rattle.std.specs.Prelude.{◌≡◌, ℕ, ◌≤◌, List, ◌++◌, Option, Some, IfSome}
use Rattle.spd_io.specs.Count.{Rose}

pub record SinkState : Type 0 where
  -- the bytes that it got, where it tells them
  pub got : Option (List ℕ)
  -- how often it failed
  pub faults : ℕ

-- It got just these bytes, where it tells.
abbrev pub Gets : SinkState → SinkState → List ℕ → Type 0
Gets old new bytes = IfSome old.got (λ before. new.got ≡ Some (before ++ bytes))

-- It got the first of these bytes, up to some place.
abbrev pub GetsFront : SinkState → SinkState → List ℕ → Type 0
GetsFront old new bytes = (front : List ℕ) × (rest : List ℕ) × (bytes ≡ front ++ rest) × Gets old new front

-- It failed: its count rose.
abbrev pub Failed : SinkState → SinkState → Type 0
Failed old new = Rose old.faults new.faults

-- Its count doesn't fall.
abbrev pub SinkKeepsFaults : SinkState → SinkState → Type 0
SinkKeepsFaults old new = old.faults ≤ new.faults

-- Its count is what it was.
abbrev pub SameFaults : SinkState → SinkState → Type 0
SameFaults old new = new.faults ≡ old.faults
