-- What contracts see of a shelf, by the names of files.
use Rattle.std.specs.Prelude.{◌≡◌, ◌≢◌, ℕ, ◌≤◌, ◌<◌, List, length}
use Rattle.spd_io.specs.Count.{Rose}

-- what a shelf tells of a name: nothing, that it holds no such file, or the bytes of the file
pub data FileTold : Type 0 where
  Untold : FileTold
  Missing : FileTold
  Holds : List ℕ → FileTold

-- the bytes that a file may have
abbrev pub MayBe : FileTold → List ℕ → Type 0
MayBe Untold bytes = Unit {0}
MayBe Missing bytes = ⊥
MayBe (Holds held) bytes = held ≡ bytes

-- The file may have more bytes than the limit.
abbrev pub MayExceed : FileTold → ℕ → Type 0
MayExceed Untold limit = Unit {0}
MayExceed Missing limit = ⊥
MayExceed (Holds held) limit = limit < length held

-- What was told stays told.
abbrev pub StaysTold : FileTold → FileTold → Type 0
StaysTold Untold now = Unit {0}
StaysTold Missing now = now ≡ Missing
StaysTold (Holds held) now = now ≡ Holds held

pub record ShelfState : Type 0 where
  -- what it tells of a name
  pub file : List ℕ → FileTold
  -- how often reading a name failed
  pub faults : List ℕ → ℕ

-- Reading the name failed: its count rose.
abbrev pub FailedAt : ShelfState → ShelfState → List ℕ → Type 0
FailedAt old new name = Rose (old.faults name) (new.faults name)

-- Reading changes no file that was told.
abbrev pub KeepsFiles : ShelfState → ShelfState → Type 0
KeepsFiles old new = (name : List ℕ) → StaysTold (old.file name) (new.file name)

-- No count falls.
abbrev pub ShelfKeepsFaults : ShelfState → ShelfState → Type 0
ShelfKeepsFaults old new = (name : List ℕ) → old.faults name ≤ new.faults name

-- No count but that of the name changes.
abbrev pub ChangesNoOther : ShelfState → ShelfState → List ℕ → Type 0
ChangesNoOther old new name = (other : List ℕ) → other ≢ name → new.faults other ≡ old.faults other
