-- What a body means, its stage and its size: all that is told of a body, as plain data.
use Rattle.std.specs.Prelude.{◌≡◌, ◌≢◌, ℕ, ◌+◌, ◌≤◌, ℤ, min, Bool, true, false, Option, None, Some}
use Rattle.spd_words.specs.Gift.{identity, join, no_fault}
use Rattle.spd_words.specs.declared.finish_kind.FinishKind.{FinishKind}

-- ---- promises

-- what a body still gives to its finish: a gift, a least code of a fault and a number of moves
pub record Promise : Type 0 where
  pub gift : ℤ
  pub fault : ℕ
  pub moves : ℕ

-- nothing more is given
abbrev pub empty : FinishKind → Promise
empty kind = record { gift = identity kind; fault = no_fault; moves = 0 }

abbrev pub add : FinishKind → Promise → Promise → Promise
add kind p q = record { gift = join kind p.gift q.gift; fault = min p.fault q.fault; moves = p.moves + q.moves }

-- the finish that a body waits for, and what it expects of it
pub record Awaited : Type 0 where
  pub kind : FinishKind
  pub gift : ℤ
  pub fault : ℕ

-- ---- meanings

-- all of a body that a rule, a debt or a promise that is told may read
pub record Meaning : Type 0 where
  -- the kind of the finish that it offers to
  pub kind : FinishKind
  -- It promises nothing.
  pub wild : Bool
  pub awaited : Option Awaited
  -- where it waits, the promise that it has when it is resumed with what it expects
  pub promise : Promise

abbrev pub kind_of_awaited : Option Awaited → Option FinishKind
kind_of_awaited None = None
kind_of_awaited (Some awaited) = Some awaited.kind

-- A wild body has the empty promise of its kind.
abbrev pub WildIsEmpty : Meaning → Type 0
WildIsEmpty m = m.wild ≡ true → m.promise ≡ empty m.kind

-- ---- tame bodies

-- It is lawful for a finish of this kind: the gift is one of the kind, and the fault is no want of memory.
pub record IsLawfulTotal (kind : FinishKind) (g : ℤ) (f : ℕ) : Type 0 where
  pub gift : join kind (identity kind) g ≡ g
  pub fault : f ≤ no_fault
  pub memory : f ≢ 0

abbrev pub AwaitsLawful : Option Awaited → Type 0
AwaitsLawful None = Unit {0}
AwaitsLawful (Some awaited) = IsLawfulTotal awaited.kind awaited.gift awaited.fault

-- It isn't wild, and neither promises nor awaits an unlawful total. The calls keep this.
pub record IsTame (m : Meaning) : Type 0 where
  pub tame : m.wild ≡ false
  pub promise : IsLawfulTotal m.kind m.promise.gift m.promise.fault
  pub awaited : AwaitsLawful m.awaited

-- ---- what is told of a body

-- where a body stands
pub data Stage : Type 0 where
  -- It may go on, or waits.
  Going : Stage
  -- It was resumed with want of memory: it answers `NoMemory` next.
  Spent : Stage
  -- After `Over` and `NoMemory`. It may only be let go.
  Ended : Stage

pub record BodyView : Type 0 where
  pub means : Meaning
  pub stage : Stage
  -- what is left of it, which falls with each event
  pub size : ℕ
