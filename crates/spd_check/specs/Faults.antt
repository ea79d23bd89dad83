-- Faults in the order of a program's text, of which the first is told.
use Rattle.std.specs.Prelude.{◌≡◌, ◌≢◌, ℕ, Bool, true, false, List, [], ◌∷◌, Option, None, Some, Result, Ok, Err}
use Rattle.spd_check.specs.declared.faults.CheckKind.{CheckKind}
use Rattle.spd_check.specs.declared.faults.CheckKind.TheVariants.{NoMemory}
use Rattle.spd_check.specs.declared.faults.CheckFault.{CheckFault}

abbrev pub Faults : Type 0
Faults = List CheckFault

abbrev pub fault_at : ℕ → CheckKind → Faults
fault_at line kind = record { line = line; kind = kind } ∷ []

abbrev pub fault_where : Bool → ℕ → CheckKind → Faults
fault_where true line kind = fault_at line kind
fault_where false line kind = []

abbrev pub fault_unless : Bool → ℕ → CheckKind → Faults
fault_unless true line kind = []
fault_unless false line kind = fault_at line kind

abbrev pub first_fault : Faults → Option CheckFault
first_fault [] = None
first_fault (fault ∷ faults) = Some fault

-- There are no faults and the answer is what is given, or it is the first of the faults, unless memory ran out.
abbrev pub Answers : {A : Type 0} → Result A CheckFault → Faults → A → Type 0
Answers (Ok found) faults given = (faults ≡ []) × (found ≡ given)
Answers (Err fault) faults given = fault.kind ≢ NoMemory → first_fault faults ≡ Some fault

-- The same of an answer that tells no more than that there are none.
abbrev pub Passes : {A : Type 0} → Result A CheckFault → Faults → Type 0
Passes (Ok passed) faults = faults ≡ []
Passes (Err fault) faults = fault.kind ≢ NoMemory → first_fault faults ≡ Some fault
