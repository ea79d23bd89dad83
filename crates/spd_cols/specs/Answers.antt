-- What the calls on whole files answer.
use Rattle.std.specs.Prelude.{◌≡◌, ◌⊎◌, Result, Ok, Err}
use Rattle.spd_cols.specs.declared.fault.DataFault.{DataFault}
use Rattle.spd_cols.specs.declared.fault.DataKind.TheVariants as kind

-- The answer is that one, or want of memory.
abbrev pub IsOrNoMemory : {A : Type 0} → Result A DataFault → Result A DataFault → Type 0
IsOrNoMemory (Ok entries) expected = expected ≡ Ok entries
IsOrNoMemory (Err fault) expected = (fault.kind ≡ kind.NoMemory) ⊎ (expected ≡ Err fault)
