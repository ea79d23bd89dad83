-- The first of several faults.
use Rattle.std.proofs.Common.{◌≡◌, ◌≢◌, Result, Err, ◌++◌, [], ◌∷◌, Some, append_assoc}
use Rattle.spd_check.specs.declared.faults.CheckFault.{CheckFault}
use Rattle.spd_check.specs.declared.faults.CheckKind.TheVariants.{NoMemory}
use Rattle.spd_check.specs.Faults.{Faults, first_fault, Passes}

-- The first of some faults is the first of these and others.
pub first_more : (faults others : Faults) (fault : CheckFault) → first_fault faults ≡ Some fault → first_fault (faults ++ others) ≡ Some fault
first_more [] others fault e = cc
first_more (f ∷ faults) others fault e = e

pub none_more : (faults others : Faults) → faults ≡ [] → others ≡ [] → faults ++ others ≡ []
none_more faults others e d = cc

-- An answer with the first of the faults so far is right for all.
pub passes_more : {A : Type 0} (answer : Result A CheckFault) (fault : CheckFault) (faults others : Faults) → answer ≡ Err fault
    → (fault.kind ≢ NoMemory → first_fault faults ≡ Some fault) → Passes answer (faults ++ others)
passes_more answer fault faults others e f = rw e (λ k. first_more faults others fault (f k))

-- Where there are none so far, an answer on the others is right for all.
pub passes_behind : {A : Type 0} (answer : Result A CheckFault) (faults others : Faults) → faults ≡ [] → Passes answer others
    → Passes answer (faults ++ others)
passes_behind answer faults others e p = rw e p

-- The same where the first faults are in two parts.
pub passes_regrouped : {A : Type 0} (answer : Result A CheckFault) (a b c : Faults) → Passes answer ((a ++ b) ++ c) → Passes answer (a ++ (b ++ c))
passes_regrouped answer a b c p = rw append_assoc at p
