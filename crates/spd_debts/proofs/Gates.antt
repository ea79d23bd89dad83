-- Numbers and lists under a gate: what stands where the number isn't 0, and nothing where it is.
use Rattle.std.proofs.Common.{◌≡◌, ◌≢◌, ℕ, ◌<◌, List, [], refl, arith, Option, Some, None}
use Prim.Native.Nat.{zero, suc}
use Rattle.spd_state.specs.Sums.{gate}
use Rattle.spd_state.specs.Dag.{not_end, right_in}
use Rattle.spd_state.specs.declared.view.Running.{Running}
use Rattle.spd_debts.specs.Debts.{if_any}

pub gate_zero : (k : ℕ) → gate k 0 ≡ 0
gate_zero zero = refl
gate_zero (suc k) = refl

pub gate_more : (k n : ℕ) → 0 < k → gate k n ≡ n
gate_more zero n h = absurd (omega arith)
gate_more (suc k) n h = refl

pub when_more : {A : Type 0} (k : ℕ) (l : List A) → 0 < k → if_any k l ≡ l
when_more zero l h = absurd (omega arith)
when_more (suc k) l h = refl

pub when_none : {A : Type 0} (k : ℕ) → if_any {A = A} k [] ≡ []
when_none zero = refl
when_none (suc k) = refl

-- ---- numbers of vertices other than 1

pub not_end_more : (i : ℕ) → i ≢ 1 → 0 < not_end i
not_end_more zero n = omega arith
not_end_more (suc zero) n = absurd (n refl)
not_end_more (suc (suc i)) n = omega arith

pub not_end_one : (i : ℕ) → i ≢ 1 → not_end i ≡ 1
not_end_one zero n = refl
not_end_one (suc zero) n = absurd (n refl)
not_end_one (suc (suc i)) n = refl

pub is_not_end : (i : ℕ) → 0 < not_end i → i ≢ 1
is_not_end zero z g = omega arith
is_not_end (suc zero) z g = omega arith
is_not_end (suc (suc i)) z g = omega arith

-- ---- a right that a share has

pub right_means : (o : Option Running) → right_in o ≡ 1 → (r : Running) × (o ≡ Some r) × (r.right ≡ 1)
right_means None e = absurd (omega arith)
right_means (Some r) e = (r, refl, e)
