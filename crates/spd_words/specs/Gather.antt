-- What a list of things is worth together, and what a list of promises gives to a finish.
use Rattle.std.specs.Prelude.{◌≡◌, ℕ, ◌+◌, ℤ, min, List, [], ◌∷◌}
use Rattle.spd_words.specs.Gift.{join}
use Rattle.spd_words.specs.Meaning.{Promise}
use Rattle.spd_words.specs.declared.finish_kind.FinishKind.{FinishKind}

-- what all are worth, where two worths make one by `op`, on top of `e`
abbrev pub gather : {A C : Type 0} → (C → C → C) → C → (A → C) → List A → C
gather op e worth [] = e
gather op e worth (x ∷ xs) = op (worth x) (gather op e worth xs)

-- in any order, and nothing twice is nothing
pub record IsJoin {C : Type 0} (op : C → C → C) (e : C) : Type 0 where
  pub comm : (x y : C) → op x y ≡ op y x
  pub assoc : (x y z : C) → op (op x y) z ≡ op x (op y z)
  pub unit : op e e ≡ e

-- ---- of things that make promises

-- a gift joined with all that they promise
abbrev pub gifts : {A : Type 0} → (A → Promise) → FinishKind → ℤ → List A → ℤ
gifts promise kind g xs = gather (join kind) g (λ x. (promise x).gift) xs

-- the least of a code and of all that they promise
abbrev pub faults : {A : Type 0} → (A → Promise) → ℕ → List A → ℕ
faults promise f xs = gather min f (λ x. (promise x).fault) xs

-- the moves that they promise
abbrev pub moves : {A : Type 0} → (A → Promise) → List A → ℕ
moves promise xs = gather (λ m n. m + n) 0 (λ x. (promise x).moves) xs
