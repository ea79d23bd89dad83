-- What a debt is worth to a finish, and what a word of gifts stands for.
use Rattle.std.specs.Prelude.{ℕ, ◌+◌, List, Option, Some, None, min, ℤ, pos, ◌+ℤ◌, neg_ℤ}
use Prim.Native.Nat.{zero, suc}
use Rattle.std.specs.Int.{w64, cast_signed}
use Rattle.spd_words.specs.declared.finish_kind.FinishKind.{FinishKind}
use Rattle.spd_words.specs.declared.finish_kind.FinishKind.TheVariants.{Plain, Sum, Least, Greatest}
use Rattle.spd_words.specs.Gift.{join, identity, no_fault}
use Rattle.spd_words.specs.Gather.{gather}
use Rattle.spd_state.specs.Sums.{same}
use Rattle.spd_debts.specs.Debts.{Debt}

-- the gift that a word of this kind of finish stands for
abbrev pub gift_of : FinishKind → ℕ → ℤ
gift_of Plain w = pos 0
gift_of Sum w = cast_signed w64 w
gift_of Least w = pos 9223372036854775807 +ℤ neg_ℤ (pos w)
gift_of Greatest w = pos w +ℤ neg_ℤ (pos 9223372036854775808)

-- x where the number isn't 0, else e
abbrev pub pick : {C : Type 0} → ℕ → C → C → C
pick zero x e = e
pick (suc k) x e = x

-- x where the finish is f, else e
abbrev pub to : {C : Type 0} → ℕ → Option ℕ → C → C → C
to f None x e = e
to f (Some g) x e = pick (same f g) x e

-- the gift that a debt owes to the finish f, of kind k
abbrev pub gift_to : FinishKind → ℕ → Debt → ℤ
gift_to k f d = to f d.finish d.promise.gift (identity k)

-- the code that it owes to f
abbrev pub fault_to : ℕ → Debt → ℕ
fault_to f d = to f d.finish d.promise.fault no_fault

-- the moves that it owes to the region
abbrev pub moves_in : Debt → ℕ
moves_in d = d.promise.moves

-- ---- the three measures of a list of debts

-- the gift that all of them owe to f
abbrev pub gift_debt : FinishKind → ℕ → List Debt → ℤ
gift_debt k f l = gather (join k) (identity k) (gift_to k f) l

-- the least code
abbrev pub fault_debt : ℕ → List Debt → ℕ
fault_debt f l = gather min no_fault (fault_to f) l

-- and the moves
abbrev pub moves_debt : List Debt → ℕ
moves_debt l = gather (λ m n. m + n) 0 moves_in l
