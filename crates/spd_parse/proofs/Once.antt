-- Tokens spell at most one value.
use Rattle.std.proofs.Common.{◌≡◌, ℕ, zero, suc, ◌+◌, ◌-◌, ◌≤◌, ◌<◌, nat_le, Bool, true, false, cond, ◌&&◌, List, [], ◌∷◌, ◌++◌, length, Option, Some, None, Result, Ok, Err, refl, sym, ◌∙◌, ap, subst, length-append, arith}
use Rattle.std.proofs.lemmas.Bool.{leb-true}
use Rattle.spd_read.specs.declared.reading.StopKind.{StopKind}
use Rattle.spd_read.specs.declared.reading.StopKind.TheVariants.{Expected, Literal, TooDeep}
use Rattle.spd_syntax.specs.Tokens.{Symbol, Seen}
use Rattle.spd_syntax.specs.Symbols.{kind_of, is_great, IsLawfulSymbol, Eachly, is_in}
use Rattle.spd_syntax.specs.Shape.{Shape}
use Rattle.spd_read.specs.Reading.{Stop, reads_all}
use Rattle.spd_syntax.specs.OneAhead.{one_ahead}
use Rattle.spd_syntax.specs.Limits.{opening, closing, open_with, open_behind, broken}
use Rattle.spd_syntax.specs.Faults.{IsSpelled}
use Rattle.spd_syntax.specs.declared.fault.ParseKind.{ParseKind}
use Rattle.spd_syntax.specs.declared.fault.ParseKind.TheVariants as fault
use Rattle.spd_parse.specs.Stops.{IsFirstStop}
use Rattle.spd_syntax.proofs.Fitting.{eachly_back, spelled_fit, by_grammar, lawful_marks, lawful_small}
use Rattle.spd_parse.proofs.Complete.{IsLimit}
use Rattle.spd_parse.proofs.First as laws

opens_one : (n : ℕ) (s : Symbol) → open_with n s ≤ suc n
opens_one n s = by_tests (is_in (kind_of s) opening) (is_in (kind_of s) closing)
  where
    by_tests : (o c : Bool) → cond o (suc n) (cond c (n - 1) n) ≤ suc n
    by_tests true c = omega arith
    by_tests false true = omega arith
    by_tests false false = omega arith

-- No more brackets are open than there are tokens.
open_bound : (n : ℕ) (us : List Seen) → open_behind n us ≤ n + length us
open_bound n [] = omega arith
open_bound n (t ∷ us) = omega (arith, opens_one n t.0, open_bound (open_with n t.0) us)

great_of : (limit n : ℕ) (s : Symbol) → broken limit n s ≡ Some fault.Literal → is_great s ≡ true
great_of limit n s = by_tests (is_great s) (is_in (kind_of s) opening && nat_le limit n)
  where
    by_tests : (g d : Bool) → cond g (Some fault.Literal) (cond d (Some fault.TooDeep) None) ≡ Some fault.Literal → g ≡ true
    by_tests true d e = refl
    by_tests false true e = absurd cc
    by_tests false false e = absurd cc

deep_of : (limit n : ℕ) (s : Symbol) → broken limit n s ≡ Some fault.TooDeep → limit ≤ n
deep_of limit n s e = leb-true limit n (by_tests (is_great s) (is_in (kind_of s) opening) (nat_le limit n) e)
  where
    by_tests : (g o d : Bool) → cond g (Some fault.Literal) (cond (o && d) (Some fault.TooDeep) None) ≡ Some fault.TooDeep → d ≡ true
    by_tests true o d e = absurd cc
    by_tests false true true e = refl
    by_tests false true false e = absurd cc
    by_tests false false d e = absurd cc

module _ {A : Type 0} (p : Shape A) (ahead : one_ahead p ≡ true) where
  no_limit : (ts : List Seen) (kind : StopKind) (rest : List Seen) → Eachly IsLawfulSymbol ts → IsLimit kind → IsFirstStop p (length ts) ts kind rest → ⊥
  no_limit ts Expected rest fit limit h = limit
  no_limit ts Literal [] fit limit h = h.is
  no_limit ts Literal (t ∷ r) fit limit h = let lawful = eachly_back IsLawfulSymbol h.before (t ∷ r)
      (subst (λ (z : List Seen). Eachly IsLawfulSymbol z) h.parts fit) in let small = lawful_small t.0 lawful.0 in let great =
      great_of (length ts) (open_behind 0 h.before) t.0 h.is in absurd cc
  no_limit ts TooDeep [] fit limit h = h.is
  no_limit ts TooDeep (t ∷ r) fit limit h = omega (
    arith,
    deep_of (length ts) (open_behind 0 h.before) t.0 h.is,
    open_bound 0 h.before,
    ap length h.parts,
    length-append h.before (t ∷ r),
  )

  pub once : (ts : List Seen) (a b : A) → IsSpelled p a ts → IsSpelled p b ts → a ≡ b
  once ts a b s t = by_answer (reads_all (length ts) p ts) refl (laws.only p ahead (length ts) ts a (by_grammar p a ts s))
      (laws.only p ahead (length ts) ts b (by_grammar p b ts t))
    where
      by_answer : (o : Result A Stop) → reads_all (length ts) p ts ≡ o → laws.IsReadAs p ahead (length ts) a o → laws.IsReadAs p ahead (length ts) b o → a ≡ b
      by_answer (Ok x) is h g = sym h ∙ g
      by_answer (Err s') is h g = absurd (no_limit ts s'.0 s'.1 (spelled_fit IsLawfulSymbol lawful_marks p a ts s) h
          (laws.first p ahead (length ts) ts s'.0 s'.1 is))
