-- What was given stays before what goes on.
use Rattle.std.proofs.Common.{◌≡◌, ℕ, List, [], ◌∷◌, ◌++◌, refl, sym, ap, append_assoc, ℤ}
use Rattle.spd_words.specs.declared.finish_kind.FinishKind.{FinishKind}
use Rattle.spd_meaning.specs.Acts.{Acts, Finish, Call, Begin, Over, passed}
use Rattle.spd_meaning.specs.Eval.{End, Fell, Back, Fault, Eval, Returned, quiet, before, go_on, then_do, finish_of, finish_end, call_of, call_end, job_total}

pub before_both : (p q : Acts) (a : Eval ℤ) → before p (before q a) ≡ before (p ++ q) a
before_both p q a = ap (λ (g : Acts). record { end = a.end; given = g }) (sym (append_assoc p q a.given))

go_on_before : (e : End ℤ) (p q : Acts) (next : List ℤ → Eval ℤ) → go_on e (p ++ q) next ≡ before p (go_on e q next)
go_on_before (Fell vars) p q next = sym (before_both p q (next vars))
go_on_before (Back v) p q next = refl
go_on_before (Fault c) p q next = refl

pub then_before : (p : Acts) (a : Eval ℤ) (next : List ℤ → Eval ℤ) → then_do (before p a) next ≡ before p (then_do a next)
then_before p a next = go_on_before a.end p a.given next

-- more is given behind what was given
pub behind_before : (p : Acts) (a : Eval ℤ) (e : End ℤ) (more : Acts) → record { end = e; given = (p ++ a.given) ++ more }
    ≡ before p (record { end = e; given = a.given ++ more })
behind_before p a e more = ap (λ (g : Acts). record { end = e; given = g }) (append_assoc p a.given more)

pub nil_behind : (g : Acts) → g ++ [] ≡ g
nil_behind [] = refl
nil_behind (x ∷ g) = ap (λ (r : Acts). x ∷ r) (nil_behind g)

-- ---- pieces that are done as a whole, and what goes on behind them

pub finish_whole : (kind : FinishKind) (line : ℕ) (behind : ℤ → List ℤ) (a : Eval ℤ) →
    finish_of kind line behind a ≡ before (Begin Finish ∷ (passed a.given ++ Over ∷ [])) (quiet (finish_end line behind (job_total kind a)))
finish_whole kind line behind a =
    ap (λ (g : Acts). record { end = finish_end line behind (job_total kind a); given = Begin Finish ∷ g }) (sym (nil_behind (passed a.given ++ Over ∷ [])))

pub call_whole : (behind : ℤ → List ℤ) (r : Returned) → call_of behind r ≡ before (Begin Call ∷ (r.given ++ Over ∷ [])) (quiet (call_end behind r.value))
call_whole behind r = ap (λ (g : Acts). record { end = call_end behind r.value; given = Begin Call ∷ g }) (sym (nil_behind (r.given ++ Over ∷ [])))
