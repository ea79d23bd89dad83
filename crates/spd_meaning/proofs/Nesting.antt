-- Pieces are nested in what is given, so each that main meets is one job.
use Rattle.std.proofs.Common.{◌≡◌, ℕ, zero, suc, ◌+◌, List, [], ◌∷◌, ◌++◌, refl, ◌∙◌, ap, subst, arith, append_assoc, ℤ, Result, Ok, Err, length}
use Rattle.spd_words.specs.declared.finish_kind.FinishKind.{FinishKind}
use Rattle.spd_meaning.specs.Acts.{Acts, Offer, Code, Line, Begin, Over, Tick, Piece, Async, Finish, Call, piece_moves, passed, moves_of, jobs_from, jobs_of}
use Rattle.spd_meaning.specs.Eval.{End, Fell, Back, Fault, Eval, Returned, go_on, then_do, counted, with_value, with_values, with_line, cut, turns, end_codes, async_of, finish_of, call_of}
use Rattle.spd_meaning.proofs.Hearing.{moves_both, passed_moves}

-- Inside a piece it adds its moves, and closes what it opens.
unfoldable pub Nested : Acts → Type 0
Nested given = (depth moves : ℕ) (rest : Acts) → jobs_from (suc depth) moves (given ++ rest) ≡ jobs_from (suc depth) (moves + moves_of given) rest

same_moves : (d m n : ℕ) (rest : Acts) → m ≡ n → jobs_from d m rest ≡ jobs_from d n rest
same_moves d m n rest e = ap (λ k. jobs_from d k rest) e

pub nested_none : Nested []
unfolding Nested moves_of
nested_none d m rest = same_moves (suc d) m (m + 0) rest (omega arith)

pub nested_both : (p q : Acts) → Nested p → Nested q → Nested (p ++ q)
unfolding Nested
nested_both p q h g d m rest =
    ap (jobs_from (suc d) m) (append_assoc p q rest) ∙ h d m (q ++ rest) ∙ g d (m + moves_of p) rest
    ∙ same_moves (suc d) ((m + moves_of p) + moves_of q) (m + moves_of (p ++ q)) rest (let e = moves_both p q in omega arith)

pub nested_piece : (piece : Piece) (g : Acts) → Nested g → Nested (Begin piece ∷ (g ++ Over ∷ []))
unfolding Nested moves_of jobs_from
nested_piece piece g h d m rest =
    ap (jobs_from (suc (suc d)) (m + piece_moves piece)) (append_assoc g (Over ∷ []) rest)
    ∙ h (suc d) (m + piece_moves piece) (Over ∷ rest)
    ∙ same_moves (suc d) ((m + piece_moves piece) + moves_of g) (m + (piece_moves piece + moves_of (g ++ Over ∷ []))) rest
    (let e = moves_both g (Over ∷ []) in omega arith)

passed_jobs : (g : Acts) (d m : ℕ) (rest : Acts) → jobs_from d m (passed g ++ rest) ≡ jobs_from d m (g ++ rest)
unfolding jobs_from
passed_jobs [] d m rest = refl
passed_jobs (Offer v ∷ g) zero m rest = passed_jobs g zero m rest
passed_jobs (Offer v ∷ g) (suc d) m rest = passed_jobs g (suc d) m rest
passed_jobs (Code c ∷ g) zero m rest = passed_jobs g zero m rest
passed_jobs (Code c ∷ g) (suc d) m rest = passed_jobs g (suc d) m rest
passed_jobs (Line l ∷ g) zero m rest = passed_jobs g zero m rest
passed_jobs (Line l ∷ g) (suc d) m rest = passed_jobs g (suc d) m rest
passed_jobs (Tick ∷ g) zero m rest = passed_jobs g zero m rest
passed_jobs (Tick ∷ g) (suc d) m rest = passed_jobs g (suc d) m rest
passed_jobs (Begin p ∷ g) zero m rest = passed_jobs g 1 0 rest
passed_jobs (Begin p ∷ g) (suc d) m rest = passed_jobs g (suc (suc d)) (m + piece_moves p) rest
passed_jobs (Over ∷ g) zero m rest = passed_jobs g zero m rest
passed_jobs (Over ∷ g) (suc zero) m rest = ap (λ js. m ∷ js) (passed_jobs g zero 0 rest)
passed_jobs (Over ∷ g) (suc (suc d)) m rest = passed_jobs g (suc d) m rest

pub nested_passed : (g : Acts) → Nested g → Nested (passed g)
unfolding Nested
nested_passed g h d m rest = passed_jobs g (suc d) m rest ∙ h d m rest ∙ same_moves (suc d) (m + moves_of g) (m + moves_of (passed g)) rest
    (let e = passed_moves g in omega arith)

-- ---- evaluations that nest

abbrev pub Nests : Eval ℤ → Type 0
Nests a = Nested a.given

pub nested_tick : (g : Acts) → Nested g → Nested (Tick ∷ g)
unfolding Nested moves_of jobs_from
nested_tick g h d m rest = h d m rest ∙ same_moves (suc d) (m + moves_of g) (m + (0 + moves_of g)) rest (omega arith)

pub nested_offer : (v : ℤ) → Nested (Offer v ∷ [])
unfolding Nested moves_of jobs_from
nested_offer v d m rest = same_moves (suc d) m (m + (0 + 0)) rest (omega arith)

pub nested_line : (l : List ℕ) → Nested (Line l ∷ [])
unfolding Nested moves_of jobs_from
nested_line l d m rest = same_moves (suc d) m (m + (0 + 0)) rest (omega arith)

pub nested_code : (c : ℕ) → Nested (Code c ∷ [])
unfolding Nested moves_of jobs_from
nested_code c d m rest = same_moves (suc d) m (m + (0 + 0)) rest (omega arith)

pub nests_go_on : (e : End ℤ) (p : Acts) (next : (List ℤ → Eval ℤ)) → Nested p → ((vars : List ℤ) → Nests (next vars)) → Nests (go_on e p next)
nests_go_on (Fell vars) p next h k = nested_both p (next vars).given h (k vars)
nests_go_on (Back v) p next h k = h
nests_go_on (Fault c) p next h k = h

pub nests_then : (a : Eval ℤ) (next : (List ℤ → Eval ℤ)) → Nests a → ((vars : List ℤ) → Nests (next vars)) → Nests (then_do a next)
nests_then a next h k = nests_go_on a.end a.given next h k

pub nests_value : (r : Result ℤ ℕ) (f : ℤ → Eval ℤ) → ((v : ℤ) → Nests (f v)) → Nests (with_value r f)
nests_value (Ok v) f h = h v
nests_value (Err c) f h = nested_none

pub nests_values : (r : Result (List ℤ) ℕ) (f : List ℤ → Eval ℤ) → ((vs : List ℤ) → Nests (f vs)) → Nests (with_values r f)
nests_values (Ok vs) f h = h vs
nests_values (Err c) f h = nested_none

pub nests_text : (r : Result (List ℕ) ℕ) (f : List ℕ → Eval ℤ) → ((t : List ℕ) → Nests (f t)) → Nests (with_line r f)
nests_text (Ok t) f h = h t
nests_text (Err c) f h = nested_none

pub nests_turns : (n : ℕ) (at : ℤ) (body : ℤ → List ℤ → Eval ℤ) → ((at : ℤ) (vars : List ℤ) → Nests (body at vars)) → (vars : List ℤ) →
    Nests (turns n at body vars)
nests_turns zero at body h vars = nested_none
nests_turns (suc n) at body h vars = nests_then (counted (cut (length vars) (body at vars))) (turns n _ body) (nested_tick _ (h at vars))
    (nests_turns n _ body h)

pub nested_codes : (e : End ℤ) → Nested (end_codes e)
nested_codes (Fell vars) = nested_none
nested_codes (Back v) = nested_none
nested_codes (Fault c) = nested_code c

pub nests_async : (vars : List ℤ) (a : Eval ℤ) → Nests a → Nests (async_of vars a)
nests_async vars a h = subst (λ (g : Acts). Nested (Begin Async ∷ g)) (append_assoc a.given (end_codes a.end) (Over ∷ []))
    (nested_piece Async (a.given ++ end_codes a.end) (nested_both a.given (end_codes a.end) h (nested_codes a.end)))

pub nests_finish : (kind : FinishKind) (line : ℕ) (b : ℤ → List ℤ) (a : Eval ℤ) → Nests a → Nests (finish_of kind line b a)
nests_finish kind line b a h = nested_piece Finish (passed a.given) (nested_passed a.given h)

pub nests_call : (b : ℤ → List ℤ) (r : Returned) → Nested r.given → Nests (call_of b r)
nests_call b r h = nested_piece Call r.given h

-- ---- main's walk: a piece that is met there is one job

pub one_job : (piece : Piece) (g rest : Acts) → Nested g → jobs_of (Begin piece ∷ (g ++ Over ∷ rest)) ≡ moves_of g ∷ jobs_of rest
unfolding Nested jobs_from
one_job piece g rest h = h 0 0 (Over ∷ rest) ∙ ap (λ n. n ∷ jobs_of rest) (let e : 0 + moves_of g ≡ moves_of g = omega arith in e)
