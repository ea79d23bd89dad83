-- What a job has by places is what it has by names.
use Rattle.std.proofs.Common.{◌≡◌, ℕ, zero, suc, List, [], ◌∷◌, ◌++◌, length, refl, sym, ◌∙◌, ap, arith, ℤ}
use Rattle.spd_syntax.specs.declared.tree.Item.{Item}
use Rattle.spd_words.specs.Total.{nothing, settle}
use Rattle.spd_words.specs.declared.finish_kind.FinishKind.{FinishKind}
use Rattle.spd_words.specs.declared.finish_kind.FinishKind.TheVariants as kind
use Rattle.spd_meaning.specs.Acts.{Acts}
use Rattle.spd_meaning.specs.Eval.{End, Fell, Back, Fault, Eval, Returned, collected, end_codes, back_offered, job_total}
use Rattle.spd_meaning.specs.Values.{ColumnView}
use Rattle.spd_meaning.specs.Names.{Name, Names, Entry, enter}
use Rattle.spd_meaning.specs.Meaning.{block_meaning}
use Rattle.spd_meaning.specs.Programs.{Callable, callables_of, around_with}
use Rattle.spd_meaning.specs.Blocks.{SourceBlock}
use Rattle.spd_meaning.specs.Jobs.{block_result, call_result, total_back}
use Rattle.spd_meaning.specs.Standing.{StandWell}
use Rattle.spd_code.specs.Places.{fitted}
use Rattle.spd_code.specs.Resolved.{spaces_of, code_of}
use Rattle.spd_code.specs.Coded.{Context, around_of, eval_block, item_at}
use Rattle.spd_code.specs.Alike.{names_of, values_of, valued, valued_end, IsItem, IsCode, AreColumns}
use Rattle.spd_code.proofs.Places.{entered, entered_names}
use Rattle.spd_code.proofs.AlikeTrees.{alike_code}
use Rattle.spd_code.proofs.AlikePrograms.{around_alike, call_alike}
use Rattle.spd_code.proofs.Standing.{functions_quiet}
use Rattle.spd_code.proofs.Silent.{block_silent, functions_silent, call_total}

-- as many values as fit are kept
pub fitted_all : (n : ℕ) (vars : List ℤ) → length vars ≡ n → fitted n vars ≡ vars
fitted_all zero [] e = refl
fitted_all zero (v ∷ vars) e = absurd (cc)
fitted_all (suc n) [] e = absurd (cc)
fitted_all (suc n) (v ∷ vars) e = ap (λ (vs : List ℤ). v ∷ vs) (fitted_all n vars (suc_same (length vars) n e))
  where
    suc_same : (m n : ℕ) → suc m ≡ suc n → m ≡ n
    suc_same m n e = omega (arith, e)

-- A result has no names in it.
total_valued : (k : FinishKind) (a : Eval Entry) → job_total k (valued a) ≡ job_total k a
total_valued k a = ap (λ (cs : Acts). settle (collected k (nothing k) (a.given ++ cs))) (codes_valued a.end)
  where
    codes_valued : (e : End Entry) → end_codes (valued_end e) ≡ end_codes e
    codes_valued (Fell env) = refl
    codes_valued (Back v) = refl
    codes_valued (Fault c) = refl

-- a job that is a block of the program, with a value for each name that is visible there
pub block_job : (items : List Item) (context : Context) (column : Name → ColumnView) → AreColumns items column context → IsCode items context.code →
    (left : ℕ) (k : FinishKind) (block : SourceBlock) (next : ℕ) (vars : List ℤ) → length vars ≡ length block.names →
    job_total k (eval_block (around_of context left) (code_of (spaces_of items) block.names next block.stmts) vars)
    ≡ block_result items column left k block vars
block_job items context column c is left k block next vars n =
    let spaces = spaces_of items in
    let around = around_of context left in
    let named = around_with (callables_of items) column left in
    let env = enter block.names vars in
    let code : names_of env ≡ block.names = entered_names block.names vars in
    let vs : values_of env ≡ vars = entered block.names vars ∙ fitted_all (length block.names) vars n in
    ap (λ (ns : Names). job_total k (eval_block around (code_of spaces ns next block.stmts) vars)) (sym code)
    ∙ ap (λ (xs : List ℤ). job_total k (eval_block around (code_of spaces (names_of env) next block.stmts) xs)) (sym vs)
    ∙ ap (job_total k) (alike_code spaces named around (around_alike items context column c is left) block.stmts next env).same
    ∙ total_valued k (block_meaning named block.stmts env)

-- a job that is a call of a function, whose code stands at a number
pub call_job : (items : List Item) (context : Context) (column : Name → ColumnView) → AreColumns items column context → IsCode items context.code →
    StandWell (callables_of items).functions →
    (left : ℕ) (function : Callable) (number : ℕ) (args : List ℤ) → IsItem (spaces_of items) function (item_at context.code.functions number) →
    job_total kind.Sum (back_offered (eval_block (around_of context left) (item_at context.code.functions number).body
    (fitted (item_at context.code.functions number).params args)))
    ≡ call_result items column left function args
call_job items context column c is w left function number args it =
    let spaces = spaces_of items in
    let item = item_at context.code.functions number in
    let a = eval_block (around_of context left) item.body (fitted item.params args) in
    let silent = functions_quiet spaces (callables_of items).functions context.code.functions is.functions w in
    call_total a (block_silent (around_of context left) (functions_silent context silent left) item.body (silent number) (fitted item.params args))
    ∙ ap (λ (r : Returned). settle (total_back r.value)) (call_alike spaces (around_with (callables_of items) column left) (around_of context left)
    (around_alike items context column c is left) function item args it)
