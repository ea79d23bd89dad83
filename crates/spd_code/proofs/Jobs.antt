-- Pieces are nested in what a code gives, so a finish and a call that main meets are one job each.
use Rattle.std.proofs.Common.{◌≡◌, ℕ, List, ◌∷◌, ◌++◌, ◌∙◌, ap, ℤ}
use Rattle.spd_words.specs.declared.finish_kind.FinishKind.TheVariants as kind
use Rattle.spd_code.specs.declared.stmt.CodeBlock.{CodeBlock}
use Rattle.spd_code.specs.declared.tree.CodeItem.{CodeItem}
use Rattle.spd_meaning.specs.Acts.{Acts, Begin, Over, Finish, Call, passed, moves_of, jobs_of}
use Rattle.spd_meaning.specs.Eval.{Returned}
use Rattle.spd_meaning.specs.Meaning.{collecting}
use Rattle.spd_meaning.proofs.Hearing.{passed_moves}
use Rattle.spd_meaning.proofs.Nesting.{Nested, Nests, nested_none, nested_tick, nested_offer, nested_line, nested_passed, nests_then, nests_async, nests_finish, nests_call, one_job}
use Rattle.spd_code.specs.Places.{fitted}
use Rattle.spd_code.specs.Coded.{Context, eval_block, around_of, item_returned}
use Rattle.spd_code.proofs.Laws.{Law, anything, any_line, any_block, block_law, calls_law, AnyCode, any_faults}

abbrev ReturnsNested : Returned → Type 0
ReturnsNested r = Nested r.given

nests_law : Law anything any_line AnyCode Nests ReturnsNested
nests_law = record {
  fell = λ vars. nested_none;
  back = λ value. nested_none;
  fault = λ code f. nested_none;
  counts = λ a h. nested_tick a.given h;
  goes_on = λ a next h k. nests_then a next h k;
  cuts = λ n a h. h;
  branches = λ test x y q. (any_block x, any_block y);
  loops = λ from to b q. any_block b;
  async = λ b vars a q h. nests_async vars a (h (any_block b));
  finish = λ b line f a q h. nests_finish kind.Plain line f a (h (any_block b));
  let_finish = λ of b line f a q h. nests_finish (collecting of) line f a (h (any_block b));
  call = λ f r h. nests_call f r h;
  returns = λ a h. h;
  offer = λ e value vars q. nested_offer value;
  print = λ parts text vars q. nested_line text;
}

pub block_nests : (context : Context) (left : ℕ) (b : CodeBlock) (vars : List ℤ) → Nests (eval_block (around_of context left) b vars)
block_nests context left b vars =
    let calls = calls_law anything any_line AnyCode Nests ReturnsNested nests_law any_faults context (λ f. any_block _) (λ t es q. any_block _) left in
    block_law anything any_line AnyCode Nests ReturnsNested nests_law any_faults (around_of context left) calls b (any_block b) vars

-- ---- main's walk

pub finish_jobs : (context : Context) (left : ℕ) (b : CodeBlock) (vars : List ℤ) (rest : Acts) →
    jobs_of (Begin Finish ∷ (passed (eval_block (around_of context left) b vars).given ++ Over ∷ rest))
    ≡ moves_of (eval_block (around_of context left) b vars).given ∷ jobs_of rest
finish_jobs context left b vars rest =
    let g = (eval_block (around_of context left) b vars).given in
    one_job Finish (passed g) rest (nested_passed g (block_nests context left b vars)) ∙ ap (λ n. n ∷ jobs_of rest) (passed_moves g)

pub call_jobs : (context : Context) (left : ℕ) (item : CodeItem) (args : List ℤ) (rest : Acts) →
    jobs_of (Begin Call ∷ ((item_returned (around_of context left) item args).given ++ Over ∷ rest))
    ≡ moves_of (item_returned (around_of context left) item args).given ∷ jobs_of rest
call_jobs context left item args rest = one_job Call _ rest (block_nests context left item.body (fitted item.params args))
