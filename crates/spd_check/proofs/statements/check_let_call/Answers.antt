use Rattle.std.proofs.Common.{ℕ, ◌∙◌, ◌++◌, ap, subst}
use Rattle.std.specs.Prelude.{Option, List}
use Rattle.std.proofs.lemmas.Result.{err_from_is_err_and}
use Rattle.spd_check.specs.Names.{name_texts}
use Rattle.spd_check.specs.Items.{function_arity}
use Rattle.spd_check.specs.Faults.{Passes}
use Rattle.spd_check.specs.Checks.{call_faults, twice}
use Rattle.spd_check.proofs.Passing.{passes_more}
use Rattle.spd_check.proofs.statements.check_let_call.Goals as goal

pub returns-in_err-check_call-clause-answer : goal.returns-in_err-check_call-clause-answer
returns-in_err-check_call-clause-answer c =
    let p = err_from_is_err_and c.from_residual.result c.from_residual.ensures.1 in
    let names = name_texts c.args.names.now.items in
    let found = c.function_arity-arity.ensures ∙ ap (λ (name : List ℕ). function_arity c.args.items.now name) c.as_slice.ensures.entries in
    subst (λ (arity : Option ℕ). Passes c.from_residual.result
    (call_faults c.args.items.now arity names c.args.line c.args.args.now ++ twice names c.args.name.now c.args.line)) found
    (passes_more _ _ _ _ (rw p.2 at p.1) (rw c.deref.ensures.value at c.in_err-check_call.ensures))
