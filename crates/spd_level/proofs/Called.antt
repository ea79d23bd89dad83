-- What calls give, of functions and of tasks.
use Rattle.std.proofs.Common.{◌≡◌, ℕ, zero, suc, List, refl, ◌∙◌, ap, ℤ, pos, Ok, [], Option, None, slice_get, unwrap_or}
use Rattle.spd_code.specs.declared.tree.CodeItem.{CodeItem}
use Rattle.spd_code.specs.Coded.{Context, around_of, calls_of, item_returned, no_item, item_at}
use Rattle.spd_code.proofs.Layers.{nothing_called}
use Rattle.spd_level.specs.Left.{called_in}

pub function_in : (context : Context) (left number : ℕ) (args : List ℤ) (line : ℕ) →
    (calls_of context left).function number args line ≡ called_in context left context.code.functions number args line
unfolding calls_of
function_in context zero number args line = refl
function_in context (suc left) number args line = refl

pub task_in : (context : Context) (left number : ℕ) (args : List ℤ) (line : ℕ) →
    (calls_of context left).task number args line ≡ called_in context left context.code.tasks number args line
unfolding calls_of
task_in context zero number args line = refl
task_in context (suc left) number args line = refl

-- what isn't there does nothing
pub none_called : (context : Context) (left : ℕ) (items : List CodeItem) (number : ℕ) (args : List ℤ) → slice_get items number ≡ None →
    item_returned (around_of context left) (item_at items number) args ≡ record { value = Ok (pos 0); given = [] }
none_called context left items number args e =
    ap (λ (o : Option CodeItem). item_returned (around_of context left) (unwrap_or o no_item) args) e ∙ nothing_called (around_of context left) args
