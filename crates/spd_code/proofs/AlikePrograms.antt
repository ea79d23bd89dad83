-- A program means what its code means: calls by names and by numbers, at every depth, and main.
use Rattle.std.proofs.Common.{◌≡◌, ℕ, zero, suc, ◌+◌, List, [], ◌∷◌, ◌++◌, refl, sym, ◌∙◌, ap, ℤ, true, false, if◌then◌else◌}
use Rattle.std.specs.List.{flat_map}
use Rattle.std.specs.Str.{bytes_eq}
use Rattle.spd_syntax.specs.declared.tree.ItemKind.TheVariants as i
use Rattle.spd_syntax.specs.declared.tree.Item.{Item}
use Rattle.spd_code.specs.declared.stmt.CodeBlock.{CodeBlock}
use Rattle.spd_code.specs.declared.tree.CodeItem.{CodeItem}
use Rattle.spd_meaning.specs.Values.{ColumnView, Around}
use Rattle.spd_meaning.specs.Names.{Name, Names, enter}
use Rattle.spd_meaning.specs.Meaning.{block_meaning}
use Rattle.spd_meaning.specs.Programs.{Callable, callables_of, callable_named, callable_returned, function_in, task_in, around_with, calls_with, most_calls, main_of, main_meaning}
use Rattle.spd_code.specs.Places.{place_of, fitted}
use Rattle.spd_code.specs.Resolved.{Spaces, spaces_of, names_of_callables, code_of, item_blocks, function_code, functions_code, task_code, tasks_code, before_main, program_code}
use Rattle.spd_code.specs.Coded.{Context, item_at, item_returned, around_of, calls_of, eval_block}
use Rattle.spd_code.specs.Alike.{values_of, valued, AroundAlike, IsItem, AreItems, IsCode, AreColumns}
use Rattle.spd_code.proofs.Places.{entered, entered_names}
use Rattle.spd_code.proofs.Alike.{alike_returned}
use Rattle.spd_code.proofs.AlikeTrees.{alike_code}

-- the code of what is found by a name stands at the place of the name
found : (spaces : Spaces) (cs : List Callable) (items : List CodeItem) (name : Name) → AreItems spaces cs items →
    IsItem spaces (callable_named cs name) (item_at items (place_of (names_of_callables cs) name))
found spaces [] [] name a = record { next = 0; params = refl; body = refl }
found spaces [] (item ∷ items) name a = absurd a
found spaces (c ∷ cs) [] name a = absurd a
found spaces (c ∷ cs) (item ∷ items) name a =
    elim (bytes_eq c.name name)
    as (λ t. IsItem spaces (if t then c else callable_named cs name) (item_at (item ∷ items) (if t then 0 else suc (place_of (names_of_callables cs) name))))
    [ true ↦ a.0 | false ↦ found spaces cs items name a.1 ]

-- ---- the code of a program is its code

both_items : (spaces : Spaces) (cs ds : List Callable) (xs ys : List CodeItem) → AreItems spaces cs xs → AreItems spaces ds ys →
    AreItems spaces (cs ++ ds) (xs ++ ys)
both_items spaces [] ds [] ys a b = b
both_items spaces [] ds (x ∷ xs) ys a b = absurd a
both_items spaces (c ∷ cs) ds [] ys a b = absurd a
both_items spaces (c ∷ cs) ds (x ∷ xs) ys a b = (a.0, both_items spaces cs ds xs ys a.1 b)

function_is : (spaces : Spaces) (next : ℕ) (what : i.the_data) → AreItems spaces (function_in what) (function_code spaces next what)
function_is spaces next (i.IntColumn name file field) = tt
function_is spaces next (i.TextColumn name file field) = tt
function_is spaces next (i.Lines name file) = tt
function_is spaces next (i.Function name params body) = (record { next = next; params = refl; body = refl }, tt)
function_is spaces next (i.Task name params body) = tt
function_is spaces next (i.Main body) = tt

task_is : (spaces : Spaces) (next : ℕ) (what : i.the_data) → AreItems spaces (task_in what) (task_code spaces next what)
task_is spaces next (i.IntColumn name file field) = tt
task_is spaces next (i.TextColumn name file field) = tt
task_is spaces next (i.Lines name file) = tt
task_is spaces next (i.Function name params body) = tt
task_is spaces next (i.Task name params body) = (record { next = next; params = refl; body = refl }, tt)
task_is spaces next (i.Main body) = tt

functions_are : (spaces : Spaces) (next : ℕ) (items : List Item) → AreItems spaces (flat_map (λ (item : Item). function_in item.what) items)
    (functions_code spaces next items)
functions_are spaces next [] = tt
functions_are spaces next (item ∷ items) = both_items spaces _ _ _ _ (function_is spaces next item.what)
    (functions_are spaces (next + item_blocks spaces item.what) items)

tasks_are : (spaces : Spaces) (next : ℕ) (items : List Item) → AreItems spaces (flat_map (λ (item : Item). task_in item.what) items)
    (tasks_code spaces next items)
tasks_are spaces next [] = tt
tasks_are spaces next (item ∷ items) = both_items spaces _ _ _ _ (task_is spaces next item.what) (tasks_are spaces (next + item_blocks spaces item.what) items)

pub coded : (items : List Item) → IsCode items (program_code items)
coded items =
    let spaces = spaces_of items in
    record { next = before_main spaces 0 items; functions = functions_are spaces 0 items; tasks = tasks_are spaces 0 items; main = refl }

-- ---- calls

-- a call by name and one by number
pub call_alike : (spaces : Spaces) (around : Around Name) (numbered : Around ℕ) → AroundAlike spaces around numbered →
    (c : Callable) (item : CodeItem) (args : List ℤ) → IsItem spaces c item →
    item_returned numbered item args ≡ callable_returned around c args
call_alike spaces around numbered h c item args is =
    let env = enter c.params args in
    let a = block_meaning around c.body env in
    alike_returned a (eval_block numbered item.body (fitted item.params args))
    (ap (λ (b : CodeBlock). eval_block numbered b (fitted item.params args)) is.body
    ∙ ap (λ (n : ℕ). eval_block numbered (code_of spaces c.params is.next c.body) (fitted n args)) is.params
    ∙ ap (λ (vs : List ℤ). eval_block numbered (code_of spaces c.params is.next c.body) vs) (sym (entered c.params args))
    ∙ ap (λ (ns : Names). eval_block numbered (code_of spaces ns is.next c.body) (values_of env)) (sym (entered_names c.params args))
    ∙ (alike_code spaces around numbered h c.body is.next env).same)

-- Whatever is called at whatever depth is alike.
pub around_alike : (items : List Item) (context : Context) (column : Name → ColumnView) → AreColumns items column context → IsCode items context.code →
    (left : ℕ) → AroundAlike (spaces_of items) (around_with (callables_of items) column left) (around_of context left)
unfolding calls_with calls_of
around_alike items context column k is zero = record { column = k; function = λ f args line. refl; task = λ t args line. refl }
around_alike items context column k is (suc left) =
    let h = around_alike items context column k is left in
    let cs = callables_of items in
    let spaces = spaces_of items in
    record {
      column = k;
      function = λ f args line. call_alike spaces (around_with cs column left) (around_of context left) h (callable_named cs.functions f)
          (item_at context.code.functions (place_of spaces.functions f)) args (found spaces cs.functions context.code.functions f is.functions);
      task = λ t args line. call_alike spaces (around_with cs column left) (around_of context left) h (callable_named cs.tasks t)
          (item_at context.code.tasks (place_of spaces.tasks t)) args (found spaces cs.tasks context.code.tasks t is.tasks);
    }

-- ---- main

-- main by names, and main by places: the same end but for the names, and all that is given
pub main_alike : (items : List Item) (context : Context) (column : Name → ColumnView) → AreColumns items column context → IsCode items context.code →
    eval_block (around_of context most_calls) context.code.main [] ≡ valued (main_meaning items column)
main_alike items context column k is =
    let spaces = spaces_of items in
    ap (λ (b : CodeBlock). eval_block (around_of context most_calls) b []) is.main
    ∙ (alike_code spaces (around_with (callables_of items) column most_calls) (around_of context most_calls)
    (around_alike items context column k is most_calls) (main_of items) is.next []).same
