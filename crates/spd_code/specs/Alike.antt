-- When a code means what a program means.
use Rattle.std.specs.Prelude.{◌≡◌, ℕ, List, [], ◌∷◌, length, map, ℤ}
use Rattle.spd_syntax.specs.declared.tree.Item.{Item}
use Rattle.spd_code.specs.declared.tree.CodeItem.{CodeItem}
use Rattle.spd_code.specs.declared.tree.CodeTree.{CodeTree}
use Rattle.spd_meaning.specs.Eval.{End, Fell, Back, Fault, Eval}
use Rattle.spd_meaning.specs.Values.{ColumnView, Around}
use Rattle.spd_meaning.specs.Names.{Name, Names, Entry, Env}
use Rattle.spd_meaning.specs.Programs.{Callable, callables_of, columns_of, main_of}
use Rattle.spd_code.specs.Places.{place_of}
use Rattle.spd_code.specs.Resolved.{Spaces, spaces_of, code_of}
use Rattle.spd_code.specs.Coded.{Context}

-- ---- evaluations

abbrev pub names_of : Env → Names
names_of env = map (λ (entry : Entry). entry.name) env

abbrev pub values_of : Env → List ℤ
values_of env = map (λ (entry : Entry). entry.value) env

abbrev pub valued_end : End Entry → End ℤ
valued_end (Fell env) = Fell (values_of env)
valued_end (Back value) = Back value
valued_end (Fault code) = Fault code

-- an evaluation without the names
abbrev pub valued : Eval Entry → Eval ℤ
valued a = record { end = valued_end a.end; given = a.given }

-- Where it falls through, these names are visible.
abbrev pub EndsWith : Names → End Entry → Type 0
EndsWith names (Fell env) = names_of env ≡ names
EndsWith names (Back value) = Unit {0}
EndsWith names (Fault code) = Unit {0}

-- The one by names and the one by places are alike, and these names are visible behind them.
pub record Alike (names : Names) (named : Eval Entry) (placed : Eval ℤ) : Type 0 where
  pub same : placed ≡ valued named
  pub behind : EndsWith names named.end

-- ---- what stands around them

pub record AroundAlike (spaces : Spaces) (named : Around Name) (placed : Around ℕ) : Type 0 where
  pub column : (c : Name) → placed.column (place_of spaces.columns c) ≡ named.column c
  pub function : (f : Name) (args : List ℤ) (line : ℕ)
      → placed.calls.function (place_of spaces.functions f) args line ≡ named.calls.function f args line
  pub task : (t : Name) (args : List ℤ) (line : ℕ)
      → placed.calls.task (place_of spaces.tasks t) args line ≡ named.calls.task t args line

-- ---- codes

-- It is the code of a function or a task, whatever number its block has.
pub record IsItem (spaces : Spaces) (callable : Callable) (item : CodeItem) : Type 0 where
  pub next : ℕ
  pub params : item.params ≡ length callable.params
  pub body : item.body ≡ code_of spaces callable.params next callable.body

abbrev pub AreItems : Spaces → List Callable → List CodeItem → Type 0
AreItems spaces [] [] = Unit {0}
AreItems spaces (c ∷ cs) (item ∷ items) = IsItem spaces c item × AreItems spaces cs items
AreItems spaces _ _ = ⊥

-- It is the code of these items, whatever numbers its blocks have.
pub record IsCode (items : List Item) (code : CodeTree) : Type 0 where
  pub next : ℕ
  pub functions : AreItems (spaces_of items) (callables_of items).functions code.functions
  pub tasks : AreItems (spaces_of items) (callables_of items).tasks code.tasks
  pub main : code.main ≡ code_of (spaces_of items) [] next (main_of items)

-- The columns by numbers are those by names.
abbrev pub AreColumns : List Item → (Name → ColumnView) → Context → Type 0
AreColumns items column context = (c : Name) → context.column (place_of (columns_of items) c) ≡ column c
