-- Names, and the values that they have where they are visible.
use Rattle.std.specs.Prelude.{ℕ, if◌then◌else◌, List, [], ◌∷◌, ◌++◌, ℤ, pos}
use Rattle.std.specs.Str.{bytes_eq}
use Rattle.spd_syntax.specs.declared.tree.StmtKind.TheOpen as s

abbrev pub Name : Type 0
Name = List ℕ

abbrev pub Names : Type 0
Names = List Name

-- the name that a statement makes visible behind it, with what stands for the blocks in it
abbrev pub binds : {A B : Type 0} → s.StmtKind-F A B → Names
binds (s.Let name value) = name ∷ []
binds (s.LetCall name callee args) = name ∷ []
binds (s.LetFinish name kind body) = name ∷ []
binds _ = []

-- ---- names with values

-- a name that is visible and its value
pub record Entry : Type 0 where
  pub name : Name
  pub value : ℤ

-- in the order in which they became visible
abbrev pub Env : Type 0
Env = List Entry

abbrev pub bind : Env → Name → ℤ → Env
bind env name value = env ++ record { name = name; value = value } ∷ []

-- A name that isn't visible reads 0.
abbrev pub look_up : Env → Name → ℤ
look_up [] name = pos 0
look_up (entry ∷ env) name = if bytes_eq entry.name name then entry.value else look_up env name

-- A name that isn't visible isn't assigned.
abbrev pub assign : Env → Name → ℤ → Env
assign [] name value = []
assign (entry ∷ env) name value =
    if bytes_eq entry.name name then record entry { value = value } ∷ env else entry ∷ assign env name value

-- Parameters, with the arguments in their order. A parameter without an argument is 0.
abbrev pub enter : Names → List ℤ → Env
enter [] args = []
enter (name ∷ names) [] = record { name = name; value = pos 0 } ∷ enter names []
enter (name ∷ names) (arg ∷ args) = record { name = name; value = arg } ∷ enter names args
