-- What is known of a checked program and its code.
use Rattle.std.specs.Prelude.{◌≡◌, ℕ, List, [], true}
use Rattle.spd_syntax.specs.declared.tree.Item.{Item}
use Rattle.spd_syntax.specs.declared.tree.Program.{Program}
use Rattle.spd_code.specs.declared.tree.CodeTree.{CodeTree}
use Rattle.spd_meaning.specs.Names.{Name}
use Rattle.spd_meaning.specs.Values.{ColumnView}
use Rattle.spd_meaning.specs.Programs.{main_meaning, most_calls}
use Rattle.spd_code.specs.Coded.{Context, eval_block, around_of, item_at}
use Rattle.spd_code.specs.Silent.{silent_block}
use Rattle.spd_code.specs.Alike.{AreColumns, valued}
use Rattle.spd_code.specs.Resolved.{program_code}
use Rattle.spd_check.specs.Checks.{faults_of}
use Rattle.spd_check.specs.Lines.{HasLines}

-- It is the code of a program without faults.
pub record IsChecked (program : Program) (tree : CodeTree) : Type 0 where
  pub passes : faults_of program ≡ []
  pub coded : tree ≡ program_code program.items
  pub lined : HasLines tree

-- Main of the code, by places, is main of the items, by their own names, whatever the columns hold.
abbrev pub MeansItself : List Item → CodeTree → Type 0
MeansItself items tree = (context : Context) (column : Name → ColumnView) → context.code ≡ tree → AreColumns items column context
    → eval_block (around_of context most_calls) tree.main [] ≡ valued (main_meaning items column)

-- No statement of a function says anything to a finish around its call.
abbrev pub AreSilent : CodeTree → Type 0
AreSilent tree = (f : ℕ) → silent_block (item_at tree.functions f).body ≡ true
