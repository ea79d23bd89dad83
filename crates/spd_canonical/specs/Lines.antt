-- Trees but for their lines: the same with 0 for each.
use Rattle.std.specs.Prelude.{List, map}
use Rattle.spd_syntax.specs.declared.tree.StmtKind.{StmtKind, roll-StmtKind, fold-StmtKind}
use Rattle.spd_syntax.specs.declared.tree.StmtKind.TheOpen as s
use Rattle.spd_syntax.specs.declared.tree.Stmt.{Stmt, fold-Stmt}
use Rattle.spd_syntax.specs.declared.tree.ItemKind.{ItemKind}
use Rattle.spd_syntax.specs.declared.tree.ItemKind.TheVariants as i
use Rattle.spd_syntax.specs.declared.tree.Item.{Item}
use Rattle.spd_syntax.specs.declared.tree.Program.{Program}

abbrev pub at_no_line : s.Stmt-F StmtKind Stmt → Stmt
at_no_line s = record { line = 0; what = s.what }

unfoldable pub statement_but_lines : Stmt → Stmt
statement_but_lines = fold-Stmt StmtKind Stmt roll-StmtKind at_no_line

unfoldable pub kind_but_lines : StmtKind → StmtKind
kind_but_lines = fold-StmtKind StmtKind Stmt roll-StmtKind at_no_line

abbrev pub block_but_lines : List Stmt → List Stmt
block_but_lines body = map statement_but_lines body

abbrev pub item_kind_but_lines : ItemKind → ItemKind
item_kind_but_lines (i.IntColumn n file field) = i.IntColumn n file field
item_kind_but_lines (i.TextColumn n file field) = i.TextColumn n file field
item_kind_but_lines (i.Lines n file) = i.Lines n file
item_kind_but_lines (i.Function n params body) = i.Function n params (block_but_lines body)
item_kind_but_lines (i.Task n params body) = i.Task n params (block_but_lines body)
item_kind_but_lines (i.Main body) = i.Main (block_but_lines body)

abbrev pub item_but_lines : Item → Item
item_but_lines item = record { line = 0; what = item_kind_but_lines item.what }

abbrev pub but_lines : Program → Program
but_lines program = record { items = map item_but_lines program.items; last_line = 0 }
