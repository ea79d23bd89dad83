-- The blocks of a program, in the order of the opening braces of its canonical text: their numbers are their places in this list.
use Rattle.std.specs.Prelude.{Bool, true, false, List, [], ◌∷◌, ◌++◌, map}
use Rattle.std.specs.List.{flat_map}
use Rattle.spd_syntax.specs.declared.tree.StmtKind.{StmtKind, fold-StmtKind, roll-StmtKind, map-StmtKind}
use Rattle.spd_syntax.specs.declared.tree.StmtKind.TheOpen as s
use Rattle.spd_syntax.specs.declared.tree.Stmt.{Stmt, fold-Stmt, roll-Stmt}
use Rattle.spd_syntax.specs.declared.tree.ItemKind.TheVariants as i
use Rattle.spd_syntax.specs.declared.tree.Item.{Item}
use Rattle.spd_meaning.specs.Names.{Names, binds}

pub record SourceBlock : Type 0 where
  -- the names that are visible where it begins
  pub names : Names
  pub stmts : List Stmt
  -- It is the block of an async or a finish.
  pub is_part : Bool

-- a statement, or what it does, with the names that it binds and its blocks where these names are visible
pub record WithBlocks (T : Type 0) : Type 0 where
  pub itself : T
  pub binds : Names
  pub blocks : Names → List SourceBlock

abbrev pub blocks_of_stmts : List (WithBlocks Stmt) → Names → List SourceBlock
blocks_of_stmts [] names = []
blocks_of_stmts (s ∷ ss) names = s.blocks names ++ blocks_of_stmts ss (names ++ s.binds)

abbrev pub bare_stmts : List (WithBlocks Stmt) → List Stmt
bare_stmts body = map (λ (s : WithBlocks Stmt). s.itself) body

-- a block before the blocks in it
abbrev pub block_first : Bool → List (WithBlocks Stmt) → Names → List SourceBlock
block_first is_part body names =
    record { names = names; stmts = bare_stmts body; is_part = is_part } ∷ blocks_of_stmts body names

-- An `else` without statements isn't printed.
abbrev pub else_first : List (WithBlocks Stmt) → Names → List SourceBlock
else_first [] names = []
else_first (s ∷ ss) names = block_first false (s ∷ ss) names

abbrev pub blocks_of_kind : {A : Type 0} → s.StmtKind-F A (WithBlocks Stmt) → Names → List SourceBlock
blocks_of_kind (s.LetFinish name kind body) names = block_first true body names
blocks_of_kind (s.If cond first second) names = block_first false first names ++ else_first second names
blocks_of_kind (s.For name from to body) names = block_first false body (names ++ name ∷ [])
blocks_of_kind (s.Async body) names = block_first true body names
blocks_of_kind (s.Finish body) names = block_first true body names
blocks_of_kind _ names = []

abbrev pub blocks_kind_step : s.StmtKind-F (WithBlocks StmtKind) (WithBlocks Stmt) → WithBlocks StmtKind
blocks_kind_step kind = record {
  itself = roll-StmtKind (map-StmtKind (WithBlocks StmtKind) (WithBlocks Stmt) StmtKind Stmt (λ k. k.itself) (λ s. s.itself) kind);
  binds = binds kind;
  blocks = blocks_of_kind kind;
}

abbrev pub blocks_line_step : s.Stmt-F (WithBlocks StmtKind) (WithBlocks Stmt) → WithBlocks Stmt
blocks_line_step s = record {
  itself = roll-Stmt (record { line = s.line; what = s.what.itself });
  binds = s.what.binds;
  blocks = s.what.blocks;
}

abbrev pub stmt_with_blocks : Stmt → WithBlocks Stmt
stmt_with_blocks = fold-Stmt (WithBlocks StmtKind) (WithBlocks Stmt) blocks_kind_step blocks_line_step

abbrev pub kind_with_blocks : StmtKind → WithBlocks StmtKind
kind_with_blocks = fold-StmtKind (WithBlocks StmtKind) (WithBlocks Stmt) blocks_kind_step blocks_line_step

-- the block of an item, and the blocks in it
abbrev pub body_blocks : Names → List Stmt → List SourceBlock
body_blocks names body = block_first false (map stmt_with_blocks body) names

abbrev pub blocks_of_item : i.the_data → List SourceBlock
blocks_of_item (i.Function name params body) = body_blocks params body
blocks_of_item (i.Task name params body) = body_blocks params body
blocks_of_item (i.Main body) = body_blocks [] body
blocks_of_item _ = []

abbrev pub blocks_of : List Item → List SourceBlock
blocks_of items = flat_map (λ item. blocks_of_item item.what) items
