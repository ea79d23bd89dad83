-- The code of blocks and their statements, as the code of a program has it.
use Rattle.std.specs.Prelude.{ℕ, ◌+◌, List, [], ◌∷◌, ◌++◌, map}
use Rattle.spd_syntax.specs.declared.tree.Stmt.{Stmt}
use Rattle.spd_syntax.specs.declared.tree.StmtKind.{StmtKind, out-StmtKind}
use Rattle.spd_syntax.specs.declared.tree.ItemKind.TheVariants as i
use Rattle.spd_syntax.specs.declared.tree.Item.{Item}
use Rattle.spd_code.specs.declared.stmt.CodeBlock.{CodeBlock}
use Rattle.spd_meaning.specs.Names.{Names, binds}
use Rattle.spd_code.specs.Resolved.{Spaces, code_of, else_code, else_blocks, statement_resolved, blocks_of_body, item_blocks}

-- the name that a statement makes visible
unfoldable pub bound_names : StmtKind → Names
bound_names what = binds (out-StmtKind what)

module _ (spaces : Spaces) where
  -- the code of a block where these names are visible, with this number
  unfoldable pub block_coded : List Stmt → Names → ℕ → CodeBlock
  block_coded stmts names next = code_of spaces names next stmts

  -- how many blocks it is, with its own
  unfoldable pub block_count : List Stmt → ℕ
  block_count stmts = blocks_of_body spaces stmts

  -- the same of a block behind `else`, which has no number where it is empty
  unfoldable pub else_coded : List Stmt → Names → ℕ → CodeBlock
  else_coded stmts names next = else_code (map (statement_resolved spaces) stmts) names next

  unfoldable pub else_count : List Stmt → ℕ
  else_count stmts = else_blocks (map (statement_resolved spaces) stmts)

  -- the code of the mains, where the next block has this number
  abbrev pub main_code_in : ℕ → i.the_data → List CodeBlock
  main_code_in next (i.Main body) = block_coded body [] next ∷ []
  main_code_in next _ = []

  abbrev pub mains_code : ℕ → List Item → List CodeBlock
  mains_code next [] = []
  mains_code next (item ∷ items) = main_code_in next item.what ++ mains_code (next + item_blocks spaces item.what) items
