-- The blocks of a code that have a number, in the order of their numbers.
use Rattle.std.specs.Prelude.{ℕ, suc, List, [], ◌∷◌, ◌++◌, map, Option, Some, None}
use Rattle.std.specs.List.{flat_map}
use Rattle.spd_code.specs.declared.stmt.CodeStmtKind.{CodeStmtKind, fold-CodeStmtKind, roll-CodeStmtKind, map-CodeStmtKind}
use Rattle.spd_code.specs.declared.stmt.CodeStmtKind.TheOpen as c
use Rattle.spd_code.specs.declared.stmt.CodeStmt.{CodeStmt, fold-CodeStmt, roll-CodeStmt}
use Rattle.spd_code.specs.declared.stmt.CodeBlock.{CodeBlock, fold-CodeBlock, roll-CodeBlock}
use Rattle.spd_meaning.specs.Blocks.{SourceBlock}
use Rattle.spd_code.specs.Resolved.{Spaces, code_of}

-- a part of a code, with the numbered blocks in it
pub record Numbered (T : Type 0) : Type 0 where
  pub itself : T
  pub blocks : List CodeBlock

abbrev pub blocks_in_kind : {A C : Type 0} → c.CodeStmtKind-F A (Numbered CodeBlock) C → List CodeBlock
blocks_in_kind (c.LetFinish kind body) = body.blocks
blocks_in_kind (c.If cond first second) = first.blocks ++ second.blocks
blocks_in_kind (c.For from to body) = body.blocks
blocks_in_kind (c.Async body) = body.blocks
blocks_in_kind (c.Finish body) = body.blocks
blocks_in_kind _ = []

abbrev pub blocks_in_stmts : List (Numbered CodeStmt) → List CodeBlock
blocks_in_stmts stmts = flat_map (λ (s : Numbered CodeStmt). s.blocks) stmts

abbrev pub if_numbered : Option ℕ → CodeBlock → List CodeBlock → List CodeBlock
if_numbered (Some number) block inner = block ∷ inner
if_numbered None block inner = inner

abbrev pub number_kind : c.CodeStmtKind-F (Numbered CodeStmtKind) (Numbered CodeBlock) (Numbered CodeStmt) → Numbered CodeStmtKind
number_kind z = record {
  itself = roll-CodeStmtKind (map-CodeStmtKind (Numbered CodeStmtKind) (Numbered CodeBlock) (Numbered CodeStmt) CodeStmtKind CodeBlock CodeStmt
      (λ k. k.itself) (λ b. b.itself) (λ s. s.itself) z);
  blocks = blocks_in_kind z;
}

abbrev pub number_stmt : c.CodeStmt-F (Numbered CodeStmtKind) (Numbered CodeBlock) (Numbered CodeStmt) → Numbered CodeStmt
number_stmt s = record {
  itself = roll-CodeStmt (record { line = s.line; next_block = s.next_block; what = s.what.itself });
  blocks = s.what.blocks;
}

abbrev pub number_block : c.CodeBlock-F (Numbered CodeStmtKind) (Numbered CodeBlock) (Numbered CodeStmt) → Numbered CodeBlock
number_block b =
    let itself : CodeBlock = roll-CodeBlock (record { number = b.number; stmts = map (λ (s : Numbered CodeStmt). s.itself) b.stmts }) in
    record { itself = itself; blocks = if_numbered b.number itself (blocks_in_stmts b.stmts) }

unfoldable pub numbered_block : CodeBlock → Numbered CodeBlock
numbered_block b = fold-CodeBlock (Numbered CodeStmtKind) (Numbered CodeBlock) (Numbered CodeStmt) number_kind number_block number_stmt b

unfoldable pub numbered_stmt : CodeStmt → Numbered CodeStmt
numbered_stmt s = fold-CodeStmt (Numbered CodeStmtKind) (Numbered CodeBlock) (Numbered CodeStmt) number_kind number_block number_stmt s

unfoldable pub numbered_kind : CodeStmtKind → Numbered CodeStmtKind
numbered_kind k = fold-CodeStmtKind (Numbered CodeStmtKind) (Numbered CodeBlock) (Numbered CodeStmt) number_kind number_block number_stmt k

abbrev pub code_blocks : CodeBlock → List CodeBlock
code_blocks b = (numbered_block b).blocks

-- the codes of blocks of a program that are numbered from a number on
abbrev pub codes_of_blocks : Spaces → ℕ → List SourceBlock → List CodeBlock
codes_of_blocks spaces next [] = []
codes_of_blocks spaces next (b ∷ bs) = code_of spaces b.names next b.stmts ∷ codes_of_blocks spaces (suc next) bs
