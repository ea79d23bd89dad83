-- Trees that are the same but for their lines, and whose canonical symbols are the same.
use Rattle.std.proofs.Common.{◌≡◌, ℕ, List, map, sym, ◌∙◌, ap}
use Rattle.spd_syntax.specs.declared.tree.StmtKind.{StmtKind}
use Rattle.spd_syntax.specs.declared.tree.Stmt.{Stmt}
use Rattle.spd_syntax.specs.declared.tree.Item.{Item}
use Rattle.spd_syntax.specs.declared.tree.Program.{Program}
use Rattle.spd_syntax.specs.Grammar.{stmt}
use Rattle.spd_canonical.specs.Canonical.{statement_symbols, kind_symbols, item_symbols, program_symbols}
use Rattle.spd_canonical.specs.Lines.{statement_but_lines, kind_but_lines, block_but_lines, item_but_lines}
use Rattle.spd_canonical.proofs.Equations as q

pub record AlikeStmt (x y : Stmt) : Type 0 where
  pub bare : statement_but_lines y ≡ statement_but_lines x
  pub text : statement_symbols y ≡ statement_symbols x

pub record AlikeBlock (xs ys : List Stmt) : Type 0 where
  pub bare : block_but_lines ys ≡ block_but_lines xs
  pub text : map statement_symbols ys ≡ map statement_symbols xs

pub record AlikeItem (x y : Item × ℕ) : Type 0 where
  pub bare : item_but_lines y.0 ≡ item_but_lines x.0
  pub text : item_symbols y.0.what ≡ item_symbols x.0.what

pub record AlikeProgram (x y : Program) : Type 0 where
  pub bare : map item_but_lines y.items ≡ map item_but_lines x.items
  pub text : program_symbols y ≡ program_symbols x

-- of one line and another
pub alike_by : (l k : ℕ) (x y : StmtKind) → kind_but_lines y ≡ kind_but_lines x → kind_symbols y ≡ kind_symbols x → AlikeStmt (stmt l x) (stmt k y)
alike_by l k x y h g = record {
  bare = q.statement_bare k y ∙ ap (λ (z : StmtKind). stmt 0 z) h ∙ sym (q.statement_bare l x);
  text = q.statement_is k y ∙ g ∙ sym (q.statement_is l x);
}

pub very_alike : (l k : ℕ) (x y : StmtKind) → y ≡ x → AlikeStmt (stmt l x) (stmt k y)
very_alike l k x y h = alike_by l k x y (ap kind_but_lines h) (ap kind_symbols h)
