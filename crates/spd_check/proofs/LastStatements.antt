-- Whether a block returns is told by its last statement.
use Rattle.std.proofs.Common.{◌≡◌, ◌-◌, List, [], ◌∷◌, length, Some, None, false, refl, ap, subst, arith, ◌∙◌}
use Rattle.std.specs.Prelude.{slice_get, Bool}
use Rattle.spd_syntax.specs.declared.tree.Stmt.{Stmt, fold_out-Stmt}
use Rattle.spd_check.specs.Checks.{stmt_returns, kind_returns, returns_step, returns_line, block_returns}

pub stmt_is : (t : Stmt) → stmt_returns t ≡ kind_returns t.what
stmt_is t = fold_out-Stmt Bool Bool returns_step returns_line t

last_from : (t : Stmt) (stmts : List Stmt) (last : Stmt) → slice_get (t ∷ stmts) (length stmts) ≡ Some last → block_returns (t ∷ stmts)
    ≡ kind_returns last.what
last_from t [] last e = let same : t ≡ last = cc in stmt_is t ∙ ap (λ (u : Stmt). kind_returns u.what) same
last_from t (u ∷ stmts) last e = last_from u stmts last e

pub last_at : (stmts : List Stmt) (last : Stmt) → slice_get stmts (length stmts - 1) ≡ Some last → block_returns stmts ≡ kind_returns last.what
last_at [] last e = absurd (cc)
last_at (t ∷ stmts) last e =
    let d : length (t ∷ stmts) - 1 ≡ length stmts = omega arith in
    last_from t stmts last (subst (λ n. slice_get (t ∷ stmts) n ≡ Some last) d e)

none_from : (t : Stmt) (stmts : List Stmt) → slice_get (t ∷ stmts) (length stmts) ≡ None → ⊥
none_from t [] e = cc
none_from t (u ∷ stmts) e = none_from u stmts e

pub none_last : (stmts : List Stmt) → slice_get stmts (length stmts - 1) ≡ None → block_returns stmts ≡ false
none_last [] e = refl
none_last (t ∷ stmts) e =
    let d : length (t ∷ stmts) - 1 ≡ length stmts = omega arith in
    absurd (none_from t stmts (subst (λ n. slice_get (t ∷ stmts) n ≡ None) d e))
