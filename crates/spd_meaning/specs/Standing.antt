-- Where statements of a function may stand: an async, a run and an offer in a finish or async block, and a print nowhere.
use Rattle.std.specs.Prelude.{◌≡◌, ◌&&◌, Bool, true, false, List, [], ◌∷◌, map}
use Rattle.spd_syntax.specs.declared.tree.StmtKind.{StmtKind, fold-StmtKind}
use Rattle.spd_syntax.specs.declared.tree.StmtKind.TheOpen as s
use Rattle.spd_syntax.specs.declared.tree.Stmt.{Stmt, fold-Stmt}
use Rattle.spd_meaning.specs.Programs.{Callable}

-- whether it stands where it may, inside a finish or async block or not
abbrev pub Stands : Type 0
Stands = Bool → Bool

abbrev pub all_stand : List Stands → Stands
all_stand [] inside = true
all_stand (s ∷ ss) inside = s inside && all_stand ss inside

abbrev pub stands_step : s.StmtKind-F Stands Stands → Stands
stands_step (s.If cond first second) inside = all_stand first inside && all_stand second inside
stands_step (s.For name from to body) inside = all_stand body inside
stands_step (s.Async body) inside = inside && all_stand body true
stands_step (s.Finish body) inside = all_stand body true
stands_step (s.LetFinish name kind body) inside = all_stand body true
stands_step (s.Offer value) inside = inside
stands_step (s.Run callee args) inside = inside
stands_step (s.Print parts) inside = false
stands_step _ inside = true

abbrev pub stands_line : s.Stmt-F Stands Stands → Stands
stands_line s = s.what

unfoldable pub stmt_stands : Stmt → Stands
stmt_stands t = fold-Stmt Stands Stands stands_step stands_line t

unfoldable pub kind_stands : StmtKind → Stands
kind_stands k = fold-StmtKind Stands Stands stands_step stands_line k

-- All statements of a function stand where they may.
abbrev pub body_stands : List Stmt → Bool
body_stands body = all_stand (map stmt_stands body) false

abbrev pub StandWell : List Callable → Type 0
StandWell [] = Unit {0}
StandWell (c ∷ cs) = (body_stands c.body ≡ true) × StandWell cs
