-- Where a program has no fault, the statements of its functions stand where they may, and so their code is silent.
use Rattle.std.proofs.Common.{◌≡◌, ◌∙◌, ℕ, List, [], ◌∷◌, ◌++◌, length, refl, sym, ap, subst, true, false}
use Rattle.std.specs.Prelude.{map, flat_map, Bool, ◌||◌, ◌&&◌, not}
use Rattle.spd_syntax.specs.declared.tree.StmtKind.{StmtKind}
use Rattle.spd_syntax.specs.declared.tree.StmtKind as K
use Rattle.spd_syntax.specs.declared.tree.StmtKind.TheOpen as s
use Rattle.spd_syntax.specs.declared.tree.Stmt.{Stmt}
use Rattle.spd_syntax.specs.declared.tree.Stmt as S
use Rattle.spd_syntax.specs.declared.tree.ItemKind.TheVariants as i
use Rattle.spd_syntax.specs.declared.tree.Item.{Item}
use Rattle.spd_syntax.specs.declared.tree.Program.{Program}
use Rattle.spd_meaning.specs.Names.{Names}
use Rattle.spd_meaning.specs.Programs.{Callable, function_in, callables_of}
use Rattle.spd_meaning.specs.Standing.{Stands, all_stand, stands_step, stands_line, stmt_stands, kind_stands, body_stands, StandWell}
use Rattle.spd_code.specs.declared.tree.CodeTree.{CodeTree}
use Rattle.spd_code.specs.Resolved.{spaces_of, program_code}
use Rattle.spd_code.specs.Coded.{item_at}
use Rattle.spd_code.specs.Silent.{silent_block}
use Rattle.spd_code.proofs.Lists.{both_true}
use Rattle.spd_code.proofs.AlikePrograms.{coded}
use Rattle.spd_code.proofs.Standing.{functions_quiet}
use Rattle.spd_check.specs.declared.place.Home.{Home}
use Rattle.spd_check.specs.declared.place.Home.TheVariants as home
use Rattle.spd_check.specs.declared.place.Place.{Place}
use Rattle.spd_check.specs.declared.faults.CheckKind.{CheckKind}
use Rattle.spd_check.specs.declared.faults.CheckKind.TheVariants.{AsyncOutside, OfferOutside, PrintPlace, NoReturn}
use Rattle.spd_check.specs.Places.{in_function, in_task, in_main, may_collect, may_print, place_in, place_inside}
use Rattle.spd_check.specs.Faults.{fault_unless}
use Rattle.spd_check.specs.Checks.{Checked, CheckedKind, kind_check, line_check, stmt_checked, kind_checked, statements_faults, inside_faults, block_faults, block_returns, expression_faults, twice, params_faults, callable_faults, declared_faults, item_faults, again_faults, main_faults, faults_of}
use Rattle.spd_check.specs.Checked.{AreSilent}

none_both : {A : Type 0} (xs ys : List A) → xs ++ ys ≡ [] → (xs ≡ []) × (ys ≡ [])
none_both [] ys e = (refl, e)
none_both (x ∷ xs) ys e = absurd (cc)

-- In a function, what collects stands in a finish or async block, and a print nowhere.
collects : (inside : Bool) (where_ : Home) (line : ℕ) (kind : CheckKind) → in_function where_ ≡ true
    → fault_unless (inside || in_task where_) line kind ≡ [] → inside ≡ true
collects true where_ line kind h e = refl
collects false home.Function line kind h e = absurd (cc)
collects false home.Main line kind h e = absurd (cc)
collects false home.Task line kind h e = absurd (cc)

prints : (inside : Bool) (where_ : Home) (line : ℕ) (kind : CheckKind) → in_function where_ ≡ true
    → fault_unless (in_main where_ && not inside) line kind ≡ [] → ⊥
prints inside home.Function line kind h e = cc
prints inside home.Main line kind h e = cc
prints inside home.Task line kind h e = cc

module _ (items : List Item) where
  abbrev KindHolds : StmtKind → Type 0
  KindHolds k = (line : ℕ) (names : Names) (place : Place) → in_function place.home ≡ true → (kind_checked items k).1 line names place ≡ []
      → kind_stands k place.inside ≡ true

  abbrev StmtHolds : Stmt → Type 0
  StmtHolds t = (names : Names) (place : Place) → in_function place.home ≡ true → (stmt_checked items t).1 names place ≡ []
      → stmt_stands t place.inside ≡ true

  abbrev KindWith : Type 0
  KindWith = (k : StmtKind) × KindHolds k

  abbrev StmtWith : Type 0
  StmtWith = (t : Stmt) × StmtHolds t

  abbrev bare : List StmtWith → List Stmt
  bare ts = map (λ (t : StmtWith). t.0) ts

  abbrev layer : s.StmtKind-F StmtKind Stmt → s.StmtKind-F CheckedKind Checked
  layer z = K.map-StmtKind StmtKind Stmt CheckedKind Checked (kind_checked items) (stmt_checked items) z

  rolled : (z : s.StmtKind-F StmtKind Stmt) → ((line : ℕ) (names : Names) (place : Place) → in_function place.home ≡ true
      → (kind_check items (layer z)).1 line names place ≡ []
      → stands_step (K.map-StmtKind StmtKind Stmt Stands Stands kind_stands stmt_stands z) place.inside ≡ true) → KindHolds (K.roll-StmtKind z)
  unfolding kind_stands stmt_stands
  rolled z q line names place h e =
      ap (λ (p : Stands). p place.inside) (K.fold-roll-StmtKind Stands Stands stands_step stands_line z)
      ∙ q line names place h (ap (λ (c : CheckedKind). c.1 line names place) (sym (K.fold-roll-StmtKind CheckedKind Checked (kind_check items)
      (line_check items) z)) ∙ e)

  -- the statements of a block
  all_well : (ts : List StmtWith) (names : Names) (place : Place) → in_function place.home ≡ true
      → statements_faults (map (stmt_checked items) (bare ts)) names place ≡ [] → all_stand (map stmt_stands (bare ts)) place.inside ≡ true
  all_well [] names place h e = refl
  all_well (t ∷ ts) names place h e =
      let n = none_both ((stmt_checked items t.0).1 names place) (statements_faults (map (stmt_checked items) (bare ts)) (names ++
      (stmt_checked items t.0).0) place) e in
      both_true _ _ (t.1 names place h n.0) (all_well ts (names ++ (stmt_checked items t.0).0) place h n.1)

  inside_well : (ts : List StmtWith) (names : Names) (place : Place) → in_function place.home ≡ true
      → inside_faults (map (stmt_checked items) (bare ts)) names place ≡ [] → all_stand (map stmt_stands (bare ts)) true ≡ true
  inside_well ts names place h e = all_well ts names (place_inside place (length names)) h e

  at_layer : (y : s.StmtKind-F KindWith StmtWith) → KindHolds (K.roll-StmtKind (K.map-StmtKind KindWith StmtWith StmtKind Stmt (λ k. k.0) (λ t. t.0) y))
  at_layer (s.Let name e) = rolled (s.Let name e) (λ line names place h q. refl)
  at_layer (s.Assign name e) = rolled (s.Assign name e) (λ line names place h q. refl)
  at_layer (s.If e first second) = rolled (s.If e (bare first) (bare second)) (λ line names place h q.
      let n = none_both (expression_faults items names line e) _ q in
      let m = none_both (statements_faults (map (stmt_checked items) (bare first)) names place) (statements_faults (map (stmt_checked items)
      (bare second)) names place) n.1 in
      both_true _ _ (all_well first names place h m.0) (all_well second names place h m.1))
  at_layer (s.For name from to body) = rolled (s.For name from to (bare body)) (λ line names place h q.
      let n = none_both (expression_faults items names line from) _ q in
      let m = none_both (expression_faults items names line to) _ n.1 in
      let o = none_both (twice names name line) (statements_faults (map (stmt_checked items) (bare body)) (names ++ name ∷ []) place) m.1 in
      all_well body (names ++ name ∷ []) place h o.1)
  at_layer (s.LetCall name callee args) = rolled (s.LetCall name callee args) (λ line names place h q. refl)
  at_layer (s.Run callee args) = rolled (s.Run callee args) (λ line names place h q.
      collects place.inside place.home line AsyncOutside h (none_both (fault_unless (may_collect place) line AsyncOutside) _ q).0)
  at_layer (s.Async body) = rolled (s.Async (bare body)) (λ line names place h q.
      let n = none_both (fault_unless (may_collect place) line AsyncOutside) (inside_faults (map (stmt_checked items) (bare body)) names place) q in
      both_true _ _ (collects place.inside place.home line AsyncOutside h n.0) (inside_well body names place h n.1))
  at_layer (s.Finish body) = rolled (s.Finish (bare body)) (λ line names place h q. inside_well body names place h q)
  at_layer (s.LetFinish name k body) = rolled (s.LetFinish name k (bare body)) (λ line names place h q.
      inside_well body names place h (none_both (inside_faults (map (stmt_checked items) (bare body)) names place) (twice names name line) q).0)
  at_layer (s.Offer e) = rolled (s.Offer e) (λ line names place h q.
      collects place.inside place.home line OfferOutside h (none_both (fault_unless (may_collect place) line OfferOutside) _ q).0)
  at_layer (s.Return e) = rolled (s.Return e) (λ line names place h q. refl)
  at_layer (s.Print ps) = rolled (s.Print ps) (λ line names place h q.
      absurd (prints place.inside place.home line PrintPlace h (none_both (fault_unless (may_print place) line PrintPlace) _ q).0))

  at_kinds : (x : s.StmtKind-F StmtKind Stmt) (y : s.StmtKind-F KindWith StmtWith)
      → K.map-StmtKind KindWith StmtWith StmtKind Stmt (λ k. k.0) (λ t. t.0) y ≡ x → KindHolds (K.roll-StmtKind x)
  at_kinds x y e = subst (λ (z : s.StmtKind-F StmtKind Stmt). KindHolds (K.roll-StmtKind z)) e (at_layer y)

  at_line : (z : s.Stmt-F StmtKind Stmt) → KindHolds z.what → StmtHolds (S.roll-Stmt z)
  unfolding kind_stands stmt_stands
  at_line z k names place h e =
      ap (λ (p : Stands). p place.inside) (S.fold-roll-Stmt Stands Stands stands_step stands_line z)
      ∙ k z.line names place h (ap (λ (c : Checked). c.1 names place) (sym (S.fold-roll-Stmt CheckedKind Checked (kind_check items)
      (line_check items) z)) ∙ e)

  at_stmts : (x : s.Stmt-F StmtKind Stmt) (y : s.Stmt-F KindWith StmtWith) → S.map-Stmt KindWith StmtWith StmtKind Stmt (λ k. k.0) (λ t. t.0) y ≡ x
      → StmtHolds (S.roll-Stmt x)
  at_stmts x y e = subst (λ (z : s.Stmt-F StmtKind Stmt). StmtHolds (S.roll-Stmt z)) e (at_line (record { line = y.line; what = y.what.0 }) y.what.1)

  stmt_well : (t : Stmt) → StmtHolds t
  stmt_well = S.ind-Stmt KindHolds StmtHolds at_kinds at_stmts

  with_all : (ts : List Stmt) → bare (map (λ t. (t, stmt_well t)) ts) ≡ ts
  with_all [] = refl
  with_all (t ∷ ts) = ap (λ (r : List Stmt). t ∷ r) (with_all ts)

  body_well : (ts : List Stmt) (names : Names) → block_faults items ts names (place_in home.Function) ≡ [] → body_stands ts ≡ true
  unfolding block_faults
  body_well ts names e =
      ap (λ (zs : List Stmt). all_stand (map stmt_stands zs) false) (sym (with_all ts))
      ∙ all_well (map (λ t. (t, stmt_well t)) ts) names (place_in home.Function) refl
      (ap (λ (zs : List Stmt). statements_faults (map (stmt_checked items) zs) names (place_in home.Function)) (with_all ts) ∙ e)

  -- ---- the functions of a program

  one_well : (k : i.the_data) (line : ℕ) (cs : List Callable) → declared_faults items line k ≡ [] → StandWell cs → StandWell (function_in k ++ cs)
  one_well (i.Function name params body) line cs e w =
      let n = none_both (callable_faults items home.Function line params body) (fault_unless (block_returns body) line NoReturn) e in
      let m = none_both (params_faults [] params line) (block_faults items body params (place_in home.Function)) n.0 in
      (body_well body params m.1, w)
  one_well (i.Task name params body) line cs e w = w
  one_well (i.Main body) line cs e w = w
  one_well (i.IntColumn name file field) line cs e w = w
  one_well (i.TextColumn name file field) line cs e w = w
  one_well (i.Lines name file) line cs e w = w

  functions_well : (rest : List Item) → flat_map (item_faults items) rest ≡ [] → StandWell (callables_of rest).functions
  functions_well [] e = tt
  functions_well (item ∷ rest) e =
      let n = none_both (item_faults items item) (flat_map (item_faults items) rest) e in
      one_well item.what item.line (callables_of rest).functions n.0 (functions_well rest n.1)

-- The functions of a program without faults are silent.
pub silent : (program : Program) (tree : CodeTree) → faults_of program ≡ [] → tree ≡ program_code program.items → AreSilent tree
silent program tree e is f =
    let n = none_both (again_faults [] program.items) _ e in
    let m = none_both (main_faults program.items program.last_line) _ n.1 in
    ap (λ (t : CodeTree). silent_block (item_at t.functions f).body) is
    ∙ functions_quiet (spaces_of program.items) (callables_of program.items).functions (program_code program.items).functions
    (coded program.items).functions (functions_well program.items program.items m.1) f
