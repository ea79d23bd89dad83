-- A block's number is its place among the blocks of the program: the n-th block of a code is the code of the n-th block of its source.
use Rattle.std.proofs.Common.{◌≡◌, ℕ, zero, suc, ◌+◌, List, [], ◌∷◌, ◌++◌, length, refl, sym, ◌∙◌, ap, subst, arith}
use Rattle.std.specs.Prelude.{map, Bool, true, false, Option, Some, None, slice_get}
use Rattle.spd_syntax.specs.declared.tree.StmtKind.{StmtKind}
use Rattle.spd_syntax.specs.declared.tree.StmtKind as K
use Rattle.spd_syntax.specs.declared.tree.StmtKind.TheOpen as s
use Rattle.spd_syntax.specs.declared.tree.Stmt.{Stmt}
use Rattle.spd_syntax.specs.declared.tree.Stmt as S
use Rattle.spd_syntax.specs.declared.tree.ItemKind.TheVariants as i
use Rattle.spd_code.specs.declared.stmt.CodeStmtKind.{CodeStmtKind}
use Rattle.spd_code.specs.declared.stmt.CodeStmtKind as CK
use Rattle.spd_code.specs.declared.stmt.CodeStmtKind.TheOpen as c
use Rattle.spd_code.specs.declared.stmt.CodeStmt.{CodeStmt}
use Rattle.spd_code.specs.declared.stmt.CodeStmt as CS
use Rattle.spd_code.specs.declared.stmt.CodeBlock.{CodeBlock}
use Rattle.spd_code.specs.declared.stmt.CodeBlock as CB
use Rattle.spd_meaning.specs.Names.{Names, binds}
use Rattle.spd_meaning.specs.Blocks.{SourceBlock, WithBlocks, blocks_of_stmts, bare_stmts, block_first, else_first, blocks_of_kind, blocks_kind_step, blocks_line_step, stmt_with_blocks, kind_with_blocks, body_blocks, blocks_of_item}
use Rattle.spd_code.specs.Resolved.{Spaces, Resolved, expression_code, resolve_kind, resolve_line, kind_code, kind_blocks, block_code, else_code, else_blocks, statements_code, blocks_within, statement_resolved, kind_resolved, code_of, blocks_of_body, item_blocks}
use Rattle.spd_code.specs.CodeBlocks.{Numbered, blocks_in_kind, blocks_in_stmts, number_kind, number_stmt, number_block, numbered_block, numbered_stmt, numbered_kind, code_blocks, codes_of_blocks}

-- ---- lists

abbrev NK : Type 0
NK = Numbered CodeStmtKind

abbrev NB : Type 0
NB = Numbered CodeBlock

abbrev NS : Type 0
NS = Numbered CodeStmt

abbrev WK : Type 0
WK = WithBlocks StmtKind

abbrev WS : Type 0
WS = WithBlocks Stmt

numbered_rolled_kind : (z : c.CodeStmtKind-F CodeStmtKind CodeBlock CodeStmt) → numbered_kind (CK.roll-CodeStmtKind z)
    ≡ number_kind (CK.map-CodeStmtKind CodeStmtKind CodeBlock CodeStmt NK NB NS numbered_kind numbered_block numbered_stmt z)
unfolding numbered_kind numbered_block numbered_stmt
numbered_rolled_kind z = CK.fold-roll-CodeStmtKind NK NB NS number_kind number_block number_stmt z

numbered_rolled_line : (z : c.CodeStmt-F CodeStmtKind CodeBlock CodeStmt) →
    numbered_stmt (CS.roll-CodeStmt z) ≡ number_stmt (record { line = z.line; next_block = z.next_block; what = numbered_kind z.what })
unfolding numbered_kind numbered_block numbered_stmt
numbered_rolled_line z = CS.fold-roll-CodeStmt NK NB NS number_kind number_block number_stmt z

numbered_rolled_block : (z : c.CodeBlock-F CodeStmtKind CodeBlock CodeStmt) →
    numbered_block (CB.roll-CodeBlock z) ≡ number_block (record { number = z.number; stmts = map numbered_stmt z.stmts })
unfolding numbered_kind numbered_block numbered_stmt
numbered_rolled_block z = CB.fold-roll-CodeBlock NK NB NS number_kind number_block number_stmt z

codes_append : (spaces : Spaces) (next : ℕ) (bs cs : List SourceBlock) →
    codes_of_blocks spaces next (bs ++ cs) ≡ codes_of_blocks spaces next bs ++ codes_of_blocks spaces (next + length bs) cs
codes_append spaces next [] cs = ap (λ (n : ℕ). codes_of_blocks spaces n cs) (omega arith)
codes_append spaces next (b ∷ bs) cs =
    ap (λ (r : List CodeBlock). code_of spaces b.names next b.stmts ∷ r)
    (codes_append spaces (suc next) bs cs ∙ ap (λ (n : ℕ). codes_of_blocks spaces (suc next) bs ++ codes_of_blocks spaces n cs) (omega arith))

length_append : (bs cs : List SourceBlock) → length (bs ++ cs) ≡ length bs + length cs
length_append [] cs = omega arith
length_append (b ∷ bs) cs = let h = length_append bs cs in omega (arith, h)

module _ (spaces : Spaces) where
  abbrev R : Type 0
  R = Resolved CodeStmt

  abbrev RK : Type 0
  RK = Resolved CodeStmtKind

  -- ---- what is to be shown

  record KindFacts (w : WK) (r : RK) (names : Names) (next : ℕ) : Type 0 where
    binds : w.binds ≡ r.binds
    count : length (w.blocks names) ≡ r.blocks
    itself : (numbered_kind (r.code names next)).itself ≡ r.code names next
    blocks : (numbered_kind (r.code names next)).blocks ≡ codes_of_blocks spaces next (w.blocks names)

  record StmtFacts (w : WS) (r : R) (names : Names) (next : ℕ) : Type 0 where
    binds : w.binds ≡ r.binds
    count : length (w.blocks names) ≡ r.blocks
    itself : (numbered_stmt (r.code names next)).itself ≡ r.code names next
    blocks : (numbered_stmt (r.code names next)).blocks ≡ codes_of_blocks spaces next (w.blocks names)

  abbrev KindHolds : StmtKind → Type 0
  KindHolds k = ((kind_with_blocks k).itself ≡ k) × ((names : Names) (next : ℕ) → KindFacts (kind_with_blocks k) (kind_resolved spaces k) names next)

  abbrev StmtHolds : Stmt → Type 0
  StmtHolds t = ((stmt_with_blocks t).itself ≡ t) × ((names : Names) (next : ℕ) → StmtFacts (stmt_with_blocks t) (statement_resolved spaces t) names next)

  abbrev KindWith : Type 0
  KindWith = (k : StmtKind) × KindHolds k

  abbrev StmtWith : Type 0
  StmtWith = (t : Stmt) × StmtHolds t

  abbrev bare : List StmtWith → List Stmt
  bare ts = map (λ (t : StmtWith). t.0) ts

  abbrev sources : List StmtWith → List WS
  sources ts = map stmt_with_blocks (bare ts)

  abbrev resolved : List StmtWith → List R
  resolved ts = map (statement_resolved spaces) (bare ts)

  -- ---- statements of a block

  same_stmts : (ts : List StmtWith) → bare_stmts (sources ts) ≡ bare ts
  same_stmts [] = refl
  same_stmts (t ∷ ts) = ap (λ (x : Stmt). x ∷ bare_stmts (sources ts)) t.1.0 ∙ ap (λ (xs : List Stmt). t.0 ∷ xs) (same_stmts ts)

  count_stmts : (ts : List StmtWith) (names : Names) → length (blocks_of_stmts (sources ts) names) ≡ blocks_within (resolved ts)
  count_stmts [] names = refl
  count_stmts (t ∷ ts) names =
      let w = stmt_with_blocks t.0 in
      let f = t.1.1 names 0 in
      let h = count_stmts ts (names ++ w.binds) in
      length_append (w.blocks names) (blocks_of_stmts (sources ts) (names ++ w.binds))
      ∙ (let c = f.count in omega (arith, c, h))

  itself_stmts : (ts : List StmtWith) (names : Names) (next : ℕ) →
      map (λ (n : NS). n.itself) (map numbered_stmt (statements_code (resolved ts) names next)) ≡ statements_code (resolved ts) names next
  itself_stmts [] names next = refl
  itself_stmts (t ∷ ts) names next =
      let r = statement_resolved spaces t.0 in
      let rest = statements_code (resolved ts) (names ++ r.binds) (next + r.blocks) in
      ap (λ (x : CodeStmt). x ∷ map (λ (n : NS). n.itself) (map numbered_stmt rest)) (t.1.1 names next).itself
      ∙ ap (λ (xs : List CodeStmt). r.code names next ∷ xs) (itself_stmts ts (names ++ r.binds) (next + r.blocks))

  blocks_stmts : (ts : List StmtWith) (names : Names) (next : ℕ) →
      blocks_in_stmts (map numbered_stmt (statements_code (resolved ts) names next)) ≡ codes_of_blocks spaces next (blocks_of_stmts (sources ts) names)
  blocks_stmts [] names next = refl
  blocks_stmts (t ∷ ts) names next =
      let r = statement_resolved spaces t.0 in
      let w = stmt_with_blocks t.0 in
      let f = t.1.1 names next in
      let rest = statements_code (resolved ts) (names ++ r.binds) (next + r.blocks) in
      ap (λ (xs : List CodeBlock). xs ++ blocks_in_stmts (map numbered_stmt rest)) f.blocks
      ∙ ap (λ (xs : List CodeBlock). codes_of_blocks spaces next (w.blocks names) ++ xs) (blocks_stmts ts (names ++ r.binds) (next + r.blocks))
      ∙ ap (λ (ns : Names). codes_of_blocks spaces next (w.blocks names) ++ codes_of_blocks spaces (next + r.blocks)
      (blocks_of_stmts (sources ts) (names ++ ns))) (sym f.binds)
      ∙ ap (λ (n : ℕ). codes_of_blocks spaces next (w.blocks names) ++ codes_of_blocks spaces (next + n) (blocks_of_stmts (sources ts) (names ++ w.binds)))
      (sym f.count)
      ∙ sym (codes_append spaces next (w.blocks names) (blocks_of_stmts (sources ts) (names ++ w.binds)))

  -- ---- blocks

  itself_block : (ts : List StmtWith) (names : Names) (next : ℕ) → (numbered_block (block_code (resolved ts) names next)).itself
      ≡ block_code (resolved ts) names next
  itself_block ts names next =
      let stmts = statements_code (resolved ts) names (suc next) in
      ap (λ (n : NB). n.itself) (numbered_rolled_block (record { number = Some next; stmts = stmts }))
      ∙ ap (λ (xs : List CodeStmt). CB.roll-CodeBlock (record { number = Some next; stmts = xs })) (itself_stmts ts names (suc next))

  blocks_block : (part : Bool) (ts : List StmtWith) (names : Names) (next : ℕ) →
      code_blocks (block_code (resolved ts) names next) ≡ codes_of_blocks spaces next (block_first part (sources ts) names)
  blocks_block part ts names next =
      let stmts = statements_code (resolved ts) names (suc next) in
      ap (λ (n : NB). n.blocks) (numbered_rolled_block (record { number = Some next; stmts = stmts }))
      ∙ ap (λ (xs : List CodeStmt). CB.roll-CodeBlock (record { number = Some next; stmts = xs }) ∷ blocks_in_stmts (map numbered_stmt stmts))
      (itself_stmts ts names (suc next))
      ∙ ap (λ (bs : List CodeBlock). block_code (resolved ts) names next ∷ bs) (blocks_stmts ts names (suc next))
      ∙ ap (λ (xs : List Stmt). code_of spaces names next xs ∷ codes_of_blocks spaces (suc next) (blocks_of_stmts (sources ts) names)) (sym (same_stmts ts))

  itself_else : (ts : List StmtWith) (names : Names) (next : ℕ) → (numbered_block (else_code (resolved ts) names next)).itself
      ≡ else_code (resolved ts) names next
  itself_else [] names next = ap (λ (n : NB). n.itself) (numbered_rolled_block (record { number = None; stmts = [] }))
  itself_else (t ∷ ts) names next = itself_block (t ∷ ts) names next

  blocks_else : (ts : List StmtWith) (names : Names) (next : ℕ) →
      code_blocks (else_code (resolved ts) names next) ≡ codes_of_blocks spaces next (else_first (sources ts) names)
  blocks_else [] names next = ap (λ (n : NB). n.blocks) (numbered_rolled_block (record { number = None; stmts = [] }))
  blocks_else (t ∷ ts) names next = blocks_block false (t ∷ ts) names next

  count_else : (ts : List StmtWith) (names : Names) → length (else_first (sources ts) names) ≡ else_blocks (resolved ts)
  count_else [] names = refl
  count_else (t ∷ ts) names = ap suc (count_stmts (t ∷ ts) names)

  -- ---- statements

  abbrev layer : s.StmtKind-F StmtKind Stmt → s.StmtKind-F RK R
  layer z = K.map-StmtKind StmtKind Stmt RK R (kind_resolved spaces) (statement_resolved spaces) z

  abbrev source_layer : s.StmtKind-F StmtKind Stmt → s.StmtKind-F WK WS
  source_layer z = K.map-StmtKind StmtKind Stmt WK WS kind_with_blocks stmt_with_blocks z

  abbrev numbered_layer : c.CodeStmtKind-F CodeStmtKind CodeBlock CodeStmt → c.CodeStmtKind-F NK NB NS
  numbered_layer z = CK.map-CodeStmtKind CodeStmtKind CodeBlock CodeStmt NK NB NS numbered_kind numbered_block numbered_stmt z

  record LayerFacts (z : s.StmtKind-F StmtKind Stmt) (names : Names) (next : ℕ) : Type 0 where
    binds : (blocks_kind_step (source_layer z)).binds ≡ binds (layer z)
    count : length (blocks_of_kind (source_layer z) names) ≡ kind_blocks (layer z)
    itself : (number_kind (numbered_layer (kind_code spaces (layer z) names next))).itself ≡ CK.roll-CodeStmtKind (kind_code spaces (layer z) names next)
    blocks : blocks_in_kind (numbered_layer (kind_code spaces (layer z) names next)) ≡ codes_of_blocks spaces next (blocks_of_kind (source_layer z) names)

  rolled : (z : s.StmtKind-F StmtKind Stmt) → (blocks_kind_step (source_layer z)).itself ≡ K.roll-StmtKind z →
      ((names : Names) (next : ℕ) → LayerFacts z names next) → KindHolds (K.roll-StmtKind z)
  rolled z e q =
      let w : kind_with_blocks (K.roll-StmtKind z) ≡ blocks_kind_step (source_layer z) = K.fold-roll-StmtKind WK WS blocks_kind_step blocks_line_step z in
      let r : kind_resolved spaces (K.roll-StmtKind z) ≡ resolve_kind spaces (layer z) =
      K.fold-roll-StmtKind RK R (resolve_kind spaces) (resolve_line spaces) z in (
        ap (λ (x : WK). x.itself) w ∙ e,
        λ names next.
            let code = kind_code spaces (layer z) names next in
            let n = numbered_rolled_kind code in
            let f = q names next in
            subst (λ (x : WK). KindFacts x (kind_resolved spaces (K.roll-StmtKind z)) names next) (sym w)
            (subst (λ (y : RK). KindFacts (blocks_kind_step (source_layer z)) y names next) (sym r)
            (record {
              binds = f.binds;
              count = f.count;
              itself = ap (λ (x : NK). x.itself) n ∙ f.itself;
              blocks = ap (λ (x : NK). x.blocks) n ∙ f.blocks;
            })),
      )

  at_layer : (y : s.StmtKind-F KindWith StmtWith) → KindHolds (K.roll-StmtKind (K.map-StmtKind KindWith StmtWith StmtKind Stmt (λ k. k.0) (λ t. t.0) y))
  at_layer (s.Let name e) = rolled (s.Let name e) refl (λ names next. record { binds = refl; count = refl; itself = refl; blocks = refl })
  at_layer (s.Assign name e) = rolled (s.Assign name e) refl (λ names next. record { binds = refl; count = refl; itself = refl; blocks = refl })
  at_layer (s.LetCall name callee args) =
      rolled (s.LetCall name callee args) refl (λ names next. record { binds = refl; count = refl; itself = refl; blocks = refl })
  at_layer (s.Run callee args) = rolled (s.Run callee args) refl (λ names next. record { binds = refl; count = refl; itself = refl; blocks = refl })
  at_layer (s.Offer e) = rolled (s.Offer e) refl (λ names next. record { binds = refl; count = refl; itself = refl; blocks = refl })
  at_layer (s.Return e) = rolled (s.Return e) refl (λ names next. record { binds = refl; count = refl; itself = refl; blocks = refl })
  at_layer (s.Print ps) = rolled (s.Print ps) refl (λ names next. record { binds = refl; count = refl; itself = refl; blocks = refl })
  at_layer (s.Async body) = rolled (s.Async (bare body)) (ap (λ (ts : List Stmt). K.roll-StmtKind (s.Async ts)) (same_stmts body)) (λ names next. record {
    binds = refl;
    count = ap suc (count_stmts body names);
    itself = ap (λ (b : CodeBlock). CK.roll-CodeStmtKind (c.Async b)) (itself_block body names next);
    blocks = blocks_block true body names next;
  })
  at_layer (s.Finish body) = rolled (s.Finish (bare body)) (ap (λ (ts : List Stmt). K.roll-StmtKind (s.Finish ts)) (same_stmts body)) (λ names next. record {
    binds = refl;
    count = ap suc (count_stmts body names);
    itself = ap (λ (b : CodeBlock). CK.roll-CodeStmtKind (c.Finish b)) (itself_block body names next);
    blocks = blocks_block true body names next;
  })
  at_layer (s.LetFinish name k body) =
      rolled (s.LetFinish name k (bare body)) (ap (λ (ts : List Stmt). K.roll-StmtKind (s.LetFinish name k ts)) (same_stmts body)) (λ names next. record {
        binds = refl;
        count = ap suc (count_stmts body names);
        itself = ap (λ (b : CodeBlock). CK.roll-CodeStmtKind (c.LetFinish k b)) (itself_block body names next);
        blocks = blocks_block true body names next;
      })
  at_layer (s.For name from to body) =
      rolled (s.For name from to (bare body)) (ap (λ (ts : List Stmt). K.roll-StmtKind (s.For name from to ts)) (same_stmts body)) (λ names next. record {
        binds = refl;
        count = ap suc (count_stmts body (names ++ name ∷ []));
        itself = ap (λ (b : CodeBlock). CK.roll-CodeStmtKind (c.For (expression_code spaces names from) (expression_code spaces names to) b))
            (itself_block body (names ++ name ∷ []) next);
        blocks = blocks_block false body (names ++ name ∷ []) next;
      })
  at_layer (s.If e first second) = rolled (s.If e (bare first) (bare second))
      (ap (λ (ts : List Stmt). K.roll-StmtKind (s.If e ts (bare_stmts (sources second)))) (same_stmts first)
      ∙ ap (λ (ts : List Stmt). K.roll-StmtKind (s.If e (bare first) ts)) (same_stmts second))
      (λ names next.
      let behind = next + suc (blocks_within (resolved first)) in
      record {
        binds = refl;
        count = if_count first second names;
        itself =
            ap (λ (b : CodeBlock). CK.roll-CodeStmtKind
            (c.If (expression_code spaces names e) b (numbered_block (else_code (resolved second) names behind)).itself)) (itself_block first names next)
            ∙ ap (λ (b : CodeBlock). CK.roll-CodeStmtKind (c.If (expression_code spaces names e) (block_code (resolved first) names next) b))
            (itself_else second names behind);
        blocks = if_blocks first second names next;
      })
    where
      if_count : (first second : List StmtWith) (names : Names) → length (block_first false (sources first) names ++ else_first (sources second) names)
          ≡ suc (blocks_within (resolved first)) + else_blocks (resolved second)
      if_count first second names =
          let a = count_stmts first names in
          let b = count_else second names in
          length_append (block_first false (sources first) names) (else_first (sources second) names) ∙ omega (arith, a, b)

      if_blocks : (first second : List StmtWith) (names : Names) (next : ℕ) →
          code_blocks (block_code (resolved first) names next) ++ code_blocks (else_code (resolved second) names (next + suc (blocks_within (resolved first))))
          ≡ codes_of_blocks spaces next (block_first false (sources first) names ++ else_first (sources second) names)
      if_blocks first second names next =
          let one = block_first false (sources first) names in
          let two = else_first (sources second) names in
          ap (λ (bs : List CodeBlock). bs ++ code_blocks (else_code (resolved second) names (next + suc (blocks_within (resolved first)))))
          (blocks_block false first names next)
          ∙ ap (λ (bs : List CodeBlock). codes_of_blocks spaces next one ++ bs) (blocks_else second names (next + suc (blocks_within (resolved first))))
          ∙ ap (λ (n : ℕ). codes_of_blocks spaces next one ++ codes_of_blocks spaces (next + suc n) two) (sym (count_stmts first names))
          ∙ sym (codes_append spaces next one two)

  at_kinds : (x : s.StmtKind-F StmtKind Stmt) (y : s.StmtKind-F KindWith StmtWith) → K.map-StmtKind KindWith StmtWith StmtKind Stmt (λ k. k.0) (λ t. t.0) y
      ≡ x → KindHolds (K.roll-StmtKind x)
  at_kinds x y e = subst (λ (z : s.StmtKind-F StmtKind Stmt). KindHolds (K.roll-StmtKind z)) e (at_layer y)

  at_line : (z : s.Stmt-F StmtKind Stmt) → KindHolds z.what → StmtHolds (S.roll-Stmt z)
  at_line z k =
      let v = kind_with_blocks z.what in
      let q = kind_resolved spaces z.what in
      let w : stmt_with_blocks (S.roll-Stmt z) ≡ blocks_line_step (record { line = z.line; what = v }) =
      S.fold-roll-Stmt WK WS blocks_kind_step blocks_line_step z in
      let r : statement_resolved spaces (S.roll-Stmt z) ≡ resolve_line spaces (record { line = z.line; what = q }) =
      S.fold-roll-Stmt RK R (resolve_kind spaces) (resolve_line spaces) z in (
        ap (λ (x : WS). x.itself) w ∙ ap (λ (x : StmtKind). S.roll-Stmt (record { line = z.line; what = x })) k.0,
        λ names next.
            let f = k.1 names next in
            let n = numbered_rolled_line (record { line = z.line; next_block = next; what = q.code names next }) in
            subst (λ (x : WS). StmtFacts x (statement_resolved spaces (S.roll-Stmt z)) names next) (sym w)
            (subst (λ (y : R). StmtFacts (blocks_line_step (record { line = z.line; what = v })) y names next) (sym r)
            (record {
              binds = f.binds;
              count = f.count;
              itself = ap (λ (x : NS). x.itself) n ∙ ap (λ (x : CodeStmtKind). CS.roll-CodeStmt (record { line = z.line; next_block = next; what = x }))
                  f.itself;
              blocks = ap (λ (x : NS). x.blocks) n ∙ f.blocks;
            })),
      )

  at_stmts : (x : s.Stmt-F StmtKind Stmt) (y : s.Stmt-F KindWith StmtWith) → S.map-Stmt KindWith StmtWith StmtKind Stmt (λ k. k.0) (λ t. t.0) y ≡ x →
      StmtHolds (S.roll-Stmt x)
  at_stmts x y e = subst (λ (z : s.Stmt-F StmtKind Stmt). StmtHolds (S.roll-Stmt z)) e (at_line (record { line = y.line; what = y.what.0 }) y.what.1)

  stmt_facts : (t : Stmt) → StmtHolds t
  stmt_facts = S.ind-Stmt KindHolds StmtHolds at_kinds at_stmts

  with_all : (ts : List Stmt) → bare (map (λ t. (t, stmt_facts t)) ts) ≡ ts
  with_all [] = refl
  with_all (t ∷ ts) = ap (λ (r : List Stmt). t ∷ r) (with_all ts)

  -- the statements of a source block are those that it was made of
  pub stmts_are : (ts : List Stmt) → bare_stmts (map stmt_with_blocks ts) ≡ ts
  stmts_are ts =
      ap (λ (zs : List Stmt). bare_stmts (map stmt_with_blocks zs)) (sym (with_all ts)) ∙ same_stmts (map (λ t. (t, stmt_facts t)) ts) ∙ with_all ts

  -- The blocks of a body are as many as its source has.
  pub body_count : (ts : List Stmt) (names : Names) → length (body_blocks names ts) ≡ blocks_of_body spaces ts
  body_count ts names =
      ap (λ (zs : List Stmt). length (body_blocks names zs)) (sym (with_all ts))
      ∙ ap suc (count_stmts (map (λ t. (t, stmt_facts t)) ts) names)
      ∙ ap (λ (zs : List Stmt). blocks_of_body spaces zs) (with_all ts)

  -- Block for block, those of a body's code are the codes of those of its source, under their numbers.
  pub body_numbered : (ts : List Stmt) (names : Names) (next : ℕ) → code_blocks (code_of spaces names next ts) ≡ codes_of_blocks spaces next
      (body_blocks names ts)
  body_numbered ts names next =
      ap (λ (zs : List Stmt). code_blocks (code_of spaces names next zs)) (sym (with_all ts))
      ∙ blocks_block false (map (λ t. (t, stmt_facts t)) ts) names next
      ∙ ap (λ (zs : List Stmt). codes_of_blocks spaces next (body_blocks names zs)) (with_all ts)

  -- An item has as many blocks as its source.
  pub item_count : (what : i.the_data) → length (blocks_of_item what) ≡ item_blocks spaces what
  item_count (i.IntColumn name file field) = refl
  item_count (i.TextColumn name file field) = refl
  item_count (i.Lines name file) = refl
  item_count (i.Function name params body) = body_count body params
  item_count (i.Task name params body) = body_count body params
  item_count (i.Main body) = body_count body []

  -- the code of the block at a place
  pub block_there : (bs : List SourceBlock) (next n : ℕ) (b : SourceBlock) → slice_get bs n ≡ Some b → slice_get (codes_of_blocks spaces next bs) n
      ≡ Some (code_of spaces b.names (next + n) b.stmts)
  block_there [] next n b e = absurd (cc)
  block_there (x ∷ bs) next zero b e =
      ap (λ (o : Option SourceBlock). code_at o next) e ∙ ap (λ (n : ℕ). Some (code_of spaces b.names n b.stmts)) (omega arith)
    where
      code_at : Option SourceBlock → ℕ → Option CodeBlock
      code_at (Some x) n = Some (code_of spaces x.names n x.stmts)
      code_at None n = None
  block_there (x ∷ bs) next (suc n) b e =
      block_there bs (suc next) n b e ∙ ap (λ (n : ℕ). Some (code_of spaces b.names n b.stmts)) (omega arith)
