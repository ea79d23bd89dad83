-- Bindings, conditions and blocks: spelled again by their canonical symbols, but for their lines.
use Rattle.std.proofs.Common.{◌≡◌, ℕ, List, [], ◌∷◌, ◌++◌, ◌⊎◌, map, flat_map, refl, sym, ◌∙◌, ap, subst, inl, inr, append_assoc}
use Rattle.std.proofs.lemmas.List.{append-nil, map-append}
use Rattle.std.proofs.lemmas.List.Concat.{flat_map-append}
use Rattle.spd_syntax.specs.declared.token.Word.{Word}
use Rattle.spd_syntax.specs.declared.token.Word.TheVariants as w
use Rattle.spd_syntax.specs.declared.token.Mark.TheVariants as m
use Rattle.spd_syntax.specs.declared.tree.Collect.{Collect}
use Rattle.spd_syntax.specs.declared.tree.Collect.TheVariants as c
use Rattle.spd_syntax.specs.declared.tree.StmtKind.TheVariants as s
use Rattle.spd_syntax.specs.declared.tree.Stmt.{Stmt}
use Rattle.spd_syntax.specs.Tokens as t
use Rattle.spd_syntax.specs.Tokens.{Symbol, Seen}
use Rattle.spd_syntax.specs.Symbols.{same_word, same_mark}
use Rattle.spd_syntax.specs.Shape.{ByteList, stmts, Shape, give, either, Nonterminal, NonterminalValue, Spelling}
use Rattle.spd_syntax.specs.Shapes.{◌◃◌, ◌⊛◌, ◌▹◌, ◌⊲◌, a_word, word, mark, name}
use Rattle.spd_syntax.specs.Grammar.{stmt, block, called, Letting, collect_kind, let_finish, let_value, let_statement, otherwise, if_statement, statement, a_statement, statements, expression}
use Rattle.spd_canonical.specs.Canonical.{in_parens, with_commas, expression_symbols, statement_symbols, block_symbols, in_braces, else_symbols, collecting_word, let_finish_front}
use Rattle.spd_canonical.specs.Lines.{statement_but_lines, block_but_lines}
use Rattle.spd_canonical.proofs.Equations as q
use Rattle.spd_canonical.proofs.SameCounts.{SameCounts, same_self, same_as, same_then, same_both, same_else}
use Rattle.spd_canonical.proofs.Says.{symbols, Says, says_so, says_as, says_give, says_both, says_first, says_second, says_token, All, all_give, all_both, all_either, all_token}
use Rattle.spd_canonical.proofs.KindSymbols.{word_symbol}
use Rattle.spd_canonical.proofs.AgainPrimaries.{symbols_in, Good}
use Rattle.spd_canonical.proofs.Again.{Very, Whatever, Again, all_so, again_give, again_both, again_map, again_drop, again_skip, again_either, again_folds, AreWord, AreMark, AreName, AreExpression, again_word, again_mark, again_name}
use Rattle.spd_syntax.proofs.LetForms.{call_form, value_form, let_forms, to_forms, from_forms}
use Rattle.spd_canonical.proofs.Alike.{AlikeStmt, AlikeBlock, alike_by, very_alike}
use Rattle.spd_canonical.proofs.AgainStatements.{AreStatement, AreBlock, are_by, exp}
use Rattle.spd_syntax.specs.Shapes.{snoc}
use Rattle.spd_canonical.proofs.AgainBlocks.{the_block, the_args, again_async, again_finish, again_offer, again_return, again_run, again_assign, again_for, again_print}

-- of what stands behind `let name =`, whatever line and name are
abbrev pub AlikeLetting : Letting → Letting → Type 0
AlikeLetting f g = (l k : ℕ) (n : ByteList) → AlikeStmt (f l n) (g k n)

abbrev pub AreLetting : Letting → List Symbol → Type 0
AreLetting f ss = (l : ℕ) (n : ByteList) → t.word w.Let ∷ t.name n ∷ t.mark m.Assign ∷ ss ≡ statement_symbols (f l n)

abbrev AreCollect : Collect → List Symbol → Type 0
AreCollect kind ss = ss ≡ t.word (collecting_word kind) ∷ []

module _ (inner : Spelling) (good : (rule : Nonterminal) (x : NonterminalValue rule) (us : List Seen) → inner rule x us → Good inner rule x (symbols us)) where
  collect_as : (which : Word) (kind : Collect) (z : Symbol) → collecting_word kind ≡ which → z ≡ t.word which
      → Says inner collect_kind (Very kind) (t.word which ∷ []) → Again inner collect_kind Very AreCollect kind (z ∷ [])
  collect_as which kind z is same says = record {
    again = t.word which ∷ [];
    are = ap (λ (v : Word). t.word v ∷ []) (sym is);
    says = says;
    same =
        same_as (z ∷ []) (t.word which ∷ []) (ap (λ (x : Symbol). x ∷ []) same);
  }

  again_collect : All inner collect_kind (Again inner collect_kind Very AreCollect)
  unfolding collect_kind same_word
  again_collect = all_token inner _ (Again inner collect_kind Very AreCollect) (
    (λ z line same lawful. collect_as w.Sum c.Sum z refl (word_symbol w.Sum z same)
        (says_token inner _ (Very c.Sum) (t.word w.Sum) (λ bytes line. c.Sum) refl tt (λ l. refl))),
    (
      (λ z line same lawful. collect_as w.Least c.Least z refl (word_symbol w.Least z same)
          (says_token inner _ (Very c.Least) (t.word w.Least) (λ bytes line. c.Least) refl tt (λ l. refl))),
      (
        (λ z line same lawful. collect_as w.Greatest c.Greatest z refl (word_symbol w.Greatest z same)
            (says_token inner _ (Very c.Greatest) (t.word w.Greatest) (λ bytes line. c.Greatest) refl tt (λ l. refl))),
        tt,
      ),
    ),
  )

  again_let_finish : All inner let_finish (Again inner let_finish AlikeLetting AreLetting)
  unfolding let_finish same_word
  again_let_finish =
      again_both inner _ AlikeBlock _ AreBlock ((λ kind body l n. stmt l (s.LetFinish n kind body)) ◃ (word w.Finish ▹ collect_kind)) block
      (again_map inner _ Very _ (λ kind ss. ss ≡ t.word w.Finish ∷ t.word (collecting_word kind) ∷ []) (λ kind body l n. stmt l (s.LetFinish n kind body))
      (word w.Finish ▹ collect_kind)
      (λ kind kind' a x y b l k n. alike_by l k (s.LetFinish n kind x) (s.LetFinish n kind' y)
      (q.bare_let_finish n kind' y ∙ rw a (ap (λ (v : List Stmt). s.LetFinish n kind v) b.bare) ∙ sym (q.bare_let_finish n kind x))
      (q.symbols_let_finish n kind' y ∙ rw a (ap (λ (v : List (List Symbol)). let_finish_front n kind ++ in_braces v) b.text)
      ∙ sym (q.symbols_let_finish n kind x)))
      (λ kind us is x vs a l n. are_by l (s.LetFinish n kind x) (t.word w.Let ∷ t.name n ∷ t.mark m.Assign ∷ (us ++ vs))
      (rw (is, a) (sym (q.symbols_let_finish n kind x))))
      (again_skip inner Very Whatever (λ kind ss. ss ≡ t.word w.Finish ∷ t.word (collecting_word kind) ∷ []) AreCollect (AreWord inner w.Finish)
      (word w.Finish) collect_kind (λ y us x vs a b. rw (a, b) refl) (again_word inner w.Finish refl) again_collect))
      (the_block inner good)

  again_call_form : All inner call_form (Again inner call_form AlikeLetting AreLetting)
  unfolding same_mark
  again_call_form =
      again_drop inner _ Whatever _ (AreMark inner m.Semicolon) ((λ callee xs l n. stmt l (s.LetCall n callee xs)) ◃ name ⊛ called) (mark m.Semicolon)
      (again_both inner _ Very _ (λ xs ss. ss ≡ in_parens (with_commas expression_symbols xs)) ((λ callee xs l n. stmt l (s.LetCall n callee xs)) ◃ name) called
      (again_map inner _ Very _ (AreName inner) (λ callee xs l n. stmt l (s.LetCall n callee xs)) name
      (λ f g a x y b l k n. very_alike l k (s.LetCall n f x) (s.LetCall n g y) (rw (a, b) refl))
      (λ f us is x vs a l' ws b l n. are_by l (s.LetCall n f x) (t.word w.Let ∷ t.name n ∷ t.mark m.Assign ∷ ((us ++ vs) ++ ws))
      (rw (is, a, b) (sym (q.symbols_let_call n f x))))
      (again_name inner)) (the_args inner good)) (again_mark inner m.Semicolon refl)

  again_value_form : All inner value_form (Again inner value_form AlikeLetting AreLetting)
  unfolding same_mark
  again_value_form =
      again_drop inner _ Whatever _ (AreMark inner m.Semicolon) ((λ x l n. stmt l (s.Let n x)) ◃ expression) (mark m.Semicolon)
      (again_map inner _ Very _ (AreExpression inner) (λ x l n. stmt l (s.Let n x)) expression
      (λ x y a l k n. very_alike l k (s.Let n x) (s.Let n y) (rw a refl))
      (λ x us a l' ws b l n. are_by l (s.Let n x) (t.word w.Let ∷ t.name n ∷ t.mark m.Assign ∷ (us ++ ws)) (rw (a, b) (sym (q.symbols_let n x))))
      (exp inner good)) (again_mark inner m.Semicolon refl)

  again_let_forms : All inner let_forms (Again inner let_forms AlikeLetting AreLetting)
  again_let_forms = again_either inner AlikeLetting AreLetting [] let_finish (either [] call_form value_form) again_let_finish
      (again_either inner AlikeLetting AreLetting [] call_form value_form again_call_form again_value_form)

  again_let_value : All inner let_value (Again inner let_value AlikeLetting AreLetting)
  again_let_value = record {
    of = λ f ts k. let h = again_let_forms.of f ts (to_forms inner f ts k) in
        record { again = h.again; are = h.are; says = says_as inner let_forms let_value (AlikeLetting f) h.again (from_forms inner) h.says; same = h.same };
  }

  again_let : All inner let_statement (Again inner let_statement AlikeStmt AreStatement)
  unfolding let_statement same_word same_mark
  again_let =
      again_both inner _ AlikeLetting _ AreLetting ((λ l n f. f l n) ◃ word w.Let ⊛ name ⊲ mark m.Assign) let_value
      (again_drop inner _ Whatever _ (AreMark inner m.Assign) ((λ l n f. f l n) ◃ word w.Let ⊛ name) (mark m.Assign)
      (again_both inner _ Very _ (AreName inner) ((λ l n f. f l n) ◃ word w.Let) name
      (again_map inner _ Whatever _ (AreWord inner w.Let) (λ l n f. f l n) (word w.Let)
      (λ l k any n o a f g b. rw a (b l k n))
      (λ l us is n vs is' l' ws is'' f zs a. rw (is, is', is'') (a l n)) (again_word inner w.Let refl))
      (again_name inner)) (again_mark inner m.Assign refl)) again_let_value

  -- ---- conditions

  -- an `else` that stands before an empty block goes
  pub record KeptElse (xs : List Stmt) (ss : List Symbol) : Type 0 where
    pub says : Says inner otherwise (AlikeBlock xs) (else_symbols (map statement_symbols xs))
    pub same : SameCounts ss (else_symbols (map statement_symbols xs)) ⊎
        ((xs ≡ []) × SameCounts ss (t.word w.Else ∷ t.mark m.LeftBrace ∷ t.mark m.RightBrace ∷ []))

  nothing_kept : Says inner otherwise (AlikeBlock []) []
  unfolding otherwise
  nothing_kept = says_second inner (a_word w.Else) (word w.Else ▹ block) (give []) (AlikeBlock []) []
      (says_give inner [] (AlikeBlock []) (record { bare = refl; text = refl }))

  else_kept : (xs : List Stmt) (ss : List Symbol) → Again inner (word w.Else ▹ block) AlikeBlock (λ ys us. us ≡ t.word w.Else ∷ block_symbols ys) xs ss
      → KeptElse xs ss
  unfolding otherwise
  else_kept [] ss h = record { says = nothing_kept; same = inr (refl, subst (λ (us : List Symbol). SameCounts ss us) h.are h.same) }
  else_kept (x ∷ xs) ss h = record {
    says = says_first inner (a_word w.Else) (word w.Else ▹ block) (give []) (AlikeBlock (x ∷ xs)) (else_symbols (map statement_symbols (x ∷ xs)))
        (subst (λ (us : List Symbol). Says inner (word w.Else ▹ block) (AlikeBlock (x ∷ xs)) us) h.are h.says);
    same = inl (subst (λ (us : List Symbol). SameCounts ss us) h.are h.same);
  }

  all_otherwise : All inner otherwise KeptElse
  unfolding otherwise same_word
  all_otherwise =
      all_either inner (a_word w.Else) (word w.Else ▹ block) (give []) KeptElse
      (all_so inner (word w.Else ▹ block) (Again inner (word w.Else ▹ block) AlikeBlock (λ ys us. us ≡ t.word w.Else ∷ block_symbols ys)) KeptElse else_kept
      (again_skip inner AlikeBlock Whatever (λ ys us. us ≡ t.word w.Else ∷ block_symbols ys) AreBlock (AreWord inner w.Else) (word w.Else) block
      (λ y us x vs a b. rw (a, b) refl) (again_word inner w.Else refl) (the_block inner good)))
      (all_give inner [] KeptElse (record { says = nothing_kept; same = inl (same_self []) }))

  -- symbols that end with a closed brace
  record EndsBlock (ss : List Symbol) : Type 0 where
    before : List Symbol
    is : ss ≡ before ++ t.mark m.RightBrace ∷ []

  block_ends : (us : List Symbol) (ys : List Stmt) → EndsBlock (us ++ block_symbols ys)
  block_ends us ys = record {
    before = us ++ t.mark m.LeftBrace ∷ flat_map (λ ss. ss) (map statement_symbols ys);
    is =
        sym (append_assoc us (t.mark m.LeftBrace ∷ flat_map (λ ss. ss) (map statement_symbols ys)) (t.mark m.RightBrace ∷ []));
  }

  abbrev Front : Type 0
  Front = List Stmt → Stmt

  abbrev FrontAlike : Front → Front → Type 0
  FrontAlike f g = (x y : List Stmt) → AlikeBlock x y → AlikeStmt (f x) (g y)

  record AreFront (f : Front) (ss : List Symbol) : Type 0 where
    are : (x : List Stmt) → ss ++ else_symbols (map statement_symbols x) ≡ statement_symbols (f x)
    ends : EndsBlock ss

  abbrev if_front' : Shape Front
  if_front' = (λ l x yes' no'. stmt l (s.If x yes' no')) ◃ word w.If ⊛ expression ⊛ block

  again_front : All inner if_front' (Again inner if_front' FrontAlike AreFront)
  unfolding same_word
  again_front =
      again_both inner _ AlikeBlock _ AreBlock ((λ l x yes' no'. stmt l (s.If x yes' no')) ◃ word w.If ⊛ expression) block
      (again_both inner _ Very _ (AreExpression inner) ((λ l x yes' no'. stmt l (s.If x yes' no')) ◃ word w.If) expression
      (again_map inner _ Whatever _ (AreWord inner w.If) (λ l x yes' no'. stmt l (s.If x yes' no')) (word w.If)
      (λ l k any x x' a y y' b z z' d. alike_by l k (s.If x y z) (s.If x' y' z') (q.bare_if x' y' z' ∙ rw (a, b.bare, d.bare) refl ∙ sym (q.bare_if x y z))
      (q.symbols_if x' y' z' ∙ rw (a, b.text, d.text) refl ∙ sym (q.symbols_if x y z)))
      (λ l us is x vs a y ws b. record {
        are = λ z. are_by l (s.If x y z) (((us ++ vs) ++ ws) ++ else_symbols (map statement_symbols z)) (rw (is, a, b) (sym (q.symbols_if x y z)));
        ends = subst (λ (zs : List Symbol). EndsBlock ((us ++ vs) ++ zs)) (sym b) (block_ends (us ++ vs) y);
      }) (again_word inner w.If refl))
      (exp inner good)) (the_block inner good)

  counts_kept : (us vs front : List Symbol) (xs : List Stmt) → SameCounts us front → EndsBlock front
      → SameCounts vs (else_symbols (map statement_symbols xs)) ⊎ ((xs ≡ []) × SameCounts vs (t.word w.Else ∷ t.mark m.LeftBrace ∷ t.mark m.RightBrace ∷ []))
      → SameCounts (us ++ vs) (front ++ else_symbols (map statement_symbols xs))
  counts_kept us vs front xs h ends (inl g) = same_both us vs front (else_symbols (map statement_symbols xs)) h g
  counts_kept us vs front xs h ends (inr g) =
      let gone = t.word w.Else ∷ t.mark m.LeftBrace ∷ t.mark m.RightBrace ∷ [] in
      same_then (us ++ vs) (front ++ gone) (front ++ else_symbols (map statement_symbols xs)) (same_both us vs front gone h g.1)
      (rw (ends.is, g.0) (same_then ((ends.before ++ t.mark m.RightBrace ∷ []) ++ gone) (ends.before ++ t.mark m.RightBrace ∷ [])
      ((ends.before ++ t.mark m.RightBrace ∷ []) ++ []) (same_else ends.before)
      (same_as (ends.before ++ t.mark m.RightBrace ∷ []) ((ends.before ++ t.mark m.RightBrace ∷ []) ++ [])
      (sym (append-nil (ends.before ++ t.mark m.RightBrace ∷ []))))))

  again_if : All inner if_statement (Again inner if_statement AlikeStmt AreStatement)
  unfolding if_statement
  again_if =
      all_both inner if_front' otherwise (Again inner if_statement AlikeStmt AreStatement) KeptElse
      (all_so inner if_front' (Again inner if_front' FrontAlike AreFront)
      (λ f us. (xs : List Stmt) (vs : List Symbol) → KeptElse xs vs → Again inner if_statement AlikeStmt AreStatement (f xs) (us ++ vs))
      (λ f us h xs vs k. record {
        again = h.again ++ else_symbols (map statement_symbols xs);
        are = h.are.are xs;
        says = says_both inner if_front' otherwise (AlikeStmt (f xs)) (AlikeBlock xs) h.again (else_symbols (map statement_symbols xs))
            (says_so inner if_front' (FrontAlike f) (λ g. (y : List Stmt) → AlikeBlock xs y → AlikeStmt (f xs) (g y)) h.again (λ g al y e. al xs y e)
            h.says) k.says;
        same = counts_kept us vs h.again xs h.same h.are.ends k.same;
      }) again_front) all_otherwise

  -- ---- statements

  again_statement : All inner statement (Again inner statement AlikeStmt AreStatement)
  unfolding statement
  again_statement =
      again_either inner AlikeStmt AreStatement _ _ _ again_let
      (again_either inner AlikeStmt AreStatement _ _ _ (again_assign inner good)
      (again_either inner AlikeStmt AreStatement _ _ _ again_if
      (again_either inner AlikeStmt AreStatement _ _ _ (again_for inner good)
      (again_either inner AlikeStmt AreStatement _ _ _ (again_async inner good)
      (again_either inner AlikeStmt AreStatement _ _ _ (again_finish inner good)
      (again_either inner AlikeStmt AreStatement _ _ _ (again_offer inner good)
      (again_either inner AlikeStmt AreStatement _ _ _ (again_run inner good)
      (again_either inner AlikeStmt AreStatement _ _ _ (again_return inner good) (again_print inner good)))))))))

  snoc_symbols : (xs : List Stmt) (x : Stmt) → symbols_in stmts xs ++ statement_symbols x ≡ symbols_in stmts (snoc xs x)
  snoc_symbols xs x =
      ap (λ (ss : List Symbol). symbols_in stmts xs ++ ss) (sym (append-nil (statement_symbols x)))
      ∙ sym (flat_map-append (λ (ss : List Symbol). ss) (map statement_symbols xs) (statement_symbols x ∷ []))
      ∙ ap (λ (ss : List (List Symbol)). flat_map (λ us. us) ss) (sym (map-append statement_symbols xs (x ∷ [])))

  pub again_statements : All inner statements (Again inner statements AlikeBlock (λ xs ss. ss ≡ symbols_in stmts xs))
  unfolding statements
  again_statements =
      again_folds inner AlikeBlock AlikeStmt (λ xs ss. ss ≡ symbols_in stmts xs) AreStatement a_statement snoc (give []) statement
      (λ xs zs x y a b. record {
        bare = map-append statement_but_lines zs (y ∷ []) ∙ ap (λ (ss : List Stmt). ss ++ statement_but_lines y ∷ []) a.bare
            ∙ ap (λ (v : Stmt). block_but_lines xs ++ v ∷ []) b.bare ∙ sym (map-append statement_but_lines xs (x ∷ []));
        text = map-append statement_symbols zs (y ∷ []) ∙ ap (λ (ss : List (List Symbol)). ss ++ statement_symbols y ∷ []) a.text
            ∙ ap (λ (v : List Symbol). map statement_symbols xs ++ v ∷ []) b.text ∙ sym (map-append statement_symbols xs (x ∷ []));
      })
      (λ xs us x vs a b. rw (a, b) (snoc_symbols xs x))
      (again_give inner [] AlikeBlock (λ xs ss. ss ≡ symbols_in stmts xs) (record { bare = refl; text = refl }) refl)
      again_statement
