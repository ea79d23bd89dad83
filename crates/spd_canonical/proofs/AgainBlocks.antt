-- Statements: spelled again by their canonical symbols, but for their lines.
use Rattle.std.proofs.Common.{◌≡◌, ℕ, List, [], ◌∷◌, ◌++◌, refl, sym, ◌∙◌, ap, subst}
use Rattle.spd_syntax.specs.declared.token.Word.TheVariants as w
use Rattle.spd_syntax.specs.declared.token.Mark.TheVariants as m
use Rattle.spd_syntax.specs.declared.token.TokenKind.TheVariants as kind
use Rattle.spd_syntax.specs.declared.tree.Expr.{Expr}
use Rattle.spd_syntax.specs.declared.tree.PrintPart.{PrintPart}
use Rattle.spd_syntax.specs.declared.tree.PrintPart.TheVariants as p
use Rattle.spd_syntax.specs.declared.tree.StmtKind.TheVariants as s
use Rattle.spd_syntax.specs.declared.tree.Stmt.{Stmt}
use Rattle.spd_syntax.specs.Tokens as t
use Rattle.spd_syntax.specs.Tokens.{Symbol, Seen}
use Rattle.spd_syntax.specs.Symbols.{same_word, same_mark, bytes_of, IsLawfulSymbol}
use Rattle.spd_syntax.specs.Shape.{ByteList, args, stmts, Nonterminal, NonterminalValue, Spelling}
use Rattle.spd_syntax.specs.Shapes.{◌◃◌, ◌⊛◌, ◌⊲◌, word, mark, name, name_and_line, text, separated}
use Rattle.spd_syntax.specs.Grammar.{stmt, block, called, assign_statement, for_statement, async_statement, finish_statement, offer_statement, run_statement, return_statement, print_statement, quoted, part, parts, expression}
use Rattle.spd_canonical.specs.Canonical.{between_marks, in_parens, with_commas, name_symbols, expression_symbols, part_symbols, in_braces, for_front}
use Rattle.spd_canonical.proofs.Equations as q
use Rattle.spd_canonical.proofs.SameCounts.{same_as}
use Rattle.spd_canonical.proofs.Says.{symbols, says_token, All, all_token}
use Rattle.spd_canonical.proofs.KindSymbols.{name_symbol}
use Rattle.spd_canonical.proofs.AgainPrimaries.{symbols_in, Good}
use Rattle.spd_canonical.proofs.Again.{Very, Whatever, Again, all_so, again_both, again_map, again_drop, again_either, again_nest, AreWord, AreMark, AreName, AreText, AreExpression, again_word, again_mark, again_name, again_text, AreSome, again_separated}
use Rattle.spd_canonical.proofs.Alike.{AlikeStmt, AlikeBlock, alike_by, very_alike}
use Rattle.spd_canonical.proofs.AgainStatements.{AreStatement, AreBlock, ArePart, are_by, exp}

module _ (inner : Spelling) (good : (rule : Nonterminal) (x : NonterminalValue rule) (us : List Seen) → inner rule x us → Good inner rule x (symbols us)) where
  pub the_block : All inner block (Again inner block AlikeBlock AreBlock)
  the_block = again_nest inner stmts AlikeBlock AlikeBlock AreBlock (λ xs ss. ss ≡ symbols_in stmts xs) m.LeftBrace m.RightBrace (λ l x l'. x)
      (λ l x l' k y k' a. a) (λ l x l' us a. ap (between_marks m.LeftBrace m.RightBrace) a)
      (λ x us k. let g = good stmts x us k in record { again = symbols_in stmts x; are = refl; says = g.says; same = g.same })

  pub the_args : All inner called (Again inner called Very (λ xs ss. ss ≡ in_parens (with_commas expression_symbols xs)))
  the_args = again_nest inner args Very Very (λ xs ss. ss ≡ in_parens (with_commas expression_symbols xs)) (λ xs ss. ss ≡ symbols_in args xs) m.LeftParen
      m.RightParen (λ l x l'. x) (λ l x l' k y k' a. a) (λ l x l' us a. ap in_parens a)
      (λ x us k. let g = good args x us k in record { again = symbols_in args x; are = refl; says = g.says; same = g.same })

  pub again_async : All inner async_statement (Again inner async_statement AlikeStmt AreStatement)
  unfolding async_statement same_word
  again_async =
      again_both inner _ AlikeBlock _ AreBlock ((λ l body. stmt l (s.Async body)) ◃ word w.Async) block
      (again_map inner _ Whatever _ (AreWord inner w.Async) (λ l body. stmt l (s.Async body)) (word w.Async)
      (λ l k any x y a. alike_by l k (s.Async x) (s.Async y) (q.bare_async y ∙ ap (λ (z : List Stmt). s.Async z) a.bare ∙ sym (q.bare_async x))
      (q.symbols_async y ∙ ap (λ (z : List (List Symbol)). t.word w.Async ∷ in_braces z) a.text ∙ sym (q.symbols_async x)))
      (λ l us is x vs a. are_by l (s.Async x) (us ++ vs) (rw (is, a) (sym (q.symbols_async x)))) (again_word inner w.Async refl))
      the_block

  pub again_finish : All inner finish_statement (Again inner finish_statement AlikeStmt AreStatement)
  unfolding finish_statement same_word
  again_finish =
      again_both inner _ AlikeBlock _ AreBlock ((λ l body. stmt l (s.Finish body)) ◃ word w.Finish) block
      (again_map inner _ Whatever _ (AreWord inner w.Finish) (λ l body. stmt l (s.Finish body)) (word w.Finish)
      (λ l k any x y a. alike_by l k (s.Finish x) (s.Finish y) (q.bare_finish y ∙ ap (λ (z : List Stmt). s.Finish z) a.bare ∙ sym (q.bare_finish x))
      (q.symbols_finish y ∙ ap (λ (z : List (List Symbol)). t.word w.Finish ∷ in_braces z) a.text ∙ sym (q.symbols_finish x)))
      (λ l us is x vs a. are_by l (s.Finish x) (us ++ vs) (rw (is, a) (sym (q.symbols_finish x)))) (again_word inner w.Finish refl))
      the_block

  pub again_offer : All inner offer_statement (Again inner offer_statement AlikeStmt AreStatement)
  unfolding offer_statement same_word same_mark
  again_offer =
      again_drop inner _ Whatever _ (AreMark inner m.Semicolon) ((λ l x. stmt l (s.Offer x)) ◃ word w.Offer ⊛ expression) (mark m.Semicolon)
      (again_both inner _ Very _ (AreExpression inner) ((λ l x. stmt l (s.Offer x)) ◃ word w.Offer) expression
      (again_map inner _ Whatever _ (AreWord inner w.Offer) (λ l x. stmt l (s.Offer x)) (word w.Offer)
      (λ l k any x y a. very_alike l k (s.Offer x) (s.Offer y) (ap (λ (z : Expr). s.Offer z) a))
      (λ l us is x vs a l' ws b. are_by l (s.Offer x) ((us ++ vs) ++ ws) (rw (is, a, b) (sym (q.symbols_offer x)))) (again_word inner w.Offer refl))
      (exp inner good)) (again_mark inner m.Semicolon refl)

  pub again_return : All inner return_statement (Again inner return_statement AlikeStmt AreStatement)
  unfolding return_statement same_word same_mark
  again_return =
      again_drop inner _ Whatever _ (AreMark inner m.Semicolon) ((λ l x. stmt l (s.Return x)) ◃ word w.Return ⊛ expression) (mark m.Semicolon)
      (again_both inner _ Very _ (AreExpression inner) ((λ l x. stmt l (s.Return x)) ◃ word w.Return) expression
      (again_map inner _ Whatever _ (AreWord inner w.Return) (λ l x. stmt l (s.Return x)) (word w.Return)
      (λ l k any x y a. very_alike l k (s.Return x) (s.Return y) (ap (λ (z : Expr). s.Return z) a))
      (λ l us is x vs a l' ws b. are_by l (s.Return x) ((us ++ vs) ++ ws) (rw (is, a, b) (sym (q.symbols_return x)))) (again_word inner w.Return refl))
      (exp inner good)) (again_mark inner m.Semicolon refl)

  pub again_run : All inner run_statement (Again inner run_statement AlikeStmt AreStatement)
  unfolding run_statement same_word same_mark
  again_run =
      again_drop inner _ Whatever _ (AreMark inner m.Semicolon) ((λ l n xs. stmt l (s.Run n xs)) ◃ word w.Run ⊛ name ⊛ called) (mark m.Semicolon)
      (again_both inner _ Very _ (λ xs ss. ss ≡ in_parens (with_commas expression_symbols xs)) ((λ l n xs. stmt l (s.Run n xs)) ◃ word w.Run ⊛ name) called
      (again_both inner _ Very _ (AreName inner) ((λ l n xs. stmt l (s.Run n xs)) ◃ word w.Run) name
      (again_map inner _ Whatever _ (AreWord inner w.Run) (λ l n xs. stmt l (s.Run n xs)) (word w.Run)
      (λ l k any n o a x y b. very_alike l k (s.Run n x) (s.Run o y) (rw (a, b) refl))
      (λ l us is n vs is' x ws a l' zs b. are_by l (s.Run n x) (((us ++ vs) ++ ws) ++ zs) (rw (is, is', a, b) (sym (q.symbols_run n x))))
      (again_word inner w.Run refl))
      (again_name inner)) the_args) (again_mark inner m.Semicolon refl)

  -- an assignment keeps its line at the name
  abbrev AreLined : (ByteList × ℕ) → List Symbol → Type 0
  AreLined n ss = ss ≡ name_symbols n.0

  again_name_and_line : All inner name_and_line (Again inner name_and_line (λ n o. o.0 ≡ n.0) AreLined)
  again_name_and_line = all_token inner ((kind.Name, λ bytes line. (bytes, line)) ∷ []) (Again inner name_and_line (λ n o. o.0 ≡ n.0) AreLined) (
    (λ z line same lawful. record {
      again = name_symbols (bytes_of z);
      are = refl;
      says = says_token inner ((kind.Name, λ bytes line. (bytes, line)) ∷ []) (λ o. o.0 ≡ bytes_of z) (t.name (bytes_of z)) (λ bytes line. (bytes, line))
          refl (subst (λ (x : Symbol). IsLawfulSymbol x) (name_symbol z same) lawful) (λ l. refl);
      same = same_as (z ∷ []) (name_symbols (bytes_of z)) (ap (λ (x : Symbol). x ∷ []) (name_symbol z same));
    }),
    tt,
  )

  pub again_assign : All inner assign_statement (Again inner assign_statement AlikeStmt AreStatement)
  unfolding assign_statement same_mark
  again_assign =
      again_drop inner _ Whatever _ (AreMark inner m.Semicolon) ((λ n x. stmt n.1 (s.Assign n.0 x)) ◃ name_and_line ⊲ mark m.Assign ⊛ expression)
      (mark m.Semicolon)
      (again_both inner _ Very _ (AreExpression inner) ((λ n x. stmt n.1 (s.Assign n.0 x)) ◃ name_and_line ⊲ mark m.Assign) expression
      (again_drop inner _ Whatever _ (AreMark inner m.Assign) ((λ n x. stmt n.1 (s.Assign n.0 x)) ◃ name_and_line) (mark m.Assign)
      (again_map inner _ (λ n o. o.0 ≡ n.0) _ (λ n ss. ss ≡ name_symbols n.0) (λ n x. stmt n.1 (s.Assign n.0 x)) name_and_line
      (λ n o a x y b. very_alike n.1 o.1 (s.Assign n.0 x) (s.Assign o.0 y) (rw (a, b) refl))
      (λ n us is l vs is' x ws a l' zs b. are_by n.1 (s.Assign n.0 x) (((us ++ vs) ++ ws) ++ zs) (rw (is, is', a, b) (sym (q.symbols_assign n.0 x))))
      again_name_and_line)
      (again_mark inner m.Assign refl)) (exp inner good)) (again_mark inner m.Semicolon refl)

  pub again_for : All inner for_statement (Again inner for_statement AlikeStmt AreStatement)
  unfolding for_statement same_word same_mark
  again_for =
      again_both inner _ AlikeBlock _ AreBlock ((λ l n x y body. stmt l (s.For n x y body)) ◃ word w.For ⊛ name ⊲ word w.In ⊛ expression ⊲ mark m.DotDot ⊛
      expression) block
      (again_both inner _ Very _ (AreExpression inner) ((λ l n x y body. stmt l (s.For n x y body)) ◃ word w.For ⊛ name ⊲ word w.In ⊛ expression ⊲ mark
      m.DotDot) expression
      (again_drop inner _ Whatever _ (AreMark inner m.DotDot) ((λ l n x y body. stmt l (s.For n x y body)) ◃ word w.For ⊛ name ⊲ word w.In ⊛ expression)
      (mark m.DotDot)
      (again_both inner _ Very _ (AreExpression inner) ((λ l n x y body. stmt l (s.For n x y body)) ◃ word w.For ⊛ name ⊲ word w.In) expression
      (again_drop inner _ Whatever _ (AreWord inner w.In) ((λ l n x y body. stmt l (s.For n x y body)) ◃ word w.For ⊛ name) (word w.In)
      (again_both inner _ Very _ (AreName inner) ((λ l n x y body. stmt l (s.For n x y body)) ◃ word w.For) name
      (again_map inner _ Whatever _ (AreWord inner w.For) (λ l n x y body. stmt l (s.For n x y body)) (word w.For)
      (λ l k any n o a x x' b y y' d z z' e. alike_by l k (s.For n x y z) (s.For o x' y' z')
      (q.bare_for o x' y' z' ∙ rw (a, b, d) (ap (λ (v : List Stmt). s.For n x y v) e.bare ∙ sym (q.bare_for n x y z)))
      (q.symbols_for o x' y' z' ∙ rw (a, b, d) (ap (λ (v : List (List Symbol)). for_front n (expression_symbols x) (expression_symbols y) ++ in_braces
      v) e.text ∙ sym (q.symbols_for n x y z))))
      (λ l us is n vs is' l2 fs is2 x bs is3 l4 cs is4 y ds is5 z es is6. are_by l (s.For n x y z) ((((((us ++ vs) ++ fs) ++ bs) ++ cs) ++ ds) ++ es)
      (rw (is, is', is2, is3, is4, is5, is6) (sym (q.symbols_for n x y z)))) (again_word inner w.For refl))
      (again_name inner)) (again_word inner w.In refl)) (exp inner good)) (again_mark inner m.DotDot refl)) (exp inner good)) the_block

  pub again_part : All inner part (Again inner part Very ArePart)
  unfolding part quoted
  again_part =
      again_either inner Very ArePart (kind.Lit ∷ []) quoted (p.Value ◃ expression)
      (again_map inner Very Very ArePart (AreText inner) p.Lit text (λ z y a. ap (λ (v : ByteList). p.Lit v) a) (λ z us a. a) (again_text inner))
      (again_map inner Very Very ArePart (AreExpression inner) p.Value expression (λ z y a. ap (λ (v : Expr). p.Value v) a) (λ z us a. a) (exp inner good))

  pub again_parts : All inner parts (Again inner parts Very (λ xs ss. ss ≡ with_commas part_symbols xs))
  unfolding parts
  again_parts = all_so inner (separated part) (Again inner (separated part) Very (AreSome inner part part_symbols))
      (Again inner (separated part) Very (λ xs ss. ss ≡ with_commas part_symbols xs))
      (λ xs ss k. record { again = k.again; are = k.are.0; says = k.says; same = k.same }) (again_separated inner part part_symbols again_part)

  pub again_print : All inner print_statement (Again inner print_statement AlikeStmt AreStatement)
  unfolding print_statement same_word same_mark
  again_print =
      again_drop inner _ Whatever _ (AreMark inner m.Semicolon) ((λ l ps. stmt l (s.Print ps)) ◃ word w.Print ⊛ parts) (mark m.Semicolon)
      (again_both inner _ Very _ (λ xs ss. ss ≡ with_commas part_symbols xs) ((λ l ps. stmt l (s.Print ps)) ◃ word w.Print) parts
      (again_map inner _ Whatever _ (AreWord inner w.Print) (λ l ps. stmt l (s.Print ps)) (word w.Print)
      (λ l k any x y a. very_alike l k (s.Print x) (s.Print y) (ap (λ (z : List PrintPart). s.Print z) a))
      (λ l us is x vs a l' ws b. are_by l (s.Print x) ((us ++ vs) ++ ws) (rw (is, a, b) (sym (q.symbols_print x)))) (again_word inner w.Print refl))
      again_parts) (again_mark inner m.Semicolon refl)
