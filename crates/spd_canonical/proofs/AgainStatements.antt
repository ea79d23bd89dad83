-- What stands between brackets, and statements: spelled again by their canonical symbols, but for their lines.
use Rattle.std.proofs.Common.{◌≡◌, ℕ, List, [], ◌∷◌, refl, sym, ◌∙◌}
use Rattle.spd_syntax.specs.declared.token.Mark.TheVariants as m
use Rattle.spd_syntax.specs.declared.token.TokenKind.{TokenKind}
use Rattle.spd_syntax.specs.declared.token.TokenKind.TheVariants as kind
use Rattle.spd_syntax.specs.declared.tree.PrintPart.{PrintPart}
use Rattle.spd_syntax.specs.declared.tree.StmtKind.{StmtKind}
use Rattle.spd_syntax.specs.declared.tree.Stmt.{Stmt}
use Rattle.spd_syntax.specs.Tokens.{Symbol, Seen}
use Rattle.spd_syntax.specs.Symbols.{same_mark}
use Rattle.spd_syntax.specs.Shape.{Shape, give, either, Nonterminal, NonterminalValue, Spelling}
use Rattle.spd_syntax.specs.Shapes.{◌◃◌, ◌⊛◌, ◌⊲◌, mark, name, text, separated}
use Rattle.spd_syntax.specs.Grammar.{stmt, an_expression, arguments, parameters, place, two_places, place_text, expression}
use Rattle.spd_canonical.specs.Canonical.{with_comma, with_commas, name_symbols, lit_symbols, expression_symbols, place_symbols, part_symbols, statement_symbols, kind_symbols, block_symbols}
use Rattle.spd_canonical.proofs.Equations as q
use Rattle.spd_canonical.proofs.Says.{symbols, All}
use Rattle.spd_canonical.proofs.AgainPrimaries.{all_expressions, symbols_in, Good}
use Rattle.spd_canonical.proofs.Again.{Very, Whatever, Again, all_so, again_give, again_both, again_map, again_drop, again_either, AreMark, AreName, AreText, AreExpression, again_mark, again_name, again_text, again_expression, AreSome, again_separated}

abbrev pub AreStatement : Stmt → List Symbol → Type 0
AreStatement x ss = ss ≡ statement_symbols x

abbrev pub AreBlock : List Stmt → List Symbol → Type 0
AreBlock xs ss = ss ≡ block_symbols xs

abbrev pub ArePart : PrintPart → List Symbol → Type 0
ArePart x ss = ss ≡ part_symbols x

abbrev pub AreRule : (rule : Nonterminal) → NonterminalValue rule → List Symbol → Type 0
AreRule rule x ss = ss ≡ symbols_in rule x

pub are_by : (l : ℕ) (x : StmtKind) (ss : List Symbol) → ss ≡ kind_symbols x → ss ≡ statement_symbols (stmt l x)
are_by l x ss h = h ∙ sym (q.statement_is l x)

module _ (inner : Spelling) (good : (rule : Nonterminal) (x : NonterminalValue rule) (us : List Seen) → inner rule x us → Good inner rule x (symbols us)) where
  pub exp : All inner expression (Again inner expression Very (AreExpression inner))
  exp = again_expression inner (all_expressions inner good)

  -- ---- what stands between brackets

  pub again_place : All inner place (Again inner place Very (λ v ss. ss ≡ place_symbols v.0 (expression_symbols v.1)))
  unfolding place same_mark
  again_place =
      again_both inner _ Very _ (AreExpression inner) ((λ n x. (n, x)) ◃ name ⊲ mark m.Comma) expression
      (again_drop inner _ Whatever _ (AreMark inner m.Comma) ((λ n x. (n, x)) ◃ name) (mark m.Comma)
      (again_map inner _ Very _ (AreName inner) (λ n x. (n, x)) name (λ n o a x y b. rw (a, b) refl) (λ n us is l vs is' x ws is''. rw (is, is', is'') refl)
      (again_name inner))
      (again_mark inner m.Comma refl)) exp

  pub again_two_places : All inner two_places (Again inner two_places Very
      (λ v ss. ss ≡ with_comma (place_symbols v.0 (expression_symbols v.1)) (expression_symbols v.2)))
  unfolding two_places same_mark
  again_two_places =
      again_both inner _ Very _ (AreExpression inner) ((λ n x y. (n, x, y)) ◃ name ⊲ mark m.Comma ⊛ expression ⊲ mark m.Comma) expression
      (again_drop inner _ Whatever _ (AreMark inner m.Comma) ((λ n x y. (n, x, y)) ◃ name ⊲ mark m.Comma ⊛ expression) (mark m.Comma)
      (again_both inner _ Very _ (AreExpression inner) ((λ n x y. (n, x, y)) ◃ name ⊲ mark m.Comma) expression
      (again_drop inner _ Whatever _ (AreMark inner m.Comma) ((λ n x y. (n, x, y)) ◃ name) (mark m.Comma)
      (again_map inner _ Very _ (AreName inner) (λ n x y. (n, x, y)) name (λ n o a x y b z z' d. rw (a, b, d) refl)
      (λ n us is l vs is' x ws is'' l' zs is3 y ys is4. rw (is, is', is'', is3, is4) refl) (again_name inner))
      (again_mark inner m.Comma refl)) exp)
      (again_mark inner m.Comma refl)) exp

  pub again_place_text : All inner place_text (Again inner place_text Very
      (λ v ss. ss ≡ with_comma (place_symbols v.0 (expression_symbols v.1)) (lit_symbols v.2)))
  unfolding place_text same_mark
  again_place_text =
      again_both inner _ Very _ (AreText inner) ((λ n x y. (n, x, y)) ◃ name ⊲ mark m.Comma ⊛ expression ⊲ mark m.Comma) text
      (again_drop inner _ Whatever _ (AreMark inner m.Comma) ((λ n x y. (n, x, y)) ◃ name ⊲ mark m.Comma ⊛ expression) (mark m.Comma)
      (again_both inner _ Very _ (AreExpression inner) ((λ n x y. (n, x, y)) ◃ name ⊲ mark m.Comma) expression
      (again_drop inner _ Whatever _ (AreMark inner m.Comma) ((λ n x y. (n, x, y)) ◃ name) (mark m.Comma)
      (again_map inner _ Very _ (AreName inner) (λ n x y. (n, x, y)) name (λ n o a x y b z z' d. rw (a, b, d) refl)
      (λ n us is l vs is' x ws is'' l' zs is3 y ys is4. rw (is, is', is'', is3, is4) refl) (again_name inner))
      (again_mark inner m.Comma refl)) exp)
      (again_mark inner m.Comma refl)) (again_text inner)

  pub again_list : {A : Type 0} (ks : List TokenKind) (p : Shape A) (say : A → List Symbol) → All inner p (Again inner p Very (λ x ss. ss ≡ say x))
      → All inner (either ks (separated p) (give [])) (Again inner (either ks (separated p) (give [])) Very (λ xs ss. ss ≡ with_commas say xs))
  again_list {A} ks p say h =
      again_either inner Very (λ xs ss. ss ≡ with_commas say xs) ks (separated p) (give [])
      (all_so inner (separated p) (Again inner (separated p) Very (AreSome inner p say)) (Again inner (separated p) Very (λ xs ss. ss ≡ with_commas say xs))
      (λ xs ss k. record { again = k.again; are = k.are.0; says = k.says; same = k.same }) (again_separated inner p say h))
      (again_give inner [] Very (λ xs ss. ss ≡ with_commas say xs) refl refl)

  pub again_arguments : All inner arguments (Again inner arguments Very (λ xs ss. ss ≡ with_commas expression_symbols xs))
  unfolding arguments
  again_arguments = again_list an_expression expression expression_symbols exp

  pub again_parameters : All inner parameters (Again inner parameters Very (λ xs ss. ss ≡ with_commas name_symbols xs))
  unfolding parameters
  again_parameters = again_list (kind.Name ∷ []) name name_symbols (again_name inner)
