-- Programs: spelled again by their canonical symbols, but for their lines, with no more brackets open than they were spelled with.
use Rattle.std.proofs.Common.{◌≡◌, ℕ, zero, suc, List, [], ◌∷◌, ◌++◌, map, refl, sym, ◌∙◌, ap, subst, inl, inr}
use Rattle.std.proofs.lemmas.List.{append-nil, map-append}
use Rattle.std.proofs.lemmas.List.Concat.{flat_map-append}
use Rattle.spd_syntax.specs.declared.token.Word.{Word}
use Rattle.spd_syntax.specs.declared.token.Word.TheVariants as w
use Rattle.spd_syntax.specs.declared.token.Mark.TheVariants as m
use Rattle.spd_syntax.specs.declared.tree.Expr.{Expr}
use Rattle.spd_syntax.specs.declared.tree.Stmt.{Stmt}
use Rattle.spd_syntax.specs.Tokens as t
use Rattle.spd_syntax.specs.Tokens.{Symbol, Seen}
use Rattle.spd_syntax.specs.Symbols.{same_word, same_mark, IsLawfulSymbol}
use Rattle.spd_syntax.specs.Shape.{ByteList, expr, args, params, stmts, Shape, give, seq, either, folds, nest, Nonterminal, NonterminalValue, Spelling}
use Rattle.spd_syntax.specs.Shapes.{◌◃◌, ◌⊛◌, ◌⊲◌, word, mark, name, text}
use Rattle.spd_canonical.specs.Canonical.{between_marks, in_parens, with_commas, name_symbols, block_symbols, in_braces}
use Rattle.spd_canonical.proofs.SameCounts.{SameCounts, same_as}
use Rattle.spd_canonical.proofs.Says.{symbols, SaysBy, Says, says_token, All, all_token}
use Rattle.spd_canonical.proofs.KindSymbols.{word_symbol}
use Rattle.spd_canonical.proofs.AgainPrimaries.{all_expressions, symbols_in, Kept, Good}
use Rattle.spd_canonical.proofs.Again.{Very, Whatever, Again, again_give, again_both, again_map, again_drop, again_either, again_folds, again_nest, AreWord, AreMark, AreName, AreText, again_word, again_mark, again_name, again_text}
use Rattle.spd_canonical.proofs.Alike.{AlikeBlock, AlikeItem, AlikeProgram}
use Rattle.spd_canonical.proofs.AgainStatements.{again_arguments}
use Rattle.spd_syntax.specs.declared.tree.ItemKind.{ItemKind}
use Rattle.spd_syntax.specs.declared.tree.ItemKind.TheVariants as i
use Rattle.spd_syntax.specs.declared.tree.Item.{Item}
use Rattle.spd_syntax.specs.declared.tree.Program.{Program}
use Rattle.spd_syntax.specs.Symbols.{IsLawfulSymbol}
use Rattle.spd_syntax.specs.Shape.{EachPart, a_name, name_place, name_two_places, name_place_text, token}
use Rattle.spd_syntax.specs.Grammar.{item, body, Column, column_type, column_item, lines_item, between_params, function_item, task_item, main_item, any_item, an_item, with_item, program, grammar}
use Rattle.spd_syntax.specs.Faults.{nested}
use Rattle.spd_canonical.specs.Canonical.{item_symbols, program_symbols, column_symbols, printed_of}
use Rattle.spd_canonical.specs.Lines.{item_but_lines}
use Rattle.spd_canonical.proofs.Says.{SpellsSo}
use Rattle.spd_canonical.proofs.AgainOperators.{shape_at, Own}
use Rattle.spd_canonical.proofs.AgainPrimaries.{whole}
use Rattle.spd_canonical.proofs.AgainStatements.{again_parameters, again_place, again_two_places, again_place_text}
use Rattle.spd_canonical.proofs.AgainLets.{again_statements}

-- ---- deeper brackets

module _ (inner outer : Spelling) (into' : (rule : Nonterminal) (x : NonterminalValue rule) (us : List Seen) → inner rule x us → outer rule x us) where
  each_wider : {B : Type 0} (Q R : B → List Seen → Type 0) → ((b : B) (us : List Seen) → Q b us → R b us) → (bs : List (B × List Seen)) → EachPart Q bs
      → EachPart R bs
  each_wider Q R h [] k = tt
  each_wider Q R h (b ∷ bs) k = (h b.0 b.1 k.0, each_wider Q R h bs k.1)

  wider : {A : Type 0} (p : Shape A) (a : A) (us : List Seen) → SpellsSo inner p a us → SpellsSo outer p a us
  wider (token table) a us s = s
  wider (give x) a us s = s
  wider (seq p q) a us s = record {
    make = s.make;
    part = s.part;
    front = s.front;
    back = s.back;
    first = wider p s.make s.front s.first;
    second =
        wider q s.part s.back s.second;
    value = s.value;
    text = s.text;
  }
  wider (either ks p q) a us (inl s) = inl (wider p a us s)
  wider (either ks p q) a us (inr s) = inr (wider q a us s)
  wider (folds ks f p q) a us s = record {
    base = s.base;
    front = s.front;
    parts = s.parts;
    first = wider p s.base s.front s.first;
    each =
        each_wider (SpellsSo inner q) (SpellsSo outer q) (λ b vs k. wider q b vs k) s.parts s.each;
    value = s.value;
    text = s.text;
  }
  wider (nest rule o c f) a us s = record {
    line = s.line;
    part = s.part;
    middle = s.middle;
    end_line = s.end_line;
    is = into' rule s.part s.middle s.is;
    value = s.value;
    text = s.text;
  }

  own_wider : (x : Expr) → Own inner x → Own outer x
  own_wider x h = record {
    low = h.low;
    says = λ ts e. let y = h.says ts e in
        record { value = y.value; fits = y.fits; is = wider (shape_at (printed_of x).hold) y.value ts y.is };
  }

-- by lawful symbols, with fewer brackets open than so many
abbrev pub At : ℕ → Spelling
At m = nested IsLawfulSymbol m

one_deeper : (m : ℕ) (rule : Nonterminal) (x : NonterminalValue rule) (us : List Seen) → At m rule x us → At (suc m) rule x us
one_deeper zero rule x us s = absurd s
one_deeper (suc m) rule x us s = wider (At m) (At (suc m)) (λ r y vs k. one_deeper m r y vs k) (grammar rule) x us s

kept : (m : ℕ) (rule : Nonterminal) (x : NonterminalValue rule) (ss : List Symbol) → Again (At m) (grammar rule) Very (λ y us. us ≡ symbols_in rule y) x ss
    → Kept (At (suc m)) rule x ss
kept m rule x ss h = record {
  says = subst (λ (us : List Symbol). SaysBy (SpellsSo (At m) (grammar rule)) (λ y. y ≡ x) us) h.are h.says;
  same =
      subst (λ (us : List Symbol). SameCounts ss us) h.are h.same;
}

-- What stands between brackets is good, where it is one bracket below.
abbrev AllGood : ℕ → Type 0
AllGood m = (rule : Nonterminal) (x : NonterminalValue rule) (us : List Seen) → At m rule x us → Good (At m) rule x (symbols us)

good_at : (m : ℕ) → AllGood m → AllGood (suc m)
good_at m good expr x us s =
    let h = (all_expressions (At m) good).of x us s in
    (own_wider (At m) (At (suc m)) (λ r y vs k. one_deeper m r y vs k) x h.own, record { says = whole (At m) x (symbols us) h; same = h.same })
good_at m good args x us s = kept m args x (symbols us) ((again_arguments (At m) good).of x us s)
good_at m good params x us s = kept m params x (symbols us) ((again_parameters (At m) good).of x us s)
good_at m good stmts x us s =
    let h = (again_statements (At m) good).of x us s in
    record {
      says = subst (λ (ss : List Symbol). SaysBy (SpellsSo (At m) (grammar stmts)) (AlikeBlock x) ss) h.are h.says;
      same =
          subst (λ (ss : List Symbol). SameCounts (symbols us) ss) h.are h.same;
    }
good_at m good a_name x us s = kept m a_name x (symbols us) ((again_name (At m)).of x us s)
good_at m good name_place x us s = kept m name_place x (symbols us) ((again_place (At m) good).of x us s)
good_at m good name_two_places x us s = kept m name_two_places x (symbols us) ((again_two_places (At m) good).of x us s)
good_at m good name_place_text x us s = kept m name_place_text x (symbols us) ((again_place_text (At m) good).of x us s)

-- at any depth of brackets
pub all_good : (m : ℕ) → AllGood m
all_good zero rule x us s = absurd s
all_good (suc m) rule x us s = good_at m (λ r y vs k. all_good m r y vs k) rule x us s

-- ---- items

abbrev AreItem : Item × ℕ → List Symbol → Type 0
AreItem x ss = ss ≡ item_symbols x.0.what

abbrev Bare : ItemKind → Item
Bare what = record { line = 0; what = what }

module _ (m' : ℕ) where
  abbrev inner : Spelling
  inner = At m'

  the_body : All inner body (Again inner body (λ b d. AlikeBlock b.0 d.0) (λ b ss. ss ≡ block_symbols b.0))
  the_body = again_nest inner stmts (λ b d. AlikeBlock b.0 d.0) AlikeBlock (λ b ss. ss ≡ block_symbols b.0) (λ xs ss. ss ≡ symbols_in stmts xs) m.LeftBrace
      m.RightBrace (λ l xs l'. (xs, l')) (λ l x l' k y k' a. a) (λ l x l' us a. ap (between_marks m.LeftBrace m.RightBrace) a)
      (λ x us k. let g = all_good m' stmts x us k in record { again = symbols_in stmts x; are = refl; says = g.says; same = g.same })

  the_params : All inner between_params (Again inner between_params Very (λ xs ss. ss ≡ in_parens (with_commas name_symbols xs)))
  the_params = again_nest inner params Very Very (λ xs ss. ss ≡ in_parens (with_commas name_symbols xs)) (λ xs ss. ss ≡ symbols_in params xs) m.LeftParen
      m.RightParen (λ l x l'. x) (λ l x l' k y k' a. a) (λ l x l' us a. ap in_parens a)
      (λ x us k. let g = all_good m' params x us k in record { again = symbols_in params x; are = refl; says = g.says; same = g.same })

  again_main : All inner main_item (Again inner main_item AlikeItem AreItem)
  unfolding main_item same_word
  again_main =
      again_both inner _ (λ b d. AlikeBlock b.0 d.0) _ (λ b ss. ss ≡ block_symbols b.0) ((λ l b. item l (i.Main b.0) b.1) ◃ word w.Main) body
      (again_map inner _ Whatever _ (AreWord inner w.Main) (λ l b. item l (i.Main b.0) b.1) (word w.Main)
      (λ l k any x y a. record {
        bare = ap (λ (z : List Stmt). Bare (i.Main z)) a.bare;
        text =
            ap (λ (z : List (List Symbol)). t.word w.Main ∷ in_braces z) a.text;
      }) (λ l us is x vs a. rw (is, a) refl) (again_word inner w.Main refl))
      the_body

  again_function : All inner function_item (Again inner function_item AlikeItem AreItem)
  unfolding function_item same_word
  again_function =
      again_both inner _ (λ b d. AlikeBlock b.0 d.0) _ (λ b ss. ss ≡ block_symbols b.0)
      ((λ l n ps b. item l (i.Function n ps b.0) b.1) ◃ word w.Fn ⊛ name ⊛ between_params) body
      (again_both inner _ Very _ (λ xs ss. ss ≡ in_parens (with_commas name_symbols xs)) ((λ l n ps b. item l (i.Function n ps b.0) b.1) ◃ word w.Fn ⊛ name)
      between_params
      (again_both inner _ Very _ (AreName inner) ((λ l n ps b. item l (i.Function n ps b.0) b.1) ◃ word w.Fn) name
      (again_map inner _ Whatever _ (AreWord inner w.Fn) (λ l n ps b. item l (i.Function n ps b.0) b.1) (word w.Fn)
      (λ l k any n o a ps qs b x y d. record {
        bare = rw (a, b) (ap (λ (z : List Stmt). Bare (i.Function n ps z)) d.bare);
        text =
            rw (a, b) (ap (λ (z : List (List Symbol)). t.word w.Fn ∷ t.name n ∷ (in_parens (with_commas name_symbols ps) ++ in_braces z)) d.text);
      })
      (λ l us is n vs is' ps ws a x zs b. rw (is, is', a, b) refl) (again_word inner w.Fn refl))
      (again_name inner)) the_params) the_body

  again_task : All inner task_item (Again inner task_item AlikeItem AreItem)
  unfolding task_item same_word
  again_task =
      again_both inner _ (λ b d. AlikeBlock b.0 d.0) _ (λ b ss. ss ≡ block_symbols b.0)
      ((λ l n ps b. item l (i.Task n ps b.0) b.1) ◃ word w.Task ⊛ name ⊛ between_params) body
      (again_both inner _ Very _ (λ xs ss. ss ≡ in_parens (with_commas name_symbols xs)) ((λ l n ps b. item l (i.Task n ps b.0) b.1) ◃ word w.Task ⊛ name)
      between_params
      (again_both inner _ Very _ (AreName inner) ((λ l n ps b. item l (i.Task n ps b.0) b.1) ◃ word w.Task) name
      (again_map inner _ Whatever _ (AreWord inner w.Task) (λ l n ps b. item l (i.Task n ps b.0) b.1) (word w.Task)
      (λ l k any n o a ps qs b x y d. record {
        bare = rw (a, b) (ap (λ (z : List Stmt). Bare (i.Task n ps z)) d.bare);
        text =
            rw (a, b) (ap (λ (z : List (List Symbol)). t.word w.Task ∷ t.name n ∷ (in_parens (with_commas name_symbols ps) ++ in_braces z)) d.text);
      })
      (λ l us is n vs is' ps ws a x zs b. rw (is, is', a, b) refl) (again_word inner w.Task refl))
      (again_name inner)) the_params) the_body

  again_lines : All inner lines_item (Again inner lines_item AlikeItem AreItem)
  unfolding lines_item same_word same_mark
  again_lines =
      again_both inner _ Whatever _ (AreMark inner m.Semicolon) ((λ l n file last. item l (i.Lines n file) last) ◃ word w.Lines ⊛ name ⊲ word w.From ⊛ text)
      (mark m.Semicolon)
      (again_both inner _ Very _ (AreText inner) ((λ l n file last. item l (i.Lines n file) last) ◃ word w.Lines ⊛ name ⊲ word w.From) text
      (again_drop inner _ Whatever _ (AreWord inner w.From) ((λ l n file last. item l (i.Lines n file) last) ◃ word w.Lines ⊛ name) (word w.From)
      (again_both inner _ Very _ (AreName inner) ((λ l n file last. item l (i.Lines n file) last) ◃ word w.Lines) name
      (again_map inner _ Whatever _ (AreWord inner w.Lines) (λ l n file last. item l (i.Lines n file) last) (word w.Lines)
      (λ l k any n o a x y b last last' any'. record { bare = rw (a, b) refl; text = rw (a, b) refl })
      (λ l us is n vs is' l' ws is'' x zs a last fs b. rw (is, is', is'', a, b) refl) (again_word inner w.Lines refl))
      (again_name inner)) (again_word inner w.From refl)) (again_text inner)) (again_mark inner m.Semicolon refl)

  -- which kind of column it is, with its word
  record AreType (make : Column) (ss : List Symbol) : Type 0 where
    which : Word
    are : ss ≡ t.word which ∷ []
    item' : (n file field : ByteList) → item_symbols (make n file field) ≡ column_symbols which n file field
    bare : (n file field : ByteList) (l : ℕ) → item_but_lines (record { line = l; what = make n file field }) ≡ Bare (make n file field)

  type_as : (which : Word) (make : Column) (z : Symbol) → ((n file field : ByteList) → item_symbols (make n file field) ≡ column_symbols which n file field)
      → ((n file field : ByteList) (l : ℕ) → item_but_lines (record { line = l; what = make n file field }) ≡ Bare (make n file field))
      → z ≡ t.word which → Says inner column_type (Very make) (t.word which ∷ []) → Again inner column_type Very AreType make (z ∷ [])
  type_as which make z is bare same says = record {
    again = t.word which ∷ [];
    are = record { which = which; are = refl; item' = is; bare = bare };
    says =
        says;
    same = same_as (z ∷ []) (t.word which ∷ []) (ap (λ (x : Symbol). x ∷ []) same);
  }

  again_type : All inner column_type (Again inner column_type Very AreType)
  unfolding column_type same_word
  again_type = all_token inner _ (Again inner column_type Very AreType) (
    (λ z line same lawful. type_as w.Int i.IntColumn z (λ n file field. refl) (λ n file field l. refl) (word_symbol w.Int z same)
        (says_token inner _ (Very i.IntColumn) (t.word w.Int) (λ bytes line. i.IntColumn) refl tt (λ l. refl))),
    (
      (λ z line same lawful. type_as w.Text i.TextColumn z (λ n file field. refl) (λ n file field l. refl) (word_symbol w.Text z same)
          (says_token inner _ (Very i.TextColumn) (t.word w.Text) (λ bytes line. i.TextColumn) refl tt (λ l. refl))),
      tt,
    ),
  )

  again_column : All inner column_item (Again inner column_item AlikeItem AreItem)
  unfolding column_item same_word same_mark
  again_column =
      again_both inner _ Whatever _ (AreMark inner m.Semicolon) ((λ l n column file field last. item l (column n file field) last) ◃ word w.Column ⊛ name ⊲
      mark m.Colon ⊛ column_type ⊲ word w.From ⊛ text ⊲ word w.Field ⊛ text) (mark m.Semicolon)
      (again_both inner _ Very _ (AreText inner) ((λ l n column file field last. item l (column n file field) last) ◃ word w.Column ⊛ name ⊲ mark m.Colon ⊛
      column_type ⊲ word w.From ⊛ text ⊲ word w.Field) text
      (again_drop inner _ Whatever _ (AreWord inner w.Field) ((λ l n column file field last. item l (column n file field) last) ◃ word w.Column ⊛ name ⊲
      mark m.Colon ⊛ column_type ⊲ word w.From ⊛ text) (word w.Field)
      (again_both inner _ Very _ (AreText inner) ((λ l n column file field last. item l (column n file field) last) ◃ word w.Column ⊛ name ⊲ mark m.Colon ⊛
      column_type ⊲ word w.From) text
      (again_drop inner _ Whatever _ (AreWord inner w.From) ((λ l n column file field last. item l (column n file field) last) ◃ word w.Column ⊛ name ⊲ mark
      m.Colon ⊛ column_type) (word w.From)
      (again_both inner _ Very _ AreType ((λ l n column file field last. item l (column n file field) last) ◃ word w.Column ⊛ name ⊲ mark m.Colon) column_type
      (again_drop inner _ Whatever _ (AreMark inner m.Colon) ((λ l n column file field last. item l (column n file field) last) ◃ word w.Column ⊛ name)
      (mark m.Colon)
      (again_both inner _ Very _ (AreName inner) ((λ l n column file field last. item l (column n file field) last) ◃ word w.Column) name
      (again_map inner _ Whatever _ (AreWord inner w.Column) (λ l n column file field last. item l (column n file field) last) (word w.Column)
      (λ l k any n o a f g b x y d z v e last last' any'. record { bare = rw (a, b, d, e) refl; text = rw (a, b, d, e) refl })
      (λ l us is n vs is' l' ws is'' f xs typed l2 as2 is3 x bs is4 l5 cs is5 y ds is6 last es is7. rw (is, is', is'', typed.are, is3, is4, is5, is6, is7)
      (sym (typed.item' n x y))) (again_word inner w.Column refl))
      (again_name inner)) (again_mark inner m.Colon refl)) again_type) (again_word inner w.From refl)) (again_text inner)) (again_word inner w.Field refl))
      (again_text inner)) (again_mark inner m.Semicolon refl)

  again_item : All inner any_item (Again inner any_item AlikeItem AreItem)
  unfolding any_item
  again_item =
      again_either inner AlikeItem AreItem _ _ _ again_column
      (again_either inner AlikeItem AreItem _ _ _ again_lines
      (again_either inner AlikeItem AreItem _ _ _ again_function
      (again_either inner AlikeItem AreItem _ _ _ again_task again_main)))

  -- ---- programs

  abbrev pub AreProgram : Program → List Symbol → Type 0
  AreProgram x ss = ss ≡ program_symbols x

  one_item : (x : Program) (y : Item × ℕ) → program_symbols x ++ item_symbols y.0.what ≡ program_symbols (with_item x y)
  one_item x y = ap (λ (ss : List Symbol). program_symbols x ++ ss) (sym (append-nil (item_symbols y.0.what)))
      ∙ sym (flat_map-append (λ (u : Item). item_symbols u.what) x.items (y.0 ∷ []))

  pub again_program : All inner program (Again inner program AlikeProgram AreProgram)
  unfolding program
  again_program =
      again_folds inner AlikeProgram AlikeItem AreProgram AreItem an_item with_item (give (record { items = []; last_line = 1 })) any_item
      (λ x z y v a b. record {
        bare = map-append item_but_lines z.items (v.0 ∷ []) ∙ ap (λ (ss : List Item). ss ++ item_but_lines v.0 ∷ []) a.bare
            ∙ ap (λ (u : Item). map item_but_lines x.items ++ u ∷ []) b.bare ∙ sym (map-append item_but_lines x.items (y.0 ∷ []));
        text = sym (one_item z v) ∙ ap (λ (ss : List Symbol). ss ++ item_symbols v.0.what) a.text
            ∙ ap (λ (ss : List Symbol). program_symbols x ++ ss) b.text ∙ one_item x y;
      })
      (λ x us y vs a b. rw (a, b) (one_item x y))
      (again_give inner (record { items = []; last_line = 1 }) AlikeProgram AreProgram (record { bare = refl; text = refl }) refl)
      again_item
