-- One notion for both: what a shape spells is spelled, alike, by canonical symbols, which count as its tokens do. A lemma for each form of shape.
use Rattle.std.proofs.Common.{◌≡◌, ℕ, true, List, [], ◌∷◌, ◌++◌, refl, sym, ◌∙◌, ap, append_assoc}
use Rattle.std.proofs.lemmas.List.{append-nil}
use Rattle.std.proofs.lemmas.List.Concat.{flat_map-append}
use Rattle.spd_syntax.specs.declared.token.Mark.{Mark}
use Rattle.spd_syntax.specs.declared.token.Mark.TheVariants as m
use Rattle.spd_syntax.specs.declared.token.Word.{Word}
use Rattle.spd_syntax.specs.declared.token.TokenKind.{TokenKind}
use Rattle.spd_syntax.specs.declared.tree.Expr.{Expr}
use Rattle.spd_syntax.specs.Tokens as t
use Rattle.spd_syntax.specs.Tokens.{Symbol, Seen}
use Rattle.spd_syntax.specs.Symbols.{same_word, same_mark}
use Rattle.spd_syntax.specs.Shape.{ByteList, Shape, give, seq, either, folds, nest, Nonterminal, NonterminalValue, Spelling}
use Rattle.spd_syntax.specs.Shapes.{◌◃◌, ◌▹◌, ◌⊲◌, a_mark, word, mark, name, text, separated, single, snoc, after_mark}
use Rattle.spd_syntax.specs.Grammar.{expression}
use Rattle.spd_canonical.specs.Canonical.{between_marks, name_symbols, lit_symbols, expression_symbols, with_commas, behind_commas}
use Rattle.spd_canonical.proofs.SameCounts.{SameCounts, same_self, same_as, same_both, same_between}
use Rattle.spd_canonical.proofs.Says.{symbols, SaysBy, Says, says_so, says_give, says_both, says_first, says_second, says_base, says_more, says_nest, All, all_give, all_both, all_either, all_folds, all_nest}
use Rattle.spd_canonical.proofs.AgainOperators.{IsOperand}
use Rattle.spd_canonical.proofs.AgainPrimaries.{whole, all_name, all_text, all_word, all_mark, says_name, says_text, says_word, says_mark, IsNamed, IsText, IsWord, IsMark}

-- the very same
abbrev pub Very : {A : Type 0} → A → A → Type 0
Very x y = y ≡ x

abbrev pub Whatever : {A : Type 0} → A → A → Type 0
Whatever x y = Unit {0}

module _ (inner : Spelling) where
  pub record Again {A : Type 0} (p : Shape A) (Alike : A → A → Type 0) (R : A → List Symbol → Type 0) (a : A) (ss : List Symbol) : Type 0 where
    pub again : List Symbol
    pub are : R a again
    pub says : Says inner p (Alike a) again
    pub same : SameCounts ss again

  -- the same of what stands between brackets
  pub record AgainIn (rule : Nonterminal) (Alike : NonterminalValue rule → NonterminalValue rule → Type 0)
      (R : NonterminalValue rule → List Symbol → Type 0) (a : NonterminalValue rule) (ss : List Symbol) : Type 0 where
    pub again : List Symbol
    pub are : R a again
    pub says : SaysBy (inner rule) (Alike a) again
    pub same : SameCounts ss again

  pub all_so : {A : Type 0} (p : Shape A) (P Q : A → List Symbol → Type 0) → ((a : A) (ss : List Symbol) → P a ss → Q a ss) → All inner p P → All inner p Q
  all_so p P Q into h = record { of = λ a ts s. into a (symbols ts) (h.of a ts s) }

  pub again_give : {A : Type 0} (b : A) (Alike : A → A → Type 0) (R : A → List Symbol → Type 0) → Alike b b → R b []
      → All inner (give b) (Again (give b) Alike R)
  again_give b Alike R alike are = all_give inner b (Again (give b) Alike R)
      (record { again = []; are = are; says = says_give inner b (Alike b) alike; same = same_self [] })

  module _ {A B : Type 0} (AlikeA : A → A → Type 0) (AlikeB : B → B → Type 0) (RA : A → List Symbol → Type 0) (RB : B → List Symbol → Type 0) where
    abbrev pub AlikeTo : (B → A) → (B → A) → Type 0
    AlikeTo f g = (x y : B) → AlikeB x y → AlikeA (f x) (g y)

    abbrev pub ROn : (B → A) → List Symbol → Type 0
    ROn f ss = (x : B) (us : List Symbol) → RB x us → RA (f x) (ss ++ us)

    pub again_both : (p : Shape (B → A)) (q : Shape B) → All inner p (Again p AlikeTo ROn) → All inner q (Again q AlikeB RB)
        → All inner (seq p q) (Again (seq p q) AlikeA RA)
    again_both p q hp hq = all_both inner p q (Again (seq p q) AlikeA RA) (Again q AlikeB RB)
        (all_so p (Again p AlikeTo ROn) (λ f us. (x : B) (vs : List Symbol) → Again q AlikeB RB x vs → Again (seq p q) AlikeA RA (f x) (us ++ vs))
        (λ f us h x vs k. record {
          again = h.again ++ k.again;
          are = h.are x k.again k.are;
          says = says_both inner p q (AlikeA (f x)) (AlikeB x) h.again k.again
              (says_so inner p (AlikeTo f) (λ g. (y : B) → AlikeB x y → AlikeA (f x) (g y)) h.again (λ g al y q. al x y q) h.says) k.says;
          same = same_both us vs h.again k.again h.same k.same;
        }) hp) hq

    pub again_map : (f : B → A) (p : Shape B) → AlikeTo f f → ROn f [] → All inner p (Again p AlikeB RB) → All inner (f ◃ p) (Again (f ◃ p) AlikeA RA)
    again_map f p alike are h = again_both (give f) p (again_give f AlikeTo ROn alike are) h

  pub again_drop : {A B : Type 0} (AlikeA : A → A → Type 0) (AlikeB : B → B → Type 0) (RA : A → List Symbol → Type 0) (RB : B → List Symbol → Type 0)
      (p : Shape A) (q : Shape B)
      → All inner p (Again p AlikeA (λ a ss. (y : B) (us : List Symbol) → RB y us → RA a (ss ++ us))) → All inner q (Again q AlikeB RB)
      → All inner (p ⊲ q) (Again (p ⊲ q) AlikeA RA)
  again_drop {A} {B} AlikeA AlikeB RA RB p q hp hq =
      again_both AlikeA AlikeB RA RB (seq (give (λ x y. x)) p) q
      (again_both (AlikeTo AlikeA AlikeB RA RB) AlikeA (ROn AlikeA AlikeB RA RB) (λ a ss. (y : B) (us : List Symbol) → RB y us → RA a (ss ++ us))
      (give (λ x y. x)) p
      (again_give (λ x y. x) (λ (k l : A → B → A). (x z : A) → AlikeA x z → AlikeTo AlikeA AlikeB RA RB (k x) (l z))
      (λ (k : A → B → A) (ss : List Symbol). (x : A) (us : List Symbol) → ((y : B) (vs : List Symbol) → RB y vs → RA x (us ++ vs))
      → ROn AlikeA AlikeB RA RB (k x) (ss ++ us)) (λ x z al y v q. al) (λ x us r. r))
      hp) hq

  pub again_skip : {A B : Type 0} (AlikeA : A → A → Type 0) (AlikeB : B → B → Type 0) (RA RQ : A → List Symbol → Type 0) (RB : B → List Symbol → Type 0)
      (p : Shape B) (q : Shape A)
      → ((y : B) (us : List Symbol) (x : A) (vs : List Symbol) → RB y us → RQ x vs → RA x (us ++ vs)) → All inner p (Again p AlikeB RB)
      → All inner q (Again q AlikeA RQ) → All inner (p ▹ q) (Again (p ▹ q) AlikeA RA)
  again_skip {A} {B} AlikeA AlikeB RA RQ RB p q join hp hq =
      again_both AlikeA AlikeA RA RQ (seq (give (λ y x. x)) p) q
      (again_both (AlikeTo AlikeA AlikeA RA RQ) AlikeB (ROn AlikeA AlikeA RA RQ) RB (give (λ y x. x)) p
      (again_give (λ y x. x) (λ (k l : B → A → A). (y z : B) → AlikeB y z → AlikeTo AlikeA AlikeA RA RQ (k y) (l z))
      (λ (k : B → A → A) (ss : List Symbol). (y : B) (us : List Symbol) → RB y us → ROn AlikeA AlikeA RA RQ (k y) (ss ++ us)) (λ y z al x w q. q)
      (λ y us r x vs k. join y us x vs r k))
      hp) hq

  pub again_either : {A : Type 0} (Alike : A → A → Type 0) (R : A → List Symbol → Type 0) (ks : List TokenKind) (p q : Shape A)
      → All inner p (Again p Alike R) → All inner q (Again q Alike R) → All inner (either ks p q) (Again (either ks p q) Alike R)
  again_either Alike R ks p q hp hq =
      all_either inner ks p q (Again (either ks p q) Alike R)
      (all_so p (Again p Alike R) (Again (either ks p q) Alike R) (λ a ss h. record
      { again = h.again; are = h.are; says = says_first inner ks p q (Alike a) h.again h.says; same = h.same }) hp)
      (all_so q (Again q Alike R) (Again (either ks p q) Alike R) (λ a ss h. record
      { again = h.again; are = h.are; says = says_second inner ks p q (Alike a) h.again h.says; same = h.same }) hq)

  pub again_folds : {A B : Type 0} (AlikeA : A → A → Type 0) (AlikeB : B → B → Type 0) (RA : A → List Symbol → Type 0) (RB : B → List Symbol → Type 0)
      (ks : List TokenKind) (f : A → B → A) (p : Shape A) (q : Shape B)
      → ((x z : A) (y w : B) → AlikeA x z → AlikeB y w → AlikeA (f x y) (f z w))
      → ((x : A) (us : List Symbol) (y : B) (vs : List Symbol) → RA x us → RB y vs → RA (f x y) (us ++ vs))
      → All inner p (Again p AlikeA RA) → All inner q (Again q AlikeB RB) → All inner (folds ks f p q) (Again (folds ks f p q) AlikeA RA)
  again_folds AlikeA AlikeB RA RB ks f p q alike add hp hq =
      all_folds inner ks f p q (Again (folds ks f p q) AlikeA RA) (Again q AlikeB RB)
      (all_so p (Again p AlikeA RA) (Again (folds ks f p q) AlikeA RA) (λ a ss h. record
      { again = h.again; are = h.are; says = says_base inner ks f p q (AlikeA a) h.again h.says; same = h.same }) hp)
      hq
      (λ x us y vs h k. record {
        again = h.again ++ k.again;
        are = add x h.again y k.again h.are k.are;
        says = says_more inner ks f p q (AlikeA x) (AlikeA (f x y)) (AlikeB y) h.again k.again h.says k.says (λ z w a b. alike x z y w a b);
        same = same_both us vs h.again k.again h.same k.same;
      })

  pub again_nest : {A : Type 0} (rule : Nonterminal) (AlikeA : A → A → Type 0) (AlikeB : NonterminalValue rule → NonterminalValue rule → Type 0)
      (RA : A → List Symbol → Type 0) (RB : NonterminalValue rule → List Symbol → Type 0) (o c : Mark) (f : ℕ → NonterminalValue rule → ℕ → A)
      → ((l : ℕ) (x : NonterminalValue rule) (l' k : ℕ) (y : NonterminalValue rule) (k' : ℕ) → AlikeB x y → AlikeA (f l x l') (f k y k'))
      → ((l : ℕ) (x : NonterminalValue rule) (l' : ℕ) (us : List Symbol) → RB x us → RA (f l x l') (between_marks o c us))
      → ((x : NonterminalValue rule) (us : List Seen) → inner rule x us → AgainIn rule AlikeB RB x (symbols us))
      → All inner (nest rule o c f) (Again (nest rule o c f) AlikeA RA)
  again_nest rule AlikeA AlikeB RA RB o c f alike are good =
      all_nest inner rule o c f (Again (nest rule o c f) AlikeA RA) (AgainIn rule AlikeB RB) good
      (λ l x l' us h. record {
        again = between_marks o c h.again;
        are = are l x l' h.again h.are;
        says = says_nest inner rule o c f (AlikeA (f l x l')) (AlikeB x) h.again h.says (λ k y k' a. alike l x l' k y k' a);
        same = same_between o c us h.again h.same;
      })

  -- ---- tokens

  abbrev pub AreWord : Word → ℕ → List Symbol → Type 0
  AreWord which l ss = ss ≡ t.word which ∷ []

  abbrev pub AreMark : Mark → ℕ → List Symbol → Type 0
  AreMark which l ss = ss ≡ t.mark which ∷ []

  abbrev pub AreName : ByteList → List Symbol → Type 0
  AreName n ss = ss ≡ name_symbols n

  abbrev pub AreText : ByteList → List Symbol → Type 0
  AreText z ss = ss ≡ lit_symbols z

  abbrev pub AreExpression : Expr → List Symbol → Type 0
  AreExpression x ss = ss ≡ expression_symbols x

  pub again_word : (which : Word) → same_word which which ≡ true → All inner (word which) (Again (word which) Whatever (AreWord which))
  again_word which is = all_so (word which) (IsWord inner which) (Again (word which) Whatever (AreWord which))
      (λ l ss h. record { again = t.word which ∷ []; are = refl; says = says_word inner which is; same = same_as ss (t.word which ∷ []) h })
      (all_word inner which)

  pub again_mark : (which : Mark) → same_mark which which ≡ true → All inner (mark which) (Again (mark which) Whatever (AreMark which))
  again_mark which is = all_so (mark which) (IsMark inner which) (Again (mark which) Whatever (AreMark which))
      (λ l ss h. record { again = t.mark which ∷ []; are = refl; says = says_mark inner which is; same = same_as ss (t.mark which ∷ []) h })
      (all_mark inner which)

  pub again_name : All inner name (Again name Very AreName)
  again_name = all_so name (IsNamed inner) (Again name Very AreName) (λ n ss h. record
      { again = name_symbols n; are = refl; says = says_name inner n h.0; same = same_as ss (name_symbols n) h.1 }) (all_name inner)

  pub again_text : All inner text (Again text Very AreText)
  again_text = all_so text (IsText inner) (Again text Very AreText) (λ z ss h. record
      { again = lit_symbols z; are = refl; says = says_text inner z h.lawful; same = h.same }) (all_text inner)

  pub again_expression : All inner expression (IsOperand inner 6) → All inner expression (Again expression Very AreExpression)
  again_expression all = all_so expression (IsOperand inner 6) (Again expression Very AreExpression)
      (λ x ss h. record { again = expression_symbols x; are = refl; says = whole inner x ss h; same = h.same }) all

  -- ---- lists with commas

  module _ {A : Type 0} (p : Shape A) (say : A → List Symbol) where
    abbrev pub AreSome : List A → List Symbol → Type 0
    AreSome xs ss = (ss ≡ with_commas say xs) × (xs ≡ [] → ⊥)

    abbrev pub AreOne : A → List Symbol → Type 0
    AreOne x ss = ss ≡ say x

    one_more : (xs : List A) (x : A) → (xs ≡ [] → ⊥) → with_commas say xs ++ t.mark m.Comma ∷ say x ≡ with_commas say (snoc xs x)
    one_more [] x some = absurd (some refl)
    one_more (y ∷ xs) x some =
        append_assoc (say y) (behind_commas say xs) (t.mark m.Comma ∷ say x)
        ∙ ap (λ (ss : List Symbol). say y ++ ss) (sym (flat_map-append (λ (z : A). t.mark m.Comma ∷ say z) xs (x ∷ [])
        ∙ ap (λ (ss : List Symbol). behind_commas say xs ++ t.mark m.Comma ∷ ss) (append-nil (say x))))

    not_nothing : (xs : List A) (x : A) → snoc xs x ≡ [] → ⊥
    not_nothing [] x h = absurd cc
    not_nothing (y ∷ xs) x h = absurd cc

    pub again_separated : All inner p (Again p Very AreOne) → All inner (separated p) (Again (separated p) Very AreSome)
    unfolding same_mark
    again_separated h =
        again_folds Very Very AreSome (λ x ss. ss ≡ t.mark m.Comma ∷ say x) (a_mark m.Comma) snoc (single ◃ p) (after_mark m.Comma p)
        (λ xs zs x z a b. rw (a, b) refl)
        (λ xs us x vs a b. (rw (a.0, b) (one_more xs x a.1), not_nothing xs x))
        (again_map Very Very AreSome AreOne single p (λ x y a. ap single a) (λ x us a. (a ∙ sym (append-nil (say x)), λ (e : single x ≡ []). absurd cc)) h)
        (again_both Very Very (λ x ss. ss ≡ t.mark m.Comma ∷ say x) AreOne ((λ l x. x) ◃ mark m.Comma) p
        (again_map (AlikeTo Very Very (λ x ss. ss ≡ t.mark m.Comma ∷ say x) AreOne) Whatever (ROn Very Very (λ x ss. ss ≡ t.mark m.Comma ∷ say x) AreOne)
        (AreMark m.Comma) (λ l x. x) (mark m.Comma)
        (λ l k any x y a. a) (λ l us is x vs a. rw (is, a) refl) (again_mark m.Comma refl)) h)
