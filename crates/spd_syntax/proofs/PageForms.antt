-- Rules in the form of a page spell what the grammar's own do.
use Rattle.std.proofs.Common.{◌≡◌, ℕ, suc, ◌==◌, Bool, true, false, List, [], ◌∷◌, ◌++◌, refl, sym, ◌∙◌, ap, subst, inl, inr, ◌⊎◌, append_assoc}
use Rattle.std.proofs.lemmas.List.{append-nil}
use Rattle.spd_syntax.specs.declared.token.Mark.TheVariants as m
use Rattle.spd_syntax.specs.declared.tree.Expr.{Expr}
use Rattle.spd_syntax.specs.declared.tree.Expr.TheVariants as e
use Rattle.spd_syntax.specs.Tokens.{Symbol, Seen}
use Rattle.spd_syntax.specs.Shape.{Shape, ByteList, give, seq, either, nest, expr, EachPart, folded, texts, Spelling, Spells}
use Rattle.spd_syntax.specs.Shapes.{◌⊛◌, ◌◃◌, name, between}
use Rattle.spd_syntax.specs.Grammar.{behind_name, name_led, nameless, primary, unary_operator, signed, unary, comparisons, operators, operation, operations, compose, into, behind_operand, at_level, expression}
use Rattle.spd_syntax.specs.PageForms.{◌or◌, page_primary, page_unary, any_number, at_most_once, page_prod, page_sum, page_cmp, page_and, page_expression}

module _ (Fits : Symbol → Type 0) (inner : Spelling) where
  abbrev S : {A : Type 0} → Shape A → A → List Seen → Type 0
  S p a ts = Spells Fits inner p a ts

  -- Each spells what the other does.
  abbrev pub Same : {A : Type 0} → Shape A → Shape A → Type 0
  Same {A} p q = (a : A) (ts : List Seen) → (S p a ts → S q a ts) × (S q a ts → S p a ts)

  -- ---- parts

  -- a value that is made of another
  pub record Mapped {A B : Type 0} (f : B → A) (p : Shape B) (a : A) (ts : List Seen) : Type 0 where
    pub part : B
    pub is : S p part ts
    pub value : a ≡ f part

  pub mapped : {A B : Type 0} (f : B → A) (p : Shape B) (a : A) (ts : List Seen) → S (f ◃ p) a ts → Mapped f p a ts
  mapped f p a ts h = record {
    part = h.part;
    is = subst (λ (us : List Seen). S p h.part us)
        (sym (h.text ∙ ap (λ (us : List Seen). us ++ h.back) h.first.1)) h.second;
    value = h.value ∙ ap (λ g. g h.part) h.first.0;
  }

  pub map_of : {A B : Type 0} (f : B → A) (p : Shape B) (b : B) (ts : List Seen) → S p b ts → S (f ◃ p) (f b) ts
  map_of f p b ts h = record { make = f; part = b; front = []; back = ts; first = (refl, refl); second = h; value = refl; text = refl }

  -- two parts, of which a value is made
  pub record Pair {A B C : Type 0} (f : B → C → A) (p : Shape B) (q : Shape C) (a : A) (ts : List Seen) : Type 0 where
    pub one : B
    pub two : C
    pub front : List Seen
    pub back : List Seen
    pub first : S p one front
    pub second : S q two back
    pub value : a ≡ f one two
    pub text : ts ≡ front ++ back

  pub pair : {A B C : Type 0} (f : B → C → A) (p : Shape B) (q : Shape C) (a : A) (ts : List Seen) → S (f ◃ p ⊛ q) a ts → Pair f p q a ts
  pair f p q a ts h =
      let x = mapped f p h.make h.front h.first in
      record {
        one = x.part;
        two = h.part;
        front = h.front;
        back = h.back;
        first = x.is;
        second = h.second;
        value = h.value ∙ ap (λ g. g h.part) x.value;
        text = h.text;
      }

  pub pair_of : {A B C : Type 0} (f : B → C → A) (p : Shape B) (q : Shape C) (b : B) (c : C) (us vs : List Seen) → S p b us → S q c vs
      → S (f ◃ p ⊛ q) (f b c) (us ++ vs)
  pair_of f p q b c us vs h g = record { make = f b; part = c; front = us; back = vs; first = map_of f p b us h; second = g; value = refl; text = refl }

  pub put : {A : Type 0} (p : Shape A) (a b : A) (us vs : List Seen) → a ≡ b → us ≡ vs → S p a us → S p b vs
  put p a b us vs e f h = subst (λ (c : _). S p c vs) e (subst (λ (z : List Seen). S p a z) f h)

  -- ---- primaries and signs

  abbrev index : Shape (ByteList → Expr)
  index = nest expr m.LeftBracket m.RightBracket (λ l x l' n. e.Index n x)

  named_into : (a : Expr) (ts : List Seen) → S name_led a ts → S page_primary a ts
  unfolding name_led behind_name
  named_into a ts h = by_two (pair (λ n f. f n) name behind_name a ts h)
    where
      by_back : (p : Pair (λ n f. f n) name behind_name a ts) → S index p.two p.back ⊎ S (give e.Var) p.two p.back → S page_primary a ts
      by_back p (inl g) =
          inr (inr (inr (inl (put (e.Index ◃ name ⊛ between expr m.LeftBracket m.RightBracket) (e.Index p.one g.part) a (p.front ++ p.back) ts
          (sym (p.value ∙ ap (λ f. f p.one) g.value)) (sym p.text)
          (pair_of e.Index name (between expr m.LeftBracket m.RightBracket) p.one g.part p.front p.back p.first
          (record { line = g.line; part = g.part; middle = g.middle; end_line = g.end_line; is = g.is; value = refl; text = g.text }))))))
      by_back p (inr g) =
          inr (inl (put (e.Var ◃ name) (e.Var p.one) a p.front ts (sym (p.value ∙ ap (λ f. f p.one) g.0))
          (sym (p.text ∙ ap (λ (z : List Seen). p.front ++ z) g.1 ∙ append-nil p.front)) (map_of e.Var name p.one p.front p.first)))

      by_two : Pair (λ n f. f n) name behind_name a ts → S page_primary a ts
      by_two p = by_back p p.second

  variable_of : (a : Expr) (ts : List Seen) → S (e.Var ◃ name) a ts → S name_led a ts
  unfolding name_led behind_name
  variable_of a ts h =
      let v = mapped e.Var name a ts h in
      put name_led (e.Var v.part) a (ts ++ []) ts (sym v.value) (append-nil ts)
      (pair_of (λ n f. f n) name behind_name v.part e.Var ts [] v.is (inr (refl, refl)))

  index_of : (a : Expr) (ts : List Seen) → S (e.Index ◃ name ⊛ between expr m.LeftBracket m.RightBracket) a ts → S name_led a ts
  unfolding name_led behind_name
  index_of a ts h =
      let p = pair e.Index name (between expr m.LeftBracket m.RightBracket) a ts h in
      let g = p.second in
      put name_led (e.Index p.one p.two) a (p.front ++ p.back) ts (sym p.value) (sym p.text)
      (pair_of (λ n f. f n) name behind_name p.one (λ n. e.Index n p.two) p.front p.back p.first
      (inl (record {
        line = g.line;
        part = g.part;
        middle = g.middle;
        end_line = g.end_line;
        is = g.is;
        value = ap (λ x n. e.Index n x) g.value;
        text =
            g.text;
      })))

  pub primary_into : (a : Expr) (ts : List Seen) → S primary a ts → S page_primary a ts
  unfolding primary nameless
  primary_into a ts (inl h) = named_into a ts h
  primary_into a ts (inr (inl h)) = inl h
  primary_into a ts (inr (inr (inl h))) = inr (inr (inr (inr (inl h))))
  primary_into a ts (inr (inr (inr (inl h)))) = inr (inr (inr (inr (inr (inl h)))))
  primary_into a ts (inr (inr (inr (inr (inl h))))) = inr (inr (inr (inr (inr (inr (inl h))))))
  primary_into a ts (inr (inr (inr (inr (inr (inl h)))))) = inr (inr (inr (inr (inr (inr (inr (inl h)))))))
  primary_into a ts (inr (inr (inr (inr (inr (inr (inl h))))))) = inr (inr (inr (inr (inr (inr (inr (inr h)))))))
  primary_into a ts (inr (inr (inr (inr (inr (inr (inr h))))))) = inr (inr (inl h))

  pub primary_of : (a : Expr) (ts : List Seen) → S page_primary a ts → S primary a ts
  unfolding primary nameless
  primary_of a ts (inl h) = inr (inl h)
  primary_of a ts (inr (inl h)) = inl (variable_of a ts h)
  primary_of a ts (inr (inr (inl h))) = inr (inr (inr (inr (inr (inr (inr h))))))
  primary_of a ts (inr (inr (inr (inl h)))) = inl (index_of a ts h)
  primary_of a ts (inr (inr (inr (inr (inl h))))) = inr (inr (inl h))
  primary_of a ts (inr (inr (inr (inr (inr (inl h)))))) = inr (inr (inr (inl h)))
  primary_of a ts (inr (inr (inr (inr (inr (inr (inl h))))))) = inr (inr (inr (inr (inl h))))
  primary_of a ts (inr (inr (inr (inr (inr (inr (inr (inl h)))))))) = inr (inr (inr (inr (inr (inl h)))))
  primary_of a ts (inr (inr (inr (inr (inr (inr (inr (inr h)))))))) = inr (inr (inr (inr (inr (inr (inl h))))))

  -- the second part in another form
  second_as : {A B : Type 0} (p : Shape (B → A)) (q r : Shape B) → ((b : B) (us : List Seen) → S q b us → S r b us) → (a : A) (ts : List Seen)
      → S (seq p q) a ts → S (seq p r) a ts
  second_as p q r h a ts s = record {
    make = s.make;
    part = s.part;
    front = s.front;
    back = s.back;
    first = s.first;
    second = h s.part s.back s.second;
    value = s.value;
    text = s.text;
  }

  unary_into : (a : Expr) (ts : List Seen) → S unary a ts → S page_unary a ts
  unfolding unary signed
  unary_into a ts (inl h) = inl (second_as (e.Unary ◃ unary_operator) primary page_primary primary_into a ts h)
  unary_into a ts (inr h) = inr (primary_into a ts h)

  unary_of : (a : Expr) (ts : List Seen) → S page_unary a ts → S unary a ts
  unfolding unary signed
  unary_of a ts (inl h) = inl (second_as (e.Unary ◃ unary_operator) page_primary primary primary_of a ts h)
  unary_of a ts (inr h) = inr (primary_of a ts h)

  -- ---- levels

  operation_as : (level : ℕ) (p q : Shape Expr) → ((b : Expr) (us : List Seen) → S p b us → S q b us) → (a : Expr → Expr) (ts : List Seen)
      → S (operation level p) a ts → S (operation level q) a ts
  unfolding operation
  operation_as level p q h a ts s = record {
    make = s.make;
    part = s.part;
    front = s.front;
    back = s.back;
    first = s.first;
    second =
        h s.part s.back s.second;
    value = s.value;
    text = s.text;
  }

  each_as : {B : Type 0} (p q : Shape B) → ((b : B) (us : List Seen) → S p b us → S q b us) → (bs : List (B × List Seen)) → EachPart (S p) bs
      → EachPart (S q) bs
  each_as p q h [] each = tt
  each_as p q h (b ∷ bs) each = (h b.0 b.1 each.0, each_as p q h bs each.1)

  -- operators put behind an operand one by one, or all at once
  one_by_one : (f : Expr → Expr) (bs : List ((Expr → Expr) × List Seen)) (y : Expr) → folded compose f bs y ≡ folded into (f y) bs
  one_by_one f [] y = refl
  one_by_one f (b ∷ bs) y = one_by_one (compose f b.0) bs y

  module _ (level : ℕ) (p : Shape Expr) (same : Same (at_level level) p) where
    group_into : (suc level == comparisons) ≡ false → (a : Expr) (ts : List Seen) → S (at_level (suc level)) a ts → S (any_number (suc level) p) a ts
    unfolding behind_operand
    group_into test a ts h = by_form (suc level == comparisons) test (pair into unary (behind_operand (suc level)) a ts h).second
      where
        x : Pair into unary (behind_operand (suc level)) a ts
        x = pair into unary (behind_operand (suc level)) a ts h

        by_form : (b : Bool) → b ≡ false → S (operations b (suc level) (behind_operand level) (at_level level)) x.two x.back → S (any_number (suc level) p) a ts
        by_form true e k = absurd cc
        by_form false e k = record {
          base = k.base x.one;
          front = x.front ++ k.front;
          parts = k.parts;
          first = (same (k.base x.one) (x.front ++ k.front)).0 (pair_of into unary (behind_operand level) x.one k.base x.front k.front x.first k.first);
          each = each_as (operation (suc level) (at_level level)) (operation (suc level) p)
              (λ b us g. operation_as (suc level) (at_level level) p (λ c vs i. (same c vs).0 i) b us g) k.parts k.each;
          value = x.value ∙ ap (λ f. f x.one) k.value ∙ one_by_one k.base k.parts x.one;
          text = x.text ∙ ap (λ (z : List Seen). x.front ++ z) k.text ∙ sym (append_assoc x.front k.front (texts k.parts));
        }

    group_of : (suc level == comparisons) ≡ false → (a : Expr) (ts : List Seen) → S (any_number (suc level) p) a ts → S (at_level (suc level)) a ts
    unfolding behind_operand
    group_of test a ts h =
        put (at_level (suc level)) (folded compose x.two h.parts x.one) a (x.front ++ (x.back ++ texts h.parts)) ts
        (one_by_one x.two h.parts x.one ∙ sym (h.value ∙ ap (λ y. folded into y h.parts) x.value))
        (sym (h.text ∙ ap (λ (z : List Seen). z ++ texts h.parts) x.text ∙ append_assoc x.front x.back (texts h.parts)))
        (pair_of into unary (behind_operand (suc level)) x.one (folded compose x.two h.parts) x.front (x.back ++ texts h.parts) x.first
        (by_form (suc level == comparisons) test))
      where
        x : Pair into unary (behind_operand level) h.base h.front
        x = pair into unary (behind_operand level) h.base h.front ((same h.base h.front).1 h.first)

        by_form : (b : Bool) → b ≡ false → S (operations b (suc level) (behind_operand level) (at_level level)) (folded compose x.two h.parts)
            (x.back ++ texts h.parts)
        by_form true e = absurd cc
        by_form false e = record {
          base = x.two;
          front = x.back;
          parts = h.parts;
          first = x.second;
          each = each_as (operation (suc level) p) (operation (suc level) (at_level level))
              (λ b us g. operation_as (suc level) p (at_level level) (λ c vs i. (same c vs).1 i) b us g) h.parts h.each;
          value = refl;
          text = refl;
        }

    once_into : (suc level == comparisons) ≡ true → (a : Expr) (ts : List Seen) → S (at_level (suc level)) a ts → S (at_most_once (suc level) p) a ts
    unfolding behind_operand
    once_into test a ts h = by_form (suc level == comparisons) test (pair into unary (behind_operand (suc level)) a ts h).second
      where
        x : Pair into unary (behind_operand (suc level)) a ts
        x = pair into unary (behind_operand (suc level)) a ts h

        by_form : (b : Bool) → b ≡ true → S (operations b (suc level) (behind_operand level) (at_level level)) x.two x.back
            → S (at_most_once (suc level) p) a ts
        by_form false e k = absurd cc
        by_form true e k = with_rest (pair (λ f g. compose f g) (behind_operand level)
            (either (operators (suc level)) (operation (suc level) (at_level level)) (give (λ y. y))) x.two x.back k)
          where
            other : (g : Expr → Expr) (us : List Seen) → S (operation (suc level) (at_level level)) g us ⊎ S (give (λ (y : Expr). y)) g us
                → S (operation (suc level) p) g us ⊎ S (give (λ (y : Expr). y)) g us
            other g us (inl i) = inl (operation_as (suc level) (at_level level) p (λ c vs j. (same c vs).0 j) g us i)
            other g us (inr i) = inr i

            with_rest : Pair (λ f g. compose f g) (behind_operand level)
                (either (operators (suc level)) (operation (suc level) (at_level level)) (give (λ y. y))) x.two x.back → S (at_most_once (suc level) p) a ts
            with_rest z =
                put (at_most_once (suc level) p) (z.two (z.one x.one)) a ((x.front ++ z.front) ++ z.back) ts (sym (x.value ∙ ap (λ f. f x.one) z.value))
                (sym (x.text ∙ ap (λ (v : List Seen). x.front ++ v) z.text ∙ sym (append_assoc x.front z.front z.back)))
                (pair_of into p (operation (suc level) p or give (λ y. y)) (z.one x.one) z.two (x.front ++ z.front) z.back
                ((same (z.one x.one) (x.front ++ z.front)).0 (pair_of into unary (behind_operand level) x.one z.one x.front z.front x.first z.first))
                (other z.two z.back z.second))

    once_of : (suc level == comparisons) ≡ true → (a : Expr) (ts : List Seen) → S (at_most_once (suc level) p) a ts → S (at_level (suc level)) a ts
    unfolding behind_operand
    once_of test a ts h =
        put (at_level (suc level)) (z.two (x.two x.one)) a (x.front ++ (x.back ++ z.back)) ts (sym (z.value ∙ ap z.two x.value))
        (sym (z.text ∙ ap (λ (v : List Seen). v ++ z.back) x.text ∙ append_assoc x.front x.back z.back))
        (pair_of into unary (behind_operand (suc level)) x.one (compose x.two z.two) x.front (x.back ++ z.back) x.first
        (by_form (suc level == comparisons) test))
      where
        z : Pair into p (operation (suc level) p or give (λ y. y)) a ts
        z = pair into p (operation (suc level) p or give (λ y. y)) a ts h

        x : Pair into unary (behind_operand level) z.one z.front
        x = pair into unary (behind_operand level) z.one z.front ((same z.one z.front).1 z.first)

        other : (g : Expr → Expr) (us : List Seen) → S (operation (suc level) p) g us ⊎ S (give (λ (y : Expr). y)) g us
            → S (operation (suc level) (at_level level)) g us ⊎ S (give (λ (y : Expr). y)) g us
        other g us (inl i) = inl (operation_as (suc level) p (at_level level) (λ c vs j. (same c vs).1 j) g us i)
        other g us (inr i) = inr i

        by_form : (b : Bool) → b ≡ true → S (operations b (suc level) (behind_operand level) (at_level level)) (compose x.two z.two) (x.back ++ z.back)
        by_form false e = absurd cc
        by_form true e = pair_of (λ f g. compose f g) (behind_operand level)
            (either (operators (suc level)) (operation (suc level) (at_level level)) (give (λ y. y))) x.two z.two x.back z.back x.second
            (other z.two z.back z.second)

    pub same_group : (suc level == comparisons) ≡ false → Same (at_level (suc level)) (any_number (suc level) p)
    same_group test a ts = (group_into test a ts, group_of test a ts)

    pub same_once : (suc level == comparisons) ≡ true → Same (at_level (suc level)) (at_most_once (suc level) p)
    same_once test a ts = (once_into test a ts, once_of test a ts)

  operand_into : (a : Expr) (ts : List Seen) → S (at_level 0) a ts → S page_unary a ts
  unfolding behind_operand
  operand_into a ts h =
      let x = pair into unary (behind_operand 0) a ts h in
      unary_into a ts (put unary x.one a x.front ts (sym (x.value ∙ ap (λ f. f x.one) x.second.0))
      (sym (x.text ∙ ap (λ (z : List Seen). x.front ++ z) x.second.1 ∙ append-nil x.front)) x.first)

  operand_of : (a : Expr) (ts : List Seen) → S page_unary a ts → S (at_level 0) a ts
  unfolding behind_operand
  operand_of a ts h = put (at_level 0) a a (ts ++ []) ts refl (append-nil ts)
      (pair_of into unary (behind_operand 0) a (λ y. y) ts [] (unary_of a ts h) (refl, refl))

  pub same_expression : Same expression page_expression
  unfolding expression
  same_expression = same_group 4 page_and (same_group 3 page_cmp (same_once 2 page_sum
      (same_group 1 page_prod (same_group 0 page_unary (λ a ts. (operand_into a ts, operand_of a ts)) refl) refl) refl) refl) refl
