-- A `let` in the form of a page spells what the grammar's own does: what stands behind `let name =` is one of the forms of
-- LetForms, and the head goes over from the whole to each form.
use Rattle.std.proofs.Common.{◌≡◌, ℕ, List, ◌++◌, refl, sym, ◌∙◌, ap, inl, inr, append_assoc}
use Rattle.spd_syntax.specs.declared.token.Mark.TheVariants as m
use Rattle.spd_syntax.specs.declared.token.Word.TheVariants as w
use Rattle.spd_syntax.specs.declared.tree.Expr.{Expr}
use Rattle.spd_syntax.specs.declared.tree.StmtKind.TheVariants as s
use Rattle.spd_syntax.specs.declared.tree.Stmt.{Stmt}
use Rattle.spd_syntax.specs.declared.tree.Collect.{Collect}
use Rattle.spd_syntax.specs.Tokens.{Seen}
use Rattle.spd_syntax.specs.Shape.{Shape, ByteList, seq, Spelling}
use Rattle.spd_syntax.specs.Shapes.{◌⊛◌, ◌⊲◌, ◌◃◌, ◌▹◌, word, mark, name}
use Rattle.spd_syntax.specs.Symbols.{IsLawfulSymbol}
use Rattle.spd_syntax.specs.Grammar.{expression, stmt, Letting, block, called, collect_kind, let_finish, let_value, let_statement}
use Rattle.spd_syntax.specs.PageForms.{page_expression, page_let}
use Rattle.spd_syntax.proofs.LetForms.{SpellsSo, call_form, value_form, let_forms, to_forms, from_forms}
use Rattle.spd_syntax.proofs.PageForms as f
use Rattle.spd_syntax.proofs.PageForms.{same_expression}

module _ (inner : Spelling) where
  abbrev S : {A : Type 0} → Shape A → A → List Seen → Type 0
  S p a ts = SpellsSo inner p a ts

  abbrev Pair : {A B C : Type 0} → (B → C → A) → Shape B → Shape C → A → List Seen → Type 0
  Pair g p q a ts = f.Pair IsLawfulSymbol inner g p q a ts

  abbrev Mapped : {A B : Type 0} → (B → A) → Shape B → A → List Seen → Type 0
  Mapped g p a ts = f.Mapped IsLawfulSymbol inner g p a ts

  pair : {A B C : Type 0} (g : B → C → A) (p : Shape B) (q : Shape C) (a : A) (ts : List Seen) → S (g ◃ p ⊛ q) a ts → Pair g p q a ts
  pair g p q a ts h = f.pair IsLawfulSymbol inner g p q a ts h

  pair_of : {A B C : Type 0} (g : B → C → A) (p : Shape B) (q : Shape C) (b : B) (c : C) (us vs : List Seen) → S p b us → S q c vs
      → S (g ◃ p ⊛ q) (g b c) (us ++ vs)
  pair_of g p q b c us vs h k = f.pair_of IsLawfulSymbol inner g p q b c us vs h k

  mapped : {A B : Type 0} (g : B → A) (p : Shape B) (a : A) (ts : List Seen) → S (g ◃ p) a ts → Mapped g p a ts
  mapped g p a ts h = f.mapped IsLawfulSymbol inner g p a ts h

  map_of : {A B : Type 0} (g : B → A) (p : Shape B) (b : B) (ts : List Seen) → S p b ts → S (g ◃ p) (g b) ts
  map_of g p b ts h = f.map_of IsLawfulSymbol inner g p b ts h

  put : {A : Type 0} (p : Shape A) (a b : A) (us vs : List Seen) → a ≡ b → us ≡ vs → S p a us → S p b vs
  put p a b us vs e g h = f.put IsLawfulSymbol inner p a b us vs e g h

  seq_of : {A B : Type 0} (p : Shape (B → A)) (q : Shape B) (g : B → A) (b : B) (us vs : List Seen) → S p g us → S q b vs → S (seq p q) (g b) (us ++ vs)
  seq_of p q g b us vs h k = record { make = g; part = b; front = us; back = vs; first = h; second = k; value = refl; text = refl }

  -- ---- `let name =`, and what is made of it

  abbrev head : {A : Type 0} → (ℕ → ByteList → A) → Shape A
  head g = g ◃ word w.Let ⊛ name ⊲ mark m.Assign

  record Head (l : ℕ) (n : ByteList) (us : List Seen) : Type 0 where
    end_line : ℕ
    word_text : List Seen
    name_text : List Seen
    mark_text : List Seen
    is_word : S (word w.Let) l word_text
    is_name : S name n name_text
    is_mark : S (mark m.Assign) end_line mark_text
    text : us ≡ (word_text ++ name_text) ++ mark_text

  record Headed {A : Type 0} (g : ℕ → ByteList → A) (v : A) (us : List Seen) : Type 0 where
    line : ℕ
    bound : ByteList
    is : Head line bound us
    value : v ≡ g line bound

  head_of : {A : Type 0} (g : ℕ → ByteList → A) (v : A) (us : List Seen) → S (head g) v us → Headed g v us
  head_of g v us h =
      let o = pair (λ a b. a) (g ◃ word w.Let ⊛ name) (mark m.Assign) v us h in
      let i = pair g (word w.Let) name o.one o.front o.first in
      record {
        line = i.one;
        bound = i.two;
        is = record {
          end_line = o.two;
          word_text = i.front;
          name_text = i.back;
          mark_text = o.back;
          is_word = i.first;
          is_name = i.second;
          is_mark = o.second;
          text = o.text ∙ ap (λ (z : List Seen). z ++ o.back) i.text;
        };
        value = o.value ∙ i.value;
      }

  head_put : {A : Type 0} (g : ℕ → ByteList → A) (l : ℕ) (n : ByteList) (us : List Seen) → Head l n us → S (head g) (g l n) us
  head_put g l n us h =
      put (head g) (g l n) (g l n) ((h.word_text ++ h.name_text) ++ h.mark_text) us refl (sym h.text)
      (pair_of (λ a b. a) (g ◃ word w.Let ⊛ name) (mark m.Assign) (g l n) h.end_line (h.word_text ++ h.name_text) h.mark_text
      (pair_of g (word w.Let) name l n h.word_text h.name_text h.is_word h.is_name) h.is_mark)

  -- ---- the values

  abbrev binding : ℕ → ByteList → Expr → Stmt
  binding l n x = stmt l (s.Let n x)

  abbrev calling : ℕ → ByteList → ByteList → List Expr → Stmt
  calling l n callee xs = stmt l (s.LetCall n callee xs)

  abbrev gathering : ℕ → ByteList → Collect → List Stmt → Stmt
  gathering l n kind body = stmt l (s.LetFinish n kind body)

  abbrev bound_to : Expr → Letting
  bound_to x l n = binding l n x

  abbrev called_as : ByteList → List Expr → Letting
  called_as callee xs l n = calling l n callee xs

  abbrev gathered : Collect → List Stmt → Letting
  gathered kind body l n = gathering l n kind body

  abbrev finished : ℕ → Collect → Collect
  finished l kind = kind

  abbrev left : {A : Type 0} → A → ℕ → A
  left a l = a

  abbrev heading : Shape (Letting → Stmt)
  heading = head (λ l n g. g l n)

  -- ---- from the grammar to the page

  value_into : (a : Stmt) (us vs : List Seen) (l : ℕ) (n : ByteList) (g : Letting) → Head l n us → a ≡ g l n → S value_form g vs → S page_let a (us ++ vs)
  value_into a us vs l n g h e k =
      let p = pair left (bound_to ◃ expression) (mark m.Semicolon) g vs k in
      let x = mapped bound_to expression p.one p.front p.first in
      inl (put (head binding ⊛ page_expression ⊲ mark m.Semicolon) (binding l n x.part) a ((us ++ p.front) ++ p.back) (us ++ vs)
      (sym (e ∙ ap (λ (z : Letting). z l n) (p.value ∙ x.value))) (append_assoc us p.front p.back ∙ ap (λ (z : List Seen). us ++ z) (sym p.text))
      (pair_of left (head binding ⊛ page_expression) (mark m.Semicolon) (binding l n x.part) p.two (us ++ p.front) p.back
      (seq_of (head binding) page_expression (binding l n) x.part us p.front (head_put binding l n us h)
      ((same_expression IsLawfulSymbol inner x.part p.front).0 x.is)) p.second))

  call_into : (a : Stmt) (us vs : List Seen) (l : ℕ) (n : ByteList) (g : Letting) → Head l n us → a ≡ g l n → S call_form g vs → S page_let a (us ++ vs)
  call_into a us vs l n g h e k =
      let p = pair left (called_as ◃ name ⊛ called) (mark m.Semicolon) g vs k in
      let c = pair called_as name called p.one p.front p.first in
      inr (inl (put (head calling ⊛ name ⊛ called ⊲ mark m.Semicolon) (calling l n c.one c.two) a (((us ++ c.front) ++ c.back) ++ p.back) (us ++ vs)
      (sym (e ∙ ap (λ (z : Letting). z l n) (p.value ∙ c.value)))
      (ap (λ (z : List Seen). z ++ p.back) (append_assoc us c.front c.back ∙ ap (λ (z : List Seen). us ++ z) (sym c.text))
      ∙ append_assoc us p.front p.back ∙ ap (λ (z : List Seen). us ++ z) (sym p.text))
      (pair_of left (head calling ⊛ name ⊛ called) (mark m.Semicolon) (calling l n c.one c.two) p.two ((us ++ c.front) ++ c.back) p.back
      (seq_of (head calling ⊛ name) called (calling l n c.one) c.two (us ++ c.front) c.back
      (seq_of (head calling) name (calling l n) c.one us c.front (head_put calling l n us h) c.first) c.second) p.second)))

  finish_into : (a : Stmt) (us vs : List Seen) (l : ℕ) (n : ByteList) (g : Letting) → Head l n us → a ≡ g l n → S let_finish g vs → S page_let a (us ++ vs)
  unfolding let_finish
  finish_into a us vs l n g h e k =
      let p = pair gathered (word w.Finish ▹ collect_kind) block g vs k in
      let q = pair finished (word w.Finish) collect_kind p.one p.front p.first in
      inr (inr (put (head gathering ⊲ word w.Finish ⊛ collect_kind ⊛ block) (gathering l n q.two p.two) a (((us ++ q.front) ++ q.back) ++ p.back) (us ++ vs)
      (ap (λ (z : Collect). gathering l n z p.two) (sym q.value) ∙ sym (e ∙ ap (λ (z : Letting). z l n) p.value))
      (ap (λ (z : List Seen). z ++ p.back) (append_assoc us q.front q.back ∙ ap (λ (z : List Seen). us ++ z) (sym q.text))
      ∙ append_assoc us p.front p.back ∙ ap (λ (z : List Seen). us ++ z) (sym p.text))
      (seq_of (head gathering ⊲ word w.Finish ⊛ collect_kind) block (gathering l n q.two) p.two ((us ++ q.front) ++ q.back) p.back
      (seq_of (head gathering ⊲ word w.Finish) collect_kind (gathering l n) q.two (us ++ q.front) q.back
      (pair_of left (head gathering) (word w.Finish) (gathering l n) q.one us q.front (head_put gathering l n us h) q.first) q.second) p.second)))

  let_into : (a : Stmt) (ts : List Seen) → S let_statement a ts → S page_let a ts
  unfolding let_statement
  let_into a ts o = put page_let a a (o.front ++ o.back) ts refl (sym o.text) (by_form (to_forms inner o.part o.back o.second))
    where
      d : Headed (λ l n g. g l n) o.make o.front
      d = head_of (λ l n g. g l n) o.make o.front o.first

      value : a ≡ o.part d.line d.bound
      value = o.value ∙ ap (λ (z : Letting → Stmt). z o.part) d.value

      by_form : S let_forms o.part o.back → S page_let a (o.front ++ o.back)
      by_form (inl h) = finish_into a o.front o.back d.line d.bound o.part d.is value h
      by_form (inr (inl h)) = call_into a o.front o.back d.line d.bound o.part d.is value h
      by_form (inr (inr h)) = value_into a o.front o.back d.line d.bound o.part d.is value h

  -- ---- and back

  -- `let name =` with one of the forms behind it
  let_with : (a : Stmt) (ts us vs : List Seen) (l : ℕ) (n : ByteList) (g : Letting) → Head l n us → S let_forms g vs → a ≡ g l n → ts ≡ us ++ vs
      → S let_statement a ts
  unfolding let_statement
  let_with a ts us vs l n g h k value text =
      put let_statement (g l n) a (us ++ vs) ts (sym value) (sym text)
      (seq_of heading let_value (λ z. z l n) g us vs (head_put (λ l n z. z l n) l n us h) (from_forms inner g vs k))

  value_back : (a : Stmt) (ts : List Seen) → S (head binding ⊛ page_expression ⊲ mark m.Semicolon) a ts → S let_statement a ts
  value_back a ts h =
      let c = pair left (head binding ⊛ page_expression) (mark m.Semicolon) a ts h in
      let o = c.first in
      let d = head_of binding o.make o.front o.first in
      let_with a ts o.front (o.back ++ c.back) d.line d.bound (bound_to o.part) d.is
      (inr (inr (pair_of left (bound_to ◃ expression) (mark m.Semicolon) (bound_to o.part) c.two o.back c.back
      (map_of bound_to expression o.part o.back ((same_expression IsLawfulSymbol inner o.part o.back).1 o.second)) c.second)))
      (c.value ∙ o.value ∙ ap (λ (z : Expr → Stmt). z o.part) d.value)
      (c.text ∙ ap (λ (z : List Seen). z ++ c.back) o.text ∙ append_assoc o.front o.back c.back)

  call_back : (a : Stmt) (ts : List Seen) → S (head calling ⊛ name ⊛ called ⊲ mark m.Semicolon) a ts → S let_statement a ts
  call_back a ts h =
      let c = pair left (head calling ⊛ name ⊛ called) (mark m.Semicolon) a ts h in
      let o = c.first in
      let i = o.first in
      let d = head_of calling i.make i.front i.first in
      let_with a ts i.front ((i.back ++ o.back) ++ c.back) d.line d.bound (called_as i.part o.part) d.is
      (inr (inl (pair_of left (called_as ◃ name ⊛ called) (mark m.Semicolon) (called_as i.part o.part) c.two (i.back ++ o.back) c.back
      (pair_of called_as name called i.part o.part i.back o.back i.second o.second) c.second)))
      (c.value ∙ o.value ∙ ap (λ (z : List Expr → Stmt). z o.part) (i.value ∙ ap (λ (z : ByteList → List Expr → Stmt). z i.part) d.value))
      (c.text ∙ ap (λ (z : List Seen). z ++ c.back) (o.text ∙ ap (λ (z : List Seen). z ++ o.back) i.text ∙ append_assoc i.front i.back o.back)
      ∙ append_assoc i.front (i.back ++ o.back) c.back)

  finish_back : (a : Stmt) (ts : List Seen) → S (head gathering ⊲ word w.Finish ⊛ collect_kind ⊛ block) a ts → S let_statement a ts
  unfolding let_finish
  finish_back a ts h =
      let o = h.first in
      let i = pair left (head gathering) (word w.Finish) o.make o.front o.first in
      let d = head_of gathering i.one i.front i.first in
      let_with a ts i.front ((i.back ++ o.back) ++ h.back) d.line d.bound (gathered o.part h.part) d.is
      (inl (pair_of gathered (word w.Finish ▹ collect_kind) block o.part h.part (i.back ++ o.back) h.back
      (pair_of finished (word w.Finish) collect_kind i.two o.part i.back o.back i.second o.second) h.second))
      (h.value ∙ ap (λ (z : List Stmt → Stmt). z h.part) (o.value ∙ ap (λ (z : Collect → List Stmt → Stmt). z o.part) (i.value ∙ d.value)))
      (h.text ∙ ap (λ (z : List Seen). z ++ h.back) (o.text ∙ ap (λ (z : List Seen). z ++ o.back) i.text ∙ append_assoc i.front i.back o.back)
      ∙ append_assoc i.front (i.back ++ o.back) h.back)

  let_of : (a : Stmt) (ts : List Seen) → S page_let a ts → S let_statement a ts
  let_of a ts (inl h) = value_back a ts h
  let_of a ts (inr (inl h)) = call_back a ts h
  let_of a ts (inr (inr h)) = finish_back a ts h

  pub same_let : f.Same IsLawfulSymbol inner let_statement page_let
  same_let a ts = (let_into a ts, let_of a ts)
