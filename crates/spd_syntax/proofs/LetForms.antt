-- The grammar reads what stands behind `let name =` by its first token; here are its forms one beside the other, and that both spell the same.
use Rattle.std.proofs.Common.{◌≡◌, ℕ, List, [], ◌++◌, refl, sym, ◌∙◌, ap, subst, inl, inr, append_assoc}
use Rattle.spd_syntax.specs.declared.token.Mark.TheVariants as m
use Rattle.spd_syntax.specs.declared.tree.Expr.{Expr}
use Rattle.spd_syntax.specs.declared.tree.StmtKind.TheVariants as s
use Rattle.spd_syntax.specs.Tokens.{Seen}
use Rattle.spd_syntax.specs.Symbols.{IsLawfulSymbol}
use Rattle.spd_syntax.specs.Shape.{ByteList, Shape, give, seq, either, Spelling, Spells}
use Rattle.spd_syntax.specs.Shapes.{◌◃◌, ◌⊛◌, ◌⊲◌, a_mark, mark, name}
use Rattle.spd_syntax.specs.Grammar.{stmt, called, Letting, let_finish, let_call, let_named, let_name, let_nameless, nameless_expression, nameless_unary, let_value, expression, name_led, primary, unary, behind_name, behind_operand, top, into}

-- "let" name "=" name "(" .. ")" ";"
abbrev pub call_form : Shape Letting
call_form = (λ callee xs l n. stmt l (s.LetCall n callee xs)) ◃ name ⊛ called ⊲ mark m.Semicolon

-- "let" name "=" expr ";"
abbrev pub value_form : Shape Letting
value_form = (λ x l n. stmt l (s.Let n x)) ◃ expression ⊲ mark m.Semicolon

abbrev let_of : Expr → Letting
let_of x l n = stmt l (s.Let n x)

abbrev pub let_forms : Shape Letting
let_forms = either [] let_finish (either [] call_form value_form)

module _ (inner : Spelling) where
  abbrev pub SpellsSo : {A : Type 0} → Shape A → A → List Seen → Type 0
  SpellsSo p a ts = Spells IsLawfulSymbol inner p a ts

module _ (inner : Spelling) where
  -- ---- taking apart and putting together

  record Mapped {A B : Type 0} (f : B → A) (p : Shape B) (a : A) (ts : List Seen) : Type 0 where
    part : B
    is : SpellsSo inner p part ts
    value : a ≡ f part

  map_apart : {A B : Type 0} (f : B → A) (p : Shape B) (a : A) (ts : List Seen) → SpellsSo inner (f ◃ p) a ts → Mapped f p a ts
  map_apart {A} {B} f p a ts h = record {
    part = h.part;
    is = subst (λ (us : List Seen). SpellsSo inner p h.part us) (sym (h.text ∙ ap (λ (us : List Seen). us ++ h.back) h.first.1)) h.second;
    value = h.value ∙ ap (λ (g : B → A). g h.part) h.first.0;
  }

  map_of : {A B : Type 0} (f : B → A) (p : Shape B) (x : B) (ts : List Seen) → SpellsSo inner p x ts → SpellsSo inner (f ◃ p) (f x) ts
  map_of f p x ts h = record { make = f; part = x; front = []; back = ts; first = (refl, refl); second = h; value = refl; text = refl }

  both_of : {A B : Type 0} (p : Shape (B → A)) (q : Shape B) (f : B → A) (x : B) (us vs : List Seen) → SpellsSo inner p f us → SpellsSo inner q x vs
      → SpellsSo inner (seq p q) (f x) (us ++ vs)
  both_of p q f x us vs h g = record { make = f; part = x; front = us; back = vs; first = h; second = g; value = refl; text = refl }

  record Dropped {A B : Type 0} (p : Shape A) (q : Shape B) (a : A) (ts : List Seen) : Type 0 where
    other : B
    front : List Seen
    back : List Seen
    first : SpellsSo inner p a front
    second : SpellsSo inner q other back
    text : ts ≡ front ++ back

  drop_apart : {A B : Type 0} (p : Shape A) (q : Shape B) (a : A) (ts : List Seen) → SpellsSo inner (p ⊲ q) a ts → Dropped p q a ts
  drop_apart {A} {B} p q a ts h =
      let k = map_apart (λ x y. x) p h.make h.front h.first in
      record {
        other = h.part;
        front = h.front;
        back = h.back;
        first = subst (λ (x : A). SpellsSo inner p x h.front) (sym (h.value ∙ ap (λ (f : B → A). f h.part) k.value)) k.is;
        second = h.second;
        text = h.text;
      }

  drop_of : {A B : Type 0} (p : Shape A) (q : Shape B) (x : A) (y : B) (us vs : List Seen) → SpellsSo inner p x us → SpellsSo inner q y vs
      → SpellsSo inner (p ⊲ q) x (us ++ vs)
  drop_of p q x y us vs h g = both_of (seq (give (λ a b. a)) p) q (λ b. x) y us vs (map_of (λ a b. a) p x us h) g

  moved : {A : Type 0} (p : Shape A) (f g : A) (ts us : List Seen) → f ≡ g → ts ≡ us → SpellsSo inner p g us → SpellsSo inner p f ts
  moved p f g ts us same text h = rw (same, text) h

  -- ---- from the grammar to the forms

  named_value : (n : ByteList) (f : ByteList → Expr) (g : Expr → Expr) (us vs ws : List Seen) → SpellsSo inner name n us → SpellsSo inner behind_name f vs
      → SpellsSo inner (behind_operand top) g ws → SpellsSo inner expression (g (f n)) ((us ++ vs) ++ ws)
  unfolding expression unary primary name_led
  named_value n f g us vs ws h k l =
      both_of (into ◃ unary) (behind_operand top) (into (f n)) g (us ++ vs) ws
      (map_of into unary (f n) (us ++ vs) (inr (inl (both_of ((λ n f. f n) ◃ name) behind_name (λ f. f n) f us vs (map_of (λ n f. f n) name n us h) k))))
      l

  nameless_value : (x : Expr) (ts : List Seen) → SpellsSo inner nameless_expression x ts → SpellsSo inner expression x ts
  unfolding expression unary primary nameless_expression nameless_unary
  nameless_value x ts h =
      let k = map_apart into nameless_unary h.make h.front h.first in
      moved expression x (h.part k.part) ts (h.front ++ h.back) (h.value ∙ ap (λ (f : (Expr → Expr) → Expr). f h.part) k.value) h.text
      (both_of (into ◃ unary) (behind_operand top) (into k.part) h.part h.front h.back (map_of into unary k.part h.front (widened k.part h.front k.is))
      h.second)
    where
      widened : (y : Expr) (us : List Seen) → SpellsSo inner nameless_unary y us → SpellsSo inner unary y us
      widened y us (inl g) = inl g
      widened y us (inr g) = inr (inr g)

  call_of : (first : ByteList) (g : ByteList → Letting) (us vs : List Seen) → SpellsSo inner name first us → SpellsSo inner let_call g vs
      → SpellsSo inner call_form (g first) (us ++ vs)
  unfolding let_call
  call_of first g us vs h k =
      let d = drop_apart ((λ xs callee l n. stmt l (s.LetCall n callee xs)) ◃ called) (mark m.Semicolon) g vs k in
      let c = map_apart (λ xs callee l n. stmt l (s.LetCall n callee xs)) called g d.front d.first in
      moved call_form (g first) (λ l n. stmt l (s.LetCall n first c.part)) (us ++ vs) ((us ++ d.front) ++ d.back)
      (ap (λ (f : ByteList → Letting). f first) c.value) (ap (λ (zs : List Seen). us ++ zs) d.text ∙ sym (append_assoc us d.front d.back))
      (drop_of ((λ callee xs l n. stmt l (s.LetCall n callee xs)) ◃ name ⊛ called) (mark m.Semicolon) (λ l n. stmt l (s.LetCall n first c.part)) d.other
      (us ++ d.front) d.back
      (both_of ((λ callee xs l n. stmt l (s.LetCall n callee xs)) ◃ name) called (λ xs l n. stmt l (s.LetCall n first xs)) c.part us d.front
      (map_of (λ callee xs l n. stmt l (s.LetCall n callee xs)) name first us h) c.is)
      d.second)

  rest_of : (first : ByteList) (g : ByteList → Letting) (us vs : List Seen) → SpellsSo inner name first us → SpellsSo inner let_named g vs
      → SpellsSo inner value_form (g first) (us ++ vs)
  unfolding let_named
  rest_of first g us vs h k =
      let d = drop_apart ((λ f g first l n. stmt l (s.Let n (g (f first)))) ◃ behind_name ⊛ behind_operand top) (mark m.Semicolon) g vs k in
      let b = d.first in
      let c = map_apart (λ f g first l n. stmt l (s.Let n (g (f first)))) behind_name b.make b.front b.first in
      let value : g ≡ (λ first l n. stmt l (s.Let n (b.part (c.part first)))) = b.value ∙ ap (λ (f : (Expr → Expr) → ByteList → Letting). f b.part) c.value in
      let text : us ++ vs ≡ ((us ++ b.front) ++ b.back) ++ d.back =
      ap (λ (zs : List Seen). us ++ zs) (d.text ∙ ap (λ (zs : List Seen). zs ++ d.back) b.text) ∙ sym (append_assoc us (b.front ++ b.back) d.back)
      ∙ ap (λ (zs : List Seen). zs ++ d.back) (sym (append_assoc us b.front b.back)) in
      moved value_form (g first) (λ l n. stmt l (s.Let n (b.part (c.part first)))) (us ++ vs) (((us ++ b.front) ++ b.back) ++ d.back)
      (ap (λ (f : ByteList → Letting). f first) value) text
      (drop_of ((λ x l n. stmt l (s.Let n x)) ◃ expression) (mark m.Semicolon) (λ l n. stmt l (s.Let n (b.part (c.part first)))) d.other
      ((us ++ b.front) ++ b.back) d.back
      (map_of (λ x l n. stmt l (s.Let n x)) expression (b.part (c.part first)) ((us ++ b.front) ++ b.back)
      (named_value first c.part b.part us b.front b.back h c.is b.second))
      d.second)

  by_name : (f : Letting) (ts : List Seen) → SpellsSo inner let_name f ts → SpellsSo inner let_forms f ts
  unfolding let_name
  by_name f ts h = go h.second
    where
      k : Mapped (λ first f. f first) name h.make h.front
      k = map_apart (λ first f. f first) name h.make h.front h.first

      value : f ≡ h.part k.part
      value = h.value ∙ ap (λ (g : (ByteList → Letting) → Letting). g h.part) k.value

      go : SpellsSo inner (either (a_mark m.LeftParen) let_call let_named) h.part h.back → SpellsSo inner let_forms f ts
      go (inl g) = inr (inl (moved call_form f (h.part k.part) ts (h.front ++ h.back) value h.text (call_of k.part h.part h.front h.back k.is g)))
      go (inr g) = inr (inr (moved value_form f (h.part k.part) ts (h.front ++ h.back) value h.text (rest_of k.part h.part h.front h.back k.is g)))

  by_nameless : (f : Letting) (ts : List Seen) → SpellsSo inner let_nameless f ts → SpellsSo inner value_form f ts
  unfolding let_nameless
  by_nameless f ts h =
      let d = drop_apart ((λ x l n. stmt l (s.Let n x)) ◃ nameless_expression) (mark m.Semicolon) f ts h in
      let c = map_apart (λ x l n. stmt l (s.Let n x)) nameless_expression f d.front d.first in
      moved value_form f (let_of c.part) ts (d.front ++ d.back) c.value d.text
      (drop_of ((λ x l n. stmt l (s.Let n x)) ◃ expression) (mark m.Semicolon) (let_of c.part) d.other d.front d.back
      (map_of (λ x l n. stmt l (s.Let n x)) expression c.part d.front (nameless_value c.part d.front c.is)) d.second)

  -- What the grammar spells, one of the forms does.
  pub to_forms : (f : Letting) (ts : List Seen) → SpellsSo inner let_value f ts → SpellsSo inner let_forms f ts
  unfolding let_value
  to_forms f ts (inl h) = inl h
  to_forms f ts (inr (inl h)) = by_name f ts h
  to_forms f ts (inr (inr h)) = inr (inr (by_nameless f ts h))

  -- ---- and back

  call_back : (f : Letting) (ts : List Seen) → SpellsSo inner call_form f ts → SpellsSo inner let_name f ts
  unfolding let_name let_call
  call_back f ts h =
      let d = drop_apart ((λ callee xs l n. stmt l (s.LetCall n callee xs)) ◃ name ⊛ called) (mark m.Semicolon) f ts h in
      let b = d.first in
      let c = map_apart (λ callee xs l n. stmt l (s.LetCall n callee xs)) name b.make b.front b.first in
      moved let_name f (λ l n. stmt l (s.LetCall n c.part b.part)) ts (b.front ++ (b.back ++ d.back))
      (b.value ∙ ap (λ (g : List Expr → Letting). g b.part) c.value) (d.text ∙ ap (λ (zs : List Seen). zs ++ d.back) b.text
      ∙ append_assoc b.front b.back d.back)
      (both_of ((λ first f. f first) ◃ name) (either (a_mark m.LeftParen) let_call let_named) (λ f. f c.part)
      (λ callee l n. stmt l (s.LetCall n callee b.part)) b.front (b.back ++ d.back)
      (map_of (λ first f. f first) name c.part b.front c.is)
      (inl (drop_of ((λ xs callee l n. stmt l (s.LetCall n callee xs)) ◃ called) (mark m.Semicolon) (λ callee l n. stmt l (s.LetCall n callee b.part))
      d.other b.back d.back (map_of (λ xs callee l n. stmt l (s.LetCall n callee xs)) called b.part b.back b.second) d.second)))

  nameless_back : (x : Expr) (g : Expr → Expr) (us vs ws : List Seen) (l : ℕ) → SpellsSo inner nameless_unary x us
      → SpellsSo inner (behind_operand top) g vs → SpellsSo inner (mark m.Semicolon) l ws → SpellsSo inner let_nameless (let_of (g x)) ((us ++ vs) ++ ws)
  unfolding let_nameless nameless_expression
  nameless_back x g us vs ws l h k e =
      drop_of ((λ x l n. stmt l (s.Let n x)) ◃ nameless_expression) (mark m.Semicolon) (let_of (g x)) l (us ++ vs) ws
      (map_of (λ x l n. stmt l (s.Let n x)) nameless_expression (g x) (us ++ vs)
      (both_of (into ◃ nameless_unary) (behind_operand top) (into x) g us vs (map_of into nameless_unary x us h) k))
      e

  named_back : (n : ByteList) (f : ByteList → Expr) (g : Expr → Expr) (us vs ws zs : List Seen) (l : ℕ) → SpellsSo inner name n us
      → SpellsSo inner behind_name f vs → SpellsSo inner (behind_operand top) g ws → SpellsSo inner (mark m.Semicolon) l zs
      → SpellsSo inner let_name (let_of (g (f n))) (us ++ ((vs ++ ws) ++ zs))
  unfolding let_name let_named
  named_back n f g us vs ws zs l h k o e =
      both_of ((λ first f. f first) ◃ name) (either (a_mark m.LeftParen) let_call let_named) (λ f. f n) (λ first l n. stmt l (s.Let n (g (f first)))) us
      ((vs ++ ws) ++ zs)
      (map_of (λ first f. f first) name n us h)
      (inr (drop_of ((λ f g first l n. stmt l (s.Let n (g (f first)))) ◃ behind_name ⊛ behind_operand top) (mark m.Semicolon)
      (λ first l n. stmt l (s.Let n (g (f first)))) l (vs ++ ws) zs
      (both_of ((λ f g first l n. stmt l (s.Let n (g (f first)))) ◃ behind_name) (behind_operand top) (λ g first l n. stmt l (s.Let n (g (f first)))) g vs
      ws (map_of (λ f g first l n. stmt l (s.Let n (g (f first)))) behind_name f vs k) o)
      e))

  -- by its first operand
  value_back : (x : Expr) (g : Expr → Expr) (us vs ws : List Seen) (l : ℕ) → SpellsSo inner unary x us → SpellsSo inner (behind_operand top) g vs
      → SpellsSo inner (mark m.Semicolon) l ws → SpellsSo inner let_value (let_of (g x)) ((us ++ vs) ++ ws)
  unfolding let_value unary primary nameless_unary name_led
  value_back x g us vs ws l (inl h) k e = inr (inr (nameless_back x g us vs ws l (inl h) k e))
  value_back x g us vs ws l (inr (inr h)) k e = inr (inr (nameless_back x g us vs ws l (inr h) k e))
  value_back x g us vs ws l (inr (inl h)) k e =
      let c = map_apart (λ n f. f n) name h.make h.front h.first in
      let value : x ≡ h.part c.part = h.value ∙ ap (λ (z : (ByteList → Expr) → Expr). z h.part) c.value in
      let text : (us ++ vs) ++ ws ≡ h.front ++ ((h.back ++ vs) ++ ws) = ap (λ (zs : List Seen). (zs ++ vs) ++ ws) h.text
      ∙ ap (λ (zs : List Seen). zs ++ ws) (append_assoc h.front h.back vs) ∙ append_assoc h.front (h.back ++ vs) ws in
      inr (inl (moved let_name (let_of (g x)) (let_of (g (h.part c.part))) ((us ++ vs) ++ ws) (h.front ++ ((h.back ++ vs) ++ ws))
      (ap (λ (y : Expr). let_of (g y)) value) text
      (named_back c.part h.part g h.front h.back vs ws l c.is h.second k e)))

  from_value : (f : Letting) (ts : List Seen) → SpellsSo inner value_form f ts → SpellsSo inner let_value f ts
  unfolding expression
  from_value f ts h =
      let d = drop_apart ((λ x l n. stmt l (s.Let n x)) ◃ expression) (mark m.Semicolon) f ts h in
      let c = map_apart (λ x l n. stmt l (s.Let n x)) expression f d.front d.first in
      let x = c.is in
      let u = map_apart into unary x.make x.front x.first in
      let value : c.part ≡ x.part u.part = x.value ∙ ap (λ (g : (Expr → Expr) → Expr). g x.part) u.value in
      moved let_value f (let_of (x.part u.part)) ts ((x.front ++ x.back) ++ d.back) (c.value ∙ ap (λ (y : Expr). let_of y) value)
      (d.text ∙ ap (λ (zs : List Seen). zs ++ d.back) x.text)
      (value_back u.part x.part x.front x.back d.back d.other u.is x.second d.second)

  finish_in : (f : Letting) (ts : List Seen) → SpellsSo inner let_finish f ts → SpellsSo inner let_value f ts
  unfolding let_value
  finish_in f ts h = inl h

  name_in : (f : Letting) (ts : List Seen) → SpellsSo inner let_name f ts → SpellsSo inner let_value f ts
  unfolding let_value
  name_in f ts h = inr (inl h)

  -- What one of the forms spells, the grammar does.
  pub from_forms : (f : Letting) (ts : List Seen) → SpellsSo inner let_forms f ts → SpellsSo inner let_value f ts
  from_forms f ts (inl h) = finish_in f ts h
  from_forms f ts (inr (inl h)) = name_in f ts (call_back f ts h)
  from_forms f ts (inr (inr h)) = from_value f ts h
