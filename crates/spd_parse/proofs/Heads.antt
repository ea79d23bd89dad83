-- The first token of a spelling.
use Rattle.std.proofs.Common.{◌≡◌, Bool, true, false, ◌&&◌, ◌||◌, List, [], ◌∷◌, ◌++◌, refl, inl, inr}
use Rattle.spd_syntax.specs.declared.token.TokenKind.{TokenKind}
use Rattle.spd_syntax.specs.declared.token.TokenKind.TheVariants as kind
use Rattle.spd_syntax.specs.Tokens.{Seen}
use Rattle.spd_syntax.specs.Symbols.{IsAnySymbol, kind_of, is_in}
use Rattle.spd_syntax.specs.Shape.{Shape, token, give, seq, either, folds, nest, EachPart, texts, Spelling, Spells}
use Rattle.spd_syntax.specs.OneAhead.{when, is_empty, begins}
use Rattle.spd_syntax.proofs.KindSets.{in_left, in_right, in_table, same_kind-same}

abbrev pub Begins : Bool → List TokenKind → List Seen → Type 0
Begins empty ks [] = empty ≡ true
Begins empty ks (t ∷ r) = is_in (kind_of t.0) ks ≡ true

-- one part and then another
begins_both : (e f : Bool) (js ks : List TokenKind) (us vs : List Seen) → Begins e js us → Begins f ks vs → Begins (e && f) (js ++ when e ks) (us ++ vs)
begins_both e f js ks [] [] h g = rw (h, g) refl
begins_both e f js ks [] (t ∷ r) h g = rw h (in_right (kind_of t.0) js ks g)
begins_both e f js ks (t ∷ us) vs h g = in_left (kind_of t.0) js (when e ks) h

begins_many : (e : Bool) (js ks : List TokenKind) (us vs : List Seen) → Begins e js us → Begins true ks vs → Begins e (js ++ when e ks) (us ++ vs)
begins_many e js ks [] [] h g = h
begins_many e js ks [] (t ∷ r) h g = rw h (in_right (kind_of t.0) js ks g)
begins_many e js ks (t ∷ us) vs h g = in_left (kind_of t.0) js (when e ks) h

begins_first : (e f : Bool) (js ks : List TokenKind) (us : List Seen) → Begins e js us → Begins (e || f) (js ++ ks) us
begins_first e f js ks [] h = rw h refl
begins_first e f js ks (t ∷ r) h = in_left (kind_of t.0) js ks h

begins_second : (e f : Bool) (js ks : List TokenKind) (us : List Seen) → Begins f ks us → Begins (e || f) (js ++ ks) us
begins_second true f js ks [] h = refl
begins_second false f js ks [] h = h
begins_second e f js ks (t ∷ r) h = in_right (kind_of t.0) js ks h

pub begins_each : {B : Type 0} (f : Bool) (ks : List TokenKind) (Q : B → List Seen → Type 0) (bs : List (B × List Seen))
    → ((x : B) (vs : List Seen) → Q x vs → Begins f ks vs) → EachPart Q bs → Begins true ks (texts bs)
begins_each f ks Q [] h each = refl
begins_each f ks Q (b ∷ bs) h each = by_text b.1 (h b.0 b.1 each.0) (begins_each f ks Q bs h each.1)
  where
    by_text : (vs : List Seen) → Begins f ks vs → Begins true ks (texts bs) → Begins true ks (vs ++ texts bs)
    by_text [] g rest = rest
    by_text (t ∷ r) g rest = g

module _ (inner : Spelling) where
  pub heads : {A : Type 0} (p : Shape A) (a : A) (ts : List Seen) → Spells IsAnySymbol inner p a ts → Begins (is_empty p) (begins p) ts
  heads (token table) a ts s = rw s.text (in_table (kind_of s.token.0) table s.make s.row)
  heads (give b) a ts s = rw s.1 refl
  heads (seq p q) a ts s = rw s.text (begins_both (is_empty p) (is_empty q) (begins p) (begins q) s.front s.back (heads p s.make s.front s.first)
      (heads q s.part s.back s.second))
  heads (either ks p q) a ts (inl s) = begins_first (is_empty p) (is_empty q) (begins p) (begins q) ts (heads p a ts s)
  heads (either ks p q) a ts (inr s) = begins_second (is_empty p) (is_empty q) (begins p) (begins q) ts (heads q a ts s)
  heads (folds ks f p q) a ts s = rw s.text (begins_many (is_empty p) (begins p) (begins q) s.front (texts s.parts) (heads p s.base s.front s.first)
      (begins_each (is_empty q) (begins q) (Spells IsAnySymbol inner q) s.parts (λ x vs h. heads q x vs h) s.each))
  heads (nest rule o c f) a ts s = rw (s.text, same_kind-same (kind.Mark o)) refl
