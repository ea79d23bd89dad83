-- Limits behind tokens, one part after another.
use Rattle.std.proofs.Common.{◌≡◌, ℕ, suc, ◌<◌, ◌≤◌, nat_le, true, false, List, [], ◌∷◌, ◌++◌, Some, refl, arith}
use Rattle.std.proofs.lemmas.Bool.{lt-leb, le-leb}
use Rattle.spd_syntax.specs.declared.token.Mark.{Mark}
use Rattle.spd_syntax.specs.declared.token.TokenKind.TheVariants as kind
use Rattle.spd_syntax.specs.declared.fault.ParseKind.TheVariants.{TooDeep}
use Rattle.spd_syntax.specs.Tokens.{mark, Seen}
use Rattle.spd_syntax.specs.Symbols.{kind_of, is_great, is_in}
use Rattle.spd_syntax.specs.Limits.{opening, closing, open_with, open_behind, broken, Keeps}

-- The tokens keep the limits, and so many brackets are open behind them.
abbrev pub Level : ℕ → ℕ → List Seen → ℕ → Type 0
Level limit n us m = Keeps limit n us × (open_behind n us ≡ m)

pub level_both : (limit n m k : ℕ) (us vs : List Seen) → Level limit n us m → Level limit m vs k → Level limit n (us ++ vs) k
level_both limit n m k [] vs h g = rw h.1 g
level_both limit n m k (t ∷ us) vs h g = let rest = level_both limit (open_with n t.0) m k us vs (h.0.1, h.1) g in ((h.0.0, rest.0), rest.1)

-- a token that is no bracket, and no number that is too great
pub level_plain : (limit n : ℕ) (t : Seen) → is_great t.0 ≡ false → is_in (kind_of t.0) opening ≡ false → is_in (kind_of t.0) closing ≡ false
    → Level limit n (t ∷ []) n
level_plain limit n t g o c = ((rw (g, o) refl, tt), rw (o, c) refl)

pub level_open : (limit n : ℕ) (o : Mark) (l : ℕ) → n < limit → is_in (kind.Mark o) opening ≡ true → Level limit n ((mark o, l) ∷ []) (suc n)
level_open limit n o l less h = let no : nat_le limit n ≡ false = lt-leb limit n less in ((rw (h, no) refl, tt), rw h refl)

pub too_deep : (limit n : ℕ) (o : Mark) → limit ≤ n → is_in (kind.Mark o) opening ≡ true → broken limit n (mark o) ≡ Some TooDeep
too_deep limit n o more h = let yes : nat_le limit n ≡ true = le-leb limit n more in rw (h, yes) refl

pub level_close : (limit n : ℕ) (c : Mark) (l : ℕ) → is_in (kind.Mark c) opening ≡ false → is_in (kind.Mark c) closing ≡ true
    → Level limit (suc n) ((mark c, l) ∷ []) n
level_close limit n c l g h = ((rw g refl, tt), rw (g, h) (omega arith))
