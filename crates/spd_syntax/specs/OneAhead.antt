-- One token is enough to read a grammar by: a test that computes.
use Rattle.std.specs.Prelude.{Bool, true, false, ◌&&◌, ◌||◌, not, List, [], ◌∷◌, ◌++◌, map}
use Rattle.spd_syntax.specs.declared.token.TokenKind.{TokenKind}
use Rattle.spd_syntax.specs.declared.token.TokenKind.TheVariants as kind
use Rattle.spd_syntax.specs.Symbols.{is_in}
use Rattle.spd_syntax.specs.Limits.{opening, closing}
use Rattle.spd_syntax.specs.Shape.{Shape, token, give, seq, either, folds, nest, fst}

abbrev pub when : Bool → List TokenKind → List TokenKind
when true ks = ks
when false ks = []

-- no token is needed
abbrev pub is_empty : {A : Type 0} → Shape A → Bool
is_empty (token table) = false
is_empty (give a) = true
is_empty (seq p q) = is_empty p && is_empty q
is_empty (either ks p q) = is_empty p || is_empty q
is_empty (folds ks f p q) = is_empty p
is_empty (nest rule o c f) = false

-- the tokens that may stand first
abbrev pub begins : {A : Type 0} → Shape A → List TokenKind
begins (token table) = map fst table
begins (give a) = []
begins (seq p q) = begins p ++ when (is_empty p) (begins q)
begins (either ks p q) = begins p ++ begins q
begins (folds ks f p q) = begins p ++ when (is_empty p) (begins q)
begins (nest rule o c f) = kind.Mark o ∷ []

-- the tokens that a shape may go on with where it could end
abbrev pub goes_on : {A : Type 0} → Shape A → List TokenKind
goes_on (token table) = []
goes_on (give a) = []
goes_on (seq p q) = goes_on q ++ when (is_empty q) (goes_on p)
goes_on (either ks p q) = goes_on p ++ (goes_on q ++ when (is_empty q) ks)
goes_on (folds ks f p q) = ks ++ (goes_on p ++ goes_on q)
goes_on (nest rule o c f) = []

-- no kind is in both
abbrev pub apart : List TokenKind → List TokenKind → Bool
apart [] ks = true
apart (k ∷ others) ks = not (is_in k ks) && apart others ks

-- each of the first is among the second
abbrev pub within : List TokenKind → List TokenKind → Bool
within [] ks = true
within (k ∷ others) ks = is_in k ks && within others ks

abbrev pub some : {A : Type 0} → List A → Bool
some [] = false
some (x ∷ xs) = true

abbrev pub one_ahead : {A : Type 0} → Shape A → Bool
one_ahead (token table) = some table && (apart (map fst table) opening && apart (map fst table) closing)
one_ahead (give a) = true
one_ahead (seq p q) = one_ahead p && (one_ahead q && apart (goes_on p) (begins q))
one_ahead (either ks p q) = one_ahead p && (one_ahead q && (not (is_empty p) && (within (begins p) ks && apart ks (begins q))))
one_ahead (folds ks f p q) = one_ahead p && (one_ahead q && (not (is_empty q) && (within (begins q) ks && (apart (goes_on p) (begins q) && apart (goes_on q) (begins q)))))
one_ahead (nest rule o c f) = is_in (kind.Mark o) opening && is_in (kind.Mark c) closing

-- a spelling needs no bracket
abbrev pub plain : {A : Type 0} → Shape A → Bool
plain (token table) = true
plain (give a) = true
plain (seq p q) = plain p && plain q
plain (either ks p q) = plain p || plain q
plain (folds ks f p q) = plain p
plain (nest rule o c f) = false
