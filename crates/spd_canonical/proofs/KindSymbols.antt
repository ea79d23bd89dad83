-- What a symbol of a kind is.
use Rattle.std.proofs.Common.{◌≡◌, true, refl, sym, ap, rules}
use denote.Enum.Bare.{same_true}
use Rattle.spd_syntax.specs.contracts.token.Word as words
use Rattle.spd_syntax.specs.contracts.token.Mark as marks
use Rattle.spd_syntax.specs.declared.token.Mark.{Mark}
use Rattle.spd_syntax.specs.declared.token.Word.{Word}
use Rattle.spd_syntax.specs.declared.token.TokenKind.TheVariants as kind
use Rattle.spd_syntax.specs.Tokens as t
use Rattle.spd_syntax.specs.Tokens.{Symbol}
use Rattle.spd_syntax.specs.Symbols.{same_mark, same_word, same_kind, kind_of, bytes_of}

same_marks : (a c : Mark) → same_mark a c ≡ true → a ≡ c
unfolding same_mark
same_marks a c h = same_true marks.the_type (search rules) a c h

same_words : (a c : Word) → same_word a c ≡ true → a ≡ c
unfolding same_word
same_words a c h = same_true words.the_type (search rules) a c h

-- the symbols of a kind
pub mark_symbol : (which : Mark) (s : Symbol) → same_kind (kind.Mark which) (kind_of s) ≡ true → s ≡ t.mark which
mark_symbol which (t.name z) h = absurd cc
mark_symbol which (t.number z) h = absurd cc
mark_symbol which (t.lit z) h = absurd cc
mark_symbol which (t.word other) h = absurd cc
mark_symbol which (t.mark other) h = ap (λ (k : Mark). t.mark k) (sym (same_marks which other h))

pub word_symbol : (which : Word) (s : Symbol) → same_kind (kind.Word which) (kind_of s) ≡ true → s ≡ t.word which
word_symbol which (t.name z) h = absurd cc
word_symbol which (t.number z) h = absurd cc
word_symbol which (t.lit z) h = absurd cc
word_symbol which (t.mark other) h = absurd cc
word_symbol which (t.word other) h = ap (λ (k : Word). t.word k) (sym (same_words which other h))

pub name_symbol : (s : Symbol) → same_kind kind.Name (kind_of s) ≡ true → s ≡ t.name (bytes_of s)
name_symbol (t.name z) h = refl
name_symbol (t.number z) h = absurd cc
name_symbol (t.lit z) h = absurd cc
name_symbol (t.word which) h = absurd cc
name_symbol (t.mark which) h = absurd cc

pub number_symbol : (s : Symbol) → same_kind kind.Number (kind_of s) ≡ true → s ≡ t.number (bytes_of s)
number_symbol (t.name z) h = absurd cc
number_symbol (t.number z) h = refl
number_symbol (t.lit z) h = absurd cc
number_symbol (t.word which) h = absurd cc
number_symbol (t.mark which) h = absurd cc

pub lit_symbol : (s : Symbol) → same_kind kind.Lit (kind_of s) ≡ true → s ≡ t.lit (bytes_of s)
lit_symbol (t.name z) h = absurd cc
lit_symbol (t.number z) h = absurd cc
lit_symbol (t.lit z) h = refl
lit_symbol (t.word which) h = absurd cc
lit_symbol (t.mark which) h = absurd cc
