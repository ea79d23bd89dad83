-- Symbols that count as others do: the limits that are counted can't tell them apart.
use Rattle.std.proofs.Common.{◌≡◌, List, [], ◌∷◌, ◌++◌, Option, Some, None, refl, sym, ◌∙◌, ap, append_assoc}
use Rattle.spd_syntax.specs.declared.token.Mark.{Mark}
use Rattle.spd_syntax.specs.declared.token.Mark.TheVariants as m
use Rattle.spd_syntax.specs.declared.counts.Counts.{Counts}
use Rattle.spd_syntax.specs.declared.token.Word.TheVariants as w
use Rattle.spd_syntax.specs.Tokens.{Symbol, word, mark, Seen}
use Rattle.spd_syntax.specs.Symbols.{same_mark}
use Rattle.spd_syntax.specs.Limits.{counts_with, counts_behind, and_then}
use Rattle.spd_canonical.specs.Canonical.{in_parens, between_marks}
use Rattle.spd_canonical.proofs.Says.{symbols}

-- what is counted of symbols
abbrev pub counts_of : Counts → List Symbol → Option Counts
counts_of c [] = Some c
counts_of c (s ∷ ss) = and_then (counts_with c s) (λ d. counts_of d ss)

then_same : (o : Option Counts) (f g : Counts → Option Counts) → ((d : Counts) → f d ≡ g d) → and_then o f ≡ and_then o g
then_same None f g h = refl
then_same (Some d) f g h = h d

then_then : (o : Option Counts) (f g : Counts → Option Counts) → and_then o (λ d. and_then (f d) g) ≡ and_then (and_then o f) g
then_then None f g = refl
then_then (Some d) f g = refl

then_some : (o : Option Counts) → and_then o (λ d. Some d) ≡ o
then_some None = refl
then_some (Some d) = refl

-- Lines count nothing.
pub counts_of_symbols : (c : Counts) (ts : List Seen) → counts_behind c ts ≡ counts_of c (symbols ts)
counts_of_symbols c [] = refl
counts_of_symbols c (t ∷ ts) = then_same (counts_with c t.0) (λ d. counts_behind d ts) (λ d. counts_of d (symbols ts)) (λ d. counts_of_symbols d ts)

pub counts_both : (c : Counts) (a b : List Symbol) → counts_of c (a ++ b) ≡ and_then (counts_of c a) (λ d. counts_of d b)
counts_both c [] b = refl
counts_both c (s ∷ a) b = then_same (counts_with c s) (λ d. counts_of d (a ++ b)) (λ d. and_then (counts_of d a) (λ f. counts_of f b))
    (λ d. counts_both d a b) ∙ then_then (counts_with c s) (λ d. counts_of d a) (λ d. counts_of d b)

pub record SameCounts (a b : List Symbol) : Type 0 where
  pub is : (c : Counts) → counts_of c a ≡ counts_of c b

pub same_self : (a : List Symbol) → SameCounts a a
same_self a = record { is = λ c. refl }

pub same_as : (a b : List Symbol) → a ≡ b → SameCounts a b
same_as a b e = record { is = λ c. ap (counts_of c) e }

pub same_then : (a b c : List Symbol) → SameCounts a b → SameCounts b c → SameCounts a c
same_then a b c h g = record { is = λ n. h.is n ∙ g.is n }

pub same_back : (a b : List Symbol) → SameCounts a b → SameCounts b a
same_back a b h = record { is = λ n. sym (h.is n) }

pub same_both : (a b c d : List Symbol) → SameCounts a c → SameCounts b d → SameCounts (a ++ b) (c ++ d)
same_both a b c d h g =
    record {
      is = λ n. counts_both n a b ∙ ap (λ (o : Option Counts). and_then o (λ k. counts_of k b)) (h.is n)
          ∙ then_same (counts_of n c) (λ k. counts_of k b) (λ k. counts_of k d) (λ k. g.is k) ∙ sym (counts_both n c d);
    }

pub same_cons : (s : Symbol) (b d : List Symbol) → SameCounts b d → SameCounts (s ∷ b) (s ∷ d)
same_cons s b d h = record { is = λ n. then_same (counts_with n s) (λ k. counts_of k b) (λ k. counts_of k d) (λ k. h.is k) }

pub same_between : (o c : Mark) (a b : List Symbol) → SameCounts a b → SameCounts (between_marks o c a) (between_marks o c b)
same_between o c a b h = same_cons (mark o) (a ++ mark c ∷ []) (b ++ mark c ∷ []) (same_both a (mark c ∷ []) b (mark c ∷ []) h (same_self (mark c ∷ [])))

-- Parentheses count nothing.
pub same_parens : (a : List Symbol) → SameCounts (in_parens a) a
unfolding counts_with same_mark
same_parens a = record { is = λ n. counts_both n a (mark m.RightParen ∷ []) ∙ then_some (counts_of n a) }

-- An empty block behind `else` counts nothing.
pub same_else : (a : List Symbol) → SameCounts ((a ++ mark m.RightBrace ∷ []) ++ word w.Else ∷ mark m.LeftBrace ∷ mark m.RightBrace ∷ [])
    (a ++ mark m.RightBrace ∷ [])
unfolding counts_with
same_else a =
    same_then ((a ++ mark m.RightBrace ∷ []) ++ word w.Else ∷ mark m.LeftBrace ∷ mark m.RightBrace ∷ [])
    (a ++ mark m.RightBrace ∷ word w.Else ∷ mark m.LeftBrace ∷ mark m.RightBrace ∷ []) (a ++ mark m.RightBrace ∷ [])
    (same_as ((a ++ mark m.RightBrace ∷ []) ++ word w.Else ∷ mark m.LeftBrace ∷ mark m.RightBrace ∷ [])
    (a ++ mark m.RightBrace ∷ word w.Else ∷ mark m.LeftBrace ∷ mark m.RightBrace ∷ [])
    (append_assoc a (mark m.RightBrace ∷ []) (word w.Else ∷ mark m.LeftBrace ∷ mark m.RightBrace ∷ [])))
    (same_both a (mark m.RightBrace ∷ word w.Else ∷ mark m.LeftBrace ∷ mark m.RightBrace ∷ []) a (mark m.RightBrace ∷ []) (same_self a)
    (record { is = λ c. refl }))
