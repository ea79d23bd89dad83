-- Writing on a page, token by token.
use Rattle.std.proofs.Common.{◌≡◌, ℕ, zero, suc, ◌+◌, ◌-◌, ◌<◌, ◌≤◌, List, [], ◌∷◌, ◌++◌, map, length, get_or, take, drop, flat_map, refl, sym, ◌∙◌, ap, add-one, arith}
use Rattle.std.proofs.lemmas.List.{take_more, take_rest, append-nil}
use Rattle.std.proofs.lemmas.List.Concat.{flat_map-append}
use Rattle.std.proofs.lemmas.List.Folds.{flat_map-map}
use Rattle.spd_syntax.specs.declared.token.Mark.TheVariants.{LeftBrace, RightBrace}
use Rattle.spd_syntax.specs.declared.token.Word.TheVariants.{Else}
use Rattle.spd_syntax.specs.declared.tree.Stmt.{Stmt}
use Rattle.spd_syntax.specs.Tokens.{Symbol, word, mark}
use Rattle.spd_canonical.specs.Canonical.{behind_commas, with_commas, statement_symbols, block_symbols, else_symbols}
use Rattle.spd_canonical.specs.Layout.{spaces, PageView, laid, with_symbol}

-- two spaces more
spaces_next : (n : ℕ) → spaces n ++ 32 ∷ 32 ∷ [] ≡ spaces (suc n)
spaces_next zero = refl
spaces_next (suc n) = ap (λ (z : List ℕ). 32 ∷ 32 ∷ z) (spaces_next n)

pub spaces_more : (n : ℕ) → spaces n ++ 32 ∷ 32 ∷ [] ≡ spaces (n + 1)
spaces_more n = rw add-one (spaces_next n)

-- Symbols behind others are laid behind them.
pub laid_append : (page : PageView) (ss us : List Symbol) → laid page (ss ++ us) ≡ laid (laid page ss) us
laid_append page [] us = refl
laid_append page (s ∷ ss) us = laid_append (with_symbol page s) ss us

-- One more entry of a list is laid.
pub laid_next : {A : Type 0} (symbols_of : A → List Symbol) (first page : PageView) (xs : List A) (i : ℕ) (x : A) → i < length xs → x ≡ get_or xs i x
    → page ≡ laid first (flat_map symbols_of (take i xs)) → laid page (symbols_of x) ≡ laid first (flat_map symbols_of (take (i + 1) xs))
laid_next {A} symbols_of first page xs i x lt is h =
    let more : flat_map symbols_of (take (i + 1) xs) ≡ flat_map symbols_of (take i xs) ++ symbols_of x =
    ap (flat_map symbols_of) (take_more xs i x lt ∙ ap (λ (y : A). take i xs ++ y ∷ []) (sym is)) ∙ flat_map-append symbols_of (take i xs) (x ∷ [])
    ∙ ap (λ (ss : List Symbol). flat_map symbols_of (take i xs) ++ ss) (append-nil (symbols_of x)) in
    rw (h, more) (sym (laid_append first (flat_map symbols_of (take i xs)) (symbols_of x)))

-- Symbols in two parts are laid part by part.
pub laid_pair : (start middle : PageView) (whole a b : List Symbol) → whole ≡ a ++ b → middle ≡ laid start a → laid middle b ≡ laid start whole
laid_pair start middle whole a b is h = rw (is, h) (sym (laid_append start a b))

-- A list that isn't empty is its first entry and the others.
pub commas_cons : {A : Type 0} (symbols_of : A → List Symbol) (z : List A) (x : A) → 1 ≤ length z → x ≡ get_or z 0 x
    → with_commas symbols_of z ≡ symbols_of x ++ behind_commas symbols_of (take (length z - 1) (drop 1 z))
commas_cons symbols_of [] x some is = absurd (omega (arith, some))
commas_cons {A} symbols_of (y ∷ ys) x some is =
    ap (λ (w : A). symbols_of w ++ behind_commas symbols_of ys) (sym is)
    ∙ ap (λ (us : List A). symbols_of x ++ behind_commas symbols_of us) (sym (take_rest (y ∷ ys) 1))

-- An `else` stands before a block that isn't empty.
pub else_some : (body : List Stmt) → (body ≡ [] → ⊥) → else_symbols (map statement_symbols body) ≡ word Else ∷ block_symbols body
else_some [] h = absurd (h refl)
else_some (x ∷ xs) h = refl

-- the statements of a block, one behind the other
pub block_is : (body : List Stmt) → block_symbols body ≡ mark LeftBrace ∷ (flat_map statement_symbols body ++ mark RightBrace ∷ [])
block_is body = ap (λ (ss : List Symbol). mark LeftBrace ∷ (ss ++ mark RightBrace ∷ [])) (flat_map-map (λ ss. ss) statement_symbols body)

pub block_laid : (start opened page : PageView) (body : List Stmt) → opened ≡ with_symbol start (mark LeftBrace)
    → page ≡ laid opened (flat_map statement_symbols body)
    → laid page (mark RightBrace ∷ []) ≡ laid start (block_symbols body)
block_laid start opened page body open' h =
    rw (h, open', block_is body) (sym (laid_append (with_symbol start (mark LeftBrace)) (flat_map statement_symbols body) (mark RightBrace ∷ [])))
