-- Operators by the rows of a table.
use Rattle.std.proofs.Common.{◌≡◌, ℕ, Bool, true, false, cond, ◌&&◌, ◌||◌, ◌==◌, List, [], ◌∷◌, map, Option, Some, None, refl, ◌≤◌, ◌-◌, length, get_or, take, drop, arith, Ok, Err}
use Rattle.std.proofs.lemmas.List.{take_all}
use Rattle.std.specs.Option.{is_some}
use Rattle.spd_syntax.specs.declared.token.Mark.{Mark}
use Rattle.spd_syntax.specs.declared.token.TokenKind.{TokenKind}
use Rattle.spd_syntax.specs.declared.token.TokenKind.TheVariants as kind
use Rattle.spd_syntax.specs.declared.tree.BinOp.{BinOp}
use Rattle.spd_syntax.specs.declared.token.Token.{Token}
use Rattle.spd_read.specs.declared.reading.StopKind.TheVariants.{Expected}
use Rattle.spd_syntax.specs.declared.operators.TheConstants.{OPERATORS}
use Rattle.spd_syntax.specs.Symbols.{same_kind, same_mark, all_seen, is_in}
use Rattle.spd_read.specs.Reading.{reads_at, next_kind, next_in}
use Rattle.spd_syntax.specs.Shape.{fst, entry_of}
use Rattle.spd_syntax.specs.Operators.{Row}
use Rattle.spd_syntax.specs.Grammar.{of_level, by_mark, operator_in, operator, operators}

abbrev pub Value : Type 0
Value = List ℕ → ℕ → BinOp

abbrev pub valued : Option BinOp → Option Value
valued None = None
valued (Some op) = Some (λ bytes line. op)

-- the operator of a level that a mark is
pub found : (level : ℕ) (which : Mark) (rows : List Row) → entry_of (kind.Mark which) (map by_mark (of_level level rows))
    ≡ valued (operator_in level which rows)
unfolding operator_in
found level which [] = refl
found level which (row ∷ rows) = by_level (row.2 == level) (found level which rows)
  where
    by_test : (m : Bool) → entry_of (kind.Mark which) (map by_mark (of_level level rows)) ≡ valued (operator_in level which rows)
        → cond {A = Option Value} m (Some (λ bytes line. row.1)) (entry_of (kind.Mark which) (map by_mark (of_level level rows)))
        ≡ valued (cond m (Some row.1) (operator_in level which rows))
    by_test true h = refl
    by_test false h = h

    by_level : (b : Bool) → entry_of (kind.Mark which) (map by_mark (of_level level rows)) ≡ valued (operator_in level which rows)
        → entry_of (kind.Mark which) (map by_mark (cond b ((kind.Mark row.0, row.1) ∷ of_level level rows) (of_level level rows)))
        ≡ valued (cond (b && same_mark row.0 which) (Some row.1) (operator_in level which rows))
    by_level false h = h
    by_level true h = by_test (same_mark row.0 which) h

-- whether a mark is one of them
pub tested : (level : ℕ) (which : Mark) (rows : List Row) → is_in (kind.Mark which) (map fst (of_level level rows)) ≡ is_some (operator_in level which rows)
unfolding operator_in
tested level which [] = refl
tested level which (row ∷ rows) = by_level (row.2 == level) (tested level which rows)
  where
    by_test : (m : Bool) → is_in (kind.Mark which) (map fst (of_level level rows)) ≡ is_some (operator_in level which rows)
        → (m || is_in (kind.Mark which) (map fst (of_level level rows))) ≡ is_some (cond m (Some row.1) (operator_in level which rows))
    by_test true h = refl
    by_test false h = h

    by_level : (b : Bool) → is_in (kind.Mark which) (map fst (of_level level rows)) ≡ is_some (operator_in level which rows)
        → is_in (kind.Mark which) (map fst (cond b ((kind.Mark row.0, row.1) ∷ of_level level rows) (of_level level rows)))
        ≡ is_some (cond (b && same_mark row.0 which) (Some row.1) (operator_in level which rows))
    by_level false h = h
    by_level true h = by_test (same_mark row.0 which) h

-- What isn't a mark is none of them.
pub untested : (k : TokenKind) (level : ℕ) (rows : List Row) → ((which : Mark) → k ≡ kind.Mark which → ⊥) → is_in k (map fst (of_level level rows)) ≡ false
untested k level [] not_mark = refl
untested k level (row ∷ rows) not_mark = by_level (row.2 == level) (untested k level rows not_mark)
  where
    by_kind : (k : TokenKind) → ((which : Mark) → k ≡ kind.Mark which → ⊥) → same_kind (kind.Mark row.0) k ≡ false
    by_kind kind.Name h = refl
    by_kind kind.Number h = refl
    by_kind kind.Lit h = refl
    by_kind (kind.Word which) h = refl
    by_kind (kind.Mark which) h = absurd (h which refl)

    by_level : (b : Bool) → is_in k (map fst (of_level level rows)) ≡ false
        → is_in k (map fst (cond b ((kind.Mark row.0, row.1) ∷ of_level level rows) (of_level level rows))) ≡ false
    by_level false h = h
    by_level true h = rw (by_kind k not_mark) h

pub unfound : (k : TokenKind) (level : ℕ) (rows : List Row) → ((which : Mark) → k ≡ kind.Mark which → ⊥) → entry_of k (map by_mark (of_level level rows)) ≡ None
unfound k level [] not_mark = refl
unfound k level (row ∷ rows) not_mark = by_level (row.2 == level) (unfound k level rows not_mark)
  where
    by_kind : (k : TokenKind) → ((which : Mark) → k ≡ kind.Mark which → ⊥) → same_kind (kind.Mark row.0) k ≡ false
    by_kind kind.Name h = refl
    by_kind kind.Number h = refl
    by_kind kind.Lit h = refl
    by_kind (kind.Word which) h = refl
    by_kind (kind.Mark which) h = absurd (h which refl)

    by_level : (b : Bool) → entry_of k (map by_mark (of_level level rows)) ≡ None
        → entry_of k (map by_mark (cond b ((kind.Mark row.0, row.1) ∷ of_level level rows) (of_level level rows))) ≡ None
    by_level false h = h
    by_level true h = rw (by_kind k not_mark) h

-- ---- at the front of tokens

pub reads_operator : (text : List ℕ) (depth level : ℕ) (which : Mark) (op : BinOp) (ts : List Token) (d : Token) → 1 ≤ length ts
    → (get_or ts 0 d).kind ≡ kind.Mark which → operator_in level which OPERATORS ≡ Some op
    → reads_at depth (operator level) (all_seen text ts) ≡ Ok (op, all_seen text (take (length ts - 1) (drop 1 ts)))
unfolding operator
reads_operator text depth level which op [] d some is e = absurd (omega arith)
reads_operator text depth level which op (t ∷ r) d some is e =
    let all : take (length (t ∷ r) - 1) r ≡ r = take_all (length (t ∷ r) - 1) r (omega arith) in
    rw (is, found level which OPERATORS, e, all) refl

pub no_operator : (text : List ℕ) (depth level : ℕ) (which : Mark) (ts : List Token) (d : Token) → 1 ≤ length ts → (get_or ts 0 d).kind ≡ kind.Mark which
    → operator_in level which OPERATORS ≡ None
    → reads_at depth (operator level) (all_seen text ts) ≡ Err (Expected, all_seen text ts)
unfolding operator
no_operator text depth level which [] d some is e = absurd (omega arith)
no_operator text depth level which (t ∷ r) d some is e = rw (is, found level which OPERATORS, e) refl

pub next_is : (text : List ℕ) (level : ℕ) (which : Mark) (ts : List Token) → next_kind (all_seen text ts) ≡ Some (kind.Mark which)
    → next_in (operators level) (all_seen text ts) ≡ is_some (operator_in level which OPERATORS)
unfolding operators
next_is text level which ts e = rw e (tested level which OPERATORS)
