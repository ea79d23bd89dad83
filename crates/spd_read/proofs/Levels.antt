-- Levels of operators.
use Rattle.std.proofs.Common.{◌≡◌, ℕ, zero, suc, ◌+◌, ◌-◌, ◌≢◌, ◌==◌, Bool, true, false, cond, List, length, Ok, Err, refl, ◌∙◌, ap, arith}
use Rattle.spd_syntax.specs.declared.token.TokenKind.{TokenKind}
use Rattle.spd_syntax.specs.declared.tree.Expr.{Expr}
use Rattle.spd_syntax.specs.Tokens.{Seen}
use Rattle.spd_read.specs.Reading.{Read, ◌>>=◌, next_in, repeat, reads_at, applied, further, grouped_at}
use Rattle.spd_syntax.specs.Grammar.{comparisons, operators, operation, operations, compose, into, behind_operand, at_level}

-- Functions are put together as their values would be.
fused : (ks : List TokenKind) (rq : List Seen → Read (Expr → Expr)) (x : Expr) (n : ℕ) (f : Expr → Expr) (ts : List Seen)
    → applied x (repeat ks (λ f us. rq us >>= λ g. Ok (compose f g.0, g.1)) n f ts) ≡ repeat ks (λ y us. rq us >>= λ g. Ok (into y g.0, g.1)) n (f x) ts
unfolding repeat
fused ks rq x zero f ts = refl
fused ks rq x (suc n) f ts = by_test (next_in ks ts) (rq ts) (λ f ts. fused ks rq x n f ts)
  where
    by_one : (o : Read (Expr → Expr)) → ((f : Expr → Expr) (ts : List Seen)
        → applied x (repeat ks (λ f us. rq us >>= λ g. Ok (compose f g.0, g.1)) n f ts) ≡ repeat ks (λ y us. rq us >>= λ g. Ok (into y g.0, g.1)) n (f x) ts)
        → applied x ((o >>= λ g. Ok (compose f g.0, g.1)) >>= λ h. repeat ks (λ f us. rq us >>= λ g. Ok (compose f g.0, g.1)) n h.0 h.1)
        ≡ ((o >>= λ g. Ok (into (f x) g.0, g.1)) >>= λ y. repeat ks (λ y us. rq us >>= λ g. Ok (into y g.0, g.1)) n y.0 y.1)
    by_one (Ok g) go = go (compose f g.0) g.1
    by_one (Err s) go = refl

    by_test : (b : Bool) (o : Read (Expr → Expr)) → ((f : Expr → Expr) (ts : List Seen)
        → applied x (repeat ks (λ f us. rq us >>= λ g. Ok (compose f g.0, g.1)) n f ts) ≡ repeat ks (λ y us. rq us >>= λ g. Ok (into y g.0, g.1)) n (f x) ts)
        → applied x (cond b ((o >>= λ g. Ok (compose f g.0, g.1)) >>= λ h. repeat ks (λ f us. rq us >>= λ g. Ok (compose f g.0, g.1)) n h.0 h.1)
        (Ok (f, ts))) ≡ cond b ((o >>= λ g. Ok (into (f x) g.0, g.1)) >>= λ y. repeat ks (λ y us. rq us >>= λ g. Ok (into y g.0, g.1)) n y.0 y.1)
        (Ok (f x, ts))
    by_test true o go = by_one o go
    by_test false o go = refl

module _ (depth level : ℕ) (x : Expr) (ts : List Seen) where
  abbrev Before : Read (Expr → Expr)
  Before = reads_at depth (behind_operand level) ts

  by_level : (b : Bool) → applied x (reads_at depth (operations b (suc level) (behind_operand level) (at_level level)) ts)
      ≡ (applied x Before >>= λ y. further b depth level y.0 y.1)
  by_level true = by_before Before
    where
      by_test : (f : Expr → Expr) (us : List Seen) (b : Bool) (o : Read (Expr → Expr))
          → applied x (cond b o (Ok ((λ x. x), us)) >>= λ g. Ok (compose f g.0, g.1)) ≡ cond b (o >>= λ g. Ok (into (f x) g.0, g.1)) (Ok (f x, us))
      by_test f us true (Ok g) = refl
      by_test f us true (Err s) = refl
      by_test f us false o = refl

      by_before : (o : Read (Expr → Expr)) → applied x ((o >>= λ f. Ok (compose f.0, f.1)) >>= λ f. cond (next_in (operators (suc level)) f.1)
          (reads_at depth (operation (suc level) (at_level level)) f.1) (Ok ((λ x. x), f.1)) >>= λ g. Ok (f.0 g.0, g.1))
          ≡ (applied x o >>= λ y. further true depth level y.0 y.1)
      by_before (Ok f) = by_test f.0 f.1 (next_in (operators (suc level)) f.1) (reads_at depth (operation (suc level) (at_level level)) f.1)
      by_before (Err s) = refl
  by_level false = by_before Before
    where
      by_before : (o : Read (Expr → Expr)) → applied x (o >>= λ f. repeat (operators (suc level))
          (λ f us. reads_at depth (operation (suc level) (at_level level)) us >>= λ g. Ok (compose f g.0, g.1)) (length f.1) f.0 f.1)
          ≡ (applied x o >>= λ y. further false depth level y.0 y.1)
      by_before (Ok f) = fused (operators (suc level)) (λ us. reads_at depth (operation (suc level) (at_level level)) us) x (length f.1) f.0 f.1
      by_before (Err s) = refl

  above : applied x (reads_at depth (behind_operand (suc level)) ts) ≡ (applied x Before >>= λ y. further (suc level == comparisons) depth level y.0 y.1)
  unfolding behind_operand
  above = by_level (suc level == comparisons)

pub at_zero : (depth level : ℕ) (x : Expr) (ts : List Seen) → level ≡ 0 → applied x (reads_at depth (behind_operand level) ts) ≡ Ok (x, ts)
unfolding behind_operand
at_zero depth level x ts e = rw e refl

pub at_more : (depth level : ℕ) (x : Expr) (ts : List Seen) → level ≢ 0
    → applied x (reads_at depth (behind_operand level) ts) ≡ grouped_at (level - 1 + 1 == comparisons) depth (level - 1) x ts
at_more depth level x ts some =
    let e : level ≡ suc (level - 1) = omega (arith, some) in
    let k : level - 1 + 1 ≡ suc (level - 1) = omega arith in
    rw k (ap (λ (n : ℕ). applied x (reads_at depth (behind_operand n) ts)) e ∙ above depth (level - 1) x ts)
