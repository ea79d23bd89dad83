-- Going on while a token begins a further part, as a loop does.
use Rattle.std.proofs.Common.{◌≡◌, ℕ, zero, suc, ◌+◌, ◌-◌, ◌<◌, ◌≤◌, true, false, List, Ok, Err, refl, sym, ◌∙◌, arith}
use Rattle.spd_syntax.specs.declared.token.TokenKind.{TokenKind}
use Rattle.spd_read.specs.declared.reading.ReadError.{ReadError}
use Rattle.spd_read.specs.declared.reading.ReadError.TheVariants as errors
use Rattle.spd_syntax.specs.Tokens.{Seen}
use Rattle.spd_syntax.specs.Symbols.{all_seen}
use Rattle.spd_read.specs.Reading.{Read, ◌>>=◌, next_in, repeat}
use Rattle.spd_read.specs.Gives.{Fails}

module _ (A : Type 0) (ks : List TokenKind) (step : A → List Seen → Read A) where
  pub stops : (n : ℕ) (found : A) (ts : List Seen) → next_in ks ts ≡ false → repeat ks step n found ts ≡ Ok (found, ts)
  unfolding repeat
  stops zero found ts e = refl
  stops (suc n) found ts e = rw e refl

  pub one : (n : ℕ) (found : A) (ts : List Seen) → next_in ks ts ≡ true → repeat ks step (suc n) found ts ≡ (step found ts >>= λ x. repeat ks step n x.0 x.1)
  unfolding repeat
  one n found ts e = rw e refl

  pub goes_on : (limit i : ℕ) (found next : A) (ts after : List Seen) → i < limit → next_in ks ts ≡ true → step found ts ≡ Ok (next, after)
      → repeat ks step (limit - (i + 1)) next after ≡ repeat ks step (limit - i) found ts
  goes_on limit i found next ts after lt e given =
      let k : limit - i ≡ suc (limit - (i + 1)) = omega arith in
      rw (k, one (limit - (i + 1)) found ts e, given) refl

  pub fails : (text : List ℕ) (error : ReadError) (limit i : ℕ) (found : A) (ts : List Seen) (total : Read A) → i < limit → next_in ks ts ≡ true
      → Fails text error (step found ts)
      → repeat ks step (limit - i) found ts ≡ total → Fails text error total
  fails text errors.NoMemory limit i found ts total lt e given so_far = tt
  fails text (errors.Fault kind rest) limit i found ts total lt e given so_far =
      let k : limit - i ≡ suc (limit - (i + 1)) = omega arith in
      let now : repeat ks step (limit - i) found ts ≡ Err (kind, all_seen text rest.now) = rw (k, one (limit - (i + 1)) found ts e, given) refl in
      sym so_far ∙ now

  pub is_done : (limit i : ℕ) (found : A) (ts : List Seen) → limit ≤ i → repeat ks step (limit - i) found ts ≡ Ok (found, ts)
  unfolding repeat
  is_done limit i found ts le = let k : limit - i ≡ 0 = omega arith in rw k refl
