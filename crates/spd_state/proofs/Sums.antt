-- Sums and counts after one change.
use Rattle.std.proofs.Common.{◌≡◌, ◌≢◌, ℕ, ◌+◌, ◌*◌, ◌<◌, ◌≤◌, ◌⊎◌, inl, inr, ⊎_elim, List, [], ◌∷◌, ◌++◌, set, refl, sym, ap, ◌∙◌, subst, cond}
use Rattle.std.proofs.Common.{eq-eqb, ne_eqb, arith}
use Prim.Native.Nat.{zero, suc}
use mathlib.Core.Logic.{dite}
use mathlib.Core.Option.{some, some-injective, some-ne-none}
use native.Mathlib.Decide.{ℕ_discrete, dec_lt}
use lib.ListN.{get_elem?}
use Rattle.atomic_table.proofs.Lists.{at_set, at_snoc}
use Rattle.spd_state.specs.Sums.{same, gate, total, sum_below, put, Each}

pub same_self : (a b : ℕ) → a ≡ b → same a b ≡ 1
unfolding same
same_self a b e = ap (λ b. cond b 1 0) (eq-eqb a b e)

pub same_else : (a b : ℕ) → a ≢ b → same a b ≡ 0
unfolding same
same_else a b e = ap (λ b. cond b 1 0) (ne_eqb a b e)

pub same_tells : (a b : ℕ) → ((a ≡ b) × (same a b ≡ 1)) ⊎ ((a ≢ b) × (same a b ≡ 0))
same_tells a b = dite (ℕ_discrete a b) (λ e. inl (e, same_self a b e)) (λ e. inr (e, same_else a b e))

pub same_le : (a b : ℕ) → same a b ≤ 1
same_le a b = ⊎_elim (λ (t : (a ≡ b) × (same a b ≡ 1)). let e = t.1 in omega arith)
    (λ (t : (a ≢ b) × (same a b ≡ 0)). let e = t.1 in omega arith) (same_tells a b)

pub same_means : (a b : ℕ) → 0 < same a b → a ≡ b
same_means a b h = ⊎_elim (λ (t : (a ≡ b) × (same a b ≡ 1)). t.0)
    (λ (t : (a ≢ b) × (same a b ≡ 0)). let e = t.1 in absurd (omega arith)) (same_tells a b)

-- what is 0 with another is above 0 only with it
pub positive_back : (x y : ℕ) → (x ≡ 0 → y ≡ 0) → 0 < y → 0 < x
positive_back x y f h = dite (ℕ_discrete x 0) (λ e. let z = f e in absurd (omega arith)) (λ e. omega arith)

module _ {A : Type 0} where
  pub put_here : (f : ℕ → A) (i : ℕ) (x : A) (j : ℕ) → j ≡ i → put f i x j ≡ x
  unfolding put
  put_here f i x j e = ap (λ b. cond b x (f j)) (eq-eqb j i e)

  pub put_else : (f : ℕ → A) (i : ℕ) (x : A) (j : ℕ) → j ≢ i → put f i x j ≡ f j
  unfolding put
  put_else f i x j e = ap (λ b. cond b x (f j)) (ne_eqb j i e)

  -- what is read off an entry that a change keeps
  pub put_kept : {C : Type 0} (g : A → C) (f : ℕ → A) (i : ℕ) (x : A) (j : ℕ) → g x ≡ g (f i) → g (put f i x j) ≡ g (f j)
  put_kept {C} g f i x j e = dite (ℕ_discrete j i) (λ h. ap g (put_here f i x j h) ∙ (e ∙ ap (λ k. g (f k)) (sym h))) (λ h. ap g (put_else f i x j h))

  -- a fact on an entry, after the change of one
  pub put_all : (P : ℕ → A → Type 0) (f : ℕ → A) (i : ℕ) (x : A) (j : ℕ) → P i x → (j ≢ i → P j (f j)) → P j (put f i x j)
  put_all P f i x j here else = dite (ℕ_discrete j i) (λ h. subst (P j) (sym (put_here f i x j h)) (subst (λ k. P k x) (sym h) here))
      (λ h. subst (P j) (sym (put_else f i x j h)) (else h))

module _ {A : Type 0} where
  pub put_case : (P : A → Type 0) (f : ℕ → A) (i : ℕ) (x : A) (j : ℕ) → (j ≡ i → P x) → (j ≢ i → P (f j)) → P (put f i x j)
  put_case P f i x j here else = dite (ℕ_discrete j i) (λ h. subst P (sym (put_here f i x j h)) (here h))
      (λ h. subst P (sym (put_else f i x j h)) (else h))

pub sum_alike : (n : ℕ) (f g : ℕ → ℕ) → ((k : ℕ) → k < n → f k ≡ g k) → sum_below n f ≡ sum_below n g
sum_alike zero f g h = refl
sum_alike (suc n) f g h = let a = h n (omega arith) in let b = sum_alike n f g (λ k l. h k (omega arith)) in omega arith

-- one summand changes
pub sum_change : (n : ℕ) (f g : ℕ → ℕ) (i : ℕ) → i < n → ((k : ℕ) → k < n → k ≢ i → g k ≡ f k) → sum_below n g + f i ≡ sum_below n f + g i
sum_change zero f g i l h = absurd (omega arith)
sum_change (suc n) f g i l h = dite (ℕ_discrete i n)
    (λ e. let a = sum_alike n g f (λ k m. h k (omega arith) (λ z. omega arith)) in let b : f n ≡ f i = ap f (sym e) in
    let c : g n ≡ g i = ap g (sym e) in omega arith)
    (λ e. let a = sum_change n f g i (omega arith) (λ k m. h k (omega arith)) in let b = h n (omega arith) (λ z. e (sym z)) in omega arith)

pub summand_le : (n : ℕ) (f : ℕ → ℕ) (i : ℕ) → i < n → f i ≤ sum_below n f
summand_le zero f i l = absurd (omega arith)
summand_le (suc n) f i l = dite (ℕ_discrete i n) (λ e. let b : f i ≡ f n = ap f e in omega arith)
    (λ e. let a = summand_le n f i (omega arith) in omega arith)

pub sum_bound : (n : ℕ) (f : ℕ → ℕ) (c : ℕ) → ((k : ℕ) → k < n → f k ≤ c) → sum_below n f ≤ n * c
sum_bound zero f c h = omega arith
sum_bound (suc n) f c h = let a = h n (omega arith) in let b = sum_bound n f c (λ k l. h k (omega arith)) in
    let m : suc n * c ≡ n * c + c = omega arith in omega arith

-- one of the sums' parts, of two families of functions: where the entry at i changes by what is told
pub sum_put : {A : Type 0} (n : ℕ) (h : ℕ → A → ℕ) (f : ℕ → A) (i : ℕ) (x : A) → i < n
    → sum_below n (λ k. h k (put f i x k)) + h i (f i) ≡ sum_below n (λ k. h k (f k)) + h i x
sum_put {A} n h f i x l = let a = sum_change n (λ k. h k (f k)) (λ k. h k (put f i x k)) i l (λ k m e. ap (h k) (put_else f i x k e)) in
    let b : h i (put f i x i) ≡ h i x = ap (h i) (put_here f i x i refl) in omega arith

pub sum_kept : {A : Type 0} (n : ℕ) (h : ℕ → A → ℕ) (f : ℕ → A) (i : ℕ) (x : A) → h i x ≡ h i (f i)
    → sum_below n (λ k. h k (put f i x k)) ≡ sum_below n (λ k. h k (f k))
sum_kept {A} n h f i x e = sum_alike n (λ k. h k (put f i x k)) (λ k. h k (f k))
    (λ k l. dite (ℕ_discrete k i) (λ z. ap (h k) (put_here f i x k z) ∙ subst (λ j. h j x ≡ h j (f j)) (sym z) e)
    (λ z. ap (h k) (put_else f i x k z)))

module _ {A : Type 0} where
  pub total_set : (f : A → ℕ) (l : List A) (i : ℕ) (a b : A) → get_elem? l i ≡ some a → total f (set l i b) + f a ≡ total f l + f b
  total_set f [] i a b e = absurd (some-ne-none a (sym e))
  total_set f (x ∷ xs) zero a b e = let same : f x ≡ f a = ap f (some-injective x a e) in omega arith
  total_set f (x ∷ xs) (suc i) a b e = let t = total_set f xs i a b e in omega arith

  pub total_kept : (f : A → ℕ) (l : List A) (i : ℕ) (a b : A) → get_elem? l i ≡ some a → f b ≡ f a → total f (set l i b) ≡ total f l
  total_kept f l i a b e same = let t = total_set f l i a b e in omega arith

  pub total_has : (f : A → ℕ) (l : List A) (i : ℕ) (a : A) → get_elem? l i ≡ some a → f a ≤ total f l
  total_has f [] i a e = absurd (some-ne-none a (sym e))
  total_has f (x ∷ xs) zero a e = let same : f x ≡ f a = ap f (some-injective x a e) in omega arith
  total_has f (x ∷ xs) (suc i) a e = let t = total_has f xs i a e in omega arith

  -- two entries at different places
  pub total_two : (f : A → ℕ) (l : List A) (i j : ℕ) (a b : A) → get_elem? l i ≡ some a → get_elem? l j ≡ some b → i ≢ j → f a + f b ≤ total f l
  total_two f [] i j a b e d n = absurd (some-ne-none a (sym e))
  total_two f (x ∷ xs) zero zero a b e d n = absurd (n refl)
  total_two f (x ∷ xs) zero (suc j) a b e d n = let same : f x ≡ f a = ap f (some-injective x a e) in let t = total_has f xs j b d in omega arith
  total_two f (x ∷ xs) (suc i) zero a b e d n = let same : f x ≡ f b = ap f (some-injective x b d) in let t = total_has f xs i a e in omega arith
  total_two f (x ∷ xs) (suc i) (suc j) a b e d n = let t = total_two f xs i j a b e d (λ z. n (ap suc z)) in omega arith

  pub total_le : (f g : A → ℕ) (l : List A) → Each (λ a. f a ≤ g a) l → total f l ≤ total g l
  total_le f g [] h = omega arith
  total_le f g (x ∷ xs) h = let a = h 0 x refl in let b = total_le f g xs (λ j y e. h (suc j) y e) in omega arith

  -- one function is below another, and the entry at i makes the difference there
  pub total_le_at : (f g : A → ℕ) (l : List A) (i : ℕ) (a : A) → get_elem? l i ≡ some a → ((b : A) → f b ≤ g b) → total f l + g a ≤ total g l + f a
  total_le_at f g [] i a e h = absurd (some-ne-none a (sym e))
  total_le_at f g (x ∷ xs) zero a e h = let s : f x ≡ f a = ap f (some-injective x a e) in let t : g x ≡ g a = ap g (some-injective x a e) in
      let r = total_le f g xs (λ j b _. h b) in omega arith
  total_le_at f g (x ∷ xs) (suc i) a e h = let r = total_le_at f g xs i a e h in let k = h x in omega arith

  pub each_set : (P Q : A → Type 0) (l : List A) (i : ℕ) (b : A) → Q b → Each P l → ((j : ℕ) (a : A) → j ≢ i → get_elem? l j ≡ some a → P a → Q a)
      → Each Q (set l i b)
  each_set P Q l i b here all else j a e = ⊎_elim (λ (t : (j ≡ i) × (b ≡ a)). subst Q t.1 here)
      (λ (t : (j ≢ i) × (get_elem? l j ≡ some a)). else j a t.0 t.1 (all j a t.1)) (at_set l i j b a e)

  pub each_kept : (P : A → Type 0) (l : List A) (i : ℕ) (b : A) → P b → Each P l → Each P (set l i b)
  each_kept P l i b here all = each_set P P l i b here all (λ j a n e h. h)

  -- some entry has a part in a total above 0
  pub total_some : (f : A → ℕ) (l : List A) → 0 < total f l → (j : ℕ) × (a : A) × (get_elem? l j ≡ some a) × (0 < f a)
  total_some f [] h = absurd (omega arith)
  total_some f (x ∷ xs) h = dite (dec_lt 0 (f x)) (λ z. (0, x, refl, z)) (λ z. let t = total_some f xs (omega arith) in (suc t.0, t.1, t.2, t.3))

  pub total_more : (f : A → ℕ) (l : List A) (a : A) → total f (l ++ a ∷ []) ≡ total f l + f a
  total_more f [] a = omega arith
  total_more f (x ∷ xs) a = let t = total_more f xs a in omega arith

  pub each_more : (P : A → Type 0) (l : List A) (b : A) → P b → Each P l → Each P (l ++ b ∷ [])
  each_more P l b here all j a e = ⊎_elim (λ (t : get_elem? l j ≡ some a). all j a t) (λ (t : b ≡ a). subst P t here) (at_snoc l b a j e)

pub each_cons : {A : Type 0} (P : A → Type 0) (x : A) (l : List A) → P x → Each P l → Each P (x ∷ l)
each_cons {A} P x l h all zero a e = subst P (some-injective x a e) h
each_cons {A} P x l h all (suc j) a e = all j a e

pub sum_none : (n : ℕ) (f : ℕ → ℕ) → ((k : ℕ) → k < n → f k ≡ 0) → sum_below n f ≡ 0
sum_none zero f h = refl
sum_none (suc n) f h = let a = h n (omega arith) in let b = sum_none n f (λ k l. h k (omega arith)) in omega arith

pub gate_le : (k n : ℕ) → gate k n ≤ n
gate_le zero n = omega arith
gate_le (suc k) n = omega arith

-- where no entry has a part, there is no total
pub total_none : {A : Type 0} (f : A → ℕ) (l : List A) → Each (λ a. f a ≡ 0) l → total f l ≡ 0
total_none f [] h = refl
total_none f (x ∷ xs) h = let a = h 0 x refl in let b = total_none f xs (λ j y e. h (suc j) y e) in omega arith

-- where one entry alone has a part, the total is that part
pub total_only : {A : Type 0} (f : A → ℕ) (l : List A) (i : ℕ) (a : A) → get_elem? l i ≡ some a
    → ((j : ℕ) (b : A) → j ≢ i → get_elem? l j ≡ some b → f b ≡ 0) → total f l ≡ f a
total_only f [] i a e h = absurd (some-ne-none a (sym e))
total_only f (x ∷ xs) zero a e h = let s : f x ≡ f a = ap f (some-injective x a e) in
    let t = total_none f xs (λ j b q. h (suc j) b (λ (z : suc j ≡ 0). absurd (omega arith)) q) in omega arith
total_only f (x ∷ xs) (suc i) a e h = let s : f x ≡ 0 = h 0 x (λ (z : 0 ≡ suc i). absurd (omega arith)) refl in
    let t = total_only f xs i a e (λ j b n q. h (suc j) b (λ z. n (omega arith)) q) in omega arith

-- the sum of a function that is 1 below k and 0 from there on
pub sum_first : (n k : ℕ) (f : ℕ → ℕ) → k ≤ n → ((j : ℕ) → j < k → f j ≡ 1) → ((j : ℕ) → k ≤ j → j < n → f j ≡ 0) → sum_below n f ≡ k
sum_first zero k f l ones zeros = omega arith
sum_first (suc n) k f l ones zeros = dite (dec_lt n k)
    (λ here. let o = ones n here in let t = sum_first n n f (omega arith) (λ j b. ones j (omega arith)) (λ j b c. absurd (omega arith)) in omega arith)
    (λ past. let z = zeros n (omega arith) (omega arith) in let t = sum_first n k f (omega arith) ones (λ j b c. zeros j b (omega arith)) in omega arith)
