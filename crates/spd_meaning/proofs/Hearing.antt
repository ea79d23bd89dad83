-- What a finish passes on, and what is heard of acts.
use Rattle.std.proofs.Common.{◌≡◌, ℕ, ◌+◌, List, [], ◌∷◌, ◌++◌, refl, ◌∙◌, ap, arith, ℤ}
use Rattle.std.proofs.lemmas.Grind.{flat_map-append}
use Rattle.spd_meaning.specs.Acts.{Acts, Piece, Async, Finish, Call, Offer, Code, Line, Begin, Over, Tick, piece_moves, offers_of, codes_of, lines_of, passed, moves_of, work_of, said, heard, heard_in, mark_in}

pub passed_offers : (p : Acts) → offers_of (passed p) ≡ []
passed_offers [] = refl
passed_offers (Offer v ∷ p) = passed_offers p
passed_offers (Code c ∷ p) = passed_offers p
passed_offers (Line l ∷ p) = passed_offers p
passed_offers (Begin b ∷ p) = passed_offers p
passed_offers (Over ∷ p) = passed_offers p
passed_offers (Tick ∷ p) = passed_offers p

pub passed_codes : (p : Acts) → codes_of (passed p) ≡ []
passed_codes [] = refl
passed_codes (Offer v ∷ p) = passed_codes p
passed_codes (Code c ∷ p) = passed_codes p
passed_codes (Line l ∷ p) = passed_codes p
passed_codes (Begin b ∷ p) = passed_codes p
passed_codes (Over ∷ p) = passed_codes p
passed_codes (Tick ∷ p) = passed_codes p

pub passed_lines : (p : Acts) → lines_of (passed p) ≡ []
passed_lines [] = refl
passed_lines (Offer v ∷ p) = passed_lines p
passed_lines (Code c ∷ p) = passed_lines p
passed_lines (Line l ∷ p) = passed_lines p
passed_lines (Begin b ∷ p) = passed_lines p
passed_lines (Over ∷ p) = passed_lines p
passed_lines (Tick ∷ p) = passed_lines p

pub passed_twice : (p : Acts) → passed (passed p) ≡ passed p
passed_twice [] = refl
passed_twice (Offer v ∷ p) = passed_twice p
passed_twice (Code c ∷ p) = passed_twice p
passed_twice (Line l ∷ p) = passed_twice p
passed_twice (Begin b ∷ p) = ap (λ (g : Acts). Begin b ∷ g) (passed_twice p)
passed_twice (Over ∷ p) = ap (λ (g : Acts). Over ∷ g) (passed_twice p)
passed_twice (Tick ∷ p) = ap (λ (g : Acts). Tick ∷ g) (passed_twice p)

-- ---- what is heard

offers_mark : (b : Piece) (p : Acts) → offers_of (mark_in b ++ p) ≡ offers_of p
offers_mark Async p = refl
offers_mark Finish p = refl
offers_mark Call p = refl

codes_mark : (b : Piece) (p : Acts) → codes_of (mark_in b ++ p) ≡ codes_of p
codes_mark Async p = refl
codes_mark Finish p = refl
codes_mark Call p = refl

moves_mark : (b : Piece) (p : Acts) → moves_of (mark_in b ++ p) ≡ moves_of (Begin b ∷ p)
unfolding moves_of
moves_mark Async p = refl
moves_mark Finish p = refl
moves_mark Call p = omega arith

pub offers_heard : (p : Acts) → offers_of (heard p) ≡ offers_of p
offers_heard [] = refl
offers_heard (Offer v ∷ p) = ap (λ (xs : List ℤ). v ∷ xs) (offers_heard p)
offers_heard (Code c ∷ p) = offers_heard p
offers_heard (Line l ∷ p) = offers_heard p
offers_heard (Begin b ∷ p) = offers_mark b (heard p) ∙ offers_heard p
offers_heard (Over ∷ p) = offers_heard p
offers_heard (Tick ∷ p) = offers_heard p

pub codes_heard : (p : Acts) → codes_of (heard p) ≡ codes_of p
codes_heard [] = refl
codes_heard (Offer v ∷ p) = codes_heard p
codes_heard (Code c ∷ p) = ap (λ (xs : List ℕ). c ∷ xs) (codes_heard p)
codes_heard (Line l ∷ p) = codes_heard p
codes_heard (Begin b ∷ p) = codes_mark b (heard p) ∙ codes_heard p
codes_heard (Over ∷ p) = codes_heard p
codes_heard (Tick ∷ p) = codes_heard p

pub moves_heard : (p : Acts) → moves_of (heard p) ≡ moves_of p
unfolding moves_of
moves_heard [] = refl
moves_heard (Offer v ∷ p) = let h = moves_heard p in omega arith
moves_heard (Code c ∷ p) = let h = moves_heard p in omega arith
moves_heard (Line l ∷ p) = let h = moves_heard p in omega arith
moves_heard (Begin b ∷ p) = let h = moves_heard p in moves_mark b (heard p) ∙ omega arith
moves_heard (Over ∷ p) = let h = moves_heard p in omega arith
moves_heard (Tick ∷ p) = let h = moves_heard p in omega arith

heard_mark : (b : Piece) (p q : Acts) → heard p ≡ q → heard (mark_in b ++ p) ≡ mark_in b ++ q
heard_mark Async p q h = ap (λ (g : Acts). Begin Async ∷ g) h
heard_mark Finish p q h = ap (λ (g : Acts). Begin Finish ∷ g) h
heard_mark Call p q h = h

-- what a step says is heard, but for lines
heard_begin : (b : Piece) (p q : Acts) → heard p ≡ q → heard (Begin b ∷ p) ≡ mark_in b ++ q
heard_begin b p q h = ap (λ (g : Acts). mark_in b ++ g) h

pub heard_said : (p : Acts) → heard (said p) ≡ heard p
heard_said [] = refl
heard_said (Offer v ∷ p) = ap (λ (g : Acts). Offer v ∷ g) (heard_said p)
heard_said (Code c ∷ p) = ap (λ (g : Acts). Code c ∷ g) (heard_said p)
heard_said (Line l ∷ p) = heard_said p
heard_said (Begin b ∷ p) = heard_begin b (said p) (heard p) (heard_said p)
heard_said (Over ∷ p) = heard_said p
heard_said (Tick ∷ p) = heard_said p

passed_mark : (b : Piece) (p q : Acts) → heard p ≡ heard (passed q) → mark_in b ++ heard p ≡ heard (passed (mark_in b ++ q))
passed_mark Async p q h = ap (λ (g : Acts). Begin Async ∷ g) h
passed_mark Finish p q h = ap (λ (g : Acts). Begin Finish ∷ g) h
passed_mark Call p q h = h

-- what is heard behind a finish depends on what it hears
pub heard_passed : (p : Acts) → heard (passed p) ≡ heard (passed (heard p))
heard_passed [] = refl
heard_passed (Offer v ∷ p) = heard_passed p
heard_passed (Code c ∷ p) = heard_passed p
heard_passed (Line l ∷ p) = heard_passed p
heard_passed (Begin b ∷ p) = passed_mark b (passed p) (heard p) (heard_passed p)
heard_passed (Over ∷ p) = heard_passed p
heard_passed (Tick ∷ p) = heard_passed p

pub heard_both : (p q : Acts) → heard (p ++ q) ≡ heard p ++ heard q
heard_both p q = flat_map-append heard_in p q

-- ---- moves and work

pub moves_both : (p q : Acts) → moves_of (p ++ q) ≡ moves_of p + moves_of q
unfolding moves_of
moves_both [] q = omega arith
moves_both (a ∷ p) q = let h = moves_both p q in omega arith

pub passed_moves : (g : Acts) → moves_of (passed g) ≡ moves_of g
unfolding moves_of
passed_moves [] = refl
passed_moves (Offer v ∷ g) = let h = passed_moves g in omega arith
passed_moves (Code c ∷ g) = let h = passed_moves g in omega arith
passed_moves (Line l ∷ g) = let h = passed_moves g in omega arith
passed_moves (Tick ∷ g) = ap (λ n. 0 + n) (passed_moves g)
passed_moves (Begin p ∷ g) = ap (λ n. piece_moves p + n) (passed_moves g)
passed_moves (Over ∷ g) = ap (λ n. 0 + n) (passed_moves g)

pub work_passed : (p : Acts) → work_of (passed p) ≡ work_of p
unfolding work_of
work_passed [] = refl
work_passed (Offer v ∷ p) = let h = work_passed p in omega arith
work_passed (Code c ∷ p) = let h = work_passed p in omega arith
work_passed (Line l ∷ p) = let h = work_passed p in omega arith
work_passed (Begin b ∷ p) = let h = work_passed p in omega arith
work_passed (Over ∷ p) = let h = work_passed p in omega arith
work_passed (Tick ∷ p) = let h = work_passed p in omega arith

pub work_both : (p q : Acts) → work_of (p ++ q) ≡ work_of p + work_of q
unfolding work_of
work_both [] q = omega arith
work_both (a ∷ p) q = let h = work_both p q in omega arith
