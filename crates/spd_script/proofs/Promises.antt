-- What steps promise is lawful for their finish, and how their moves are weighed.
use Rattle.std.proofs.Common.{◌≡◌, ◌≢◌, ℕ, ◌+◌, ◌*◌, ◌≤◌, Bool, true, false, refl, sym, ◌∙◌, ap, subst, arith, ℤ}
use Rattle.std.specs.Prelude.{◌==◌, ◌&&◌, not, if◌then◌else◌}
use Rattle.std.proofs.lemmas.Bool.Decides.{nat_tests}
use Rattle.spd_words.specs.Gift.{no_fault, identity, join}
use Rattle.spd_words.specs.Meaning.{Promise, empty, IsLawfulTotal}
use Rattle.spd_words.proofs.Joins.{join_comm, join_assoc, identity_join}
use Rattle.spd_words.specs.declared.finish_kind.FinishKind.{FinishKind}
use Rattle.spd_script.specs.declared.steps.Steps.{Steps, Over, NoMemory, Offer', Fault', Async', Finish'}
use Rattle.spd_script.specs.Steps.{with_offer, with_fault, with_code, with_async, behind, is_code, promise, Promises, steps_size}
use Rattle.spd_words.specs.declared.tally.Tally.{Tally}
use Rattle.spd_script.specs.Sums.{promise_of_sum, StandsBefore}
use Rattle.spd_script.specs.declared.sum.Sum.{Sum}

pub same_promise : (p q : Promise) → p.gift ≡ q.gift → p.fault ≡ q.fault → p.moves ≡ q.moves → p ≡ q
same_promise p q e f m =
    ap (λ (g : ℤ). record { gift = g; fault = p.fault; moves = p.moves }) e
    ∙ ap (λ (c : ℕ). record { gift = q.gift; fault = c; moves = p.moves }) f
    ∙ ap (λ (n : ℕ). record { gift = q.gift; fault = q.fault; moves = n }) m

-- ---- lawful promises

abbrev pub IsLawful : FinishKind → Promise → Type 0
IsLawful k p = IsLawfulTotal k p.gift p.fault

if_lawful : (b : Bool) (k : FinishKind) (p q : Promise) → (b ≡ true → IsLawful k p) → (b ≡ false → IsLawful k q) →
    IsLawful k (if b then p else q)
if_lawful true k p q f g = f refl
if_lawful false k p q f g = g refl

pub empty_lawful : (k : FinishKind) → IsLawful k (empty k)
empty_lawful k = record { gift = identity_join k; fault = omega arith; memory = omega arith }

join_lawful : (k : FinishKind) (x g : ℤ) → join k (identity k) g ≡ g → join k (identity k) (join k x g) ≡ join k x g
join_lawful k x g h =
    sym (join_assoc k (identity k) x g) ∙ ap (λ z. join k z g) (join_comm k (identity k) x)
    ∙ join_assoc k x (identity k) g ∙ ap (join k x) h

pub offer_lawful : (k : FinishKind) (x : ℤ) (p : Promise) → IsLawful k p → IsLawful k (with_offer k x p)
offer_lawful k x p l = record { gift = join_lawful k x p.gift l.gift; fault = l.fault; memory = l.memory }

pub fault_lawful : (k : FinishKind) (c : ℕ) (p : Promise) → c ≢ 0 → IsLawful k p → IsLawful k (with_fault c p)
fault_lawful k c p n l = record {
  gift = l.gift;
  fault = let h = l.fault in omega arith;
  memory = let h = l.memory in omega arith;
}

code_memory : (c : ℕ) → is_code c ≡ true → c ≢ 0
code_memory c e = grind (arith, nat_tests)

pub async_lawful : (k : FinishKind) (b p : Promise) → b.fault ≢ 0 → IsLawful k p → IsLawful k (with_async k b p)
async_lawful k b p n l = record {
  gift = join_lawful k b.gift p.gift l.gift;
  fault = let h = l.fault in omega arith;
  memory = let h = l.memory in omega arith;
}

pub behind_lawful : (k : FinishKind) (g : ℤ) (f : ℕ) (c : Bool) (p : Promise) → f ≢ 0 → IsLawful k p →
    IsLawful k (behind k g f c p)
behind_lawful k g f c p n l =
    if_lawful (f == no_fault) k (with_offer k g p) (if c && not (f == 0) then p else with_fault f (empty k))
    (λ e. offer_lawful k g p l)
    (λ e. if_lawful (c && not (f == 0)) k p (with_fault f (empty k)) (λ d. l) (λ d. fault_lawful k f (empty k) n (empty_lawful k)))

pub promise_lawful : (k : FinishKind) (s : Steps) → IsLawful k (promise k s)
promise_lawful k Over = empty_lawful k
promise_lawful k NoMemory = empty_lawful k
promise_lawful k (Offer' x p s) = offer_lawful k x (promise k s) (promise_lawful k s)
promise_lawful k (Fault' c p s) =
    if_lawful (is_code c) k (with_fault c (promise k s)) (empty k)
    (λ e. fault_lawful k c (promise k s) (code_memory c e) (promise_lawful k s)) (λ e. empty_lawful k)
promise_lawful k (Async' p b q s) =
    let h = promise_lawful k b in
    async_lawful k (promise k b) (promise k s) h.memory (promise_lawful k s)
promise_lawful k (Finish' i c p b q s) =
    let h = promise_lawful i b in
    let l = behind_lawful k (promise i b).gift (promise i b).fault c (promise k s) h.memory (promise_lawful k s) in
    record { gift = l.gift; fault = l.fault; memory = l.memory }

pub sum_lawful : (sum : Sum) (k : FinishKind) (s : Steps) → sum.tally.kind ≡ k → promise_of_sum sum ≡ promise k s →
    IsLawfulTotal sum.tally.kind sum.tally.gift sum.tally.fault
sum_lawful sum k s e p =
    let h : IsLawful k (promise_of_sum sum) = subst (λ (q : Promise). IsLawful k q) (sym p) (promise_lawful k s) in
    subst (λ (z : FinishKind). IsLawful z (promise_of_sum sum)) (sym e) h

-- ---- moves

if_moves : (b : Bool) (p q : Promise) (n : ℕ) → p.moves ≤ n → q.moves ≤ n → (if b then p else q).moves ≤ n
if_moves true p q n f g = f
if_moves false p q n f g = g

behind_moves : (k : FinishKind) (g : ℤ) (f : ℕ) (c : Bool) (p : Promise) → (behind k g f c p).moves ≤ p.moves
behind_moves k g f c p =
    if_moves (f == no_fault) (with_offer k g p) (if c && not (f == 0) then p else with_fault f (empty k)) p.moves
    (omega arith) (if_moves (c && not (f == 0)) p (with_fault f (empty k)) p.moves (omega arith) (omega arith))

pub moves_weigh : (k : FinishKind) (s : Steps) → 3 * (promise k s).moves + 1 ≤ steps_size s
moves_weigh k Over = omega arith
moves_weigh k NoMemory = omega arith
moves_weigh k (Offer' x p s) = let h = moves_weigh k s in omega arith
moves_weigh k (Fault' c p s) =
    let h = moves_weigh k s in
    let i : (promise k (Fault' c p s)).moves ≤ (promise k s).moves =
    if_moves (is_code c) (with_fault c (promise k s)) (empty k) (promise k s).moves (omega arith) (omega arith) in
    omega arith
moves_weigh k (Async' p b q s) = let h = moves_weigh k b in let i = moves_weigh k s in omega arith
moves_weigh k (Finish' j c p b q s) =
    let h = moves_weigh j b in
    let i = moves_weigh k s in
    let m = behind_moves k (promise j b).gift (promise j b).fault c (promise k s) in
    omega arith

-- ---- steps before others

pub offer_before : (t : Tally) (rest steps : Steps) → t.fault ≡ no_fault →
    Promises steps (λ kind. with_offer kind t.gift (promise kind rest)) → steps_size steps ≡ steps_size rest + 1 →
    StandsBefore t rest steps
offer_before t rest steps n h s =
    let e = h t.kind in
    let l = promise_lawful t.kind rest in
    record {
      gift = ap (λ (p : Promise). p.gift) e;
      fault = ap (λ (p : Promise). p.fault) e ∙ (let f = l.fault in omega arith);
      moves = ap (λ (p : Promise). p.moves) e;
      size = omega arith;
    }

code_is : (c : ℕ) → c ≢ 0 → c ≢ no_fault → is_code c ≡ true
code_is c n m = grind (arith, nat_tests)

pub with_code_is : (k : FinishKind) (c : ℕ) (p : Promise) → c ≢ 0 → c ≢ no_fault → with_code k c p ≡ with_fault c p
with_code_is k c p n m = ap (λ (b : Bool). if b then with_fault c p else empty k) (code_is c n m)

pub fault_before : (t : Tally) (rest behind steps : Steps) → t.fault ≢ no_fault → t.fault ≢ 0 →
    Promises behind (λ kind. with_code kind t.fault (promise kind rest)) → steps_size behind ≡ steps_size rest + 1 →
    Promises steps (λ kind. with_offer kind t.gift (promise kind behind)) → steps_size steps ≡ steps_size behind + 1 →
    StandsBefore t rest steps
fault_before t rest behind steps n m h s i z =
    let c = with_code_is t.kind t.fault (promise t.kind rest) m n in
    let e : promise t.kind steps ≡ with_offer t.kind t.gift (with_fault t.fault (promise t.kind rest)) =
    i t.kind ∙ ap (with_offer t.kind t.gift) (h t.kind ∙ c) in
    record {
      gift = ap (λ (p : Promise). p.gift) e;
      fault = ap (λ (p : Promise). p.fault) e;
      moves = ap (λ (p : Promise). p.moves) e;
      size = omega arith;
    }
