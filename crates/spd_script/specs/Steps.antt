-- What steps promise to their finish, and what is left of them.
use Rattle.std.specs.Prelude.{◌≡◌, ℕ, ◌+◌, ◌==◌, ◌||◌, ◌&&◌, not, if◌then◌else◌, min, ℤ, Bool}
use Rattle.spd_words.specs.Gift.{join, no_fault}
use Rattle.spd_words.specs.Meaning.{Promise, empty, add}
use Rattle.spd_words.specs.declared.finish_kind.FinishKind.{FinishKind}
use Rattle.spd_script.specs.declared.steps.Steps.{Steps, Over, NoMemory, Offer', Fault', Async', Finish'}

abbrev pub with_offer : FinishKind → ℤ → Promise → Promise
with_offer kind x p = record { gift = join kind x p.gift; fault = p.fault; moves = p.moves }

abbrev pub with_fault : ℕ → Promise → Promise
with_fault code p = record { gift = p.gift; fault = min code p.fault; moves = p.moves }

-- an async that promises b, and what is behind it
abbrev pub with_async : FinishKind → Promise → Promise → Promise
with_async kind b p = let q = add kind b p in record { gift = q.gift; fault = q.fault; moves = q.moves + 1 }

-- It stands for a fault.
abbrev pub is_code : ℕ → Bool
is_code code = not ((code == 0) || (code == no_fault))

-- a fault of this code, and what is behind it
abbrev pub with_code : FinishKind → ℕ → Promise → Promise
with_code kind code p = if is_code code then with_fault code p else empty kind

-- what is promised behind a finish that gives this, where p is promised behind one without a fault
abbrev pub behind : FinishKind → ℤ → ℕ → Bool → Promise → Promise
behind kind gift fault catches p =
    if fault == no_fault then with_offer kind gift p
    else (if catches && not (fault == 0) then p else with_fault fault (empty kind))

-- a finish that promises b, and what is behind it
abbrev pub with_finish : FinishKind → Promise → Bool → Promise → Promise
with_finish kind b catches p =
    let q = behind kind b.gift b.fault catches p in
    record { gift = q.gift; fault = q.fault; moves = b.moves + q.moves + 1 }

-- what steps promise to a finish of this kind
abbrev pub promise : FinishKind → Steps → Promise
promise kind Over = empty kind
promise kind NoMemory = empty kind
promise kind (Offer' x p s) = with_offer kind x (promise kind s)
promise kind (Fault' code p s) = with_code kind code (promise kind s)
promise kind (Async' p b q s) = with_async kind (promise kind b) (promise kind s)
promise kind (Finish' k catches p b q s) = with_finish kind (promise k b) catches (promise kind s)

-- These steps promise this to a finish of each kind.
abbrev pub Promises : Steps → (FinishKind → Promise) → Type 0
Promises steps is = (kind : FinishKind) → promise kind steps ≡ is kind

abbrev pub IsFork : Steps → Steps → Steps → Type 0
IsFork child rest steps = Promises steps (λ kind. with_async kind (promise kind child) (promise kind rest))

abbrev pub IsFinish : FinishKind → Bool → Steps → Steps → Steps → Type 0
IsFinish kind catches child rest steps =
    Promises steps (λ of. with_finish of (promise kind child) catches (promise of rest))

-- more than three for each move
abbrev pub steps_size : Steps → ℕ
steps_size Over = 1
steps_size NoMemory = 1
steps_size (Offer' x p s) = steps_size s + 1
steps_size (Fault' code p s) = steps_size s + 1
steps_size (Async' p b q s) = steps_size b + steps_size s + 3
steps_size (Finish' k catches p b q s) = steps_size b + steps_size s + 5
