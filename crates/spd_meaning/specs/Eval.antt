-- An evaluation: how it ends and what it gives; and what the statements make of evaluations. `A` is what stands for a visible name.
use Rattle.std.specs.Prelude.{ℕ, zero, suc, ◌==◌, if◌then◌else◌, List, [], ◌∷◌, ◌++◌, length, take, ℤ, pos, negsuc, ◌+ℤ◌, Result, Ok, Err}
use Rattle.std.specs.Int.{w64, int_wrap}
use Rattle.spd_words.specs.Gift.{no_fault}
use Rattle.spd_words.specs.Total.{Total, nothing, collect, settle, at_line}
use Rattle.spd_words.specs.Meaning.{Promise}
use Rattle.spd_words.specs.declared.finish_kind.FinishKind.{FinishKind}
use Rattle.spd_meaning.specs.Acts.{Acts, Async, Finish, Call, Offer, Code, Begin, Over, Tick, offers_of, codes_of, moves_of, passed}

-- behind the statements with what is visible there, with a value that is returned, or with the code of a fault
pub data End (A : Type 0) : Type 0 where
  Fell : (vars : List A) → End A
  Back : (value : ℤ) → End A
  Fault : (code : ℕ) → End A

pub record Eval (A : Type 0) : Type 0 where
  pub end : End A
  pub given : Acts

abbrev pub quiet : {A : Type 0} → End A → Eval A
quiet end = record { end = end; given = [] }

-- what was given before it
abbrev pub before : {A : Type 0} → Acts → Eval A → Eval A
before given a = record { end = a.end; given = given ++ a.given }

abbrev pub go_on : {A : Type 0} → End A → Acts → (List A → Eval A) → Eval A
go_on (Fell vars) given next = before given (next vars)
go_on (Back value) given next = record { end = Back value; given = given }
go_on (Fault code) given next = record { end = Fault code; given = given }

-- It goes on where it fell through.
abbrev pub then_do : {A : Type 0} → Eval A → (List A → Eval A) → Eval A
then_do a next = go_on a.end a.given next

abbrev pub counted : {A : Type 0} → Eval A → Eval A
counted a = before (Tick ∷ []) a

-- ---- values: a fault among them is the end

abbrev pub with_value : {A : Type 0} → Result ℤ ℕ → (ℤ → Eval A) → Eval A
with_value (Ok value) next = next value
with_value (Err code) next = quiet (Fault code)

abbrev pub with_values : {A : Type 0} → Result (List ℤ) ℕ → (List ℤ → Eval A) → Eval A
with_values (Ok values) next = next values
with_values (Err code) next = quiet (Fault code)

abbrev pub with_line : {A : Type 0} → Result (List ℕ) ℕ → (List ℕ → Eval A) → Eval A
with_line (Ok text) next = next text
with_line (Err code) next = quiet (Fault code)

-- ---- the end of a block: what it bound is dropped

abbrev pub cut_end : {A : Type 0} → ℕ → End A → End A
cut_end n (Fell vars) = Fell (take n vars)
cut_end n (Back value) = Back value
cut_end n (Fault code) = Fault code

abbrev pub cut : {A : Type 0} → ℕ → Eval A → Eval A
cut n a = record { end = cut_end n a.end; given = a.given }

-- ---- loops: so many turns from a number on. Each turn counts, though its block be empty

abbrev pub turns : {A : Type 0} → ℕ → ℤ → (ℤ → List A → Eval A) → List A → Eval A
turns zero at body vars = quiet (Fell vars)
turns (suc n) at body vars = then_do (counted (cut (length vars) (body at vars))) (turns n (at +ℤ pos 1) body)

-- how many turns a loop has that goes on by so much
abbrev pub turns_to : ℤ → ℕ
turns_to (pos n) = n
turns_to (negsuc n) = 0

-- ---- asyncs and finishes

abbrev pub end_codes : {A : Type 0} → End A → Acts
end_codes (Fell vars) = []
end_codes (Back value) = []
end_codes (Fault code) = Code code ∷ []

-- the rest of an async that has begun over these values, and whose block goes on so
abbrev pub async_left : {A : Type 0} → List A → Eval A → Eval A
async_left vars a = record { end = Fell vars; given = a.given ++ (end_codes a.end ++ Over ∷ []) }

-- An async ends with the values that it began with. A fault goes to its finish and stops nothing else.
abbrev pub async_of : {A : Type 0} → List A → Eval A → Eval A
async_of vars a = before (Begin Async ∷ []) (async_left vars a)

-- all that an evaluation gives to the finish around it: a fault at its end is one more code
abbrev pub for_finish : {A : Type 0} → Eval A → Acts
for_finish a = a.given ++ end_codes a.end

-- a finish that had this total, with what is given to it
abbrev pub collected : FinishKind → Total → Acts → Total
collected kind total given = collect kind total (offers_of given) (codes_of given)

abbrev pub finish_end : {A : Type 0} → ℕ → (ℤ → List A) → Total → End A
finish_end line behind total = if total.fault == no_fault then Fell (behind total.gift) else Fault (at_line line total.fault)

-- the rest of a finish at a line that has this total, whose block goes on so, and behind which these values stand
abbrev pub finish_left : {A : Type 0} → FinishKind → Total → ℕ → (ℤ → List A) → Eval A → Eval A
finish_left kind total line behind a = record {
  end = finish_end line behind (settle (collected kind total (for_finish a)));
  given = passed a.given ++ Over ∷ [];
}

-- A finish ends with the gift of its offers, or with the least code of its block and of all asyncs begun in it.
abbrev pub finish_of : {A : Type 0} → FinishKind → ℕ → (ℤ → List A) → Eval A → Eval A
finish_of kind line behind a = before (Begin Finish ∷ []) (finish_left kind (nothing kind) line behind a)

-- ---- calls

-- what a call gives: the value of 64 bits that comes back, or the code of a fault
pub record Returned : Type 0 where
  pub value : Result ℤ ℕ
  pub given : Acts

abbrev pub value_back : {A : Type 0} → End A → Result ℤ ℕ
value_back (Fell vars) = Ok (pos 0)
value_back (Back value) = Ok (int_wrap w64 value)
value_back (Fault code) = Err code

abbrev pub returned : {A : Type 0} → Eval A → Returned
returned a = record { value = value_back a.end; given = a.given }

abbrev pub call_end : {A : Type 0} → (ℤ → List A) → Result ℤ ℕ → End A
call_end behind (Ok value) = Fell (behind value)
call_end behind (Err code) = Fault code

-- the rest of a call that has begun
abbrev pub call_left : {A : Type 0} → (ℤ → List A) → Returned → Eval A
call_left behind r = record { end = call_end behind r.value; given = r.given ++ Over ∷ [] }

abbrev pub call_of : {A : Type 0} → (ℤ → List A) → Returned → Eval A
call_of behind r = before (Begin Call ∷ []) (call_left behind r)

-- ---- results of jobs

-- what a job of this kind has, where its block evaluates so
abbrev pub job_total : {A : Type 0} → FinishKind → Eval A → Total
job_total kind a = settle (collected kind (nothing kind) (for_finish a))

-- its moves, without the one of the job itself
abbrev pub job_moves : {A : Type 0} → Eval A → ℕ
job_moves a = moves_of a.given

-- a value that came back, offered
abbrev pub offer_back : Result ℤ ℕ → Acts
offer_back (Ok value) = Offer value ∷ []
offer_back (Err code) = []

-- the end of a job that is a call: what comes back is offered
abbrev pub back_offered : Eval ℤ → Eval ℤ
back_offered a = record { end = call_end (λ v. []) (value_back a.end); given = a.given ++ offer_back (value_back a.end) }

-- what acts still give to a finish of this kind
abbrev pub promised_by : FinishKind → Acts → Promise
promised_by kind given =
    let total = collected kind (nothing kind) given in
    record { gift = total.gift; fault = total.fault; moves = moves_of given }

-- what a body still gives to its finish of which this is left: its own fault is one of those that it gives
abbrev pub promise_left : {A : Type 0} → FinishKind → Eval A → Promise
promise_left kind a = promised_by kind (for_finish a)
