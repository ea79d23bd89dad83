-- The definitions on small examples, whose values are worked out by hand.
use Rattle.std.proofs.Common.{◌≡◌, [], ◌∷◌, ◌++◌, refl, ℤ, pos, Ok, Err, Some, None}
use Rattle.std.specs.Prelude.{negsuc, if◌then◌else◌}
use Rattle.std.specs.Ordering.{int_eq}
use Rattle.std.specs.Int.{int_wrap}
use Rattle.spd_words.specs.declared.finish_kind.FinishKind.TheVariants as kind
use Rattle.spd_syntax.specs.declared.tree.UnOp.TheVariants as u
use Rattle.spd_syntax.specs.declared.tree.BinOp.TheVariants as b
use Rattle.spd_meaning.specs.Acts.{Async, Finish, Call, Offer, Code, Begin, Over, Tick, Line, heard, jobs_from, jobs_of, lines_of, moves_of}
use Rattle.spd_meaning.specs.Eval.{Eval, Fell, Back, Fault, quiet, async_of, finish_of, call_of, returned, turns, turns_to, back_offered, job_total}
use Rattle.spd_meaning.specs.Values.{ColumnView, apply_unary, apply_binary, operated, entry_number, entry_size, entry_byte, entry_same, entry_begins}
use Rattle.spd_meaning.specs.Names.{Env, look_up, assign, enter}

-- ---- operators, at line 9

truncates : apply_binary b.Div (negsuc 6) (pos 2) 9 ≡ Ok (negsuc 2)
truncates = refl

sign_of_dividend : apply_binary b.Rem (negsuc 6) (pos 2) 9 ≡ Ok (negsuc 0)
sign_of_dividend = refl

least_by_minus_one : apply_binary b.Div (negsuc 9223372036854775807) (negsuc 0) 9 ≡ Ok (negsuc 9223372036854775807)
least_by_minus_one = refl

rest_by_minus_one : apply_binary b.Rem (negsuc 9223372036854775807) (negsuc 0) 9 ≡ Ok (pos 0)
rest_by_minus_one = refl

by_zero : apply_binary b.Rem (pos 1) (pos 0) 9 ≡ Err 73
by_zero = refl

wraps : apply_binary b.Add (pos 9223372036854775807) (pos 1) 9 ≡ Ok (negsuc 9223372036854775807)
wraps = refl

least_negated : apply_unary u.Neg (negsuc 9223372036854775807) 9 ≡ Ok (negsuc 9223372036854775807)
least_negated = refl

and_stops : operated b.And (Ok (pos 0)) (Err 5) 9 ≡ Ok (pos 0)
and_stops = refl

or_stops : operated b.Or (Ok (pos 7)) (Err 5) 9 ≡ Ok (pos 1)
or_stops = refl

and_is_truth : operated b.And (Ok (pos 2)) (Ok (pos 3)) 9 ≡ Ok (pos 1)
and_is_truth = refl

left_first : operated b.Add (Err 5) (Err 6) 9 ≡ Err 5
left_first = refl

-- ---- columns: one entry "ab"

abbrev words : ColumnView
words = record { length = pos 1; number = λ i. None; text = λ i. if int_eq i (pos 0) then Some (97 ∷ 98 ∷ []) else None }

byte_there : entry_byte words (Ok (pos 0)) (Ok (pos 1)) 9 ≡ Ok (pos 98)
byte_there = refl

byte_beyond : entry_byte words (Ok (pos 0)) (Ok (pos 2)) 9 ≡ Err 74
byte_beyond = refl

byte_before : entry_byte words (Ok (pos 0)) (Ok (negsuc 0)) 9 ≡ Err 74
byte_before = refl

operands_first : entry_byte words (Ok (pos 9)) (Err 5) 9 ≡ Err 5
operands_first = refl

size_is : entry_size words (Ok (pos 0)) 9 ≡ Ok (pos 2)
size_is = refl

same_as_itself : entry_same words (Ok (pos 0)) (97 ∷ 98 ∷ []) 9 ≡ Ok (pos 1)
same_as_itself = refl

same_but_shorter : entry_same words (Ok (pos 0)) (97 ∷ []) 9 ≡ Ok (pos 0)
same_but_shorter = refl

begins_so : entry_begins words (Ok (pos 0)) (97 ∷ []) 9 ≡ Ok (pos 1)
begins_so = refl

begins_no_longer : entry_begins words (Ok (pos 0)) (97 ∷ 98 ∷ 99 ∷ []) 9 ≡ Ok (pos 0)
begins_no_longer = refl

no_number : entry_number words (Ok (pos 0)) 9 ≡ Err 74
no_number = refl

-- ---- names: a = 1, b = 2

abbrev two : Env
two = enter ((97 ∷ []) ∷ (98 ∷ []) ∷ []) (pos 1 ∷ pos 2 ∷ pos 3 ∷ [])

reads_second : look_up two (98 ∷ []) ≡ pos 2
reads_second = refl

reads_nothing : look_up two (99 ∷ []) ≡ pos 0
reads_nothing = refl

assigns_second : look_up (assign two (98 ∷ []) (pos 5)) (98 ∷ []) ≡ pos 5
assigns_second = refl

keeps_first : look_up (assign two (98 ∷ []) (pos 5)) (97 ∷ []) ≡ pos 1
keeps_first = refl

-- ---- finishes, asyncs, calls and loops

abbrev offers : Eval ℤ
offers = record { end = Fell []; given = Offer (pos 3) ∷ Begin Async ∷ Offer (pos 4) ∷ Over ∷ [] }

sum_of_offers : finish_of kind.Sum 4 (λ v. v ∷ []) offers ≡ record { end = Fell (pos 7 ∷ []); given = Begin Finish ∷ Begin Async ∷ Over ∷ Over ∷ [] }
unfolding int_wrap
sum_of_offers = refl

least_of_offers : (finish_of kind.Least 4 (λ v. v ∷ []) offers).end ≡ Fell (pos 3 ∷ [])
least_of_offers = refl

least_of_none : (finish_of kind.Least 4 (λ v. v ∷ []) (quiet (Fell []))).end ≡ Fell (pos 9223372036854775807 ∷ [])
least_of_none = refl

greatest_of_none : (finish_of kind.Greatest 4 (λ v. v ∷ []) (quiet (Fell []))).end ≡ Fell (negsuc 9223372036854775807 ∷ [])
greatest_of_none = refl

least_code : (finish_of {A = ℤ} kind.Plain 4 (λ v. []) (record { end = Fault 30; given = Code 41 ∷ Code 20 ∷ [] })).end ≡ Fault 20
least_code = refl

own_fault : (finish_of {A = ℤ} kind.Plain 4 (λ v. []) (quiet (Fault 30))).end ≡ Fault 30
own_fault = refl

async_faults : async_of (pos 1 ∷ []) (quiet (Fault 30)) ≡ record { end = Fell (pos 1 ∷ []); given = Begin Async ∷ Code 30 ∷ Over ∷ [] }
async_faults = refl

call_faults : call_of (λ v. v ∷ []) (returned {A = ℤ} (record { end = Fault 30; given = Offer (pos 1) ∷ [] }))
    ≡ record { end = Fault 30; given = Begin Call ∷ Offer (pos 1) ∷ Over ∷ [] }
call_faults = refl

call_gives : (call_of (λ v. pos 1 ∷ v ∷ []) (returned {A = ℤ} (quiet (Back (pos 2))))).end ≡ Fell (pos 1 ∷ pos 2 ∷ [])
unfolding int_wrap
call_gives = refl

drops_names : turns {A = ℤ} (turns_to (pos 2)) (pos 5) (λ at vars. quiet (Fell (vars ++ at ∷ []))) (pos 1 ∷ []) ≡ record {
  end = Fell (pos 1 ∷ []);
  given = Tick ∷ Tick ∷ [];
}
drops_names = refl

counts_on : (turns {A = ℤ} 2 (pos 5) (λ at vars. record { end = Fell vars; given = Offer at ∷ [] }) []).given ≡ Tick ∷ Offer (pos 5) ∷ Tick ∷ Offer (pos 6) ∷ []
counts_on = refl

returns_from_loop : turns {A = ℤ} 2 (pos 5) (λ at vars. quiet (Back at)) [] ≡ record { end = Back (pos 5); given = Tick ∷ [] }
returns_from_loop = refl

no_turns : turns_to (negsuc 0) ≡ 0
no_turns = refl

call_job : job_total kind.Sum (back_offered (quiet (Back (pos 8)))) ≡ record { gift = pos 8; fault = 18446744073709551615 }
unfolding int_wrap
call_job = refl

-- ---- what is read off: a finish with an async in it and a print before, then a call with a finish in it

jobs_in_order : jobs_of (Line (97 ∷ []) ∷ Begin Finish ∷ Begin Async ∷ Over ∷ Over ∷ Tick ∷ Begin Call ∷ Begin Finish ∷ Begin Async ∷ Over ∷ Over ∷ Over ∷ [])
    ≡ 1 ∷ 2 ∷ []
unfolding jobs_from
jobs_in_order = refl

lines_alone : lines_of (Tick ∷ Line (97 ∷ []) ∷ Begin Finish ∷ Over ∷ Line [] ∷ []) ≡ (97 ∷ []) ∷ [] ∷ []
lines_alone = refl

moves_alone : moves_of (Begin Call ∷ Begin Async ∷ Over ∷ Over ∷ Begin Finish ∷ Over ∷ []) ≡ 2
unfolding moves_of
moves_alone = refl

heard_alone : heard (Tick ∷ Line [] ∷ Begin Call ∷ Offer (pos 1) ∷ Over ∷ Begin Async ∷ Code 9 ∷ Over ∷ []) ≡ Offer (pos 1) ∷ Begin Async ∷ Code 9 ∷ []
heard_alone = refl
