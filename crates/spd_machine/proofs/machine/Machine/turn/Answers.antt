use Rattle.std.proofs.Common.{◌≡◌, ◌∙◌, refl, sym, ap, rules, arith, w64, FitsSigned, [], ◌∷◌, ◌++◌, length, ◌<◌, ◌-◌, Vec, Global, slice_index_or, slice_set, ℕ}
use Rattle.std.specs.Vec.{with_item}
use Rattle.spd_words.specs.declared.tally.Tally.{Tally}
use Rattle.std.proofs.lemmas.Int.{to_z-of_z}
use Rattle.spd_meaning.specs.Acts.{Begin, Async, Call, Over}
use Rattle.spd_level.specs.Columns.{context_of}
use Rattle.spd_machine.proofs.Moving.{handed, told_out, offer_in, fault_in, went_in, closed, by_last, none_in, no_work, called_work}
use Rattle.spd_level.specs.declared.step.Step.TheVariants as step
use Rattle.spd_machine.specs.declared.machine.Met.TheVariants as met
use Rattle.spd_machine.specs.declared.machine.Inside.{Inside}
use Rattle.spd_machine.specs.declared.machine.Machine.{Machine}
use Rattle.spd_machine.proofs.machine.Machine.turn.Goals as goal

pub returns-in-Quiet : goal.returns-in-Quiet
returns-in-Quiet c =
    let n : Machine = record { level = c.turn.new.self; inside = c.args.self.now.inside } in
    handed (context_of c.args.code.now c.args.columns.now) c.args.self.now n step.Quiet met.Quiet refl (rw c.in-Quiet.is at c.in_ok-turn.ensures) refl refl
    refl tt
    (λ w g. omega arith)

pub returns-in-Line : goal.returns-in-Line
returns-in-Line c =
    let n : Machine = record { level = c.turn.new.self; inside = c.args.self.now.inside } in
    handed (context_of c.args.code.now c.args.columns.now) c.args.self.now n (step.Line c.in-Line.field-0) met.Quiet refl (rw c.in-Line.is at
    c.in_ok-turn.ensures)
    refl refl refl tt (λ w g. omega arith)

pub returns-in-None : goal.returns-in-None
returns-in-None c =
    let n : Machine = record { level = c.turn.new.self; inside = c.args.self.now.inside } in
    let f : FitsSigned w64 c.in-Offer.x = search rules in
    let z : length c.args.self.now.inside.items ≡ 0 = search rules in
    let e = none_in c.args.self.now.inside.items z in
    rw (to_z-of_z w64 c.in-Offer.x f)
    (told_out (context_of c.args.code.now c.args.columns.now) c.args.self.now n (step.Offer c.in-Offer.x) (met.Offer c.in-Offer.x) e e
    (rw c.in-Offer.is at c.in_ok-turn.ensures) refl refl tt (λ w g. omega arith))

pub returns-in-None-last_mut : goal.returns-in-None-last_mut
returns-in-None-last_mut c =
    let n : Machine = record { level = c.turn.new.self; inside = c.args.self.now.inside } in
    let z : length c.args.self.now.inside.items ≡ 0 = search rules in
    let e = none_in c.args.self.now.inside.items z in
    told_out (context_of c.args.code.now c.args.columns.now) c.args.self.now n (step.Fault c.in-Fault.code) (met.Fault c.in-Fault.code) e e
    (rw c.in-Fault.is at c.in_ok-turn.ensures) refl refl tt (λ w g. omega arith)

pub returns-then-is_empty : goal.returns-then-is_empty
returns-then-is_empty c =
    let n : Machine = record { level = c.turn.new.self; inside = c.args.self.now.inside } in
    let z : length c.args.self.now.inside.items ≡ 0 = search rules in
    let e = none_in c.args.self.now.inside.items z in
    let h = rw c.in-Async.is at c.in_ok-turn.ensures in
    told_out (context_of c.args.code.now c.args.columns.now) c.args.self.now n (step.Async c.in-Async.body c.in-Async.left) (met.Async c.in-Async.body
    c.in-Async.left)
    e e h refl refl (h.falls_through, e) (λ w g. omega arith)

pub returns-in-Async : goal.returns-in-Async
returns-in-Async c =
    let n : Machine = record { level = c.hold.new.self; inside = c.args.self.now.inside } in
    let h = rw c.in-Async.is at c.in_ok-turn.ensures in
    let k = c.in_ok-hold-in-Async.ensures.frames in
    let i : 0 < length c.args.self.now.inside.items = search rules in
    went_in (context_of c.args.code.now c.args.columns.now) c.args.self.now n c.turn.new.self (step.Async c.in-Async.body c.in-Async.left) met.Held (Begin
    Async ∷ [])
    refl h refl (c.in_ok-hold-in-Async.ensures.left (context_of c.args.code.now c.args.columns.now)) refl (no_work Async) refl refl i (λ w g. omega arith)

pub returns-in-Finish : goal.returns-in-Finish
returns-in-Finish c =
    let n : Machine = record { level = c.turn.new.self; inside = c.args.self.now.inside } in
    let h = rw c.in-Finish.is at c.in_ok-turn.ensures in
    handed (context_of c.args.code.now c.args.columns.now) c.args.self.now n (step.Finish c.in-Finish.finish) (met.Finish c.in-Finish.finish)
    refl h refl refl refl h.falls_through (λ w g. omega arith)

pub returns-in-Call : goal.returns-in-Call
returns-in-Call c =
    let n : Machine = record { level = c.go_in.new.self; inside = c.args.self.now.inside } in
    let h = rw c.in-Call.is at c.in_ok-turn.ensures in
    let k = c.in_ok-go_in-in-Call.ensures.frames in
    went_in (context_of c.args.code.now c.args.columns.now) c.args.self.now n c.turn.new.self (step.Call c.in-Call.call) met.Quiet (Begin Call ∷ []) refl h refl
    (c.in_ok-go_in-in-Call.ensures.left (context_of c.args.code.now c.args.columns.now)) refl (no_work Call) refl refl tt (λ w g. omega arith)

pub returns-in-Called : goal.returns-in-Called
returns-in-Called c =
    let n : Machine = record { level = c.turn.new.self; inside = c.args.self.now.inside } in
    went_in (context_of c.args.code.now c.args.columns.now) c.args.self.now n c.turn.new.self step.Called met.Quiet (Begin Call ∷ Over ∷ []) refl
    (rw c.in-Called.is at c.in_ok-turn.ensures) refl refl refl called_work refl refl tt (λ w g. omega arith)

pub returns-in-None-pop : goal.returns-in-None-pop
returns-in-None-pop c =
    let n : Machine = record { level = c.turn.new.self; inside = c.pop.new.self } in
    let z : length c.args.self.now.inside.items ≡ 0 = search rules in
    let e = none_in c.args.self.now.inside.items z in
    let y : length c.pop.new.self.items ≡ 0 = search rules in
    let d = none_in c.pop.new.self.items y in
    let h = rw c.in-Over.is at c.in_ok-turn.ensures in
    told_out (context_of c.args.code.now c.args.columns.now) c.args.self.now n step.Over met.Over e d h refl refl (h.goes_on, d) (λ w g. tt)

pub returns-in-Offer : goal.returns-in-Offer
returns-in-Offer c =
    let is = c.args.self.now.inside in
    let i = c.in-Some.inside.now in
    let f : FitsSigned w64 c.in-Offer.x = search rules in
    let z : 0 < length is.items = search rules in
    let l : is.len ≡ length is.items = search rules in
    let b = by_last is.items i z in
    let v : i ≡ slice_index_or is.items (length is.items - 1) i = search rules in
    let j : Inside = record { tally = c.offer.new.self; binds = i.binds; line = i.line; outer = i.outer } in
    let n : Machine = record { level = c.turn.new.self; inside = with_item is (is.len - 1) j } in
    offer_in (context_of c.args.code.now c.args.columns.now) c.args.self.now n b.rest i j c.in-Offer.x (b.is_so ∙ ap (λ (k : Inside). b.rest ++ k ∷ []) (sym v))
    (ap (λ (y : ℕ). slice_set is.items (y - 1) j) l ∙ b.set j)
    (ap (λ (t : Tally). record { tally = t; binds = i.binds; line = i.line; outer = i.outer }) (rw (to_z-of_z w64 c.in-Offer.x f) at c.offer.ensures))
    (rw c.in-Offer.is at c.in_ok-turn.ensures)

pub returns-in-Fault : goal.returns-in-Fault
returns-in-Fault c =
    let is = c.args.self.now.inside in
    let i = c.in-Some-last_mut.inside.now in
    let z : 0 < length is.items = search rules in
    let l : is.len ≡ length is.items = search rules in
    let b = by_last is.items i z in
    let v : i ≡ slice_index_or is.items (length is.items - 1) i = search rules in
    let j : Inside = record { tally = c.fault.new.self; binds = i.binds; line = i.line; outer = i.outer } in
    let n : Machine = record { level = c.turn.new.self; inside = with_item is (is.len - 1) j } in
    fault_in (context_of c.args.code.now c.args.columns.now) c.args.self.now n b.rest i j c.in-Fault.code (b.is_so
    ∙ ap (λ (k : Inside). b.rest ++ k ∷ []) (sym v))
    (ap (λ (y : ℕ). slice_set is.items (y - 1) j) l ∙ b.set j)
    (ap (λ (t : Tally). record { tally = t; binds = i.binds; line = i.line; outer = i.outer }) c.fault.ensures) (rw c.in-Fault.is at c.in_ok-turn.ensures)

pub returns : goal.returns
returns c =
    closed (context_of c.args.code.now c.args.columns.now) c.args.self.now c.close.new.self c.turn.new.self c.in-Some-pop.inside
    (c.in-Some-pop.ensures.items ∙ ap (λ (v : Vec Inside Global). v.items ++ c.in-Some-pop.inside ∷ []) (sym c.in_ok-close-in-Some-pop.ensures.inside))
    (rw c.in-Over.is at c.in_ok-turn.ensures) (ap (λ v. v.items) c.in_ok-close-in-Some-pop.ensures.frames) c.in_ok-close-in-Some-pop.ensures.now
