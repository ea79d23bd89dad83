-- What is asked of a worker can be met: a share that rests where books are kept, and two bodies that it starts, one of which waits.
use Rattle.std.proofs.Common.{refl, arith, Option, None, Some, false}
use Rattle.spd_words.specs.Gift.{identity, no_fault}
use Rattle.spd_words.specs.Meaning.{Awaited, BodyView, Going, IsLawfulTotal, IsTame, empty}
use Rattle.spd_words.specs.Words.{Vertex}
use Rattle.spd_words.specs.declared.finish_kind.FinishKind.TheVariants.{Plain}
use Rattle.spd_state.specs.Promises.{no_debt}
use Rattle.spd_state.specs.Seats.{new_view}
use Rattle.spd_state.specs.Shown.{note_ready}
use Rattle.spd_state.specs.Steps.{start_run, start_view}
use Rattle.spd_state.specs.declared.promise.Whole.{Whole}
use Rattle.spd_state.specs.declared.view.View.{View}
use Rattle.spd_work.specs.Runs.{Rests, RunsBody, RunsNew}
use Rattle.spd_work.proofs.Started.{started_new}

abbrev pub books : Whole
books = record { kind = Plain; wild = 0; owes = no_debt }

abbrev pub idle : View
idle = record new_view { whole = Some books }

idle_rests : Rests idle
idle_rests = record {
  running = refl;
  slots = refl;
  nothing = record { flight = refl; held = refl; claimed = refl; rooted = refl; above = refl; halves = refl; sprout = refl; told = refl };
  clear = record { collected = refl; well = refl };
}

abbrev pub nothing_awaited : Awaited
nothing_awaited = record { kind = Plain; gift = identity Plain; fault = no_fault }

abbrev pub body : Option Awaited → BodyView
body o = record { means = record { kind = Plain; wild = false; awaited = o; promise = empty Plain }; stage = Going; size = 1 }

lawful : IsLawfulTotal Plain (identity Plain) no_fault
lawful = record { gift = refl; fault = omega arith; memory = λ e. absurd (omega (arith, e)) }

tame_runs : IsTame (body None).means
tame_runs = record { tame = refl; promise = lawful; awaited = _ }

tame_waits : IsTame (body (Some nothing_awaited)).means
tame_waits = record { tame = refl; promise = lawful; awaited = lawful }

pub runs_new : (x : Vertex) → RunsNew (start_view 2 x (Some (body None).means) (note_ready 2 x idle)) (start_run 2 x) 2 (body None)
runs_new x = started_new idle 2 x idle_rests (body None) books (λ e. absurd (omega (arith, e))) (refl, refl)
    record { fit = record { goes = refl; tame = λ _. tame_runs }; tame = λ w knows. refl; waits = λ w knows y is. absurd (cc) }

pub waits_new : (x : Vertex) → RunsNew (start_view 3 x (Some (body (Some nothing_awaited)).means) (note_ready 3 x idle)) (start_run 3 x) 3
    (body (Some nothing_awaited))
waits_new x = started_new idle 3 x idle_rests (body (Some nothing_awaited)) books (λ e. absurd (omega (arith, e))) (refl, refl)
    record { fit = record { goes = refl; tame = λ _. tame_waits }; tame = λ w knows. refl; waits = λ w knows y is. (1, refl) }

-- and so a body may run
pub runs_body : (x : Vertex) → RunsBody (start_view 2 x (Some (body None).means) (note_ready 2 x idle)) (start_run 2 x) (body None)
runs_body x = let new = runs_new x in record {
  on = new.on;
  clear = record { collected = refl; well = refl };
  keeps = new.keeps;
  kind = new.kind;
  awaited = refl;
  stage = refl;
  tame = tame_runs;
  owed = new.owed;
}
