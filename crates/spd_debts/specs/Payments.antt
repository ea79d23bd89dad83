-- What the steps that pay, collect and end do to the word that they change, and to the share's view.
use Rattle.std.specs.Prelude.{ℕ, ◌+◌, ◌%◌, ◌^◌, ℤ, Some, None, min, max}
use Prim.Native.Nat.{zero, suc}
use Rattle.std.specs.Int.{w64, cast_unsigned}
use Rattle.spd_state.specs.Promises.{less_move}
use Rattle.spd_state.specs.declared.view.View.{View}

-- ---- `add_sum` and `raise_best`: an offer, after which it is told what is left of the promise

-- the word of a sum that takes x more: it wraps, as a fetch-and-add does
abbrev pub added_word : ℤ → ℕ → ℕ
added_word x w = (w + cast_unsigned w64 x) % 2 ^ 64

-- the word of a least or a greatest that takes the value whose own word is y
abbrev pub raised_word : ℕ → ℕ → ℕ
raised_word y w = max w y

-- the gift that is left
abbrev pub offer_view : ℤ → View → View
offer_view left v = record v { owes = record v.owes { gift = left }; steps = v.steps + 1 }

-- ---- `lower_fault`: a fault, after which it is told what is left

-- the least code, with one more
abbrev pub lowered_word : ℕ → ℕ → ℕ
lowered_word c w = min w c

-- the code that is left
abbrev pub fault_view : ℕ → View → View
fault_view left v = record v { owes = record v.owes { fault = left }; steps = v.steps + 1 }

-- with the code 0 nothing is taken out, and a hurt share has passed it on
abbrev pub sink_view : View → View
sink_view v = record v { hurt = 0; sunk = 1; steps = v.steps + 1 }

-- the one or the other, by the code
abbrev pub lower_view : ℕ → ℕ → View → View
lower_view zero left v = sink_view v
lower_view (suc c) left v = fault_view left v

-- ---- `see_sum` and `see_fault` of the finish for which the running vertex waited: first the gift word, then the fault word

-- the gift word was n
abbrev pub shown_view : ℕ → View → View
shown_view n v = record v { seen = Some n; steps = v.steps + 1 }

-- the share has collected, and is hurt where the fault word was 0
abbrev pub collect_view : ℕ → View → View
collect_view zero v = record v { awaited = None; hurt = 1; steps = v.steps + 1 }
collect_view (suc c) v = record v { awaited = None; steps = v.steps + 1 }

-- ---- `see_moves` past the plan's moves, `set_done` and `see_done`

-- a look that stands for a draw takes one move too
abbrev pub sees_view : View → View
sees_view v = record v { owes = less_move v.owes; steps = v.steps + 1 }

-- the share of vertex 1 is over, and has the mark of the end
abbrev pub done_view : View → View
done_view v = record v { running = None; done = 1; steps = v.steps + 1 }

-- A look at the word of the end is a step like any load.
