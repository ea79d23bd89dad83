-- What is told of a body whose finish lacks memory.
use Rattle.std.specs.Prelude.{ℕ, Option, Some, None, false, pos}
use Rattle.spd_words.specs.Gift.{no_fault}
use Rattle.spd_words.specs.Meaning.{Awaited, Promise, Stage, Going, Spent, Ended, BodyView, empty}
use Rattle.spd_words.specs.declared.finish_kind.FinishKind.TheVariants.{Sum}
use Rattle.spd_work_tests.specs.declared.starving.Starving.{Starving}
use Rattle.spd_work_tests.specs.declared.starving.Hunger.{Hunger}
use Rattle.spd_work_tests.specs.declared.starving.Hunger.TheVariants as hunger

abbrev pub hunger_awaits : Hunger → Option Awaited
hunger_awaits hunger.Waits = Some (record { kind = Sum; gift = pos 0; fault = no_fault })
hunger_awaits _ = None

abbrev pub hunger_stage : Hunger → Stage
hunger_stage hunger.Spent = Spent
hunger_stage hunger.Ended = Ended
hunger_stage _ = Going

abbrev pub hunger_promise : Hunger → Promise
hunger_promise hunger.Opens = record { gift = pos 0; fault = no_fault; moves = 1 }
hunger_promise _ = empty Sum

abbrev pub hunger_size : Hunger → ℕ
hunger_size hunger.Opens = 3
hunger_size hunger.Starves = 0
hunger_size hunger.Ended = 0
hunger_size _ = 1

-- It promises a finish, which offers nothing.
abbrev pub starving_view : Starving → BodyView
starving_view s = record {
  means = record { kind = Sum; wild = false; awaited = hunger_awaits s.hunger; promise = hunger_promise s.hunger };
  stage = hunger_stage s.hunger;
  size = hunger_size s.hunger;
}
