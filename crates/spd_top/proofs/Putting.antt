-- What a command has put, told of sinks.
use Rattle.std.proofs.Common.{◌≡◌, ◌≢◌, ℕ, List, [], take, Result, Ok, Err, OnOk, OnErr, IfErr, inl, inr, refl, sym}
use Rattle.std.proofs.lemmas.List.{append-nil}
use Rattle.spd_io.specs.declared.sink.Stopped.{Stopped}
use Rattle.spd_io.specs.Sink.{SinkState, Gets, GetsFront, Failed, SameFaults}
use Rattle.spd_spine.specs.declared.turn.End.{End}
use Rattle.spd_spine.specs.declared.turn.RunError.{RunError}
use Rattle.spd_spine.specs.declared.turn.RunError.TheVariants.{NoMemory, WriteFailed}
use Rattle.spd_spine.proofs.Putting.{gets_nothing, front_of}
use Rattle.spd_top.specs.Serving.{Takes, GetsOrFails}

pub takes_nothing : (a : SinkState) → Takes a a []
takes_nothing a = (gets_nothing a, refl)

pub whole_is_front : (a b : SinkState) (x : List ℕ) → Gets a b x → GetsFront a b x
whole_is_front a b x p = (x, [], sym (append-nil x), p)

-- what writing bytes to a sink came to
pub got_or_failed : (a b : SinkState) (x : List ℕ) (r : Result (Unit {0}) Stopped) → OnOk r (Gets a b x) → OnOk r (SameFaults a b) → OnErr r (Failed a b) → IfErr r (λ stopped. Gets a b (take stopped.sent x)) → GetsOrFails a b x
got_or_failed a b x (Ok u) all kept cause sent = inl (all, kept)
got_or_failed a b x (Err stopped) all kept cause sent = inr (cause, front_of a b x stopped.sent sent)

-- ends that aren't those of a sink that failed
pub ok_well : (end : End) (e : RunError) → Ok end ≢ Err e
ok_well end e h = cc

pub ended_for_memory : (r : Result End RunError) → r ≡ Err NoMemory → r ≢ Err WriteFailed
ended_for_memory r h w = cc
