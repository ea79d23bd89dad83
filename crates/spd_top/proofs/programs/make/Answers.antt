use Rattle.std.proofs.Common.{refl, subst, ◌∙◌}
use Rattle.spd_cols.specs.Made.{made_csv}
use Rattle.spd_spine.proofs.Putting.{front_of_none}
use Rattle.spd_top.specs.Told.{Bytes, bytes_alone}
use Rattle.spd_top.specs.Serving.{Tells, memory_stopped}
use Rattle.spd_top.proofs.programs.make.Goals as goal

pub returns-in-Ok : goal.returns-in-Ok
returns-in-Ok g c =
    subst (λ (bytes : Bytes). Tells (bytes_alone bytes) (g.O.Sink.state c.args.out.now) (g.O.Sink.state c.put_whole.new.out) (g.E.Sink.state c.args.err.now) (g.E.Sink.state c.put_whole.new.err) c.put_whole.result)
    (c.deref.ensures.value ∙ c.in-Ok.ensures) c.put_whole.ensures

pub returns-in-Err : goal.returns-in-Err
returns-in-Err g c =
    rw c.out_of_memory.ensures.0 (memory_stopped (front_of_none (g.O.Sink.state c.args.out.now) (made_csv c.args.rows c.args.seed), refl) c.out_of_memory.ensures.1)
