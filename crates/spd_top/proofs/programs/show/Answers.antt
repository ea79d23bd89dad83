use Rattle.std.proofs.Common.{ap, refl, subst, ◌∙◌}
use Rattle.spd_canonical.specs.Layout.{canonical_text}
use Rattle.spd_spine.proofs.Putting.{front_of_none}
use Rattle.spd_top.specs.Told.{Bytes, bytes_alone}
use Rattle.spd_top.specs.Serving.{Tells, memory_stopped}
use Rattle.spd_top.proofs.programs.show.Goals as goal

pub returns-in-Ok : goal.returns-in-Ok
returns-in-Ok g c =
    let text = c.deref.ensures.value ∙ c.in-Ok.ensures.text ∙ ap canonical_text c.program.ensures.program in
    subst (λ (bytes : Bytes). Tells (bytes_alone bytes) (g.O.Sink.state c.args.out.now) (g.O.Sink.state c.put_whole.new.out) (g.E.Sink.state c.args.err.now) (g.E.Sink.state c.put_whole.new.err) c.put_whole.result)
    text c.put_whole.ensures

pub returns-in-Err : goal.returns-in-Err
returns-in-Err g c =
    rw c.out_of_memory.ensures.0 (memory_stopped (front_of_none (g.O.Sink.state c.args.out.now) (canonical_text c.args.code.now), refl) c.out_of_memory.ensures.1)
