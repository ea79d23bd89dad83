use Rattle.std.proofs.Common.{◌⊎◌, inl, subst, ap, sym, ◌∙◌}
use Rattle.spd_top.specs.Told.{Bytes}
use Rattle.spd_top.specs.Rising.{counts_told}
use Rattle.spd_top.specs.Serving.{Says}
use Rattle.spd_top.proofs.telling.tell_counts.Goals as goal

pub returns-in-Ok : goal.returns-in-Ok
returns-in-Ok g c =
    inl (subst (λ (line : Bytes). Says 0 (g.E.Sink.state c.args.err.now) (g.E.Sink.state c.say.new.err) line c.say.result) (c.as_bytes.ensures.value ∙ c.in-Ok.ensures ∙ ap counts_told (sym c.in-Some.is)) c.say.ensures)
