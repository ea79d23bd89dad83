-- The canonical text was told, or the command ended before.
use Rattle.std.proofs.Common.{[], Some, None, refl, subst, arith}
use Rattle.spd_top.specs.declared.words.SerialCommand.TheVariants.{Check}
use Rattle.spd_top.specs.Requests.{over}
use Rattle.spd_top.specs.Built.{passes}
use Rattle.spd_top.specs.DataFiles.{columns_loaded}
use Rattle.spd_top.specs.Told.{checked}
use Rattle.spd_top.specs.Serving.{of_text, Answer}
use Rattle.spd_top.proofs.Answering.{has_told}
use Rattle.spd_top.proofs.Early.{reads_as}
use Rattle.spd_top.proofs.programs.check.Goals as goal

pub returns-in-Ok-clause-answer : goal.returns-in-Ok-clause-answer
returns-in-Ok-clause-answer g c =
    let old = g.F.Shelf.state c.args.shelf.now in
    let new = g.F.Shelf.state c.code_of.new.shelf in
    let out = g.O.Sink.state c.args.out.now in
    let out' = g.O.Sink.state c.show.new.out in
    let t = checked c.in-Ok.code in
    subst (λ e. Answer (Some (over Check c.args.name.now None)) old new out out' (g.E.Sink.state e) (g.E.Sink.state c.show.new.err) c.show.result) c.in-Ok.ensures.untold
    (has_told (Some (over Check c.args.name.now None)) old new t out out' (g.E.Sink.state c.code_of.new.err) (g.E.Sink.state c.show.new.err) c.show.result
    (of_text Check c.args.name.now (passes c.in-Ok.code) (columns_loaded []) t.status t.bytes t.line (reads_as None Check c.args.name.now c.in-Ok.code old new c.in-Ok.ensures.code) refl refl)
    (λ e. omega arith) c.show.ensures)

pub returns-in-Err-clause-answer : goal.returns-in-Err-clause-answer
returns-in-Err-clause-answer g c = (c.in-Err.ensures.told None Check).answer (g.O.Sink.state c.args.out.now)

pub returns-in-Err-clause-others : goal.returns-in-Err-clause-others
returns-in-Err-clause-others g c = (c.in-Err.ensures.told None Check).others

pub returns-in-Err-clause-read_cause : goal.returns-in-Err-clause-read_cause
returns-in-Err-clause-read_cause g c = (c.in-Err.ensures.told None Check).read_cause
