-- Main was run over the columns that were loaded, and its end was told.
use Rattle.std.proofs.Common.{Some, None, subst}
use Rattle.spd_top.specs.declared.words.SerialCommand.TheVariants.{Elide}
use Rattle.spd_top.specs.Requests.{over}
use Rattle.spd_top.specs.Serving.{Answer}
use Rattle.spd_top.proofs.Ended.{end_answers}
use Rattle.spd_top.proofs.programs.elide.Goals as goal

pub run_main-ended-requires : goal.run_main-ended-requires
run_main-ended-requires g c = record {
  main = record {
    silent = c.tree.ensures.silent;
    functions_lined = c.tree.ensures.lined.functions;
    tasks_lined = c.tree.ensures.lined.tasks;
  };
}

pub returns-clause-answer : goal.returns-clause-answer
returns-clause-answer g c =
    let old = g.F.Shelf.state c.args.shelf.now in
    let new = g.F.Shelf.state c.load_program.new.shelf in
    let out = g.O.Sink.state c.args.out.now in
    let out' = g.O.Sink.state c.run_main-ended.new.out in
    subst (λ e. Answer (Some (over Elide c.args.name.now None)) old new out out' (g.E.Sink.state e) (g.E.Sink.state c.tell_end.new.err) c.tell_end.result) c.in-Ok.ensures.untold
    (end_answers None c.args.name.now c.in-Ok.program.code c.tree.result.now c.in-Ok.program.columns old new (c.in-Ok.ensures.loaded None) c.tree.ensures.meaning c.run_main-ended.result out out'
    (g.E.Sink.state c.load_program.new.err) (g.E.Sink.state c.tell_end.new.err) c.tell_end.result c.run_main-ended.ensures.all c.run_main-ended.ensures.end c.run_main-ended.ensures.front
    c.run_main-ended.ensures.cause c.run_main-ended.ensures.kept c.tell_end.ensures)

pub returns-in-Err-clause-answer : goal.returns-in-Err-clause-answer
returns-in-Err-clause-answer g c = (c.in-Err.ensures.told None).answer (g.O.Sink.state c.args.out.now)

pub returns-in-Err-clause-others : goal.returns-in-Err-clause-others
returns-in-Err-clause-others g c = (c.in-Err.ensures.told None).others

pub returns-in-Err-clause-read_cause : goal.returns-in-Err-clause-read_cause
returns-in-Err-clause-read_cause g c = (c.in-Err.ensures.told None).read_cause

pub returns-clause-others : goal.returns-clause-others
returns-clause-others g c = (c.in-Ok.ensures.loaded None).others
