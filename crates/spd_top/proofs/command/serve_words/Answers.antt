use Rattle.spd_top.specs.BuiltIn.{shelf_for}
use Rattle.spd_top.specs.Requests.{request_of}
use Rattle.spd_top.proofs.Answering.{wanted}
use Rattle.spd_top.proofs.command.serve_words.Goals as goal

pub returns-in-Err-clause-answer : goal.returns-in-Err-clause-answer
returns-in-Err-clause-answer g c =
    wanted (request_of c.args.words.now) (shelf_for c.args.words.now (g.F.Shelf.state c.args.shelf.now)) (shelf_for c.args.words.now (g.F.Shelf.state c.args.shelf.now)) (g.O.Sink.state c.args.out.now) (g.E.Sink.state c.args.err.now)
    (g.E.Sink.state c.out_of_memory.new.err) c.out_of_memory.result c.out_of_memory.ensures
