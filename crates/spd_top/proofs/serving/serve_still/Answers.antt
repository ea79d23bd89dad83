-- The words ask for nothing on one thread and are refused, or their command was answered, or memory ran out.
use Rattle.std.proofs.Common.{◌≡◌, ◌∙◌, Option, Some, None, List, Bool, false, arith, ap, sym, subst, refl}
use Rattle.std.specs.Prelude.{is_some, option_and_then}
use Rattle.spd_cols.specs.Made.{made_csv}
use Rattle.spd_command.specs.declared.command.Command.TheVariants.{Make}
use Rattle.spd_top.specs.Requests.{Request, made_file, still_in, still_request_of}
use Rattle.spd_top.specs.Told.{bytes_alone}
use Rattle.spd_top.specs.Serving.{words_refused, refused, made}
use Rattle.spd_top.proofs.Asking.{none_asked, asked_is}
use Rattle.spd_top.proofs.Answering.{said, wanted, has_told}
use Rattle.spd_top.proofs.serving.serve_still.Goals as goal

pub returns-then-not-ask_still-clause-answer : goal.returns-then-not-ask_still-clause-answer
returns-then-not-ask_still-clause-answer g c =
    said (still_request_of c.args.words.now) _ _ (g.O.Sink.state c.args.out.now) (g.E.Sink.state c.args.err.now) (g.E.Sink.state c.refuse_words.new.err) 2 words_refused c.refuse_words.result
    (refused (none_asked (still_request_of c.args.words.now) (sym c.ask_still.ensures ∙ c.if-not-ask_still.true))) (λ e. omega arith) c.refuse_words.ensures

pub returns-in-Ok-Make-clause-answer : goal.returns-in-Ok-Make-clause-answer
returns-in-Ok-Make-clause-answer g c =
    let asked : still_request_of c.args.words.now ≡ Some (made_file c.in-Ok-Make.rows c.in-Ok-Make.seed) =
    ap (option_and_then still_in) (sym (asked_is c.args.words.now c.in-Ok-Make.field-0 (Make c.in-Ok-Make.rows c.in-Ok-Make.seed) c.in-Ok-Make.ensures.read c.in-Ok-Make.field-0-is)) in
    has_told (still_request_of c.args.words.now) _ _ (bytes_alone (made_csv c.in-Ok-Make.rows c.in-Ok-Make.seed)) (g.O.Sink.state c.args.out.now) (g.O.Sink.state c.make.new.out)
    (g.E.Sink.state c.args.err.now) (g.E.Sink.state c.make.new.err) c.make.result (made c.in-Ok-Make.rows c.in-Ok-Make.seed asked) (λ e. omega arith) c.make.ensures

pub returns-in-Err-NoMemory-clause-answer : goal.returns-in-Err-NoMemory-clause-answer
returns-in-Err-NoMemory-clause-answer g c =
    wanted (still_request_of c.args.words.now) (g.F.Shelf.state c.args.shelf.now) (g.F.Shelf.state c.args.shelf.now) (g.O.Sink.state c.args.out.now) (g.E.Sink.state c.args.err.now)
    (g.E.Sink.state c.out_of_memory.new.err) c.out_of_memory.result c.out_of_memory.ensures
