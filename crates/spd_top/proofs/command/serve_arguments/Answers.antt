-- Each way out answers for the words that the arguments are.
use Rattle.std.proofs.Common.{List, ap, sym, subst, ◌∙◌}
use Rattle.spd_top.specs.Told.{Bytes}
use Rattle.spd_top.specs.BuiltIn.{shelf_for}
use Rattle.spd_top.specs.Requests.{request_of}
use Rattle.spd_top.specs.Serving.{ChangesNoUntouched}
use Rattle.spd_top.proofs.Answering.{wanted}
use Rattle.spd_top.specs.Command.{words_of, AreText}
use Rattle.spd_top.proofs.Claims.{all_text}
use Rattle.spd_top.proofs.Texts.{untrue}
use Rattle.spd_top.proofs.command.serve_arguments.Goals as goal

pub returns-then-not-are_text-clause-answer : goal.returns-then-not-are_text-clause-answer
returns-then-not-are_text-clause-answer g c =
    let are = c.words_of-words.ensures ∙ ap words_of c.as_slice.ensures.entries in
    rw c.in-Ok.is (λ text. absurd (untrue (c.if-not-are_text.ensures.1 (subst AreText (sym are) text))))

pub returns-in-Ok-to_words-clause-not_text : goal.returns-in-Ok-to_words-clause-not_text
returns-in-Ok-to_words-clause-not_text g c =
    all_text c.args.arguments c.in-Ok.arguments c.words_of-words.result.now c.in-Ok.is (c.words_of-words.ensures ∙ ap words_of c.as_slice.ensures.entries) _ (c.are_text.ensures.0 c.if-not-are_text.false)

pub returns-in-Ok-to_words-clause-uncalled_not_text : goal.returns-in-Ok-to_words-clause-uncalled_not_text
returns-in-Ok-to_words-clause-uncalled_not_text g c =
    all_text c.args.arguments c.in-Ok.arguments c.words_of-words.result.now c.in-Ok.is (c.words_of-words.ensures ∙ ap words_of c.as_slice.ensures.entries) _ (c.are_text.ensures.0 c.if-not-are_text.false)

pub returns-in-Ok-to_words-clause-others : goal.returns-in-Ok-to_words-clause-others
returns-in-Ok-to_words-clause-others g c =
    let are = c.in-Ok-to_words.ensures ∙ c.words_of-words.ensures ∙ ap words_of c.as_slice.ensures.entries in
    rw c.in-Ok.is (λ text. subst (λ (words : List Bytes). ChangesNoUntouched (request_of words) (shelf_for words (g.F.Shelf.state c.args.shelf.now)) (shelf_for words (g.F.Shelf.state c.serve_words.new.shelf))) are c.serve_words.ensures.others)

pub returns-clause-answer : goal.returns-clause-answer
returns-clause-answer g c =
    rw c.in-Ok.is (λ text. wanted (request_of (words_of c.in-Ok.arguments)) (shelf_for (words_of c.in-Ok.arguments) (g.F.Shelf.state c.args.shelf.now))
    (shelf_for (words_of c.in-Ok.arguments) (g.F.Shelf.state c.args.shelf.now)) (g.O.Sink.state c.args.out.now) (g.E.Sink.state c.args.err.now)
    (g.E.Sink.state c.out_of_memory-in-Err.new.err) c.out_of_memory-in-Err.result c.out_of_memory-in-Err.ensures)

pub returns-clause-not_text : goal.returns-clause-not_text
returns-clause-not_text g c =
    all_text c.args.arguments c.in-Ok.arguments c.words_of-words.result.now c.in-Ok.is (c.words_of-words.ensures ∙ ap words_of c.as_slice.ensures.entries) _ (c.are_text.ensures.0 c.if-not-are_text.false)
