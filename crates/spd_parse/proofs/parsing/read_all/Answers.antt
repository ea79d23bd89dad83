use Rattle.std.proofs.Common.{Err, refl, sym, subst, inr}
use Rattle.spd_syntax.specs.declared.tree.Program.{Program}
use Rattle.spd_syntax.specs.Symbols.{all_seen}
use Rattle.spd_read.specs.declared.reading.ReadError.{ReadError}
use Rattle.spd_parse.specs.Gives.{AnswersFault}
use Rattle.spd_parse.proofs.Answered.{all_stop}
use Rattle.spd_parse.proofs.parsing.read_all.Goals as goal

pub returns-in-Err-Fault-clause-first : goal.returns-in-Err-Fault-clause-first
returns-in-Err-Fault-clause-first c =
    let text = c.args.text.now in
    let kind = c.in-Err-Fault.kind in
    let rest = all_seen text c.in-Err-Fault.rest.now in
    let answers = subst (λ (e : ReadError). AnswersFault {A = Program} text (Err e) kind rest) (sym c.in-Err-Fault.field-0-is) (refl, refl) in
    inr (all_stop (all_seen text c.args.tokens.now) kind rest c.requires.kept (c.in-Err-Fault.ensures.first kind rest answers) _ c.kind_of-kind.ensures
    (c.line_of-line.ensures text))
