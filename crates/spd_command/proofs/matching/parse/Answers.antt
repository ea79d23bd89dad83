-- The parser takes lawful words, and its rows are what they give.
use Rattle.std.proofs.Common.{◌∙◌, ap, sym, subst, map}
use Rattle.std.specs.String.{string_bytes}
use Rattle.std.proofs.lemmas.Result.{IfErr-weaker, IfOk-weaker}
use Rattle.clap.specs.Words.{found_of, is_simple, matches_of, rows_of, takes}
use Rattle.spd_command.proofs.ClapFlags.{HoldsGiven, first_read}
use Rattle.spd_command.proofs.ClapTakes.{arguments_are, simple, matches_hold, takes_words, values_are}
use Rattle.spd_command.proofs.matching.parse.Goals as goal

pub returns-clause-found : goal.returns-clause-found
returns-clause-found c =
    let command = c.args.command in
    let words = map string_bytes c.args.words.now in
    let read = c.try_get_matches_from in
    let lawful = c.requires.lawful in
    IfOk-weaker read.result _ _ (λ m h.
    let rows_are = (h (ap is_simple c.requires.built ∙ simple command)).0 ∙ ap (λ app. matches_of app words) c.requires.built in
    let holds = subst (HoldsGiven _) (sym rows_are) (matches_hold command words lawful) in (
      _,
      arguments_are command words lawful,
      record {
        words = λ argument valued. first_read _ (rows_of (found_of m)) argument holds valued;
        flags = holds.flags;
        values = values_are command words lawful;
      },
    )) read.ensures.matches

pub returns-clause-refused : goal.returns-clause-refused
returns-clause-refused c =
    let words = map string_bytes c.args.words.now in
    let read = c.try_get_matches_from in
    IfErr-weaker read.result _ _ (λ e h. h (ap (λ app. takes app words) c.requires.built ∙ takes_words c.args.command words c.requires.lawful)) read.ensures.passes
