-- By the text that `get_flag` reads.
use Rattle.std.proofs.Common.{◌∙◌, ⊎_elim, true, false, ap}
use Rattle.clap.specs.Words.{found_of, one_of, rows_of}
use Rattle.clap.proofs.WalkLemmas.{one_text-rows}
use Rattle.spd_command.proofs.command.flag.Goals as goal

pub returns : goal.returns
returns c true text =
    let found = found_of c.args.found.now in
    c.get_flag.ensures.value (one_text-rows found _ ∙ ap (λ id. one_of id (rows_of found)) c.name.ensures ∙ text)
returns c false text =
    let found = found_of c.args.found.now in
    let read = one_text-rows found _ ∙ ap (λ id. one_of id (rows_of found)) c.name.ensures in
    ⊎_elim (λ none. c.get_flag.ensures.none (read ∙ none)) (λ other. c.get_flag.ensures.other (read ∙ other)) text
