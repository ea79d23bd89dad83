use Rattle.std.proofs.Common.{◌+◌, ◌∙◌, ◌≡◌, List, Err, take, length, refl, sym, subst, inr, arith}
use Rattle.std.proofs.lemmas.List.{length-map}
use Rattle.spd_syntax.specs.declared.tree.Program.{Program}
use Rattle.spd_syntax.specs.Tokens.{Seen, seen}
use Rattle.spd_syntax.specs.Symbols.{all_seen}
use Rattle.spd_syntax.specs.Grammar.{program}
use Rattle.spd_read.specs.declared.reading.ReadError.{ReadError}
use Rattle.spd_parse.specs.Stops.{IsFirstStop}
use Rattle.spd_parse.specs.Gives.{AnswersFault}
use Rattle.spd_parse.proofs.Answered.{split_of, shown_tokens, shown_read, shown_ends, shown_stop, line_there, nothing_seen, first_seen}
use Rattle.spd_parse.proofs.parsing.fault_before.Goals as goal

pub returns-in-Ok : goal.returns-in-Ok
returns-in-Ok c =
    let text = c.args.text.now in
    let ts = c.args.tokens.now in
    let cut = split_of (all_seen text ts) c.args.place c.requires.first_over (omega (arith, c.requires.inside, length-map ts (seen text))) in
    let shown = shown_tokens text ts c.args.place cut c.requires.first_over in
    inr (shown_read (all_seen text ts) (all_seen text (take (c.args.place + 1) ts)) cut shown c.in-Ok.field-0 c.in-Ok.ensures.found c.in-Ok.ensures.keeps _
    c.too_many.ensures.kind (c.too_many.ensures.line ∙ line_there text ts c.args.place cut c.requires.first_over _ c.requires.inside))

pub returns-in-empty : goal.returns-in-empty
returns-in-empty c =
    let text = c.args.text.now in
    let ts = c.args.tokens.now in
    let kind = c.in-Err-Fault.kind in
    let left = c.in-Err-Fault.rest.now in
    let answers = subst (λ (e : ReadError). AnswersFault {A = Program} text (Err e) kind (all_seen text left)) (sym c.in-Err-Fault.field-0-is) (refl, refl) in
    let first = subst (λ (z : List Seen). IsFirstStop program 32 (all_seen text (take (c.args.place + 1) ts)) kind z)
    (nothing_seen text left c.in-empty.len_below) (c.in-Err-Fault.ensures.first kind (all_seen text left) answers) in
    let cut = split_of (all_seen text ts) c.args.place c.requires.first_over (omega (arith, c.requires.inside, length-map ts (seen text))) in
    let shown = shown_tokens text ts c.args.place cut c.requires.first_over in
    inr (shown_ends (all_seen text ts) (all_seen text (take (c.args.place + 1) ts)) cut shown kind first _ c.too_many-in-empty.ensures.kind
    (c.too_many-in-empty.ensures.line ∙ line_there text ts c.args.place cut c.requires.first_over _ c.requires.inside))

pub returns-in-len1-up : goal.returns-in-len1-up
returns-in-len1-up c =
    let text = c.args.text.now in
    let ts = c.args.tokens.now in
    let cut = split_of (all_seen text ts) c.args.place c.requires.first_over (omega (arith, c.requires.inside, length-map ts (seen text))) in
    let shown = shown_tokens text ts c.args.place cut c.requires.first_over in
    let kind = c.in-Err-Fault.kind in
    let left = c.in-Err-Fault.rest.now in
    let answers = subst (λ (e : ReadError). AnswersFault {A = Program} text (Err e) kind (all_seen text left)) (sym c.in-Err-Fault.field-0-is) (refl, refl) in
    let next = first_seen text left _ c.in-len1-up.len_at_least in
    let first = subst (λ (z : List Seen). IsFirstStop program 32 (all_seen text (take (c.args.place + 1) ts)) kind z) next.2
    (c.in-Err-Fault.ensures.first kind (all_seen text left) answers) in
    inr (shown_stop (all_seen text ts) (all_seen text (take (c.args.place + 1) ts)) cut shown kind next.0 next.1 first _ c.kind_of-kind.ensures next.3)
