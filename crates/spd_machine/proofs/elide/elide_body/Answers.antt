use Rattle.std.proofs.Common.{◌∙◌, ap}
use Rattle.spd_words.specs.Total.{settle, nothing}
use Rattle.spd_meaning.specs.Acts.{Acts}
use Rattle.spd_meaning.specs.Eval.{collected}
use Rattle.spd_level.specs.Columns.{context_of}
use Rattle.spd_machine.proofs.SourceJobs.{source_job}
use Rattle.spd_machine.proofs.elide.elide_body.Goals as goal

pub returns-clause-placed : goal.returns-clause-placed
returns-clause-placed c =
    let k = c.args.job.kind in
    c.in_ok-given.ensures ∙ ap (λ (g : Acts). settle (collected k (nothing k) g)) (c.in_ok-level.ensures.left (context_of c.args.code.now c.args.columns.now))

pub returns-clause-named : goal.returns-clause-named
returns-clause-named c items source p n =
    let k = c.args.job.kind in
    c.in_ok-given.ensures ∙ ap (λ (g : Acts). settle (collected k (nothing k) g)) (c.in_ok-level.ensures.left (context_of c.args.code.now c.args.columns.now))
    ∙ source_job items c.args.code.now c.args.columns.now k c.args.job.body source p n
