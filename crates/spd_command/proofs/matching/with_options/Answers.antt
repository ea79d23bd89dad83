-- One argument more.
use Rattle.std.proofs.Common.{◌∙◌, sym, ap₂}
use Rattle.std.proofs.lemmas.List.Sums.{fold_more}
use Rattle.clap.specs.Words.{app_of, with_rule}
use Rattle.spd_command.specs.Matching.{option_rule}
use Rattle.spd_command.proofs.matching.with_options.Goals as goal

pub loop-each-preserved : goal.loop-each-preserved
loop-each-preserved c =
    c.in_ok-made.ensures.shape c.option.ensures.own ∙ ap₂ with_rule c.loop-each.invariant c.option.ensures.rule
    ∙ sym (fold_more (λ made each. with_rule made (option_rule each)) (app_of c.args.parser) c.args.options.now c.loop-each.each-index _ c.loop-each-test.true)
