-- A word that is not UTF-8 ends the look, and one that is UTF-8 goes on with it.
use Rattle.spd_top.proofs.Texts.{not_all, one_more}
use Rattle.spd_top.proofs.command.are_text.Goals as goal

pub returns-in_default : goal.returns-in_default
returns-in_default c = not_all c.args.words.now c.loop-word.word-index c.word-item.result c.as_slice.result.now c.loop-word-test.true c.word-item.is c.as_slice.ensures.entries c.in_default.ensures.cases.0

pub loop-word-preserved : goal.loop-word-preserved
loop-word-preserved c = one_more c.args.words.now c.loop-word.word-index c.word-item.result c.as_slice.result.now c.loop-word-test.true c.word-item.is c.as_slice.ensures.entries c.loop-word.invariant c.in-Ok.ensures.cases.1
