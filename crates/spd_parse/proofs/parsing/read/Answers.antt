use Rattle.spd_syntax.specs.Symbols.{all_seen}
use Rattle.spd_parse.proofs.Parsed.{found, kept, first}
use Rattle.spd_parse.proofs.parsing.read.Goals as goal

pub returns-clause-found : goal.returns-clause-found
returns-clause-found c = found c.args.text.now (all_seen c.args.text.now c.args.tokens.now) c.all.result c.all.ensures

pub returns-clause-keeps : goal.returns-clause-keeps
returns-clause-keeps c = kept c.args.text.now (all_seen c.args.text.now c.args.tokens.now) c.all.result c.all.ensures

pub returns-clause-first : goal.returns-clause-first
returns-clause-first c kind rest s = first c.args.text.now (all_seen c.args.text.now c.args.tokens.now) c.all.result kind rest c.all.ensures s
