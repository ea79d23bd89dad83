use Rattle.spd_parse.proofs.Answered.{line_end}
use Rattle.spd_parse.proofs.parsing.line_of.Goals as goal

pub returns-in-len1-up-tokens : goal.returns-in-len1-up-tokens
returns-in-len1-up-tokens c text = line_end text c.args.tokens.now c.args.rest.now _ c.in-empty.len_below c.in-len1-up-tokens.len_at_least
