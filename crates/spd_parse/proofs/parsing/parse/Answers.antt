use Rattle.spd_parse.proofs.Answered.{spelled_found, spelled_only}
use Rattle.spd_parse.proofs.parsing.parse.Goals as goal

pub returns-clause-found : goal.returns-clause-found
returns-clause-found c = spelled_found c.args.text.now c.args.tokens.now c.requires.lexed c.answer.result c.answer.ensures.found c.answer.ensures.keeps

pub returns-clause-only : goal.returns-clause-only
returns-clause-only c = spelled_only c.args.text.now c.args.tokens.now c.requires.lexed c.answer.result c.answer.ensures.found c.answer.ensures.keeps
    c.answer.ensures.first
