use Rattle.spd_syntax.specs.Grammar.{program}
use Rattle.spd_syntax.proofs.OneToken.{program_ahead}
use Rattle.spd_parse.proofs.Once.{once}
use Rattle.spd_parse.proofs.laws.spelled_once.Goals as goal

pub returns : goal.returns
returns c ts a b s t = once program program_ahead ts a b s t
