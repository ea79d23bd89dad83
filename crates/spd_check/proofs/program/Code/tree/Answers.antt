use Rattle.std.proofs.Common.{◌≡◌, rules}
use Rattle.spd_code.specs.Resolved.{program_code}
use Rattle.spd_check.proofs.Meanings.{means}
use Rattle.spd_check.proofs.program.Code.tree.Goals as goal

pub returns-clause-meaning : goal.returns-clause-meaning
returns-clause-meaning c =
    let is : c.self.inside.tree ≡ program_code c.args.self.now.items = search rules in
    means c.args.self.now.items c.self.inside.tree is
