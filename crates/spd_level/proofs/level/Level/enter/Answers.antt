use Rattle.std.proofs.Common.{◌≡◌, refl, rules, length}
use Rattle.spd_level.proofs.Turns.{block_enters}
use Rattle.spd_level.proofs.level.Level.enter.Goals as goal

pub returns-clause-comes : goal.returns-clause-comes
returns-clause-comes c context =
    let n : c.len-floor.result ≡ length c.args.self.now.vars.items = search rules in
    block_enters context c.args.self.now (record { flow = c.args.self.now.flow; vars = c.args.self.now.vars; frames = c.push.new.self })
    c.args.block c.args.left
    c.requires c.requires refl (rw (c.in_ok-push.ensures.items, n) refl)
