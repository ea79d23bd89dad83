use Rattle.std.specs.Mem.Slots.{slots_items}
use Rattle.spd_rule.proofs.Counts.{is_at}
use Rattle.spd_rule.proofs.closed.Closed.word.Goals as goal

pub returns : goal.returns
returns g c = is_at (slots_items c.args.self.now.table.words) c.args.place c.word.result c.word.ensures
