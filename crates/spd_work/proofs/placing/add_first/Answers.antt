use Rattle.spd_work.proofs.Placings.{places_all}
use Rattle.spd_work.proofs.placing.add_first.Goals as goal

pub returns-clause-placed : goal.returns-clause-placed
returns-clause-placed g c =
    places_all g.Q.Ready.room g.Q.Ready.pushed c.args.field.now c.args.share c.args.ready _ c.args.workers.now.items
    c.push_reserved.new.self.items c.requires.placing c.requires.unused c.push.new.self c.push.ensures.room c.push.ensures.pushed
    c.push_reserved.ensures.items
