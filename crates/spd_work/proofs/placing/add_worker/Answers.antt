use Rattle.spd_work.proofs.Placings.{places_more}
use Rattle.spd_work.proofs.placing.add_worker.Goals as goal

pub returns-clause-placing : goal.returns-clause-placing
returns-clause-placing g c =
    let split = c.split-other.ensures in
    places_more g.Q.Ready.room g.Q.Ready.pushed c.args.field.now c.args.share.now c.args.ready _ c.args.workers.now.items
    c.push_reserved.new.self.items c.requires.placing c.requires.unused c.split-other.new.share c.split-other.result c.requires.few
    split.same split.of split.kept split.given c.push_reserved.ensures.items
