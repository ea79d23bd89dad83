use Rattle.spd_work.proofs.Started.{start_leaves, sits_still}
use Rattle.spd_work.proofs.worker.begin.Goals as goal

pub returns-clause-sits : goal.returns-clause-sits
returns-clause-sits g c =
    let sits = c.requires.sits in
    let leaves = start_leaves g.B.Body.view c.args.field.now c.args.vertex c.args.hands.now.share c.start.new.share sits.made c.start.result c.requires.rests
    (sits.carries, sits.keeps) c.start.ensures.starts c.start.ensures.fit in
    sits_still _ _ _ c.args.hands.now c.start.new.share sits c.start.ensures.same leaves.lasts.stays leaves.ready

pub returns-clause-lasts : goal.returns-clause-lasts
returns-clause-lasts g c =
    let sits = c.requires.sits in
    (start_leaves g.B.Body.view c.args.field.now c.args.vertex c.args.hands.now.share c.start.new.share sits.made c.start.result c.requires.rests
    (sits.carries, sits.keeps) c.start.ensures.starts c.start.ensures.fit).lasts

pub returns-clause-runs : goal.returns-clause-runs
returns-clause-runs g c =
    let sits = c.requires.sits in
    (start_leaves g.B.Body.view c.args.field.now c.args.vertex c.args.hands.now.share c.start.new.share sits.made c.start.result c.requires.rests
    (sits.carries, sits.keeps) c.start.ensures.starts c.start.ensures.fit).runs
