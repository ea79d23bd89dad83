use Rattle.std.proofs.Common.{◌≡◌, ◌<◌, sym, length, get_or}
use Rattle.spd_cols.proofs.LoadSteps.{around_item, ended, ended_others, nothing_yet, one_more, with_item}
use Rattle.spd_cols.proofs.loading.load.Goals as goal

pub loop-item-init : goal.loop-item-init
loop-item-init g c = rw c.new-data.ensures (nothing_yet _)

pub loop-item-preserved : goal.loop-item-preserved
loop-item-preserved g c =
    let items = c.args.program.now.items in
    let within : c.loop-item.item-index < length items = rw c.as_slice-item-items.ensures.entries at c.loop-item-test.true in
    let is : c.item-item.result ≡ get_or items c.loop-item.item-index c.item-item.result = rw c.as_slice-item-items.ensures.entries at c.item-item.is in
    rw (with_item items c.loop-item.item-index c.item-item.result within (sym is))
    (one_more _ _ _ _ c.loop-item.data c.load_item.new.data c.item-item.result.what c.loop-item.invariant
    c.in-Ok.ensures.answer c.in-Ok.ensures.files c.in-Ok.ensures.counts c.in-Ok.ensures.others)

pub returns-in-Err-clause-answer : goal.returns-in-Err-clause-answer
returns-in-Err-clause-answer g c =
    let items = c.args.program.now.items in
    let within : c.loop-item.item-index < length items = rw c.as_slice-item-items.ensures.entries at c.loop-item-test.true in
    let is : c.item-item.result ≡ get_or items c.loop-item.item-index c.item-item.result = rw c.as_slice-item-items.ensures.entries at c.item-item.is in
    ended (g.F.Shelf.state c.args.shelf.now) (g.F.Shelf.state c.loop-item.shelf) (g.F.Shelf.state c.load_item.new.shelf) _ _ _ c.loop-item.data c.load_item.new.data c.item-item.result.what c.in-Err.fault c.loop-item.invariant
    (around_item items c.loop-item.item-index c.item-item.result within (sym is)) c.in-Err.ensures.answer

pub returns-in-Err-clause-others : goal.returns-in-Err-clause-others
returns-in-Err-clause-others g c =
    let items = c.args.program.now.items in
    let within : c.loop-item.item-index < length items = rw c.as_slice-item-items.ensures.entries at c.loop-item-test.true in
    let is : c.item-item.result ≡ get_or items c.loop-item.item-index c.item-item.result = rw c.as_slice-item-items.ensures.entries at c.item-item.is in
    ended_others (g.F.Shelf.state c.args.shelf.now) (g.F.Shelf.state c.loop-item.shelf) (g.F.Shelf.state c.load_item.new.shelf) _ _ _ c.loop-item.data c.load_item.new.data c.item-item.result.what c.in-Err.fault c.loop-item.invariant
    (around_item items c.loop-item.item-index c.item-item.result within (sym is)) c.in-Err.ensures.answer c.in-Err.ensures.others
