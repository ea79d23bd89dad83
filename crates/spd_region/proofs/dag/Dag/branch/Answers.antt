use Rattle.std.proofs.Common.{◌≡◌, ◌+◌, ◌<◌, ◌≤◌, [], ◌∷◌, sym, subst, None, arith, rules}
use Rattle.std.proofs.lemmas.List.{map-append, length-map}
use Rattle.std.proofs.lemmas.Result.{IfOk-weaker}
use Rattle.spd_words.specs.BodyCalls.{part_seen}
use Rattle.spd_words.specs.declared.event.Event.TheVariants as event
use Rattle.spd_region.specs.Dag.{DagView, dag_view, forked, opened}
use Rattle.spd_region.specs.DagSteps.{DagEvent, event_of}
use Rattle.spd_region.proofs.DagEvents.{takes_async, takes_finish, takes_inside}
use Rattle.spd_region.proofs.DagEnds.{counted_ready}
use Rattle.spd_region.proofs.dag.Dag.branch.Goals as goal

pub returns-then-self : goal.returns-then-self
returns-then-self g c =
    let view = g.B.Body.view in
    let now = c.args.self.now in
    let full : now.most ≤ now.drawn = search rules in
    let n = view c.inside.new.self in
    rw (c.in_ok-push.ensures.items, map-append view now.ready.items (c.inside.new.self ∷ []))
    (takes_inside (dag_view view now) (view c.args.rest) n (part_seen view c.args.part) full c.in_ok-inside.ensures.part)

pub fork-requires-after_bounds : goal.fork-requires-after_bounds
fork-requires-after_bounds g c κs within =
    let view = g.B.Body.view in
    let now = c.args.self.now in
    let event = event_of (part_seen view c.args.part) in
    let h = counted_ready (dag_view view now) (view c.args.rest) event c.requires.takes in
    omega (arith, h, length-map now.ready.items view)

pub returns-in-Async : goal.returns-in-Async
returns-in-Async g c =
    let view = g.B.Body.view in
    let t = dag_view view c.args.self.now in
    let u = view c.args.rest in
    let w = view c.in-Async.child in
    let new = dag_view view c.fork.new.self in
    let room : t.drawn < t.most = search rules in
    rw c.in-Async.is
    (IfOk-weaker c.fork.result
    (λ _. new ≡ forked (record t { drawn = t.drawn + 1 }) u w) (λ _. DagEvent t u (event.Async w) new None)
    (λ _ e. subst (λ (d : DagView). DagEvent t u (event.Async w) d None) (sym e) (takes_async t u w room))
    c.fork.ensures)

pub returns-in-Finish : goal.returns-in-Finish
returns-in-Finish g c =
    let view = g.B.Body.view in
    let t = dag_view view c.args.self.now in
    let u = view c.args.rest in
    let k = c.in-Finish.kind in
    let w = view c.in-Finish.child in
    let new = dag_view view c.open.new.self in
    let room : t.drawn < t.most = search rules in
    rw c.in-Finish.is
    (IfOk-weaker c.open.result
    (λ _. new ≡ opened (record t { drawn = t.drawn + 1 }) u k w) (λ _. DagEvent t u (event.Finish k w) new None)
    (λ _ e. subst (λ (d : DagView). DagEvent t u (event.Finish k w) d None) (sym e) (takes_finish t u w k room))
    c.open.ensures)
