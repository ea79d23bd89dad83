use Rattle.std.proofs.Common.{Option, IfSome, subst}
use Rattle.std.proofs.lemmas.List.Elements.{All-pop}
use Rattle.spd_fork.specs.Places.{IsAt}
use Rattle.spd_fork.specs.declared.worker.Worker.{Worker}
use Rattle.spd_dag_tests.proofs.crew.Crew.close.Goals as goal

pub joined-requires-clause-other : goal.joined-requires-clause-other
joined-requires-clause-other c = let f = c.args.self.field in subst (λ (o : Option Worker). IfSome o (IsAt f)) c.in-Some.is
    (All-pop (IsAt f) c.loop.workers.items c.pop.new.self.items c.pop.result c.pop.ensures.items c.loop.invariant.0).1

pub loop-preserved : goal.loop-preserved
loop-preserved c = let f = c.args.self.field in (
  (All-pop (IsAt f) c.loop.workers.items c.pop.new.self.items c.pop.result c.pop.ensures.items c.loop.invariant.0).0,
  c.in_ok-last-in-Some.ensures,
)
