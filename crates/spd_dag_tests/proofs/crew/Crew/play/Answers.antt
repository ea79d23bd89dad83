use Rattle.std.proofs.lemmas.List.Elements.{All-set}
use Rattle.spd_fork.specs.Places.{IsAt}
use Rattle.spd_dag_tests.proofs.crew.Crew.play.Goals as goal

pub returns : goal.returns
returns c = let s = c.args.self.now in record {
  workers = All-set (IsAt s.field) s.workers.items c.args.at c.play.new.worker c.play.ensures c.requires.workers;
  watcher = c.requires.watcher;
}
