use Rattle.std.proofs.Common.{subst, sym}
use Rattle.std.specs.List.{All}
use Rattle.std.proofs.lemmas.List.Elements.{All-push}
use Rattle.spd_fork.specs.Places.{IsAt}
use Rattle.spd_dag_tests.proofs.crew.Crew.enlist.Goals.{in-Ok, in-Err}
use Rattle.spd_dag_tests.proofs.crew.Crew.enlist.Goals as goal

pub returns-after-push : goal.returns-after-push
returns-after-push c = let s = c.args.self.now in record {
  workers = elim c.match-push.branch [
    | in-Ok w ↦ subst (All (IsAt s.field)) (sym w.in-Ok.ensures.items)
        (All-push (IsAt s.field) s.workers.items c.in-Some.worker c.requires.workers c.in-Some.ensures.other)
    | in-Err w ↦ subst (All (IsAt s.field)) (sym w.in-Err.ensures.items) c.requires.workers
  ];
  watcher = c.in-Some.ensures.same;
}
