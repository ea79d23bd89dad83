-- The workers of a crew stand at its field.
use Rattle.std.specs.List.{All}
use Rattle.spd_fork.specs.Places.{IsAt}
use Rattle.spd_dag_tests.specs.declared.crew.Crew.{Crew}

pub record IsCrew (c : Crew) : Type 0 where
  pub workers : All (IsAt c.field) c.workers.items
  pub watcher : IsAt c.field c.watcher
