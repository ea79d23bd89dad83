-- The players of a team are those of its field.
use Rattle.spd_rule.specs.Shares.{IsOf}
use Rattle.spd_book_tests.specs.declared.crew.Team.{Team}

pub record IsTeam (t : Team) : Type 0 where
  pub first : IsOf t.field t.first.share
  pub second : IsOf t.field t.second.share
  pub third : IsOf t.field t.third.share
  pub watcher : IsOf t.field t.watcher.share
