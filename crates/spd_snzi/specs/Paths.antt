-- What a path is for.
use Rattle.std.specs.Prelude.{◌≡◌, ℕ, vec_capacity}
use Rattle.spd_words.specs.Plan.{PlanView}
use Rattle.spd_rule.specs.Shares.{field_plan}
use Rattle.spd_rule.specs.declared.field.Field.{Field}
use Rattle.spd_snzi.specs.declared.path.Path.{Path}

abbrev pub path_plan : Path → PlanView
path_plan path = path.plan

-- for so many nodes it has room
abbrev pub path_room : Path → ℕ
path_room path = vec_capacity path.nodes

-- It is one for the counters of the field.
abbrev pub IsPathOf : {B : Type 0} → Field B → Path → Type 0
IsPathOf field path = path.plan ≡ field_plan field
