use Rattle.std.proofs.Common.{refl, rules, ◌≡◌, ◌≤◌, Ok, length}
use Rattle.spd_code.specs.Coded.{code_value}
use Rattle.spd_level.specs.Columns.{around_columns}
use Rattle.spd_level.proofs.Turns.{put_outside}
use Rattle.spd_level.proofs.level.Level.assign.Goals as goal

pub returns-else-place-len : goal.returns-else-place-len
returns-else-place-len c =
    let vars = c.args.self.now.vars.items in
    let e : code_value (around_columns c.args.columns.now) c.args.expr.now vars c.args.line ≡ Ok c.in-Ok.value = search rules in
    let k : length vars ≤ c.args.place = search rules in
    (refl, rw (e, put_outside vars c.args.place c.in-Ok.value k, c.requires) refl, tt)
