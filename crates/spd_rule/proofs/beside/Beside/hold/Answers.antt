use Rattle.std.proofs.Common.{refl, ap, ◌∙◌}
use Rattle.spd_state.specs.Sums.{count}
use Rattle.spd_rule.proofs.Counts.{count_append}
use Rattle.spd_rule.proofs.beside.Beside.hold.Goals as goal

pub returns : goal.returns
returns c = record {
  units = λ n. ap (count n) c.push.ensures.items
      ∙ count_append n c.args.self.now.units.items c.args.d;
  running = refl;
  flight = refl;
  claimed = refl;
  told = refl;
  spare = refl;
  full = refl;
  starts = refl;
}
