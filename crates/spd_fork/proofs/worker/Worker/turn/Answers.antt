use Rattle.std.proofs.Common.{◌∙◌, sym, subst}
use Rattle.spd_rule.specs.Shares.{field_plan, share_known}
use Rattle.spd_fork.specs.Workers.{FitsStage}
use Rattle.spd_fork.proofs.worker.Worker.turn.Goals as goal

pub returns-in-Chains : goal.returns-in-Chains
returns-in-Chains c = let w = c.args.self.now in record {
  of = c.turn_chain-stage.ensures.same.0 ∙ c.requires.of;
  fits = c.turn_chain-stage.ensures.fits w.seats (subst (FitsStage (field_plan c.args.field.now) w.seats (share_known w.share)) (sym c.in-Chains.ensures.value) c.requires.fits);
}

pub returns-in-Spawns : goal.returns-in-Spawns
returns-in-Spawns c = let w = c.args.self.now in record {
  of = c.turn_spawn-stage.ensures.same.0 ∙ c.requires.of;
  fits = c.turn_spawn-stage.ensures.fits w.seats (subst (FitsStage (field_plan c.args.field.now) w.seats (share_known w.share)) (sym c.in-Spawns.ensures.value) c.requires.fits);
}

pub returns-in-Signals : goal.returns-in-Signals
returns-in-Signals c = let w = c.args.self.now in record {
  of = c.turn_signal-stage.ensures.same.0 ∙ c.requires.of;
  fits = c.turn_signal-stage.ensures.fits w.seats (subst (FitsStage (field_plan c.args.field.now) w.seats (share_known w.share)) (sym c.in-Signals.ensures.value) c.requires.fits);
}
