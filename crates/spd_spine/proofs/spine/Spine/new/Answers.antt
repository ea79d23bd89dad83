use Rattle.std.proofs.Common.{◌∙◌, refl}
use Rattle.spd_level.specs.Columns.{context_of}
use Rattle.spd_spine.proofs.Spines.{begins_so}
use Rattle.spd_spine.proofs.spine.Spine.new.Goals as goal

pub returns-clause-all : goal.returns-clause-all
returns-clause-all c =
    begins_so (context_of c.args.code.now c.args.columns.now) c.in_ok-level.level _ refl c.in_ok-level.ensures.flow
    (c.in_ok-level.ensures.vars ∙ c.new.ensures.items) c.in_ok-level.ensures.frames
