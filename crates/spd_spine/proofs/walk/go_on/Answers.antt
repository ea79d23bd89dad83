use Rattle.std.proofs.Common.{◌∙◌, arith}
use Rattle.std.proofs.lemmas.Result.{err_from_is_err_and}
use Rattle.spd_spine.specs.Walk.{spine_left}
use Rattle.spd_spine.proofs.Putting.{goes_well}
use Rattle.spd_spine.proofs.Walking.{put_both}
use Rattle.spd_spine.proofs.Spines.{turns_behind, front_behind}
use Rattle.spd_spine.proofs.walk.go_on.Goals as goal

pub returns-in_err-walk-clause-front : goal.returns-in_err-walk-clause-front
returns-in_err-walk-clause-front g c =
    let p = err_from_is_err_and c.from_residual-in_err-walk.result c.from_residual-in_err-walk.ensures.1 in
    rw p.1 (front_behind (spine_left c.args.spine.now) (spine_left c.loop-turn.spine) (g.O.Sink.state c.args.out.now) (g.O.Sink.state c.loop-turn.out)
    (g.O.Sink.state c.walk.new.out) c.loop-turn.invariant.so_far c.in_err-walk.ensures.front)

pub loop-turn-preserved : goal.loop-turn-preserved
loop-turn-preserved g c =
    let i = c.loop-turn.invariant in
    let t = rw c.in-None.is at c.in_ok-walk.ensures.turned in
    record {
      so_far = put_both (spine_left c.args.spine.now) (spine_left c.loop-turn.spine) (spine_left c.walk.new.spine) (g.O.Sink.state c.args.out.now)
          (g.O.Sink.state c.loop-turn.out) (g.O.Sink.state c.walk.new.out) i.so_far t.next;
      runs = t.runs;
      context = c.in_ok-walk.ensures.context ∙ i.context;
      size = let f = t.falls in let l = i.size in omega arith;
      kept = c.in_ok-walk.ensures.kept (goes_well _ _) ∙ i.kept;
    }

pub returns-in-Some-clause-turned : goal.returns-in-Some-clause-turned
returns-in-Some-clause-turned g c =
    let i = c.loop-turn.invariant in
    turns_behind c.args.spine.now c.loop-turn.spine c.walk.new.spine (g.O.Sink.state c.args.out.now) (g.O.Sink.state c.loop-turn.out)
    (g.O.Sink.state c.walk.new.out) c.in-Some.turn i.context i.so_far i.size (rw c.in-Some.is at c.in_ok-walk.ensures.turned)
