use Rattle.std.proofs.Common.{◌≡◌, refl, rules, true}
use Rattle.std.proofs.lemmas.List.{append-nil}
use Rattle.std.proofs.lemmas.Result.{err_from_is_err_and}
use Rattle.spd_words.specs.declared.finish_kind.FinishKind.TheVariants as kind
use Rattle.spd_meaning.specs.Eval.{quiet}
use Rattle.spd_meaning.specs.Printed.{printed, ended_line}
use Rattle.spd_level.specs.Left.{level_eval, flow_end}
use Rattle.spd_level.specs.declared.step.Step.TheVariants as step
use Rattle.spd_machine.specs.declared.job.Job.{Job}
use Rattle.spd_spine.specs.Walk.{spine_context, spine_left}
use Rattle.spd_spine.specs.declared.spine.Spine.{Spine}
use Rattle.spd_spine.specs.declared.spine.Standing.TheVariants as standing
use Rattle.spd_spine.proofs.Putting.{gets_nothing, front_of, front_of_none}
use Rattle.spd_spine.proofs.Walking.{stepped, step_falls, line_front, block_job, finish_met, finish_falls, finish_no_line, call_job, call_met, call_falls, call_no_line, over_met}
use Rattle.spd_spine.proofs.Spines.{left_runs, front_runs, told_of_same, goes_on, meets, turn_ends}
use Rattle.spd_spine.proofs.walk.walk.Goals as goal

pub returns-in_err-write_all_of-in-Line-clause-front : goal.returns-in_err-write_all_of-in-Line-clause-front
returns-in_err-write_all_of-in-Line-clause-front g c =
    let p = err_from_is_err_and c.from_residual-in_err-write_all_of-in-Line.result c.from_residual-in_err-write_all_of-in-Line.ensures.1 in
    let o = c.args.spine.now in
    let was = g.O.Sink.state c.args.out.now in
    let is_now = g.O.Sink.state c.write_all_of.new.sink in
    let sent = rw (c.deref.ensures.value, c.in_ok-push-in-Line.ensures.items) at c.in_err-write_all_of-in-Line.ensures.sent in
    let front = line_front (spine_context o) o.level c.turn.new.self c.in-Line.text.items was is_now (step.Line c.in-Line.text) refl refl
    (rw c.in-Line.is at c.in_ok-turn.ensures) (front_of was is_now _ _ sent) in
    rw p.1 (front_runs o was is_now c.requires.standing front)

pub returns-in_err-vars-in-Finish-clause-front : goal.returns-in_err-vars-in-Finish-clause-front
returns-in_err-vars-in-Finish-clause-front g c =
    let p = err_from_is_err_and c.from_residual-in_err-vars-in-Finish.result c.from_residual-in_err-vars-in-Finish.ensures.1 in
    rw p.1 (front_of_none (g.O.Sink.state c.args.out.now) (printed (spine_left c.args.spine.now).given))

pub returns-in-Quiet-clause-turned : goal.returns-in-Quiet-clause-turned
returns-in-Quiet-clause-turned g c =
    let o = c.args.spine.now in
    let x = spine_context o in
    let k = c.turn.new.self in
    let n : Spine = record { code = o.code; columns = o.columns; level = k; standing = o.standing } in
    let at = g.O.Sink.state c.args.out.now in
    let h = rw c.in-Quiet.is at c.in_ok-turn.ensures in
    goes_on o n at at refl refl c.requires.standing c.requires.standing
    (stepped x o.level k at at step.Quiet h refl refl (gets_nothing at)) (step_falls x o.level k step.Quiet h refl (λ w f. f))

pub returns-in_ok-write_all_of-in-Line-clause-turned : goal.returns-in_ok-write_all_of-in-Line-clause-turned
returns-in_ok-write_all_of-in-Line-clause-turned g c =
    let o = c.args.spine.now in
    let x = spine_context o in
    let k = c.turn.new.self in
    let n : Spine = record { code = o.code; columns = o.columns; level = k; standing = o.standing } in
    let was = g.O.Sink.state c.args.out.now in
    let is_now = g.O.Sink.state c.write_all_of.new.sink in
    let s = step.Line c.in-Line.text in
    let h = rw c.in-Line.is at c.in_ok-turn.ensures in
    let all = rw (c.deref.ensures.value, c.in_ok-push-in-Line.ensures.items) at c.in_ok-write_all_of-in-Line.ensures.all in
    goes_on o n was is_now refl refl c.requires.standing c.requires.standing
    (stepped x o.level k was is_now s h refl refl (rw (append-nil (ended_line c.in-Line.text.items)) all)) (step_falls x o.level k s h refl (λ w f. f))

pub returns-in_ok-vars-in-Finish-clause-turned : goal.returns-in_ok-vars-in-Finish-clause-turned
returns-in_ok-vars-in-Finish-clause-turned g c =
    let o = c.args.spine.now in
    let x = spine_context o in
    let k = c.turn.new.self in
    let f = c.in-Finish.finish in
    let vars = c.in_ok-vars-in-Finish.vars in
    let same = c.in_ok-vars-in-Finish.ensures in
    let n : Spine = record { code = o.code; columns = o.columns; level = k; standing = standing.Waits f.line f.binds } in
    let at = g.O.Sink.state c.args.out.now in
    let h = rw c.in-Finish.is at c.in_ok-turn.ensures in
    let job : Job = record { kind = f.kind; body = block_job x o.level k f vars same h } in
    meets o n at job f.line f.binds refl refl c.requires.standing refl
    (finish_met x o.level k f vars same h at) (finish_no_line x o.level k f vars same h) (finish_falls x o.level k f vars same h)

pub returns-else-not-binds-clause-turned : goal.returns-else-not-binds-clause-turned
returns-else-not-binds-clause-turned g c =
    let o = c.args.spine.now in
    let x = spine_context o in
    let k = c.turn.new.self in
    let f = c.in-Call.call in
    let binds : f.binds ≡ true = search rules in
    let n : Spine = record { code = o.code; columns = o.columns; level = k; standing = standing.Waits 0 f.binds } in
    let at = g.O.Sink.state c.args.out.now in
    let h = rw c.in-Call.is at c.in_ok-turn.ensures in
    let law = c.requires.main in
    let job : Job = record { kind = kind.Sum; body = call_job x o.level k f law binds h } in
    meets o n at job 0 f.binds refl refl c.requires.standing refl
    (call_met x o.level k f law binds h at) (call_no_line x o.level k f law binds h) (call_falls x o.level k f law binds h)

pub returns-in-Over-clause-turned : goal.returns-in-Over-clause-turned
returns-in-Over-clause-turned g c =
    let o = c.args.spine.now in
    let x = spine_context o in
    let k = c.turn.new.self in
    let n : Spine = record { code = o.code; columns = o.columns; level = k; standing = standing.Ended } in
    let at = g.O.Sink.state c.args.out.now in
    let last = flow_end k.flow k.vars.items in
    turn_ends o n at at c.end_of_main.result last (c.end_of_main.ensures.told k.vars.items)
    (told_of_same (spine_left o) (level_eval x o.level) (quiet last) (quiet last) at at (left_runs o c.requires.standing) refl
    (over_met x o.level k at (rw c.in-Over.is at c.in_ok-turn.ensures)))
