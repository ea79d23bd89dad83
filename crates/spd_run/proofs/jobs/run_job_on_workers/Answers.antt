use denote.Param.Send.{sendable}
use Rattle.std.proofs.Common.{◌≡◌, ◌∙◌, ap, rules}
use Rattle.std.proofs.Crossing.{crosses}
use Rattle.spd_rule.specs.Shares.{field_plan}
use Rattle.spd_level.specs.Columns.{context_of}
use Rattle.spd_machine.specs.Elision.{job_eval}
use Rattle.spd_words.specs.Meaning.{BodyView, Promise}
use Rattle.spd_boxed.specs.BoxedBodies.{boxed_view}
use Rattle.spd_task.specs.Task.{task_view}
use Rattle.spd_task.proofs.Sends.{task_send}
use Rattle.spd_run.proofs.JobTotals.{region_total, region_logged}
use Rattle.spd_run.proofs.jobs.run_job_on_workers.Goals as goal

boxed_promise : {b t : BodyView} {p : Promise} → b ≡ t → t.means.promise ≡ p → b.means.promise ≡ p
boxed_promise e q = ap (λ (v : BodyView). v.means.promise) e ∙ q

pub new-requires-send-B : goal.new-requires-send-B
new-requires-send-B g c κs = search (task_send, sendable)

pub new-requires-2-send-B : goal.new-requires-2-send-B
new-requires-2-send-B g c κs = search (task_send, crosses, sendable) depth 30

pub region-requires-send-B : goal.region-requires-send-B
region-requires-send-B g c κs = search (task_send, crosses, sendable) depth 30

pub add-requires-send-B : goal.add-requires-send-B
add-requires-send-B g c κs = search (task_send, crosses, sendable) depth 30

pub returns-clause-given : goal.returns-clause-given
returns-clause-given g c =
    region_total (field_plan c.in_ok-field.field) (boxed_view task_view c.in_ok-body.body) c.in_ok-gift.field-0 c.args.job.kind
    (job_eval (context_of c.args.code.now c.args.columns.now) c.args.job.body) _ c.in_ok-gift.ensures (boxed_promise c.in_ok-body.ensures c.in_ok-task.ensures.promise) (search rules) (search rules)

pub returns-clause-log : goal.returns-clause-log
returns-clause-log g c =
    c.add.ensures
    ∙ region_logged (field_plan c.in_ok-field.field) c.args.plan (boxed_view task_view c.in_ok-body.body) c.in_ok-gift.field-0 c.args.job.kind
    (job_eval (context_of c.args.code.now c.args.columns.now) c.args.job.body) c.args.log.now c.in_ok-gift.ensures c.in_ok-field.ensures.plan
    (boxed_promise c.in_ok-body.ensures c.in_ok-task.ensures.promise)
