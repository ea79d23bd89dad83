-- What jobs evaluate to, and what a turn of the elision does to what a finish will have.
use Rattle.std.specs.Prelude.{◌≡◌, ◌<◌, ℤ, Bool, true, false}
use Rattle.spd_words.specs.Total.{Total, total_of}
use Rattle.spd_meaning.specs.Eval.{Eval, collected, for_finish}
use Rattle.spd_code.specs.Coded.{Context, around_of, eval_block}
use Rattle.spd_level.specs.Left.{level_now, item_job}
use Rattle.spd_machine.specs.Machine.{machine_eval, machine_measure}
use Rattle.spd_words.specs.declared.tally.Tally.{Tally}
use Rattle.spd_machine.specs.declared.machine.Machine.{Machine}
use Rattle.spd_machine.specs.declared.job.JobBody.{JobBody}
use Rattle.spd_machine.specs.declared.job.JobBody.TheVariants as job

module _ (context : Context) where
  -- what a job evaluates to, by places
  abbrev pub job_eval : JobBody → Eval ℤ
  job_eval (job.Block block left vars) = eval_block (around_of context left) block.now vars.items
  job_eval (job.Call item left args) = item_job context left item.now args.items

  -- what a finish will have that has collected this and for which this is left
  abbrev pub will_collect : Tally → Machine → Total
  will_collect tally machine = collected tally.kind (total_of tally) (for_finish (machine_eval context machine))

  -- A turn, with all that it met collected, keeps what the finish will have.
  pub record ElisionTurn (old new : Tally) (was is_now : Machine) (over : Bool) : Type 0 where
    pub kind : new.kind ≡ old.kind
    pub total : will_collect old was ≡ will_collect new is_now
    pub falls : over ≡ false → machine_measure context is_now < machine_measure context was
    pub ends : over ≡ true → machine_eval context is_now ≡ level_now is_now.level
