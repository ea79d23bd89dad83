-- What a job has by places is what it has by the names of its program.
use Rattle.std.proofs.Common.{◌≡◌, List, ◌∙◌, ap, subst}
use Rattle.spd_words.specs.declared.finish_kind.FinishKind.{FinishKind}
use Rattle.spd_words.specs.declared.finish_kind.FinishKind.TheVariants as kind
use Rattle.spd_syntax.specs.declared.tree.Item.{Item}
use Rattle.spd_meaning.specs.Eval.{job_total}
use Rattle.spd_code.specs.Resolved.{spaces_of}
use Rattle.spd_code.specs.Coded.{around_of, eval_block}
use Rattle.spd_code.specs.Alike.{IsItem}
use Rattle.spd_code.proofs.JobsAlike.{block_job, call_job}
use Rattle.spd_level.specs.Columns.{columns_in, context_of}
use Rattle.spd_level.specs.Left.{item_job}
use Rattle.spd_level.proofs.Reading.{fitting}
use Rattle.spd_machine.specs.Elision.{job_eval}
use Rattle.spd_machine.specs.SourceJobs.{IsCheckedProgram, SourceJob, OfBlock, OfFunction, IsSourceJob, source_result}
use Rattle.spd_code.specs.declared.stmt.CodeBlock.{CodeBlock}
use Rattle.spd_code.specs.declared.tree.CodeItem.{CodeItem}
use Rattle.spd_code.specs.declared.tree.CodeTree.{CodeTree}
use Rattle.spd_data.specs.declared.column.Column.{Column}
use Rattle.spd_machine.specs.declared.job.JobBody.{JobBody}
use Rattle.spd_machine.specs.declared.job.JobBody.TheVariants as job

pub source_job : (items : List Item) (code : CodeTree) (columns : List Column) (of : FinishKind) (body : JobBody) (source : SourceJob) →
    IsCheckedProgram items code columns → IsSourceJob items code of body source →
    job_total of (job_eval (context_of code columns) body) ≡ source_result items (columns_in items columns) of body source
source_job items code columns of (job.Block block left vars) (OfBlock source) p n =
    let context = context_of code columns in
    ap (λ (b : CodeBlock). job_total of (eval_block (around_of context left) b vars.items)) n.is
    ∙ block_job items context (columns_in items columns) (fitting items columns code p.fits) p.is_code left of source n.next vars.items n.values
source_job items code columns of (job.Call item left args) (OfFunction function) p n =
    let context = context_of code columns in
    ap (λ (k : FinishKind). job_total k (item_job context left item.now args.items)) n.sum
    ∙ ap (λ (i : CodeItem). job_total kind.Sum (item_job context left i args.items)) n.there
    ∙ call_job items context (columns_in items columns) (fitting items columns code p.fits) p.is_code p.stands left function n.number args.items
    (subst (λ (i : CodeItem). IsItem (spaces_of items) function i) n.there n.is)
source_job items code columns of (job.Block block left vars) (OfFunction function) p n = absurd n
source_job items code columns of (job.Call item left args) (OfBlock source) p n = absurd n
