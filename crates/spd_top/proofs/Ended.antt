-- What is answered where a program ran, and what its jobs left in the log of those that ran them.
use Rattle.std.proofs.Common.{◌≡◌, ◌≢◌, ◌≤◌, ◌^◌, ◌⊎◌, ◌∙◌, if◌then◌else◌, ℕ, ℤ, List, Option, Some, None, Result, Ok, Err, IfOk, OnOk, OnErr, inl, inr, refl, sym, ap, subst, arith}
use Rattle.spd_io.specs.Shelf.{ShelfState}
use Rattle.spd_io.specs.Sink.{SinkState, Gets, GetsFront, Failed, SameFaults}
use Rattle.spd_data.specs.declared.column.Column.{Column}
use Rattle.spd_words.specs.declared.scheme.Scheme.TheVariants.{Flat}
use Rattle.spd_words.specs.Plan.{planned}
use Rattle.spd_syntax.specs.declared.tree.Program.{Program}
use Rattle.spd_meaning.specs.Acts.{jobs_of}
use Rattle.spd_meaning.specs.Eval.{Eval}
use Rattle.spd_meaning.specs.Programs.{main_meaning}
use Rattle.spd_meaning.specs.Printed.{printed}
use Rattle.spd_code.specs.declared.tree.CodeTree.{CodeTree}
use Rattle.spd_check.specs.Checked.{MeansItself}
use Rattle.spd_level.specs.Columns.{columns_in, context_of}
use Rattle.spd_level.proofs.Reading.{fitting}
use Rattle.spd_work.specs.Logs.{RunLogView}
use Rattle.spd_run.specs.JobLogs.{with_jobs}
use Rattle.spd_spine.specs.Walk.{main_eval, EndsSo}
use Rattle.spd_spine.specs.declared.turn.End.{End}
use Rattle.spd_spine.specs.declared.turn.End.TheVariants as end
use Rattle.spd_spine.specs.declared.turn.RunError.{RunError}
use Rattle.spd_spine.specs.declared.turn.RunError.TheVariants.{NoMemory, WriteFailed}
use Rattle.spd_command.specs.declared.settings.Settings.{Settings}
use Rattle.spd_top.specs.declared.words.SerialCommand.TheVariants.{Elide}
use Rattle.spd_top.specs.Requests.{over, counts_for}
use Rattle.spd_top.specs.Built.{passes}
use Rattle.spd_top.specs.DataFiles.{columns_loaded}
use Rattle.spd_top.specs.Told.{Bytes, counts_line, elided}
use Rattle.spd_top.specs.Serving.{of_text, Says, WantsMemory, TellsEnd, Answer}
use Rattle.spd_top.specs.Early.{HasColumns}
use Rattle.spd_top.specs.Jobs.{main_jobs, EndsRun, LogsRun}
use Rattle.spd_top.specs.Rising.{counts_of, risen, counts_told}
use Rattle.spd_top.proofs.Loads.{loaded_fit}
use Rattle.spd_top.proofs.Tellings.{run_status, run_tells}
use Rattle.spd_top.proofs.Answering.{has_told}
use Rattle.spd_top.proofs.Logging.{logs_jobs, rise_told}

-- Only a main that came to its end has the status of one.
ended_ok : (line name : Bytes) (ended : Result End RunError) (err err' : SinkState) (result : ℕ) → TellsEnd line name ended err err' result → EndsRun result → (A : Type 0) → OnOk ended A → A
ended_ok line name (Ok e) err err' result told ends A claim = claim
ended_ok line name (Err WriteFailed) err err' result told (inl zero) A claim = let is = told.0 in absurd (omega arith)
ended_ok line name (Err WriteFailed) err err' result told (inr three) A claim = let is = told.0 in absurd (omega arith)
ended_ok line name (Err NoMemory) err err' result told (inl zero) A claim = let is = told.0 in absurd (omega arith)
ended_ok line name (Err NoMemory) err err' result told (inr three) A claim = let is = told.0 in absurd (omega arith)

-- Only of a main that fell through what is told of jobs is part of what is told.
ended_told : (line line' name : Bytes) (ended : Result End RunError) (err err' : SinkState) (result : ℕ) → OnOk ended (line ≡ line') → TellsEnd line name ended err err' result → TellsEnd line' name ended err err' result
ended_told line line' name (Ok end.Done) err err' result same told = subst (λ (l : Bytes). Says 0 err err' l result ⊎ WantsMemory err err' result) same told
ended_told line line' name (Ok (end.Fault code)) err err' result same told = told
ended_told line line' name (Err WriteFailed) err err' result same told = told
ended_told line line' name (Err NoMemory) err err' result same told = told

on_ok : {A B : Type 0} (ended : Result End RunError) → (A → B) → OnOk ended A → OnOk ended B
on_ok (Ok e) f claim = f claim
on_ok (Err e) f claim = tt

module _ (counts : Option ℕ) (name : Bytes) (program : Program) (tree : CodeTree) (columns : List Column) (shelf shelf' : ShelfState) (has : HasColumns counts name program columns shelf shelf')
    (means : MeansItself program.items tree) where
  abbrev main : Eval ℤ
  main = main_eval (context_of tree columns)

  pub end_answers : (ended : Result End RunError) (out out' err err' : SinkState) (result : ℕ) → OnOk ended (Gets out out' (printed main.given)) → IfOk ended (λ e. EndsSo e main.end)
      → OnErr ended (GetsFront out out' (printed main.given)) → (ended ≡ Err WriteFailed → Failed out out') → (ended ≢ Err WriteFailed → SameFaults out out')
      → TellsEnd (counts_line counts (jobs_of main.given)) name ended err err' result → Answer (Some (over Elide name counts)) shelf shelf' out out' err err' result
  end_answers ended out out' err err' result all ends front cause kept told =
      let t = elided counts name program (columns_loaded columns) in
      has_told (Some (over Elide name counts)) shelf shelf' t out out' err err' result
      (of_text Elide name (passes program) (columns_loaded columns) t.status t.bytes t.line has.reads has.loaded refl)
      (run_status counts name (main_meaning program.items (columns_in program.items columns)))
      (run_tells counts name program tree columns means (loaded_fit shelf.file program.items columns has.loaded) ended out out' err err' result all ends front cause kept told)

  jobs_same : jobs_of main.given ≡ main_jobs program columns
  jobs_same =
      let fits = loaded_fit shelf.file program.items columns has.loaded in
      ap (λ (a : Eval ℤ). jobs_of a.given) (means (context_of tree columns) (columns_in program.items columns) refl (fitting program.items columns tree fits))

  pub end_logs : (settings : Settings) (log log' : RunLogView) (line : Bytes) (ended : Result End RunError) (err err' : SinkState) (result : ℕ)
      → OnOk ended (log' ≡ with_jobs (planned Flat settings.moves settings.nodes) log (jobs_of main.given)) → TellsEnd line name ended err err' result → EndsRun result
      → LogsRun settings (Some (over Elide name counts)) shelf.file log log'
  end_logs settings log log' line ended err err' result told_log told ends =
      let is = ended_ok line name ended err err' result told ends (log' ≡ with_jobs (planned Flat settings.moves settings.nodes) log (jobs_of main.given)) told_log in
      record {
        name = name;
        tree = program;
        reads = has.reads;
        columns = columns;
        loaded = has.loaded;
        jobs = rw (is, jobs_same) (logs_jobs settings log (main_jobs program columns));
      }

-- What was told by the rise of a log is told of the jobs that were added to it.
pub rise_tells : (settings : Settings) (jobs : List ℕ) (old new : RunLogView) → old.regions ≤ 2 ^ 64 → old.moves ≤ 2 ^ 64 → (name : Bytes) (ended : Result End RunError) (err err' : SinkState) (result : ℕ)
    → OnOk ended (new ≡ with_jobs (planned Flat settings.moves settings.nodes) old jobs)
    → TellsEnd (counts_told (if settings.counts then Some (risen (counts_of old) (counts_of new)) else None)) name ended err err' result
    → TellsEnd (counts_line (counts_for settings) jobs) name ended err err' result
rise_tells settings jobs old new few few' name ended err err' result told_log told =
    ended_told _ _ name ended err err' result (on_ok ended (λ is. rise_told settings jobs old new few few' (rw is (logs_jobs settings old jobs))) told_log) told
