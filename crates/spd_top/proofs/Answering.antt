-- The rows of `Answer`, and what a status tells of what failed.
use Rattle.std.proofs.Common.{◌≡◌, ◌≢◌, ◌<◌, ℕ, [], Option, codes, ◌⊎◌, inl, inr, refl, ap, ◌∙◌, arith}
use Rattle.spd_io.specs.Shelf.{FileTold, ShelfState}
use Rattle.spd_io.specs.Sink.{SinkState, Failed, SameFaults}
use Rattle.spd_meaning.specs.Acts.{jobs_of}
use Rattle.spd_meaning.specs.Eval as eval
use Rattle.spd_meaning.specs.Eval.{Fell, Back, Fault}
use Rattle.spd_meaning.specs.Programs.{main_meaning}
use Rattle.spd_meaning.specs.Printed.{printed}
use Rattle.spd_level.specs.Columns.{columns_in}
use Rattle.spd_top.specs.declared.words.SerialCommand.{SerialCommand}
use Rattle.spd_top.specs.declared.words.SerialCommand.TheVariants.{Elide, Check}
use Rattle.spd_top.specs.Requests.{Request, counts_asked}
use Rattle.spd_top.specs.Built.{TextOutcome, lex_fault, parse_fault, check_fault, passes}
use Rattle.spd_top.specs.DataFiles.{DataOutcome, columns_loaded, file_unread, file_refused}
use Rattle.spd_top.specs.Told.{Bytes, of_file, counts_line, Told, end_told, told_of}
use Rattle.spd_top.specs.Serving.{IsUnread, Outcome, refused, made, missing, too_long, of_text, GetsOrFails, Says, WantsMemory, Tells, took, out_stopped, err_stopped, memory_stopped, Answer, as_defined, unread, out_failed, err_failed, no_memory, no_more_memory}
use Rattle.spd_top.proofs.Putting.{takes_nothing}

module _ (request : Option Request) (shelf shelf' : ShelfState) (out err err' : SinkState) where
  abbrev answers : ℕ → Type 0
  answers status = Answer request shelf shelf' out out err err' status

  -- a status that is told by a line, with nothing for `out`
  pub said : (status : ℕ) (line : Bytes) (result : ℕ) → Outcome request shelf.file status [] line → status ≢ 4 → Says status err err' line result → answers result
  said status line result outcome other (inl s) = rw s.0 (as_defined status [] line outcome (takes_nothing out) s.1)
  said status line result outcome other (inr s) = rw s.0 (err_failed status [] line outcome other (takes_nothing out) s.1)

  pub wanted : (result : ℕ) → WantsMemory err err' result → answers result
  wanted result w = rw w.0 (no_memory (takes_nothing out) w.1)

  pub said_or_wanted : (status : ℕ) (line : Bytes) (result : ℕ) → Outcome request shelf.file status [] line → status ≢ 4 → Says status err err' line result ⊎ WantsMemory err err' result → answers result
  said_or_wanted status line result outcome other (inl s) = said status line result outcome other s
  said_or_wanted status line result outcome other (inr w) = wanted result w

  -- a file that could not be read
  pub not_read_told : (name : Bytes) (result : ℕ) → IsUnread request shelf shelf' name → ((result ≡ 4) × GetsOrFails err err' (of_file name (codes "read failed"))) ⊎ WantsMemory err err' result → answers result
  not_read_told name result failed (inl s) = rw s.0 (unread name failed (takes_nothing out) s.1)
  not_read_told name result failed (inr w) = wanted result w

-- what a command tells of a program
pub has_told : (request : Option Request) (shelf shelf' : ShelfState) (t : Told) (out out' err err' : SinkState) (result : ℕ) → Outcome request shelf.file t.status t.bytes t.line → t.status ≢ 4
    → Tells t out out' err err' result → Answer request shelf shelf' out out' err err' result
has_told request shelf shelf' t out out' err err' result outcome other (took got told) = as_defined t.status t.bytes t.line outcome got told
has_told request shelf shelf' t out out' err err' result outcome other (out_stopped fails told) = out_failed t.status t.bytes t.line outcome fails told
has_told request shelf shelf' t out out' err err' result outcome other (err_stopped got fails) = err_failed t.status t.bytes t.line outcome other got fails
has_told request shelf shelf' t out out' err err' result outcome other (memory_stopped front told) = no_more_memory t.status t.bytes t.line outcome front told

-- ---- a status tells what failed

told_elsewhere : (counts : Option ℕ) (command : SerialCommand) (name : Bytes) (outcome : TextOutcome) (came : DataOutcome) → (told_of counts command name outcome came).status ≢ 5
told_elsewhere counts command name (lex_fault fault) came h = cc
told_elsewhere counts command name (parse_fault fault) came h = cc
told_elsewhere counts command name (check_fault fault) came h = cc
told_elsewhere counts Check name (passes tree) came h = cc
told_elsewhere counts Elide name (passes tree) (file_unread file) h = cc
told_elsewhere counts Elide name (passes tree) (file_refused file fault) h = cc
told_elsewhere counts Elide name (passes tree) (columns_loaded columns) h =
    by_end (counts_line counts (jobs_of (main_meaning tree.items (columns_in tree.items columns)).given))
    (main_meaning tree.items (columns_in tree.items columns)).end (printed (main_meaning tree.items (columns_in tree.items columns)).given) h
  where
    by_end : {A : Type 0} (line : Bytes) (e : eval.End A) (bytes : Bytes) → (end_told line name e bytes).status ≢ 5
    by_end line (Fell vars) bytes h = cc
    by_end line (Back value) bytes h = cc
    by_end line (Fault code) bytes h = cc

-- No outcome has the status of a sink that failed.
outcome_elsewhere : (request : Option Request) (file : Bytes → FileTold) (status : ℕ) (bytes line : Bytes) → Outcome request file status bytes line → status ≢ 5
outcome_elsewhere request file status bytes line (refused e) h = absurd (omega arith)
outcome_elsewhere request file status bytes line (made rows seed e) h = absurd (omega arith)
outcome_elsewhere request file status bytes line (missing n d m) h = absurd (omega arith)
outcome_elsewhere request file status bytes line (too_long n d m) h = absurd (omega arith)
outcome_elsewhere request file status bytes line (of_text command name outcome came s z l reads data_read told) h =
    told_elsewhere (counts_asked request) command name outcome came (ap (λ (t : Told). t.status) told ∙ h)

module _ (request : Option Request) (shelf shelf' : ShelfState) (out out' err err' : SinkState) where
  pub answer_writes : (result : ℕ) → Answer request shelf shelf' out out' err err' result → result ≡ 5 → Failed out out' ⊎ Failed err err'
  answer_writes result (as_defined status bytes line outcome got told) five = absurd (outcome_elsewhere request shelf.file status bytes line outcome five)
  answer_writes result (unread name failed got told) five = absurd (omega arith)
  answer_writes result (out_failed status bytes line outcome fails told) five = inl fails.0
  answer_writes result (err_failed status bytes line outcome other got fails) five = inr fails.0
  answer_writes result (no_memory got told) five = absurd (omega arith)
  answer_writes result (no_more_memory status bytes line outcome front told) five = absurd (omega arith)

  pub answer_keeps_out : (result : ℕ) → Answer request shelf shelf' out out' err err' result → result ≢ 5 → SameFaults out out'
  answer_keeps_out result (as_defined status bytes line outcome got told) other = got.1
  answer_keeps_out result (unread name failed got told) other = got.1
  answer_keeps_out result (out_failed status bytes line outcome fails told) other = absurd (other refl)
  answer_keeps_out result (err_failed status bytes line outcome not_read got fails) other = got.1
  answer_keeps_out result (no_memory got told) other = got.1
  answer_keeps_out result (no_more_memory status bytes line outcome front told) other = front.1

  pub answer_keeps_err : (result : ℕ) → Answer request shelf shelf' out out' err err' result → result < 4 → SameFaults err err'
  answer_keeps_err result (as_defined status bytes line outcome got told) few = told.1
  answer_keeps_err result (unread name failed got told) few = absurd (omega arith)
  answer_keeps_err result (out_failed status bytes line outcome fails told) few = absurd (omega arith)
  answer_keeps_err result (err_failed status bytes line outcome other got fails) few = absurd (omega arith)
  answer_keeps_err result (no_memory got told) few = absurd (omega arith)
  answer_keeps_err result (no_more_memory status bytes line outcome front told) few = absurd (omega arith)
