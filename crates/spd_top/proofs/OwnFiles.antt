-- No read of the files of a job fails.
use Rattle.std.proofs.Common.{ℕ, Option, arith}
use Rattle.spd_io.specs.Sink.{SinkState}
use Rattle.spd_top.specs.BuiltIn.{job_shelf}
use Rattle.spd_top.specs.Requests.{Request}
use Rattle.spd_top.specs.Told.{Bytes}
use Rattle.spd_top.specs.Serving.{IsUnread, program, column, Answer, as_defined, unread, out_failed, err_failed, no_memory, no_more_memory}

module _ (request : Option Request) (rows seed rows' seed' : ℕ) where
  pub all_read : (name : Bytes) → IsUnread request (job_shelf rows seed) (job_shelf rows' seed') name → ⊥
  all_read name (program n asked failed) = omega (arith, failed)
  all_read name (column n file tree what reads stops failed) = omega (arith, failed)

  -- So an answer doesn't depend on what the files are afterwards.
  pub job_answers : (out out' err err' : SinkState) (result : ℕ) → Answer request (job_shelf rows seed) (job_shelf rows' seed') out out' err err' result
      → Answer request (job_shelf rows seed) (job_shelf rows seed) out out' err err' result
  job_answers out out' err err' result (as_defined status bytes line outcome got told) = as_defined status bytes line outcome got told
  job_answers out out' err err' result (unread name failed got told) = absurd (all_read name failed)
  job_answers out out' err err' result (out_failed status bytes line outcome fails told) = out_failed status bytes line outcome fails told
  job_answers out out' err err' result (err_failed status bytes line outcome other got fails) = err_failed status bytes line outcome other got fails
  job_answers out out' err err' result (no_memory got told) = no_memory got told
  job_answers out out' err err' result (no_more_memory status bytes line outcome front told) = no_more_memory status bytes line outcome front told
