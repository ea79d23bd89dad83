-- What a command tells of a program that runs, by what its main came to.
use Rattle.std.proofs.Common.{◌≡◌, ◌≢◌, ◌∙◌, ℕ, ℤ, List, Option, Result, Ok, Err, IfOk, OnOk, OnErr, ◌⊎◌, inl, inr, refl, sym, ap, subst, arith}
use Rattle.spd_io.specs.Sink.{SinkState, Gets, GetsFront, Failed, SameFaults}
use Rattle.spd_data.specs.declared.column.Column.{Column}
use Rattle.spd_syntax.specs.declared.tree.Program.{Program}
use Rattle.spd_meaning.specs.Acts.{jobs_of}
use Rattle.spd_meaning.specs.Eval as eval
use Rattle.spd_meaning.specs.Eval.{Eval, Fell, Back, Fault}
use Rattle.spd_meaning.specs.Names.{Entry}
use Rattle.spd_meaning.specs.Programs.{main_meaning}
use Rattle.spd_meaning.specs.Printed.{printed}
use Rattle.spd_code.specs.declared.tree.CodeTree.{CodeTree}
use Rattle.spd_code.specs.Alike.{valued, valued_end}
use Rattle.spd_check.specs.Checked.{MeansItself}
use Rattle.spd_level.specs.Columns.{columns_in, Fits, context_of}
use Rattle.spd_level.proofs.Reading.{fitting}
use Rattle.spd_spine.specs.Walk.{main_eval, EndsSo}
use Rattle.spd_spine.specs.declared.turn.End.{End}
use Rattle.spd_spine.specs.declared.turn.End.TheVariants as end
use Rattle.spd_spine.specs.declared.turn.RunError.{RunError}
use Rattle.spd_spine.specs.declared.turn.RunError.TheVariants.{NoMemory, WriteFailed}
use Rattle.spd_top.specs.DataFiles.{columns_loaded}
use Rattle.spd_top.specs.Told.{Bytes, of_fault, counts_line, Told, end_told, run_told, elided}
use Rattle.spd_top.specs.Serving.{Says, WantsMemory, GetsOrFails, write_failed, Tells, took, out_stopped, err_stopped, memory_stopped, TellsEnd}
use Rattle.spd_top.proofs.Putting.{whole_is_front, ok_well, ended_for_memory}

-- ---- no status of a text is that of a file that could not be read

end_status : {A : Type 0} (line name : Bytes) (e : eval.End A) (bytes : Bytes) → (end_told line name e bytes).status ≢ 4
end_status line name (Fell vars) bytes h = cc
end_status line name (Back value) bytes h = cc
end_status line name (Fault code) bytes h = cc

pub run_status : {A : Type 0} (counts : Option ℕ) (name : Bytes) (a : Eval A) → (run_told counts name a).status ≢ 4
run_status counts name a h = end_status (counts_line counts (jobs_of a.given)) name a.end (printed a.given) h

-- ---- a run

ended_done : (line name : Bytes) (e : eval.End ℤ) (bytes : Bytes) → EndsSo end.Done e → end_told line name e bytes ≡ record { status = 0; bytes = bytes; line = line }
ended_done line name (Fell vars) bytes h = refl
ended_done line name (Back value) bytes h = refl
ended_done line name (Fault code) bytes h = absurd h

ended_fault : (line name : Bytes) (c : ℕ) (e : eval.End ℤ) (bytes : Bytes) → EndsSo (end.Fault c) e → end_told line name e bytes ≡ record { status = 3; bytes = bytes; line = of_fault name c }
ended_fault line name c (Fell vars) bytes h = absurd h
ended_fault line name c (Back value) bytes h = absurd h
ended_fault line name c (Fault code) bytes h = rw h refl

end_bytes : (line name : Bytes) (e : eval.End ℤ) (bytes : Bytes) → (end_told line name e bytes).bytes ≡ bytes
end_bytes line name (Fell vars) bytes = refl
end_bytes line name (Back value) bytes = refl
end_bytes line name (Fault code) bytes = refl

-- names are no part of what is told
valued_told : (counts : Option ℕ) (name : Bytes) (a : Eval Entry) → run_told counts name (valued a) ≡ run_told counts name a
valued_told counts name a = by_end (counts_line counts (jobs_of a.given)) a.end
  where
    by_end : (line : Bytes) (e : eval.End Entry) → end_told line name (valued_end e) (printed a.given) ≡ end_told line name e (printed a.given)
    by_end line (Fell env) = refl
    by_end line (Back value) = refl
    by_end line (Fault code) = refl

module _ (counts : Option ℕ) (name : Bytes) (program : Program) (tree : CodeTree) (columns : List Column) (means : MeansItself program.items tree) (fits : Fits program.items columns) where
  abbrev main : Eval ℤ
  main = main_eval (context_of tree columns)

  -- what is told where it falls through
  abbrev line : Bytes
  line = counts_line counts (jobs_of main.given)

  abbrev is_told : Told
  is_told = elided counts name program (columns_loaded columns)

  told_is : run_told counts name main ≡ is_told
  told_is =
      let by_name = columns_in program.items columns in
      let same : main ≡ valued (main_meaning program.items by_name) = means (context_of tree columns) by_name refl (fitting program.items columns tree fits) in
      ap (run_told counts name) same ∙ valued_told counts name (main_meaning program.items by_name)

  pub runs_done : (out out' err err' : SinkState) (result : ℕ) → Gets out out' (printed main.given) → SameFaults out out' → EndsSo end.Done main.end
      → Says 0 err err' line result ⊎ WantsMemory err err' result → Tells is_told out out' err err' result
  runs_done out out' err err' result all kept ends said =
      subst (λ (t : Told). Tells t out out' err err' result) (sym (ended_done line name main.end (printed main.given) ends) ∙ told_is) (by_said said)
    where
      by_said : Says 0 err err' line result ⊎ WantsMemory err err' result → Tells (record { status = 0; bytes = printed main.given; line = line }) out out' err err' result
      by_said (inl (inl s)) = rw s.0 (took (all, kept) s.1)
      by_said (inl (inr s)) = rw s.0 (err_stopped (all, kept) s.1)
      by_said (inr w) = rw w.0 (memory_stopped (whole_is_front out out' (printed main.given) all, kept) w.1)

  pub runs_to_fault : (code : ℕ) (out out' err err' : SinkState) (result : ℕ) → Gets out out' (printed main.given) → SameFaults out out' → EndsSo (end.Fault code) main.end
      → Says 3 err err' (of_fault name code) result ⊎ WantsMemory err err' result → Tells is_told out out' err err' result
  runs_to_fault code out out' err err' result all kept ends said =
      subst (λ (t : Told). Tells t out out' err err' result) (sym (ended_fault line name code main.end (printed main.given) ends) ∙ told_is) (by_said said)
    where
      by_said : Says 3 err err' (of_fault name code) result ⊎ WantsMemory err err' result → Tells (record { status = 3; bytes = printed main.given; line = of_fault name code }) out out' err err' result
      by_said (inl (inl s)) = rw s.0 (took (all, kept) s.1)
      by_said (inl (inr s)) = rw s.0 (err_stopped (all, kept) s.1)
      by_said (inr w) = rw w.0 (memory_stopped (whole_is_front out out' (printed main.given) all, kept) w.1)

  pub runs_stopped : (out out' err err' : SinkState) → Failed out out' → GetsFront out out' (printed main.given) → GetsOrFails err err' write_failed → Tells is_told out out' err err' 5
  runs_stopped out out' err err' cause front told =
      subst (λ (t : Told). Tells t out out' err err' 5) told_is (out_stopped (cause, rw (end_bytes line name main.end (printed main.given)) front) told)

  pub runs_out_of_memory : (out out' err err' : SinkState) (result : ℕ) → SameFaults out out' → GetsFront out out' (printed main.given) → WantsMemory err err' result → Tells is_told out out' err err' result
  runs_out_of_memory out out' err err' result kept front w =
      rw w.0 (subst (λ (t : Told). Tells t out out' err err' 7) told_is (memory_stopped (rw (end_bytes line name main.end (printed main.given)) front, kept) w.1))

  pub run_tells : (ended : Result End RunError) (out out' err err' : SinkState) (result : ℕ) → OnOk ended (Gets out out' (printed main.given)) → IfOk ended (λ e. EndsSo e main.end)
      → OnErr ended (GetsFront out out' (printed main.given)) → (ended ≡ Err WriteFailed → Failed out out') → (ended ≢ Err WriteFailed → SameFaults out out')
      → TellsEnd line name ended err err' result → Tells is_told out out' err err' result
  run_tells (Ok end.Done) out out' err err' result all ends front cause kept told =
      runs_done out out' err err' result all (kept (ok_well end.Done WriteFailed)) ends told
  run_tells (Ok (end.Fault code)) out out' err err' result all ends front cause kept told =
      runs_to_fault code out out' err err' result all (kept (ok_well (end.Fault code) WriteFailed)) ends told
  run_tells (Err WriteFailed) out out' err err' result all ends front cause kept told = rw told.0 (runs_stopped out out' err err' (cause refl) front told.1)
  run_tells (Err NoMemory) out out' err err' result all ends front cause kept told =
      runs_out_of_memory out out' err err' result (kept (ended_for_memory (Err NoMemory) refl)) front told

-- How main ended is told by no status of a file that could not be read.
pub end_elsewhere : (line name : Bytes) (ended : Result End RunError) (err err' : SinkState) (result : ℕ) → TellsEnd line name ended err err' result → result ≢ 4
end_elsewhere line name (Ok end.Done) err err' result (inl (inl says)) four = let is = says.0 in absurd (omega arith)
end_elsewhere line name (Ok end.Done) err err' result (inl (inr says)) four = let is = says.0 in absurd (omega arith)
end_elsewhere line name (Ok end.Done) err err' result (inr wanted) four = let is = wanted.0 in absurd (omega arith)
end_elsewhere line name (Ok (end.Fault code)) err err' result (inl (inl says)) four = let is = says.0 in absurd (omega arith)
end_elsewhere line name (Ok (end.Fault code)) err err' result (inl (inr says)) four = let is = says.0 in absurd (omega arith)
end_elsewhere line name (Ok (end.Fault code)) err err' result (inr wanted) four = let is = wanted.0 in absurd (omega arith)
end_elsewhere line name (Err WriteFailed) err err' result told four = let is = told.0 in absurd (omega arith)
end_elsewhere line name (Err NoMemory) err err' result told four = let is = told.0 in absurd (omega arith)
