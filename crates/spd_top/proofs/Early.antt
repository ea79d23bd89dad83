-- What ends a command before its program runs, and what is known where nothing does.
use Rattle.std.proofs.Common.{◌≡◌, ◌≢◌, ◌≤◌, ◌∙◌, ℕ, List, [], length, Option, Some, Result, Ok, Err, codes, ◌⊎◌, inl, inr, refl, sym, ap, arith}
use Rattle.std.proofs.lemmas.List.Elements.{All-take}
use Rattle.spd_io.specs.Shelf.{ShelfState, MayBe, MayExceed, FailedAt, ChangesNoOther}
use Rattle.spd_io.specs.Sink.{SinkState}
use Rattle.spd_data.specs.declared.column.Column.{Column}
use Rattle.spd_syntax.specs.Limits.{max_text}
use Rattle.spd_syntax.specs.declared.tree.Program.{Program}
use Rattle.spd_syntax.specs.declared.tree.ItemKind.TheVariants as i
use Rattle.spd_cols.specs.declared.fault.LoadFault.{LoadFault}
use Rattle.spd_cols.specs.declared.fault.LoadFault.TheVariants as load
use Rattle.spd_cols.specs.Loading.{file_in, declarations, reached, IsLoad, IsNoFileOf}
use Rattle.spd_cols.proofs.FilesOfColumns.{next_is_named}
use Rattle.spd_cols.proofs.LoadSteps.{loaded_before, refused_before}
use Rattle.spd_top.specs.declared.words.SerialCommand.{SerialCommand}
use Rattle.spd_top.specs.declared.words.SerialCommand.TheVariants.{Elide, Check}
use Rattle.spd_top.specs.declared.building.BuildError.{BuildError}
use Rattle.spd_top.specs.declared.building.BuildError.TheVariants as errors
use Rattle.spd_top.specs.Requests.{over}
use Rattle.spd_top.specs.Built.{TextOutcome, ComesTo, IsRefused, lex_fault, parse_fault, check_fault, passes}
use Rattle.spd_top.specs.DataFiles.{columns_loaded, file_refused, StopsAt}
use Rattle.spd_top.specs.Told.{Bytes, of_file, of_line, lex_word, parse_word, check_word, data_word}
use Rattle.spd_top.specs.Serving.{ReadsText, ReadsData, IsUnread, program, column, ChangesNoUntouched, too_long, of_text, RefusesText, RefusesData, GetsOrFails, Says, WantsMemory, Answer, unread}
use Rattle.spd_top.specs.Jobs.{EndsRun}
use Rattle.spd_top.specs.Early.{HasProgram, HasColumns, AnswersEarly}
use Rattle.spd_top.proofs.Putting.{takes_nothing}
use Rattle.spd_top.proofs.Answering.{said, said_or_wanted, wanted, not_read_told}
use Rattle.spd_top.proofs.Loads.{stops_before, failed_since}

-- ---- a status that was told, or what came in its place

abbrev IsTold : ℕ → ℕ → Type 0
IsTold status result = (result ≡ status) ⊎ ((result ≡ 5) ⊎ (result ≡ 7))

said_told : (status : ℕ) (old new : SinkState) (line : Bytes) (result : ℕ) → Says status old new line result ⊎ WantsMemory old new result → IsTold status result
said_told status old new line result (inl (inl says)) = inl says.0
said_told status old new line result (inl (inr says)) = inr (inl says.0)
said_told status old new line result (inr wants) = inr (inr wants.0)

not_read_failure : (status result : ℕ) → status ≢ 4 → IsTold status result → result ≢ 4
not_read_failure status result other (inl is) four = other (sym is ∙ four)
not_read_failure status result other (inr (inl is)) four = absurd (omega arith)
not_read_failure status result other (inr (inr is)) four = absurd (omega arith)

no_end : (status result : ℕ) → status ≢ 0 → status ≢ 3 → IsTold status result → EndsRun result → ⊥
no_end status result zero three (inl is) (inl ended) = zero (sym is ∙ ended)
no_end status result zero three (inl is) (inr ended) = three (sym is ∙ ended)
no_end status result zero three (inr (inl is)) (inl ended) = omega arith
no_end status result zero three (inr (inl is)) (inr ended) = omega arith
no_end status result zero three (inr (inr is)) (inl ended) = omega arith
no_end status result zero three (inr (inr is)) (inr ended) = omega arith

-- ---- PROGRAM

-- a fault of a text
abbrev IsFault : TextOutcome → Type 0
IsFault (passes tree) = ⊥
IsFault _ = Unit {0}

module _ (counts : Option ℕ) (command : SerialCommand) (name : Bytes) (old now : ShelfState) (first : ChangesNoOther old now name) (err err' : SinkState) (result : ℕ) where
  abbrev Answers : SinkState → Type 0
  Answers out = Answer (Some (over command name counts)) old now out out err err' result

  abbrev Ends : Type 0
  Ends = AnswersEarly counts command name old now err err' result

  pub no_others : ChangesNoUntouched (Some (over command name counts)) old now
  no_others other untouched = first other (λ e. untouched.operand (ap Some (sym e)))

  ends : (status : ℕ) → status ≢ 0 → status ≢ 3 → status ≢ 4 → ((out : SinkState) → Answers out) → IsTold status result → Ends
  ends status zero three four answer told = record {
    answer = answer;
    others = no_others;
    not_ended = no_end status result zero three told;
    read_cause = λ e. absurd (not_read_failure status result four told e);
  }

  pub ends_too_long : MayExceed (old.file name) max_text → Says 1 err err' (of_file name (codes "TooLong")) result ⊎ WantsMemory err err' result → Ends
  ends_too_long exceeds says =
      ends 1 (λ e. omega arith) (λ e. omega arith) (λ e. omega arith)
      (λ out. said_or_wanted (Some (over command name counts)) old now out err err' 1 (of_file name (codes "TooLong")) result (too_long name refl exceeds) (λ e. omega arith) says)
      (said_told 1 err err' (of_file name (codes "TooLong")) result says)

  pub ends_unread : FailedAt old now name → ((result ≡ 4) × GetsOrFails err err' (of_file name (codes "read failed"))) ⊎ WantsMemory err err' result → Ends
  ends_unread failed says = record {
    answer = λ out. not_read_told (Some (over command name counts)) old now out err err' name result (program name refl failed) says;
    others = no_others;
    not_ended = no_end 4 result (λ e. omega arith) (λ e. omega arith) (by_cause says);
    read_cause = λ four. (name, program name refl failed);
  }
    where
      by_cause : ((result ≡ 4) × GetsOrFails err err' (of_file name (codes "read failed"))) ⊎ WantsMemory err err' result → IsTold 4 result
      by_cause (inl told) = inl told.0
      by_cause (inr wants) = inr (inr wants.0)

  pub ends_wanted : WantsMemory err err' result → Ends
  ends_wanted wants = ends 7 (λ e. omega arith) (λ e. omega arith) (λ e. omega arith) (λ out. wanted (Some (over command name counts)) old now out err err' result wants) (inl wants.0)

  -- a text that gave no program
  pub ends_refused : (text : Bytes) (error : BuildError) → MayBe (old.file name) text → length text ≤ max_text → IsRefused text error → RefusesText name error err err' result → Ends
  ends_refused text error may within is says = by_error error is says
    where
      reads : (outcome : TextOutcome) → ComesTo text outcome → ReadsText (Some (over command name counts)) old.file command name outcome
      reads outcome comes = record { command_is = refl; program_is = refl; text = text; may = may; within = within; comes = comes }

      -- no data file is read
      no_data : (command : SerialCommand) (outcome : TextOutcome) → IsFault outcome → ReadsData old.file command outcome (columns_loaded [])
      no_data Elide (lex_fault fault) f = refl
      no_data Elide (parse_fault fault) f = refl
      no_data Elide (check_fault fault) f = refl
      no_data Elide (passes tree) f = absurd f
      no_data Check outcome f = refl

      told : (line : Bytes) → ((out : SinkState) → Says 1 err err' line result ⊎ WantsMemory err err' result → Answers out) → Says 1 err err' line result ⊎ WantsMemory err err' result → Ends
      told line answer says = ends 1 (λ e. omega arith) (λ e. omega arith) (λ e. omega arith) (λ out. answer out says) (said_told 1 err err' line result says)

      by_error : (error : BuildError) → IsRefused text error → RefusesText name error err err' result → Ends
      by_error (errors.Lex fault) is says = told (of_line name fault.line (lex_word fault.kind)) (λ out. said_or_wanted (Some (over command name counts)) old now out err err' 1 _ result
          (of_text command name (lex_fault fault) (columns_loaded []) 1 [] _ (reads (lex_fault fault) is) (no_data command (lex_fault fault) tt) refl) (λ e. omega arith)) says
      by_error (errors.Parse fault) is says = told (of_line name fault.line (parse_word fault.kind)) (λ out. said_or_wanted (Some (over command name counts)) old now out err err' 1 _ result
          (of_text command name (parse_fault fault) (columns_loaded []) 1 [] _ (reads (parse_fault fault) is) (no_data command (parse_fault fault) tt) refl) (λ e. omega arith)) says
      by_error (errors.Check fault) is says = told (of_line name fault.line (check_word fault.kind)) (λ out. said_or_wanted (Some (over command name counts)) old now out err err' 1 _ result
          (of_text command name (check_fault fault) (columns_loaded []) 1 [] _ (reads (check_fault fault) is) (no_data command (check_fault fault) tt) refl) (λ e. omega arith)) says
      by_error errors.NoMemory is says = ends_wanted says

-- what a command reads of a program that a file has
pub reads_as : (counts : Option ℕ) (command : SerialCommand) (name : Bytes) (tree : Program) (old now : ShelfState) → HasProgram name tree old now → ReadsText (Some (over command name counts)) old.file command name (passes tree)
reads_as counts command name tree old now has = record { command_is = refl; program_is = refl; text = has.text; may = has.may; within = has.within; comes = has.comes }

-- ---- its data files, by a shelf that has been read before

-- A count that is no file's doesn't change, whichever files were reached.
others_kept : (items : List i.the_data) (r : Result (List Column) LoadFault) (now new : ShelfState) → ((other : Bytes) → IsNoFileOf other (reached items r) → new.faults other ≡ now.faults other)
    → (other : Bytes) → IsNoFileOf other items → new.faults other ≡ now.faults other
others_kept items (Ok columns) now new kept other none = kept other none
others_kept items (Err (load.Failed number)) now new kept other none = kept other (All-take (λ what. file_in what ≢ Some other) _ items none)
others_kept items (Err (load.Refused number fault)) now new kept other none = kept other (All-take (λ what. file_in what ≢ Some other) _ items none)
others_kept items (Err load.NoMemory) now new kept other none = kept other none

module _ (counts : Option ℕ) (name : Bytes) (tree : Program) (old now new : ShelfState) (has : HasProgram name tree old now) (r : Result (List Column) LoadFault)
    (is : IsLoad now new (declarations tree.items) r) (kept : (other : Bytes) → IsNoFileOf other (reached (declarations tree.items) r) → new.faults other ≡ now.faults other) where
  reads : ReadsText (Some (over Elide name counts)) old.file Elide name (passes tree)
  reads = reads_as counts Elide name tree old now has

  others : ChangesNoUntouched (Some (over Elide name counts)) old new
  others other untouched =
      others_kept (declarations tree.items) r now new kept other (untouched.columns name tree reads) ∙ has.others other (λ e. untouched.operand (ap Some (sym e)))

  pub has_columns : (columns : List Column) → r ≡ Ok columns → HasColumns counts name tree columns old new
  has_columns columns same = record {
    reads = reads;
    loaded = loaded_before old now has.files (declarations tree.items) columns (rw same at is);
    others = others;
  }

  module _ (err err' : SinkState) (result : ℕ) where
    abbrev EndsThere : Type 0
    EndsThere = AnswersEarly counts Elide name old new err err' result

    without : (status : ℕ) → status ≢ 0 → status ≢ 3 → ((out : SinkState) → Answer (Some (over Elide name counts)) old new out out err err' result)
        → (result ≡ 4 → (file : Bytes) × IsUnread (Some (over Elide name counts)) old new file) → IsTold status result → EndsThere
    without status zero three answer cause told = record { answer = answer; others = others; not_ended = no_end status result zero three told; read_cause = cause }

    without_room : WantsMemory err err' result → EndsThere
    without_room wants = without 7 (λ e. omega arith) (λ e. omega arith) (λ out. wanted (Some (over Elide name counts)) old new out err err' result wants)
        (λ four. absurd (not_read_failure 7 result (λ e. omega arith) (inl wants.0) four)) (inl wants.0)

    no_columns : (fault : LoadFault) → IsLoad now new (declarations tree.items) (Err fault) → RefusesData tree fault err err' result → EndsThere
    no_columns (load.Failed number) is (inl (file, file_is, four, line)) =
        let named : file_in is.0 ≡ Some file = sym (next_is_named now.file tree.items number is.0 is.1) ∙ file_is in
        let stops : StopsAt now.file (declarations tree.items) is.0 file = record { number = number; next = is.1; named = named } in
        let missed : IsUnread (Some (over Elide name counts)) old new file =
        column name file tree is.0 reads (stops_before old now has.files (declarations tree.items) is.0 file stops) (failed_since old now new file has.counts (rw named at is.2)) in
        without 4 (λ e. omega arith) (λ e. omega arith) (λ out. rw four (unread file missed (takes_nothing out) line)) (λ e. (file, missed)) (inl four)
    no_columns (load.Refused number fault) is (inl (file, file_is, says)) =
        let named : file_in is.0 ≡ Some file = sym (next_is_named now.file tree.items number is.0 is.1) ∙ file_is in
        let stops : StopsAt now.file (declarations tree.items) is.0 file = record { number = number; next = is.1; named = named } in
        let line = of_line file fault.row (data_word fault.kind) in
        let told : IsTold 6 result = said_told 6 err err' line result (inl says) in
        without 6 (λ e. omega arith) (λ e. omega arith) (λ out. said (Some (over Elide name counts)) old new out err err' 6 line result
        (of_text Elide name (passes tree) (file_refused file fault) 6 [] line reads
        (is.0, stops_before old now has.files (declarations tree.items) is.0 file stops, refused_before old now has.files is.0 fault is.2) refl) (λ e. omega arith) says)
        (λ four. absurd (not_read_failure 6 result (λ e. omega arith) told four)) told
    no_columns (load.Failed number) is (inr wants) = without_room wants
    no_columns (load.Refused number fault) is (inr wants) = without_room wants
    no_columns load.NoMemory is wants = without_room wants

    pub ends_without_columns : (fault : LoadFault) → r ≡ Err fault → RefusesData tree fault err err' result → EndsThere
    ends_without_columns fault same says = no_columns fault (rw same at is) says
