-- The built-in program, over a file that is made from two numbers.
use Rattle.std.specs.Prelude.{ℕ, List, Option, Some, if◌then◌else◌, ◌++◌, codes}
use Rattle.std.specs.Str.{bytes_eq}
use Rattle.spd_io.specs.Shelf.{FileTold, Missing, Holds, ShelfState}
use Rattle.spd_cols.specs.Made.{made_csv}
use Rattle.spd_command.specs.Asked.{Asked, job, asked_of}
use Rattle.spd_top.specs.Told.{Bytes, end_of_line}

abbrev pub job_name : Bytes
job_name = codes "job.sp"

-- Its text: by halves it adds up the prices of a file, and finds the least and the greatest of them.
unfoldable pub job_program : Bytes
job_program =
    codes "column price: int from \"job.csv\" field \"price\";" ++ end_of_line
    ++ codes "task add(lo, hi) {" ++ end_of_line
    ++ codes "  if hi - lo < 2 {" ++ end_of_line
    ++ codes "    if lo < hi { offer price[lo]; }" ++ end_of_line
    ++ codes "  } else {" ++ end_of_line
    ++ codes "    let mid = (lo + hi) / 2;" ++ end_of_line
    ++ codes "    async { run add(lo, mid); }" ++ end_of_line
    ++ codes "    run add(mid, hi);" ++ end_of_line
    ++ codes "  }" ++ end_of_line
    ++ codes "}" ++ end_of_line
    ++ codes "main {" ++ end_of_line
    ++ codes "  print \"rows \", len(price);" ++ end_of_line
    ++ codes "  let s = finish sum { run add(0, len(price)); }" ++ end_of_line
    ++ codes "  print \"sum \", s;" ++ end_of_line
    ++ codes "  let l = finish least { run add(0, len(price)); }" ++ end_of_line
    ++ codes "  print \"least \", l;" ++ end_of_line
    ++ codes "  let g = finish greatest { run add(0, len(price)); }" ++ end_of_line
    ++ codes "  print \"greatest \", g;" ++ end_of_line
    ++ codes "}" ++ end_of_line

-- what a job's files are: the program, and the file that it reads, of so many rows from a seed
abbrev pub job_files : ℕ → ℕ → Bytes → FileTold
job_files rows seed name =
    if bytes_eq job_name name then Holds job_program
    else if bytes_eq (codes "job.csv") name then Holds (made_csv rows seed)
    else Missing

-- a shelf of these files, of which no read fails
abbrev pub job_shelf : ℕ → ℕ → ShelfState
job_shelf rows seed = record { file = job_files rows seed; faults = λ name. 0 }

-- ---- the files of a command line

abbrev pub shelf_in : Option Asked → ShelfState → ShelfState
shelf_in (Some (job rows seed settings)) shelf = job_shelf rows seed
shelf_in _ shelf = shelf

-- The files of a job are its own, and those of every other command line are the shelf's.
abbrev pub shelf_for : List Bytes → ShelfState → ShelfState
shelf_for words shelf = shelf_in (asked_of words) shelf
