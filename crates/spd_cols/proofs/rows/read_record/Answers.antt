use Rattle.std.proofs.Common.{Result, Ok, Bool, ◌≡◌, inl, inr}
use Rattle.spd_cols.specs.declared.fault.DataKind.{DataKind}
use Rattle.spd_cols.proofs.ReadSteps.{read_one, read_none, read_width, read_ragged}
use Rattle.spd_cols.proofs.rows.read_record.Goals as goal

same : (a b : Bool) → ◌≡◌ {A = Result Bool DataKind} (Ok a) (Ok b) → a ≡ b
same a b e = cc

pub returns-in-Ok-clause-more : goal.returns-in-Ok-clause-more
returns-in-Ok-clause-more c is =
    let more = same _ _ is in
    read_one c.args.reader.now c.read_byte_record.new.self _ c.requires (rw more at c.in-Ok.ensures.reads c.requires.trim c.requires.ready) (c.in-Ok.ensures.reads_on more)

pub returns-in-Ok-clause-same : goal.returns-in-Ok-clause-same
returns-in-Ok-clause-same c is n wide =
    let more = same _ _ is in
    read_width c.args.reader.now c.read_byte_record.new.self _ n c.requires (rw more at c.in-Ok.ensures.reads c.requires.trim c.requires.ready) wide

pub returns-in-Ok-clause-end : goal.returns-in-Ok-clause-end
returns-in-Ok-clause-end c is =
    read_none c.args.reader.now c.read_byte_record.new.self _ c.requires (rw (same _ _ is) at c.in-Ok.ensures.reads c.requires.trim c.requires.ready)

pub returns-in-Err-clause-fault : goal.returns-in-Err-clause-fault
returns-in-Err-clause-fault c = elim c.kind_of.ensures [
  | inl ragged ↦ inl (ragged.0, read_ragged c.args.reader.now c.read_byte_record.new.self _ c.requires ragged.1 (c.in-Err.ensures.why c.requires.ready))
  | inr memory ↦ inr memory
]
