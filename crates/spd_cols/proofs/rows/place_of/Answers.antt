use Rattle.std.proofs.Common.{◌∙◌, sym}
use Rattle.csv.specs.Records.{fields_of}
use Rattle.csv.proofs.RecordFacts.{field-there}
use Rattle.spd_cols.proofs.Fields.{found_there, not_there}
use Rattle.spd_cols.proofs.rows.place_of.Goals as goal

pub returns-in_default-clause-place : goal.returns-in_default-clause-place
returns-in_default-clause-place c =
    absurd (field-there (fields_of c.args.header.now) _ (rw (← c.len-place-end.ensures) c.loop-place-test.true) (sym c.in_default.ensures.value))

pub returns-then-eq-clause-place : goal.returns-then-eq-clause-place
returns-then-eq-clause-place c =
    sym (found_there _ (fields_of c.args.header.now) _ _ c.in-Some.ensures.value (sym c.eq.ensures ∙ c.if-eq.true)) ∙ c.loop-place.invariant

pub loop-place-preserved : goal.loop-place-preserved
loop-place-preserved c =
    sym (not_there _ (fields_of c.args.header.now) _ _ c.in-Some.ensures.value (sym c.eq.ensures ∙ c.if-eq.false)) ∙ c.loop-place.invariant
