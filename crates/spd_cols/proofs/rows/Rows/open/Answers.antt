use Rattle.std.proofs.Common.{◌≡◌, ◌∙◌, sym, refl, ap, List, ◌∷◌, drop, Ok}
use Rattle.csv.specs.Records.{fields_of}
use Rattle.spd_cols.specs.Columns.{Record, field_place, header_of, records_of}
use Rattle.spd_cols.specs.Rows.{records_left}
use Rattle.spd_cols.proofs.rows.Rows.open.Goals as goal

pub returns-in-Some-clause-ok : goal.returns-in-Some-clause-ok
returns-in-Some-clause-ok c =
    let test = ap Ok c.in-Ok-true.field-0-test in
    let read = c.in-Ok-true.ensures.more test in
    let all : records_left c.from_reader-reader.result ≡ records_of c.args.file.now =
    rw (c.from_reader-reader.ensures.source, c.from_reader-reader.ensures.state) refl in
    let same : records_of c.args.file.now ≡ fields_of c.read_record.new.fields ∷ records_left c.read_record.new.reader = sym all ∙ read.1 in
    let header : header_of (records_of c.args.file.now) ≡ fields_of c.read_record.new.fields = ap header_of same in
    record {
      at = record { between = read.0; width = c.in-Ok-true.ensures.width test; place = c.in-Some.ensures.within };
      header = sym header;
      place = ap (field_place c.args.field.now) header ∙ sym c.in-Some.ensures.place;
      left = sym (ap (λ (rows : List Record). drop 1 rows) same);
    }
