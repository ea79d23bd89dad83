use Rattle.csv.specs.Records.{fields_of}
use Rattle.spd_cols.proofs.Fields.{field_given}
use Rattle.spd_cols.proofs.rows.Rows.cell.Goals as goal

pub returns : goal.returns
returns c = rw c.unwrap_or.ensures (field_given c.get.result _ (fields_of c.args.self.now.fields) c.args.self.now.place c.get.ensures.value c.requires.place)
