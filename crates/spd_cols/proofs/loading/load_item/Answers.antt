use Rattle.std.proofs.Common.{sym, ap, Err}
use Rattle.spd_io.specs.Shelf.{MayExceed}
use Rattle.spd_cols.specs.Loading.{most_bytes}
use Rattle.spd_cols.proofs.LoadSteps.{too_long}
use Rattle.spd_cols.proofs.loading.load_item.Goals as goal

pub returns-in-Err-TooLong-clause-answer : goal.returns-in-Err-TooLong-clause-answer
returns-in-Err-TooLong-clause-answer g c =
    let told = (g.F.Shelf.state c.args.shelf.now).file in
    let may : MayExceed (told c.in-Some.file.now) most_bytes = rw c.in-Ok.ensures.cases.0 at c.in-Err-TooLong.ensures.too_long (ap Err c.in-Err-TooLong.field-0-is) in
    let long = too_long told c.args.what.now c.in-Some.file.now (sym c.in-Some.ensures) may in
    (c.len-column.ensures.length, long.0, long.1)
