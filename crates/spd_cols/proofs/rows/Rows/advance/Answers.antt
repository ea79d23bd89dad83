use Rattle.std.proofs.Common.{Result, Ok, Bool, ◌≡◌, refl, ap}
use Rattle.spd_cols.specs.declared.fault.DataFault.{DataFault}
use Rattle.spd_cols.proofs.rows.Rows.advance.Goals as goal

same : (a b : Bool) → ◌≡◌ {A = Result Bool DataFault} (Ok a) (Ok b) → a ≡ b
same a b e = cc

pub returns-in-Ok-clause-more : goal.returns-in-Ok-clause-more
returns-in-Ok-clause-more c is =
    let read = ap Ok (same _ _ is) in
    let own = c.in-Ok.ensures.more read in
    let width = c.in-Ok.ensures.same read _ c.requires.width in
    record { at = record { between = own.0; width = c.in-Ok.ensures.width read; place = rw width c.requires.place }; place = refl; width = width; left = own.1 }
