use Rattle.std.proofs.Common.{rules, ◌≡◌, ◌∙◌, sym, length}
use Rattle.spd_data.proofs.Pieces.{length-pieces}
use Rattle.spd_data.proofs.texts.Texts.len.Goals as goal

pub returns-clause-length : goal.returns-clause-length
returns-clause-length c =
    let own : c.len.result ≡ length c.self.inside.ends.items = search rules in
    rw (← c.self.view_is) (own ∙ sym (length-pieces _ _ _))

pub returns-clause-bound : goal.returns-clause-bound
returns-clause-bound c = rw (← c.self.view_is, length-pieces c.self.inside.bytes.items 0 c.self.inside.ends.items) c.self.invariant.0
