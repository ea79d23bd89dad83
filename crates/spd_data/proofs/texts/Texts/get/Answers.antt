use Rattle.std.proofs.Common.{◌<◌, length}
use Rattle.spd_data.proofs.Pieces.{length-pieces}
use Rattle.spd_data.proofs.texts.Texts.get.Goals as goal

pub piece_at-requires : goal.piece_at-requires
piece_at-requires c =
    let within : c.args.place < length c.self.inside.ends.items =
    rw (← length-pieces c.self.inside.bytes.items 0 c.self.inside.ends.items, c.self.view_is) c.requires in
    record { within = rw c.as_slice-2.ensures.value within; ends = rw (c.as_slice-2.ensures.value, c.as_slice.ensures.value) c.self.invariant.2 }

pub returns : goal.returns
returns c = rw (← c.self.view_is, ← c.as_slice-2.ensures.value, ← c.as_slice.ensures.value) c.piece_at.ensures
