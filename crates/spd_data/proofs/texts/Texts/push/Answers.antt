use Rattle.std.proofs.Common.{arith, rules, ◌≡◌, ◌+◌, ◌∷◌, [], ap, length, length-append}
use Rattle.spd_data.proofs.Pieces.{ends_behind, piece_behind}
use Rattle.spd_data.proofs.texts.Texts.push.Goals as goal

pub invariant_of-self-in-Ok : goal.invariant_of-self-in-Ok
invariant_of-self-in-Ok c =
    let ends_len : c.len.result ≡ length c.self.inside.ends.items = search rules in
    let bytes_len : c.len-2.result ≡ length c.self.inside.bytes.items = search rules in
    let same : c.len-else-len-most.result ≡ length c.self.inside.bytes.items = search rules in
    let total = length-append c.self.inside.bytes.items c.args.entry.now in
    rw (c.in_ok-push.ensures.items, c.in-Ok.ensures.items) (
      omega (arith, length-append c.self.inside.ends.items ((c.len-2.result + length c.args.entry.now) ∷ []), c.if-len-most.false, ends_len),
      omega (arith, total, c.if-entry-most.false, same),
      rw (total, bytes_len) (ends_behind 0 _ _ _ c.self.invariant.2 (omega arith)),
    )

pub returns-in-Ok-clause-ok : goal.returns-in-Ok-clause-ok
returns-in-Ok-clause-ok c =
    let bytes_len : c.len-2.result ≡ length c.self.inside.bytes.items = search rules in
    rw (c.in_ok-push.ensures.items, c.in-Ok.ensures.items, ← c.self.view_is)
    (piece_behind _ _ 0 _ _ c.self.invariant.2 (ap (λ n. n + length c.args.entry.now) bytes_len))
