use Rattle.std.proofs.Common.{◌≡◌, ◌∙◌, ◌+◌, ◌-◌, ◌==◌, refl, min, length, take, drop, rules}
use Rattle.std.specs.List.{before_first, after_first}
use Rattle.std.proofs.lemmas.List.{drop_min, take_rest}
use Rattle.spd_cols.specs.Columns.{without_cr}
use Rattle.spd_cols.proofs.LinePieces.{first_entry}
use Rattle.spd_cols.proofs.line_pieces.cut_entry.Goals as goal

pub returns-clause-entries : goal.returns-clause-entries
returns-clause-entries c =
    let bytes = c.args.bytes.now in
    let least : c.min-next.result ≡ min (c.piece_len-end.result + 1) (length bytes) = search rules in
    let behind : take (length bytes - c.min-next.result) (drop c.min-next.result bytes) ≡ after_first (λ b. b == 10) bytes =
    take_rest bytes c.min-next.result ∙ rw (least, drop_min (c.piece_len-end.result + 1) bytes, c.piece_len-end.ensures.place) refl in
    let before : c.without_cr.result.now ≡ without_cr (before_first (λ b. b == 10) bytes) = c.without_cr.ensures ∙ rw c.piece_len-end.ensures.place refl in
    rw (behind, before) (first_entry bytes c.requires)
