use Rattle.std.proofs.lemmas.Option.{slice_get-get_or}
use Rattle.spd_data.proofs.Pieces.{piece_of, piece_within}
use Rattle.spd_data.proofs.texts.piece_at.Goals as goal

pub slice_bounds-result-count : goal.slice_bounds-result-count
slice_bounds-result-count c = (piece_within 0 _ _ _ _ _ c.requires.ends (slice_get-get_or _ _ 0 c.requires.within) c.begin_of-start.ensures).0

pub slice_bounds-result-start : goal.slice_bounds-result-start
slice_bounds-result-start c = (piece_within 0 _ _ _ _ _ c.requires.ends (slice_get-get_or _ _ 0 c.requires.within) c.begin_of-start.ensures).0

pub slice_bounds-result-end : goal.slice_bounds-result-end
slice_bounds-result-end c = (piece_within 0 _ _ _ _ _ c.requires.ends (slice_get-get_or _ _ 0 c.requires.within) c.begin_of-start.ensures).1

pub returns : goal.returns
returns c = piece_of _ 0 _ _ _ _ (slice_get-get_or _ _ 0 c.requires.within) c.begin_of-start.ensures
