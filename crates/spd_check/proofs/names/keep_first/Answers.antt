use Rattle.std.proofs.Common.{sym}
use Rattle.std.proofs.lemmas.List.{take-map}
use Rattle.spd_check.proofs.names.keep_first.Goals as goal

pub returns : goal.returns
returns c = rw c.truncate.ensures.items (sym (take-map _ _ c.args.names.now.items))
