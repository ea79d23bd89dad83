use Rattle.std.proofs.Common.{ap, map, ◌∙◌}
use Rattle.std.specs.Prelude.{is_some}
use Rattle.std.specs.String.{string_bytes}
use Rattle.spd_top.specs.Requests.{still_request_of}
use Rattle.spd_top.proofs.words.Words.ask_still.Goals as goal

pub returns : goal.returns
returns c = c.ask_still_in.ensures ∙ ap (λ words. is_some (still_request_of words)) (ap (map string_bytes) c.as_slice.ensures.value ∙ c.self.view_is)
