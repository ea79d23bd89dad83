use Rattle.std.proofs.Common.{ap, map, ◌∙◌}
use Rattle.std.specs.Prelude.{is_some}
use Rattle.std.specs.String.{string_bytes}
use Rattle.spd_top.specs.Requests.{settings_asked}
use Rattle.spd_top.proofs.words.Words.ask_workers.Goals as goal

pub returns : goal.returns
returns c = c.ask_workers_in.ensures ∙ ap (λ words. is_some (settings_asked words)) (ap (map string_bytes) c.as_slice.ensures.value ∙ c.self.view_is)
