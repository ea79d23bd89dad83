-- The words are seen as the bytes of their strings.
use Rattle.std.proofs.Common.{◌≡◌, List, Some, None, Err, IfOk, ◌↔◌, ap, map, subst, ◌∙◌}
use Rattle.std.specs.String.{string_bytes}
use Rattle.spd_command.specs.declared.command.CommandError.TheVariants.{Refused}
use Rattle.spd_command.specs.Asked.{asked_of}
use Rattle.spd_command.specs.Seen.{asked}
use Rattle.spd_top.specs.Told.{Bytes}
use Rattle.spd_top.proofs.words.Words.command.Goals as goal

pub returns-clause-read : goal.returns-clause-read
returns-clause-read c =
    subst (λ (words : List Bytes). IfOk c.read_command.result (λ command. Some (asked command) ≡ asked_of words)) (ap (map string_bytes) c.as_slice.ensures.value ∙ c.self.view_is) c.read_command.ensures.read

pub returns-clause-refused : goal.returns-clause-refused
returns-clause-refused c =
    subst (λ (words : List Bytes). (c.read_command.result ≡ Err Refused) ↔ (asked_of words ≡ None)) (ap (map string_bytes) c.as_slice.ensures.value ∙ c.self.view_is) c.read_command.ensures.refused
