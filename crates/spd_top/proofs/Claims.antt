-- Claims about the words of arguments.
use Rattle.std.proofs.Common.{◌≡◌, List, Result, Ok, sym, subst}
use Rattle.spd_top.specs.Told.{Bytes}
use Rattle.spd_top.specs.Command.{words_of, AreText, WhereNotText}

-- Where the words are UTF-8, nothing is claimed of words that aren't.
pub all_text : {E : Type 0} (arguments : Result (List Bytes) E) (all words : List Bytes) → arguments ≡ Ok all → words ≡ words_of all → (claim : Type 0) → AreText words → WhereNotText arguments claim
all_text {E} arguments all words had are claim text = subst (λ (r : Result (List Bytes) E). WhereNotText r claim) (sym had) (λ not_text. absurd (not_text (subst AreText are text)))
