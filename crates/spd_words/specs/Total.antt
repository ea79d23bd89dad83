-- What a finish has collected, and what leaves it.
use Rattle.std.specs.Prelude.{ℕ, ℤ, List, min}
use Rattle.spd_words.specs.Gift.{no_fault, identity, joined, least}
use Rattle.spd_words.specs.declared.finish_kind.FinishKind.{FinishKind}
use Rattle.spd_words.specs.declared.tally.Tally.{Tally}
use Rattle.spd_words.specs.declared.tally.Given.{Given}

-- a gift, and the least code of a fault
pub record Total : Type 0 where
  pub gift : ℤ
  pub fault : ℕ

abbrev pub nothing : FinishKind → Total
nothing kind = record { gift = identity kind; fault = no_fault }

-- a total, with these offers and these codes
abbrev pub collect : FinishKind → Total → List ℤ → List ℕ → Total
collect kind total offers codes = record { gift = joined kind total.gift offers; fault = min total.fault (least codes) }

-- What leaves a finish. A total of 64 bits leaves as it is.
abbrev pub settle : Total → Total
settle total = total

-- The code of a finish that stands at this line: the one that it collected.
abbrev pub at_line : ℕ → ℕ → ℕ
at_line line code = code

-- ---- the same in Rust

abbrev pub begun : FinishKind → Tally
begun kind = record { kind = kind; gift = identity kind; fault = no_fault }

abbrev pub total_of : Tally → Total
total_of tally = record { gift = tally.gift; fault = tally.fault }

abbrev pub ended : Given → Total
ended given = record { gift = given.gift; fault = given.fault }
