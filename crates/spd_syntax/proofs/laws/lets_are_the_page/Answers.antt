use Rattle.spd_syntax.specs.Symbols.{IsLawfulSymbol}
use Rattle.spd_syntax.specs.Faults.{nested}
use Rattle.spd_syntax.proofs.PageLets.{same_let}
use Rattle.spd_syntax.proofs.laws.lets_are_the_page.Goals as goal

pub returns : goal.returns
returns c x ts = (
  λ s. record { brackets = s.brackets; is = (same_let (nested IsLawfulSymbol s.brackets) x ts).0 s.is },
  λ s. record { brackets = s.brackets; is = (same_let (nested IsLawfulSymbol s.brackets) x ts).1 s.is },
)
