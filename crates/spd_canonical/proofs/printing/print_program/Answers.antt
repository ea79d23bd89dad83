-- The canonical text is read again.
use Rattle.std.proofs.Common.{List, ℕ, sym, subst}
use Rattle.spd_canonical.specs.Texts.{IsTextAgain}
use Rattle.spd_canonical.proofs.ReadAgain.{read_again}
use Rattle.spd_canonical.proofs.printing.print_program.Goals as goal

pub returns-clause-again : goal.returns-clause-again
returns-clause-again c source is = subst (λ (text : List ℕ). IsTextAgain c.args.program.now text) (sym c.in_ok-text.ensures)
    (read_again c.args.program.now _ is.spelled is.kept)
