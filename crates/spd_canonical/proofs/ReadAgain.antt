-- A program that a text spells within the limits is spelled by its canonical text, within them too, but for its lines.
use Rattle.std.proofs.Common.{◌≡◌, List, [], ◌∷◌, refl, sym, ◌∙◌, ap, subst, arith}
use Rattle.spd_syntax.specs.declared.tree.Item.{Item}
use Rattle.spd_syntax.specs.declared.tree.Program.{Program}
use Rattle.spd_syntax.specs.Tokens.{Symbol, Seen}
use Rattle.spd_syntax.specs.Symbols.{all_seen, IsLawfulSymbol, Eachly}
use Rattle.spd_syntax.specs.Grammar.{program}
use Rattle.spd_syntax.specs.Limits.{max_depth, no_counts, KeepsLimits}
use Rattle.spd_syntax.specs.Faults.{IsSpelled}
use Rattle.spd_canonical.specs.Canonical.{program_symbols}
use Rattle.spd_canonical.specs.Layout.{layout, canonical_text}
use Rattle.spd_canonical.specs.Texts.{IsTextAgain}
use Rattle.spd_syntax.proofs.OneToken.{program_ahead}
use Rattle.spd_canonical.proofs.Nesting.{keeps, spelled_within}
use Rattle.spd_syntax.proofs.Fitting.{spelled_fit, lawful_marks, lawful_small}
use Rattle.spd_canonical.proofs.SameCounts.{counts_of, counts_of_symbols}
use Rattle.spd_canonical.proofs.Says.{symbols}
use Rattle.spd_canonical.proofs.AgainProgram.{again_program}
use Rattle.spd_canonical.proofs.LaidAgain.{Lawfuls, layout_again}

-- symbols on a line
on_line : List Symbol → List Seen
on_line [] = []
on_line (s ∷ ss) = (s, 0) ∷ on_line ss

symbols_on_line : (ss : List Symbol) → symbols (on_line ss) ≡ ss
unfolding on_line
symbols_on_line [] = refl
symbols_on_line (s ∷ ss) = ap (λ (us : List Symbol). s ∷ us) (symbols_on_line ss)

lawful_symbols : (ts : List Seen) → Eachly IsLawfulSymbol ts → Lawfuls (symbols ts)
lawful_symbols [] h = tt
lawful_symbols (t ∷ ts) h = (h.0, lawful_symbols ts h.1)

pub read_again : (p : Program) (ts : List Seen) → IsSpelled program p ts → KeepsLimits ts → IsTextAgain p (canonical_text p)
read_again p ts s kept =
    let deep = spelled_within IsLawfulSymbol program program_ahead max_depth s.brackets p ts s.is kept.each in
    let h = (again_program max_depth).of p ts deep in
    let some = h.says (on_line h.again) (symbols_on_line h.again) in
    let lawful = lawful_symbols (on_line h.again) (spelled_fit IsLawfulSymbol lawful_marks program some.value (on_line h.again)
    (record { brackets = max_depth; is = some.is })) in
    let fits : Lawfuls (program_symbols p) = subst (λ (ss : List Symbol). Lawfuls ss) (symbols_on_line h.again ∙ h.are) lawful in
    let cut = layout_again (program_symbols p) fits in
    let us = all_seen (canonical_text p) cut.tokens in
    let said = h.says us (cut.are ∙ sym h.are) in
    record {
      again = said.value;
      read = record {
        tokens = cut.tokens;
        cut = cut.is;
        spelled = record { brackets = max_depth; is = said.is };
        kept = record {
          each = keeps IsLawfulSymbol lawful_small program program_ahead max_depth max_depth (omega arith) said.value us said.is;
          counts = record {
            counts = kept.counts.counts;
            counted = counts_of_symbols no_counts us ∙ ap (counts_of no_counts) (cut.are ∙ sym h.are) ∙ sym (h.same.is no_counts)
                ∙ sym (counts_of_symbols no_counts ts) ∙ kept.counts.counted;
          };
        };
      };
      same = ap (λ (items : List Item). record { items = items; last_line = 0 }) said.fits.bare;
      printed = ap layout said.fits.text;
    }
