use Rattle.std.proofs.Common.{◌≡◌, drop}
use Rattle.std.specs.Prelude.{map}
use Rattle.spd_meaning.specs.Values.{all_texts}
use Rattle.spd_code.specs.Coded.{code_part_value}
use Rattle.spd_level.specs.Columns.{around_columns}
use Rattle.spd_level.specs.Found.{text_onto}
use Rattle.spd_level.proofs.text.text_of.Given as goal

abbrev pub invariant-loop-part : goal.invariant-loop-part
invariant-loop-part l =
    text_onto l.text.items (all_texts (map (λ p. code_part_value (around_columns l.columns) p l.vars l.line) (drop l.part-index l.parts)))
    ≡ all_texts (map (λ p. code_part_value (around_columns l.columns) p l.vars l.line) l.parts)
