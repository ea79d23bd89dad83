use Rattle.std.proofs.Common.{◌≡◌, ◌-◌, [], ◌∷◌}
use Rattle.spd_syntax.specs.declared.token.Mark.TheVariants.{Comma}
use Rattle.spd_syntax.specs.Symbols.{all_seen}
use Rattle.spd_read.specs.Reading.{repeat, step, loops}
use Rattle.spd_syntax.specs.Shapes.{after_mark, snoc, a_mark}
use Rattle.spd_syntax.specs.Grammar.{part}
use Rattle.spd_parse.proofs.printing.more_parts.Given as goal

abbrev pub invariant-loop : goal.invariant-loop
invariant-loop l = repeat (a_mark Comma) (step l.depth snoc (after_mark Comma part)) (l.limit - l.counter) l.found (all_seen l.text l.rest)
    ≡ loops l.depth (a_mark Comma) snoc (after_mark Comma part) (l.fn.first ∷ []) (all_seen l.text l.fn.tokens)
