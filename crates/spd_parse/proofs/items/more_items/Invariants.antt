use Rattle.std.proofs.Common.{◌≡◌, ◌-◌}
use Rattle.spd_syntax.specs.Symbols.{all_seen}
use Rattle.spd_read.specs.Reading.{repeat, step, loops}
use Rattle.spd_syntax.specs.Grammar.{an_item, with_item, any_item}
use Rattle.spd_parse.proofs.items.more_items.Given as goal

abbrev pub invariant-loop : goal.invariant-loop
invariant-loop l = repeat an_item (step l.depth with_item any_item) (l.limit - l.counter) l.found (all_seen l.text l.rest)
    ≡ loops l.depth an_item with_item any_item l.fn.first (all_seen l.text l.fn.tokens)
