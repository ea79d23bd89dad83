use Rattle.std.proofs.Common.{◌≡◌, ◌+◌, ◌-◌, ◌*◌, []}
use Rattle.spd_syntax.specs.Symbols.{all_seen}
use Rattle.spd_read.specs.Reading.{repeat, step, loops}
use Rattle.spd_syntax.specs.Shapes.{snoc}
use Rattle.spd_syntax.specs.Grammar.{a_statement, statement}
use Rattle.spd_parse.proofs.statements.+block.Given as goal

abbrev pub invariant-more_statements-loop : goal.invariant-more_statements-loop
invariant-more_statements-loop l = repeat a_statement (step l.depth snoc statement) (l.limit - l.counter) l.found (all_seen l.text l.rest)
    ≡ loops l.depth a_statement snoc statement [] (all_seen l.text l.fn.tokens)

abbrev pub decreases-block : goal.decreases-block
decreases-block l = 8 * l.depth + 0

abbrev pub decreases-async_statement : goal.decreases-async_statement
decreases-async_statement l = 8 * l.depth + 1

abbrev pub decreases-finish_statement : goal.decreases-finish_statement
decreases-finish_statement l = 8 * l.depth + 1

abbrev pub decreases-for_statement : goal.decreases-for_statement
decreases-for_statement l = 8 * l.depth + 1

abbrev pub decreases-otherwise : goal.decreases-otherwise
decreases-otherwise l = 8 * l.depth + 1

abbrev pub decreases-if_statement : goal.decreases-if_statement
decreases-if_statement l = 8 * l.depth + 2

abbrev pub decreases-let_finish : goal.decreases-let_finish
decreases-let_finish l = 8 * l.depth + 1

abbrev pub decreases-let_value : goal.decreases-let_value
decreases-let_value l = 8 * l.depth + 2

abbrev pub decreases-let_statement : goal.decreases-let_statement
decreases-let_statement l = 8 * l.depth + 3

abbrev pub decreases-statement : goal.decreases-statement
decreases-statement l = 8 * l.depth + 4

abbrev pub decreases-next_statement : goal.decreases-next_statement
decreases-next_statement l = 8 * l.depth + 5

abbrev pub decreases-more_statements : goal.decreases-more_statements
decreases-more_statements l = 8 * l.depth + 6

abbrev pub decreases-statements : goal.decreases-statements
decreases-statements l = 8 * l.depth + 7
