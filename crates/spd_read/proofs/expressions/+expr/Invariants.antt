use Rattle.std.proofs.Common.{◌≡◌, ◌+◌, ◌-◌, ◌*◌}
use Rattle.spd_syntax.specs.Symbols.{all_seen}
use Rattle.spd_read.specs.Reading.{repeat, step, loops}
use Rattle.spd_syntax.specs.Grammar.{operators, operation, into, at_level}
use Rattle.spd_read.proofs.expressions.+expr.Given as goal

abbrev pub decreases-expression : goal.decreases-expression
decreases-expression l = 64 * l.depth + 40

abbrev pub decreases-at_level : goal.decreases-at_level
decreases-at_level l = 64 * l.depth + 6 + 5 * l.level

abbrev pub decreases-behind_operand : goal.decreases-behind_operand
decreases-behind_operand l = 64 * l.depth + 5 * l.level + 5

abbrev pub decreases-grouped : goal.decreases-grouped
decreases-grouped l = 64 * l.depth + 5 * l.level + 9

abbrev pub decreases-operations : goal.decreases-operations
decreases-operations l = 64 * l.depth + 5 * l.level + 8

abbrev pub decreases-operation : goal.decreases-operation
decreases-operation l = 64 * l.depth + 5 * l.level + 7

abbrev pub decreases-unary : goal.decreases-unary
decreases-unary l = 64 * l.depth + 4

abbrev pub decreases-signed : goal.decreases-signed
decreases-signed l = 64 * l.depth + 3

abbrev pub decreases-primary : goal.decreases-primary
decreases-primary l = 64 * l.depth + 2

abbrev pub decreases-nameless : goal.decreases-nameless
decreases-nameless l = 64 * l.depth + 1

abbrev pub decreases-name_led : goal.decreases-name_led
decreases-name_led l = 64 * l.depth + 1

abbrev pub decreases-parens : goal.decreases-parens
decreases-parens l = 64 * l.depth + 0

abbrev pub decreases-behind_name : goal.decreases-behind_name
decreases-behind_name l = 64 * l.depth + 0

abbrev pub decreases-size_of : goal.decreases-size_of
decreases-size_of l = 64 * l.depth + 0

abbrev pub decreases-at_of : goal.decreases-at_of
decreases-at_of l = 64 * l.depth + 0

abbrev pub decreases-same_of : goal.decreases-same_of
decreases-same_of l = 64 * l.depth + 0

abbrev pub decreases-begins_of : goal.decreases-begins_of
decreases-begins_of l = 64 * l.depth + 0

abbrev pub decreases-place : goal.decreases-place
decreases-place l = 64 * l.depth + 41

abbrev pub decreases-two_places : goal.decreases-two_places
decreases-two_places l = 64 * l.depth + 41

abbrev pub decreases-place_text : goal.decreases-place_text
decreases-place_text l = 64 * l.depth + 41

abbrev pub invariant-operations-loop : goal.invariant-operations-loop
invariant-operations-loop l = repeat (operators (l.level + 1)) (step l.depth into (operation (l.level + 1) (at_level l.level))) (l.limit - l.counter) l.left
    (all_seen l.text l.rest) ≡ loops l.depth (operators (l.level + 1)) into (operation (l.level + 1) (at_level l.level)) l.fn.first
    (all_seen l.text l.fn.tokens)
