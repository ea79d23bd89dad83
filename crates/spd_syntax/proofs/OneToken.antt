-- The grammar is read with one token ahead.
use Rattle.std.proofs.Common.{◌≡◌, true, refl}
use Rattle.spd_syntax.specs.Symbols.{same_word, same_mark}
use Rattle.spd_syntax.specs.Shape.{Nonterminal, expr, args, params, stmts, a_name, name_place, name_two_places, name_place_text}
use Rattle.spd_syntax.specs.OneAhead.{one_ahead, goes_on, apart, plain}
use Rattle.spd_syntax.specs.Limits.{closing}
use Rattle.spd_syntax.specs.Grammar.{grammar, literal, behind_name, name_led, parens, len_of, size_of, at_of, same_of, begins_of, nameless, primary, unary_operator, signed, unary, nameless_unary, operators, operator, operation, behind_operand, expression, quoted, part, parts, arguments, parameters, collect_kind, let_finish, let_call, let_named, let_name, nameless_expression, let_nameless, let_value, let_statement, assign_statement, otherwise, if_statement, for_statement, async_statement, finish_statement, offer_statement, run_statement, return_statement, print_statement, statement, statements, column_type, column_item, lines_item, function_item, task_item, main_item, any_item, program, place, two_places, place_text}

-- by computing
pub grammar_ahead : (rule : Nonterminal) → one_ahead (grammar rule) ≡ true
unfolding same_word same_mark literal behind_name name_led parens len_of size_of at_of same_of begins_of nameless primary unary_operator signed unary
    nameless_unary operators operator operation behind_operand expression quoted part parts arguments parameters collect_kind let_finish let_call let_named
    let_name nameless_expression let_nameless let_value let_statement assign_statement otherwise if_statement for_statement async_statement finish_statement
    offer_statement run_statement return_statement print_statement statement statements column_type column_item lines_item function_item task_item main_item
    any_item program place two_places place_text
grammar_ahead expr = refl
grammar_ahead args = refl
grammar_ahead params = refl
grammar_ahead stmts = refl
grammar_ahead a_name = refl
grammar_ahead name_place = refl
grammar_ahead name_two_places = refl
grammar_ahead name_place_text = refl

-- No rule goes on with a closing bracket.
pub grammar_ends : (rule : Nonterminal) → apart (goes_on (grammar rule)) closing ≡ true
unfolding same_word same_mark literal behind_name name_led parens len_of size_of at_of same_of begins_of nameless primary unary_operator signed unary
    nameless_unary operators operator operation behind_operand expression quoted part parts arguments parameters collect_kind let_finish let_call let_named
    let_name nameless_expression let_nameless let_value let_statement assign_statement otherwise if_statement for_statement async_statement finish_statement
    offer_statement run_statement return_statement print_statement statement statements column_type column_item lines_item function_item task_item main_item
    any_item program place two_places place_text
grammar_ends expr = refl
grammar_ends args = refl
grammar_ends params = refl
grammar_ends stmts = refl
grammar_ends a_name = refl
grammar_ends name_place = refl
grammar_ends name_two_places = refl
grammar_ends name_place_text = refl

-- Each rule spells something without brackets.
pub grammar_plain : (rule : Nonterminal) → plain (grammar rule) ≡ true
unfolding same_word same_mark literal behind_name name_led parens len_of size_of at_of same_of begins_of nameless primary unary_operator signed unary
    nameless_unary operators operator operation behind_operand expression quoted part parts arguments parameters collect_kind let_finish let_call let_named
    let_name nameless_expression let_nameless let_value let_statement assign_statement otherwise if_statement for_statement async_statement finish_statement
    offer_statement run_statement return_statement print_statement statement statements column_type column_item lines_item function_item task_item main_item
    any_item program place two_places place_text
grammar_plain expr = refl
grammar_plain args = refl
grammar_plain params = refl
grammar_plain stmts = refl
grammar_plain a_name = refl
grammar_plain name_place = refl
grammar_plain name_two_places = refl
grammar_plain name_place_text = refl

pub program_ahead : one_ahead program ≡ true
unfolding same_word same_mark literal behind_name name_led parens len_of size_of at_of same_of begins_of nameless primary unary_operator signed unary
    nameless_unary operators operator operation behind_operand expression quoted part parts arguments parameters collect_kind let_finish let_call let_named
    let_name nameless_expression let_nameless let_value let_statement assign_statement otherwise if_statement for_statement async_statement finish_statement
    offer_statement run_statement return_statement print_statement statement statements column_type column_item lines_item function_item task_item main_item
    any_item program place two_places place_text
program_ahead = refl
