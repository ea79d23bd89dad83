-- Which finish a share is told, where a unit of a root leaves.
use Rattle.std.specs.Prelude.{ℕ, Option, Some, None, cond, ◌==◌}
use Rattle.spd_words.specs.Words.{Node}
use Rattle.spd_rule.specs.Steps.{IsTold}
use Rattle.spd_state.specs.declared.view.View.{View}

-- Root d's, where its count was 1: the word has twice the count.
abbrev pub told_by : ℕ → Node → Option ℕ
told_by d n = cond (n.twice == 2) (Some d) None

-- the share knows that it is told the finish
abbrev pub KnowsTold : Option ℕ → View → Type 0
KnowsTold None v = Unit {0}
KnowsTold (Some f) v = IsTold f v
