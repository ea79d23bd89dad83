-- What one word does to the walk of `clap`, and what it asks: an option's word, its value, a flag, an operand.
use Rattle.std.proofs.Common.{◌≡◌, ◌==◌, ◌&&◌, ◌+◌, ◌<◌, ℕ, Bool, true, false, refl, ap, arith, List, [], ◌∷◌, Some, None, min, if◌then◌else◌}
use Rattle.std.specs.Str.{bytes_eq}
use Rattle.std.proofs.lemmas.Cmp.{nat_list_eq_equiv}
use Rattle.clap.specs.declared.builder.action.ArgAction.TheVariants.{Set, SetTrue}
use Rattle.clap.specs.Simple.{Shape, filled, new_rule, with_index}
use Rattle.clap.specs.Walk.{Held, Rule, Walk, Text, idle, option, reacted, settled, walked, arg_by_id, arg_by_long, arg_by_index, is_pending}
use Rattle.clap.specs.Lexer.{long_of, usize_max}
use Rattle.clap.specs.Takes.{react_passes, settle_passes, turn_passes}
use Rattle.clap.proofs.OnLiterals.{clap_on_literals}
use Rattle.spd_command.specs.declared.argument.Argument.{Argument}
use Rattle.spd_command.specs.declared.argument.Argument.TheVariants.{Program, Rows, FileSeed, Workers, Moves, Nodes, Tree, Grow, Seed, Counts}
use Rattle.spd_command.specs.Table.{argument_name, is_flag}
use Rattle.spd_command.specs.Matching.{operand_rule, option_rule}

-- ---- arguments as they are built

abbrev pub option_built : Argument → Rule
option_built a = with_index 0 (filled (option_rule a))

-- an option that stands alone, or one with a value
abbrev pub built_as : Bool → Argument → Rule
built_as alone a = with_index 0 (filled (record (new_rule (argument_name a)) {
  long = Some (argument_name a);
  action = Some (if alone then SetTrue else Set);
}))

pub built_is : (a : Argument) (alone : Bool) → is_flag a ≡ alone → option_built a ≡ built_as alone a
built_is a alone e = ap (λ t. built_as t a) e

abbrev pub operand_built : ℕ → Argument → Rule
operand_built i a = with_index i (filled (operand_rule a))

-- ---- words

no_dashes : (a : Argument) → bytes_eq (argument_name a) [] ≡ false
no_dashes Program = refl
no_dashes Rows = refl
no_dashes FileSeed = refl
no_dashes Workers = refl
no_dashes Moves = refl
no_dashes Nodes = refl
no_dashes Tree = refl
no_dashes Grow = refl
no_dashes Seed = refl
no_dashes Counts = refl

long_word : (a : Argument) → long_of (45 ∷ 45 ∷ argument_name a) ≡ Some (argument_name a, None)
long_word Program = refl
long_word Rows = refl
long_word FileSeed = refl
long_word Workers = refl
long_word Moves = refl
long_word Nodes = refl
long_word Tree = refl
long_word Grow = refl
long_word Seed = refl
long_word Counts = refl

-- ---- between two words

-- nothing waits for a value
abbrev pub between : Held → ℕ → Walk
between h q = record { held = h; waiting = idle; position = q; is_trailing = false; stopped = None }

-- an option waits for its value
abbrev pub awaiting : Argument → Held → ℕ → Walk
awaiting a h q = record { held = h; waiting = option (argument_name a); position = q; is_trailing = false; stopped = None }

-- what was pending is used, and this waits to be
abbrev pub begun : List Rule → Argument → List Text → Held → Held
begun rules a values h = record (settled rules h) { pending = Some (argument_name a, values) }

module _ (rules : List Rule) (h : Held) (q : ℕ) where
  pub flag_walk : (a : Argument) → arg_by_long rules (argument_name a) ≡ Some (built_as true a)
      → walked rules [] (between h q) (45 ∷ 45 ∷ argument_name a) ≡ between (reacted rules (built_as true a) [] h) q
  unfolding clap_on_literals
  flag_walk a is = rw (no_dashes a) (rw (long_word a) (rw is refl))

  pub option_walk : (a : Argument) → arg_by_long rules (argument_name a) ≡ Some (built_as false a)
      → walked rules [] (between h q) (45 ∷ 45 ∷ argument_name a) ≡ awaiting a (begun rules a [] h) q
  unfolding clap_on_literals
  option_walk a is = rw (no_dashes a) (rw (long_word a) (rw is refl))

  pub value_walk : (a : Argument) (b : ℕ) (bs : List ℕ) → (b == 45) ≡ false → arg_by_id rules (argument_name a) ≡ Some (built_as false a)
      → walked rules [] (awaiting a (begun rules a [] h) q) (b ∷ bs) ≡ between (begun rules a ((b ∷ bs) ∷ []) h) q
  unfolding clap_on_literals
  value_walk a b bs plain is = rw plain (rw plain (rw is (rw (nat_list_eq_equiv.refl (argument_name a)) refl)))

and_false : (b : Bool) → (b && false) ≡ false
and_false true = refl
and_false false = refl

next_place : (q : ℕ) → q < 100 → min (q + 1) usize_max ≡ q + 1
next_place q few = omega (arith, few)

module _ (rules : List Rule) (h : Held) (q : ℕ) (few : q < 100) (a : Argument) (is : arg_by_index rules q ≡ Some (operand_built q a)) where
  pub operand_walk : (b : ℕ) (bs : List ℕ) → (b == 45) ≡ false
      → walked rules [] (between h q) (b ∷ bs) ≡ between (begun rules a ((b ∷ bs) ∷ []) h) (q + 1)
  unfolding clap_on_literals
  operand_walk b bs plain =
      rw plain (rw plain (rw is (rw (and_false (is_pending (operand_built q a) h.pending)) (rw (next_place q few) refl))))

-- ---- what the words ask

module _ (s : Shape) (plain_shape : s.args_override_self ≡ false) (h : Held) (q : ℕ) where
  pub flag_turn : (a : Argument) → arg_by_long s.rules (argument_name a) ≡ Some (built_as true a)
      → turn_passes s [] (between h q) (45 ∷ 45 ∷ argument_name a) ≡ (react_passes s.rules false (built_as true a) [] h && true)
  unfolding clap_on_literals
  flag_turn a is = rw (no_dashes a) (rw (long_word a) (rw is (rw plain_shape refl)))

  pub option_turn : (a : Argument) → arg_by_long s.rules (argument_name a) ≡ Some (built_as false a)
      → turn_passes s [] (between h q) (45 ∷ 45 ∷ argument_name a) ≡ (settle_passes s.rules false h && true)
  unfolding clap_on_literals
  option_turn a is = rw (no_dashes a) (rw (long_word a) (rw is (rw plain_shape refl)))

  pub value_turn : (a : Argument) (b : ℕ) (bs : List ℕ) → (b == 45) ≡ false
      → turn_passes s [] (awaiting a h q) (b ∷ bs) ≡ true
  unfolding clap_on_literals
  value_turn a b bs plain = rw plain (rw plain refl)

  pub operand_turn : (a : Argument) (b : ℕ) (bs : List ℕ) → (b == 45) ≡ false → arg_by_index s.rules q ≡ Some (operand_built q a)
      → turn_passes s [] (between h q) (b ∷ bs) ≡ settle_passes s.rules false h
  unfolding clap_on_literals
  operand_turn a b bs plain is =
      rw plain (rw plain (rw is (rw (and_false (is_pending (operand_built q a) h.pending)) (rw plain_shape refl))))
