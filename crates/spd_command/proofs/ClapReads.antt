-- `clap` takes lawful words, and reads what they give.
use Rattle.std.proofs.Common.{◌≡◌, ◌∙◌, ◌&&◌, ◌+◌, ◌<◌, inl, inr, ℕ, true, false, refl, sym, ap, ap₂, subst, arith, List, [], ◌∷◌, ◌++◌, length, Option, Some, None, fold}
use Rattle.std.proofs.lemmas.List.{append_assoc, append-nil}
use Rattle.clap.specs.Simple.{Shape}
use Rattle.clap.specs.Walk.{Rule, Text, walked, arg_by_id, arg_by_long, arg_by_index}
use Rattle.clap.specs.Takes.{walk_passes, turn_passes}
use Rattle.spd_command.specs.declared.argument.Argument.{Argument}
use Rattle.spd_command.specs.Table.{argument_name, option_called, kind_of_value}
use Rattle.spd_command.specs.Lines.{Passed}
use Rattle.spd_command.proofs.PlainWords.{Plain, plain_value}
use Rattle.spd_command.proofs.Falls.{Falls, ended, operand_next, flag_next, option_next}
use Rattle.spd_command.proofs.Once.{option_word}
use Rattle.spd_command.proofs.ClapWalk.{option_built, built_as, built_is, operand_built, between, begun}
use Rattle.spd_command.proofs.ClapWalk.{flag_walk, option_walk, value_walk, operand_walk, flag_turn, option_turn, value_turn, operand_turn}
use Rattle.spd_command.proofs.ClapRows.{listed, holding, is_new, MayBeUsed, settles, begins, flag_given, flag_settles, flag_reacts}
use Rattle.spd_command.proofs.Apart.{Apart}

-- the operands stand in the rules from this place on, and are found by name and by place
abbrev pub AreOperands : List Rule → ℕ → List Argument → Type 0
AreOperands rules q [] = Unit {0}
AreOperands rules q (a ∷ operands) =
    ((arg_by_index rules q ≡ Some (operand_built q a)) × (arg_by_id rules (argument_name a) ≡ Some (operand_built q a))) × AreOperands rules (q + 1) operands

-- the options are found by name
abbrev pub AreOptions : List Rule → List Argument → Type 0
AreOptions rules options = (a : Argument) (word : List ℕ) → option_called options word ≡ Some a
    → (arg_by_long rules (argument_name a) ≡ Some (option_built a)) × (arg_by_id rules (argument_name a) ≡ Some (option_built a))

length_cons : {X : Type 0} (x : X) (xs : List X) → length (x ∷ xs) ≡ 1 + length xs
length_cons x xs = omega arith

module _ (s : Shape) (plain_shape : s.args_override_self ≡ false) (options : List Argument) (are : AreOptions s.rules options) where
  -- the walk over words that give these arguments, from behind others
  pub record Ends (done : List Passed) (last : Option Passed) (q : ℕ) (words : List Text) (all : List Passed) : Type 0 where
    pub done_then : List Passed
    pub last_then : Option Passed
    pub place : ℕ
    pub walk_is : fold (walked s.rules []) (between (holding done last) q) words ≡ between (holding done_then last_then) place
    pub may : MayBeUsed s.rules done_then last_then
    pub total : done_then ++ listed last_then ≡ (done ++ listed last) ++ all
    pub passes : walk_passes s [] (between (holding done last) q) words ≡ true

  -- one argument more, by some words
  step : (done : List Passed) (last : Option Passed) (q : ℕ) (next_done : List Passed) (next_last : Option Passed) (next_q : ℕ)
      (p : Passed) (words rest : List Text) (all : List Passed) → next_done ++ listed next_last ≡ (done ++ listed last) ++ p ∷ []
      → fold (walked s.rules []) (between (holding done last) q) words ≡ fold (walked s.rules []) (between (holding next_done next_last) next_q) rest
      → walk_passes s [] (between (holding done last) q) words ≡ walk_passes s [] (between (holding next_done next_last) next_q) rest
      → Ends next_done next_last next_q rest all → Ends done last q words (p ∷ all)
  step done last q next_done next_last next_q p words rest all more walks passes ends = record {
    done_then = ends.done_then;
    last_then = ends.last_then;
    place = ends.place;
    walk_is = walks ∙ ends.walk_is;
    may = ends.may;
    total = ends.total ∙ ap (λ z. z ++ all) more ∙ append_assoc (done ++ listed last) (p ∷ []) all;
    passes = passes ∙ ends.passes;
  }

  begins_at : (done : List Passed) (last : Option Passed) (q : ℕ) (a : Argument) (value : Text) → MayBeUsed s.rules done last
      → between (begun s.rules a (value ∷ []) (holding done last)) q ≡ between (holding (done ++ listed last) (Some (record { argument = a; value = value }))) q
  begins_at done last q a value may = ap (λ h. between h q) (begins s.rules done last (record { argument = a; value = value }) may)

  operand_step : (done : List Passed) (last : Option Passed) (q : ℕ) (a : Argument) (word : Text) (rest : List Text) (all : List Passed) → Plain word → q < 100
      → arg_by_index s.rules q ≡ Some (operand_built q a) → MayBeUsed s.rules done last
      → Ends (done ++ listed last) (Some (record { argument = a; value = word })) (q + 1) rest all → Ends done last q (word ∷ rest) (record { argument = a; value = word } ∷ all)
  unfolding walk_passes
  operand_step done last q a word rest all (b, bs, is, plain) few at may =
      subst (λ (w : Text). Ends (done ++ listed last) (Some (record { argument = a; value = w })) (q + 1) rest all → Ends done last q (w ∷ rest) (record { argument = a; value = w } ∷ all)) (sym is)
      (let walks = operand_walk s.rules (holding done last) q few a at b bs plain ∙ begins_at done last (q + 1) a (b ∷ bs) may in
      step done last q (done ++ listed last) (Some (record { argument = a; value = b ∷ bs })) (q + 1) (record { argument = a; value = b ∷ bs })
      ((b ∷ bs) ∷ rest) rest all refl
      (ap (λ w. fold (walked s.rules []) w rest) walks)
      (ap₂ (λ t w. t && walk_passes s [] w rest) (operand_turn s plain_shape (holding done last) q a b bs plain at ∙ settles s.rules done last may) walks))

  flag_step : (done : List Passed) (last : Option Passed) (q : ℕ) (a : Argument) (word : Text) (rest : List Text) (all : List Passed)
      → word ≡ 45 ∷ 45 ∷ argument_name a → arg_by_long s.rules (argument_name a) ≡ Some (built_as true a) → MayBeUsed s.rules done last
      → is_new a (done ++ listed last) ≡ true → Ends ((done ++ listed last) ++ flag_given a ∷ []) None q rest all
      → Ends done last q (word ∷ rest) (flag_given a ∷ all)
  unfolding walk_passes
  flag_step done last q a word rest all named by_long may new =
      subst (λ (w : Text). Ends ((done ++ listed last) ++ flag_given a ∷ []) None q rest all → Ends done last q (w ∷ rest) (flag_given a ∷ all)) (sym named)
      (let h = holding done last in
      let walks = flag_walk s.rules h q a by_long ∙ ap (λ h. between h q) (flag_reacts s.rules done last a may new) in
      step done last q ((done ++ listed last) ++ flag_given a ∷ []) None q (flag_given a) ((45 ∷ 45 ∷ argument_name a) ∷ rest) rest all
      (append-nil ((done ++ listed last) ++ flag_given a ∷ []))
      (ap (λ w. fold (walked s.rules []) w rest) walks)
      (ap₂ (λ t w. t && walk_passes s [] w rest)
      (flag_turn s plain_shape h q a by_long ∙ ap (λ t. t && true) (flag_settles s.rules done last a may new)) walks))

  option_step : (done : List Passed) (last : Option Passed) (q : ℕ) (a : Argument) (word value : Text) (rest : List Text) (all : List Passed)
      → word ≡ 45 ∷ 45 ∷ argument_name a → Plain value
      → arg_by_long s.rules (argument_name a) ≡ Some (built_as false a) → arg_by_id s.rules (argument_name a) ≡ Some (built_as false a)
      → MayBeUsed s.rules done last
      → Ends (done ++ listed last) (Some (record { argument = a; value = value })) q rest all
      → Ends done last q (word ∷ value ∷ rest) (record { argument = a; value = value } ∷ all)
  unfolding walk_passes
  option_step done last q a word value rest all named (b, bs, is, plain) by_long by_id may =
      subst (λ (w : Text). Ends (done ++ listed last) (Some (record { argument = a; value = value })) q rest all → Ends done last q (w ∷ value ∷ rest) (record { argument = a; value = value } ∷ all)) (sym named)
      (subst (λ (v : Text). Ends (done ++ listed last) (Some (record { argument = a; value = v })) q rest all
      → Ends done last q ((45 ∷ 45 ∷ argument_name a) ∷ v ∷ rest) (record { argument = a; value = v } ∷ all)) (sym is)
      (let h = holding done last in
      let met = option_walk s.rules h q a by_long in
      let walks = value_walk s.rules h q a b bs plain by_id ∙ begins_at done last q a (b ∷ bs) may in
      step done last q (done ++ listed last) (Some (record { argument = a; value = b ∷ bs })) q (record { argument = a; value = b ∷ bs })
      ((45 ∷ 45 ∷ argument_name a) ∷ (b ∷ bs) ∷ rest) rest all refl
      (ap (λ w. fold (walked s.rules []) (walked s.rules [] w (b ∷ bs)) rest) met ∙ ap (λ w. fold (walked s.rules []) w rest) walks)
      (ap₂ (λ t w. t && (turn_passes s [] w (b ∷ bs) && walk_passes s [] (walked s.rules [] w (b ∷ bs)) rest))
      (option_turn s plain_shape h q a by_long ∙ ap (λ t. t && true) (settles s.rules done last may)) met
      ∙ ap₂ (λ t w. t && walk_passes s [] w rest) (value_turn s plain_shape (begun s.rules a [] h) q a b bs plain) walks)))

  pub reads : (operands : List Argument) (words : List Text) (all : List Passed) → Falls options operands words all
      → (done : List Passed) (last : Option Passed) (q : ℕ) → q + length operands < 100 → AreOperands s.rules q operands → MayBeUsed s.rules done last
      → Apart (done ++ listed last) all → Ends done last q words all
  unfolding walk_passes
  reads _ _ _ ended done last q few at may apart = record {
    done_then = done;
    last_then = last;
    place = q;
    walk_is = refl;
    may = may;
    total = sym (append-nil (done ++ listed last));
    passes = refl;
  }
  reads _ _ _ (operand_next a operands word words all none value rest) done last q few at may apart =
      let p : Passed = record { argument = a; value = word } in
      let here = length_cons a operands in
      operand_step done last q a word words all (plain_value (kind_of_value a) word value) (omega (arith, few, here)) at.0.0 may
      (reads operands words all rest (done ++ listed last) (Some p) (q + 1) (omega (arith, few, here)) at.1 (inr (q, at.0.1), apart.0) apart.1)
  reads operands _ _ (flag_next a _ word words all named flag rest) done last q few at may apart =
      let (by_long, by_id) = are a word named in
      flag_step done last q a word words all (option_word options word a named) (by_long ∙ ap Some (built_is a true flag)) may apart.0
      (reads operands words all rest ((done ++ listed last) ++ flag_given a ∷ []) None q few at tt (subst (λ z. Apart z all) (sym (append-nil _)) apart.1))
  reads operands _ _ (option_next a _ word value words all named valued admitted rest) done last q few at may apart =
      let p : Passed = record { argument = a; value = value } in
      let (long_is, id_is) = are a word named in
      let by_long = long_is ∙ ap Some (built_is a false valued) in
      let by_id = id_is ∙ ap Some (built_is a false valued) in
      option_step done last q a word value words all (option_word options word a named) (plain_value (kind_of_value a) value admitted) by_long by_id may
      (reads operands words all rest (done ++ listed last) (Some p) q few at (inl by_id, apart.0) apart.1)
