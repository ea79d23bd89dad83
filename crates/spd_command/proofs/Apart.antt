-- Where no option is given twice, no argument is.
use Rattle.std.proofs.Common.{◌≡◌, ◌∙◌, ◌&&◌, ◌||◌, ◌+◌, ◌≤◌, ℕ, Bool, true, false, not, cond, refl, sym, ap, ap₂, subst, arith, List, [], ◌∷◌, ◌++◌, Option, Some, None, nat_le, count_by, find, is_some, true≢false}
use Rattle.std.specs.List.{list_all}
use Rattle.std.specs.Str.{bytes_eq}
use Rattle.std.proofs.lemmas.Cmp.{nat_list_eq_equiv}
use Rattle.std.proofs.lemmas.List.{append_assoc}
use Rattle.std.proofs.lemmas.List.Sums.{sum_by-cons}
use Rattle.std.proofs.lemmas.Bool.Decides.{nat_tests}
use Rattle.clap.specs.Walk.{has_row}
use Rattle.clap.proofs.WalkLemmas.{both}
use Rattle.spd_command.specs.declared.argument.Argument.{Argument}
use Rattle.spd_command.specs.Table.{argument_name, option_called, is_option_word}
use Rattle.spd_command.specs.Values.{flag_value}
use Rattle.spd_command.specs.Lines.{Passed, passes, are_given_once}
use Rattle.spd_command.proofs.Falls.{Falls, ended, operand_next, flag_next, option_next}
use Rattle.spd_command.proofs.Once.{differs}
use Rattle.spd_command.proofs.ClapRows.{given_rows, is_new}

-- each argument is new behind those before it
abbrev pub Apart : List Passed → List Passed → Type 0
Apart done [] = Unit {0}
Apart done (p ∷ rest) = (is_new p.argument done ≡ true) × Apart (done ++ p ∷ []) rest

-- the operands have different names
abbrev pub all_differ : List Argument → Bool
all_differ [] = true
all_differ (a ∷ operands) = list_all (λ b. not (bytes_eq (argument_name a) (argument_name b))) operands && all_differ operands

-- each is new behind these
abbrev are_new : List Argument → List Passed → Bool
are_new operands done = list_all (λ a. is_new a done) operands

-- none of the options is given more than once
abbrev AtMostOnce : List Argument → List Passed → Type 0
AtMostOnce options all = (a : Argument) (word : List ℕ) → option_called options word ≡ Some a → count_by (passes a) all ≤ 1

push_here : (t : Bool) (old new : Bool) → (not old ≡ true → not new ≡ true) → not (t || old) ≡ true → not (t || new) ≡ true
push_here true old new rec e = e
push_here false old new rec e = rec e

new_push : (a : Argument) (p : Passed) (done : List Passed) → passes a p ≡ false → is_new a done ≡ true → is_new a (done ++ p ∷ []) ≡ true
new_push a p [] none e = ap (λ t. not (t || false)) none
new_push a p (q ∷ done) none e =
    push_here (passes a q) (has_row (argument_name a) (given_rows done)) (has_row (argument_name a) (given_rows (done ++ p ∷ []))) (new_push a p done none) e

untrue : (b : Bool) → not b ≡ true → b ≡ false
untrue false e = refl
untrue true e = absurd (true≢false (sym e))

-- behind one more of another name all are still new
all_push : (operands : List Argument) (p : Passed) (done : List Passed) → list_all (λ b. not (bytes_eq (argument_name p.argument) (argument_name b))) operands ≡ true
    → are_new operands done ≡ true → are_new operands (done ++ p ∷ []) ≡ true
all_push [] p done other e = refl
all_push (b ∷ operands) p done other e =
    let (apart, others) = both (not (bytes_eq (argument_name p.argument) (argument_name b))) _ other in
    let (here, later) = both (is_new b done) _ e in
    ap₂ (λ s t. s && t) (new_push b p done (untrue _ apart) here) (all_push operands p done others later)

-- ---- options

cons_count : (a : Argument) (p : Passed) (all : List Passed) → count_by (passes a) (p ∷ all) ≡ cond (passes a p) 1 0 + count_by (passes a) all
cons_count a p all = sum_by-cons (λ q. cond (passes a q) 1 0) p all

counted : (a : Argument) (p : Passed) (done all : List Passed) → passes a p ≡ true → 1 ≤ count_by (passes a) (done ++ p ∷ all)
counted a p [] all is = let here = cons_count a p all ∙ ap (λ t. cond t 1 0 + count_by (passes a) all) is in omega (arith, here)
counted a p (q ∷ done) all is = let here = cons_count a q (done ++ p ∷ all) in let later = counted a p done all is in omega (arith, here, later)

new_if_once : (a : Argument) (p : Passed) (done all : List Passed) → passes a p ≡ true → count_by (passes a) (done ++ p ∷ all) ≤ 1 → is_new a done ≡ true
new_if_once a p [] all is few = refl
new_if_once a p (q ∷ done) all is few = go (passes a q) (cons_count a q (done ++ p ∷ all)) (λ less. new_if_once a p done all is less)
  where
    rest : ℕ
    rest = count_by (passes a) (done ++ p ∷ all)

    go : (t : Bool) → count_by (passes a) (q ∷ done ++ p ∷ all) ≡ cond t 1 0 + count_by (passes a) (done ++ p ∷ all)
        → (count_by (passes a) (done ++ p ∷ all) ≤ 1 → is_new a done ≡ true) → not (t || has_row (argument_name a) (given_rows done)) ≡ true
    go true here rec = let some = counted a p done all is in absurd (omega (arith, here, some, few))
    go false here rec = rec (omega (arith, here, few))

module _ {X : Type 0} (test keeps : X → Bool) where
  kept_here : (t : Bool) (x y : X) (later : Option X) → keeps y ≡ true → (later ≡ Some x → keeps x ≡ true) → cond t (Some y) later ≡ Some x → keeps x ≡ true
  kept_here true x y later kept rec e = ap keeps (ap (λ o. elim o [ None ↦ x | Some z ↦ z ]) (sym e)) ∙ kept
  kept_here false x y later kept rec e = rec e

  kept : (xs : List X) (x : X) → list_all keeps xs ≡ true → find test xs ≡ Some x → keeps x ≡ true
  kept [] x all e = absurd (true≢false (sym (ap is_some e)))
  kept (y ∷ ys) x all e =
      let (here, later) = both (keeps y) _ all in
      kept_here (test y) x y (find test ys) here (kept ys x later) e

turned : (a : Argument) (operands : List Argument) → differs operands a ≡ true → list_all (λ b. not (bytes_eq (argument_name a) (argument_name b))) operands ≡ true
turned a [] e = refl
turned a (b ∷ operands) e =
    let (here, later) = both (not (bytes_eq (argument_name b) (argument_name a))) _ e in
    ap₂ (λ s t. s && t) (ap not (nat_list_eq_equiv.symm (argument_name a) (argument_name b)) ∙ here) (turned a operands later)

fewer : (a : Argument) (operands options : List Argument) → list_all (differs (a ∷ operands)) options ≡ true → list_all (differs operands) options ≡ true
fewer a operands [] e = refl
fewer a operands (b ∷ options) e =
    let (here, later) = both (differs (a ∷ operands) b) _ e in
    ap₂ (λ s t. s && t) (both (not (bytes_eq (argument_name a) (argument_name b))) _ here).1 (fewer a operands options later)

pub apart : (options operands : List Argument) (words : List (List ℕ)) (all : List Passed) → Falls options operands words all
    → all_differ operands ≡ true → list_all (differs operands) options ≡ true → (done : List Passed) → are_new operands done ≡ true
    → AtMostOnce options (done ++ all) → Apart done all
apart options _ _ _ ended own other done new once = tt
apart options _ _ _ (operand_next a operands word words all none value rest) own other done new once =
    let p : Passed = record { argument = a; value = word } in
    let (here, later) = both (is_new a done) _ new in
    let (apart_from, own_later) = both (list_all (λ b. not (bytes_eq (argument_name a) (argument_name b))) operands) _ own in (
      here,
      apart options operands words all rest own_later (fewer a operands options other) (done ++ p ∷ []) (all_push operands p done apart_from later)
          (λ o w is. subst (λ z. count_by (passes o) z ≤ 1) (sym (append_assoc done (p ∷ []) all)) (once o w is)),
    )
apart options _ _ _ (flag_next a operands word words all named flag rest) own other done new once =
    let p : Passed = record { argument = a; value = flag_value } in
    let away : differs operands a ≡ true = kept (λ o. is_option_word o word) (differs operands) options a other named in (
      new_if_once a p done all (nat_list_eq_equiv.refl (argument_name a)) (once a word named),
      apart options operands words all rest own other (done ++ p ∷ []) (all_push operands p done (turned a operands away) new)
          (λ o w is. subst (λ z. count_by (passes o) z ≤ 1) (sym (append_assoc done (p ∷ []) all)) (once o w is)),
    )
apart options _ _ _ (option_next a operands word value words all named valued admitted rest) own other done new once =
    let p : Passed = record { argument = a; value = value } in
    let away : differs operands a ≡ true = kept (λ o. is_option_word o word) (differs operands) options a other named in (
      new_if_once a p done all (nat_list_eq_equiv.refl (argument_name a)) (once a word named),
      apart options operands words all rest own other (done ++ p ∷ []) (all_push operands p done (turned a operands away) new)
          (λ o w is. subst (λ z. count_by (passes o) z ≤ 1) (sym (append_assoc done (p ∷ []) all)) (once o w is)),
    )

-- ---- the test gives it

pub at_most : (options : List Argument) (all : List Passed) → are_given_once options all ≡ true → AtMostOnce options all
at_most options all e a word named =
    let few : nat_le (count_by (passes a) all) 1 ≡ true = kept (λ o. is_option_word o word) (λ o. nat_le (count_by (passes o) all) 1) options a e named in
    grind (arith, nat_tests, few)
