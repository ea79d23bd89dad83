-- A program without faults has one main.
use Rattle.std.proofs.Common.{◌≡◌, ℕ, ◌+◌, List, [], ◌∷◌, ◌++◌, true, false, refl, ap, Some, None}
use Rattle.std.proofs.lemmas.List.{append-nil}
use Rattle.std.specs.Prelude.{Option, Bool, ◌||◌, ◌&&◌}
use Rattle.std.specs.List.{list_any, last_or}
use Rattle.spd_syntax.specs.declared.tree.ItemKind.TheVariants as i
use Rattle.spd_syntax.specs.declared.tree.Item.{Item}
use Rattle.spd_syntax.specs.declared.tree.Stmt.{Stmt}
use Rattle.spd_syntax.specs.declared.tree.Program.{Program}
use Rattle.spd_meaning.specs.Programs.{main_in, main_of, is_main}
use Rattle.spd_code.specs.declared.stmt.CodeBlock.{CodeBlock}
use Rattle.spd_code.specs.Resolved.{Spaces, code_of, before_main, item_blocks}
use Rattle.spd_check.specs.Items.{has_main, declares_again, is_declared}
use Rattle.spd_check.specs.declared.faults.CheckKind.TheVariants.{Twice, NoMain}
use Rattle.spd_check.specs.Faults.{fault_where, fault_unless}
use Rattle.spd_check.specs.Checks.{again_faults, main_faults, faults_of}
use Rattle.spd_check.specs.Coding.{main_code_in, mains_code, block_coded}

none_left : {A : Type 0} (xs ys : List A) → xs ++ ys ≡ [] → xs ≡ []
none_left [] ys e = refl
none_left (x ∷ xs) ys e = absurd (cc)

none_right : {A : Type 0} (xs ys : List A) → xs ++ ys ≡ [] → ys ≡ []
none_right [] ys e = e
none_right (x ∷ xs) ys e = absurd (cc)

any_more : (a r s : Bool) → (a || r) ≡ true → (r ≡ true → s ≡ true) → ((a && true) || s) ≡ true
any_more true r s e f = refl
any_more false r s e f = f e

or_more : (a r s : Bool) → (a || r) ≡ true → (r ≡ true → s ≡ true) → (a || s) ≡ true
or_more true r s e f = refl
or_more false r s e f = f e

or_rest : (a r : Bool) → (a || r) ≡ true → a ≡ false → r ≡ true
or_rest true r e f = absurd (cc)
or_rest false r e f = e

-- Behind a main, another declares one again.
main_again : (before : List Item) (body : List Stmt) → has_main before ≡ true
    → list_any (λ (other : Item). declares_again other.what (i.Main body)) before ≡ true
main_again [] body h = absurd (cc)
main_again (o ∷ before) body h = any_more (is_main o.what) (has_main before) (list_any (λ (other : Item). declares_again other.what
    (i.Main body)) before) h (main_again before body)

has_more : (before more : List Item) → has_main before ≡ true → has_main (before ++ more) ≡ true
has_more [] more h = absurd (cc)
has_more (o ∷ before) more h = or_more (is_main o.what) (has_main before) (has_main (before ++ more)) h (has_more before more)

has_last : (before : List Item) (item : Item) → is_main item.what ≡ true → has_main (before ++ item ∷ []) ≡ true
has_last [] item h = rw h refl
has_last (o ∷ before) item h = or_more (is_main o.what) true (has_main (before ++ item ∷ [])) (elim (is_main o.what) as (λ b. (b || true)
    ≡ true) [ true ↦ refl | false ↦ refl ]) (λ e. has_last before item h)

main_body : (k : i.the_data) → is_main k ≡ true → (body : List Stmt) × (k ≡ i.Main body)
main_body (i.Main body) e = (body, refl)
main_body _ e = absurd (cc)

again_here : (before items : List Item) (item : Item) → again_faults before (item ∷ items) ≡ [] → is_declared before item ≡ true → ⊥
again_here before items item a d =
    let n = none_left (fault_where (is_declared before item) item.line Twice) (again_faults (before ++ item ∷ []) items) a in
    let m : fault_where true item.line Twice ≡ [] = rw d at n in
    cc

again_later : (before items : List Item) (item : Item) → again_faults before (item ∷ items) ≡ [] → again_faults (before ++ item ∷ []) items ≡ []
again_later before items item a = none_right (fault_where (is_declared before item) item.line Twice) (again_faults (before ++ item ∷ []) items) a

module _ (spaces : Spaces) where
  not_coded : (k : i.the_data) (n : ℕ) → is_main k ≡ false → main_code_in spaces n k ≡ []
  not_coded (i.Main body) n e = absurd (cc)
  not_coded _ n e = refl

  not_in : (k : i.the_data) → is_main k ≡ false → main_in k ≡ []
  not_in (i.Main body) e = absurd (cc)
  not_in _ e = refl

  -- Behind a main there is none.
  record NoMore (items : List Item) : Type 0 where
    code : (n : ℕ) → mains_code spaces n items ≡ []
    stmts : main_of items ≡ []

  no_more_at : (before items : List Item) (item : Item) (b : Bool) → is_main item.what ≡ b → again_faults before (item ∷ items) ≡ []
      → has_main before ≡ true → NoMore items → NoMore (item ∷ items)
  no_more_at before items item true e a h rest =
      let m = main_body item.what e in
      let d : is_declared before item ≡ true = rw m.1 (main_again before m.0 h) in
      absurd (again_here before items item a d)
  no_more_at before items item false e a h rest = record {
    code = λ n. let x = not_coded item.what n e in let y = rest.code (n + item_blocks spaces item.what) in cc;
    stmts = let x = not_in item.what e in let y = rest.stmts in cc;
  }

  no_more : (before items : List Item) → again_faults before items ≡ [] → has_main before ≡ true → NoMore items
  no_more before [] a h = record { code = λ n. refl; stmts = refl }
  no_more before (item ∷ items) a h =
      no_more_at before items item (is_main item.what) refl a h (no_more (before ++ item ∷ []) items (again_later before items item a)
      (has_more before (item ∷ []) h))

  abbrev OneMain : List Item → Type 0
  OneMain items = (n : ℕ) → mains_code spaces n items ≡ code_of spaces [] (before_main spaces n items) (main_of items) ∷ []

  one_main_at : (before items : List Item) (item : Item) (b : Bool) → is_main item.what ≡ b → again_faults before (item ∷ items) ≡ []
      → (b ≡ false → OneMain items) → OneMain (item ∷ items)
  unfolding block_coded
  one_main_at before items item true e a rest n =
      let m = main_body item.what e in
      let none = no_more (before ++ item ∷ []) items (again_later before items item a) (has_last before item e) in
      rw (m.1, none.code (n + item_blocks spaces (i.Main m.0)), none.stmts, append-nil m.0) refl
  one_main_at before items item false e a rest n =
      let x = not_coded item.what n e in
      let y = not_in item.what e in
      rw (x, y, e) (rest refl (n + item_blocks spaces item.what))

  one_main_in : (before items : List Item) → again_faults before items ≡ [] → has_main items ≡ true → OneMain items
  one_main_in before [] a h n = absurd (cc)
  one_main_in before (item ∷ items) a h n =
      one_main_at before items item (is_main item.what) refl a (λ e. one_main_in (before ++ item ∷ []) items (again_later before items item a)
      (or_rest (is_main item.what) (has_main items) h e)) n

main_there : (b : Bool) (line : ℕ) → fault_unless b line NoMain ≡ [] → b ≡ true
main_there true line e = refl
main_there false line e = absurd (cc)

-- The mains' code is that of the one main.
one_main : (program : Program) → faults_of program ≡ [] → (spaces : Spaces) → mains_code spaces 0 program.items
    ≡ code_of spaces [] (before_main spaces 0 program.items) (main_of program.items) ∷ []
one_main program e spaces =
    let again = none_left (again_faults [] program.items) _ e in
    let rest = none_right (again_faults [] program.items) _ e in
    let there = main_there (has_main program.items) program.last_line (none_left (main_faults program.items program.last_line) _ rest) in
    one_main_in spaces [] program.items again there 0

pub last_append : {A : Type 0} (o : Option A) (xs ys : List A) → last_or o (xs ++ ys) ≡ last_or (last_or o xs) ys
last_append o [] ys = refl
last_append o (x ∷ xs) ys = last_append (Some x) xs ys

pub last_main : (program : Program) → faults_of program ≡ [] → (spaces : Spaces) → last_or None (mains_code spaces 0 program.items)
    ≡ Some (code_of spaces [] (before_main spaces 0 program.items) (main_of program.items))
last_main program e spaces = ap (λ (cs : List CodeBlock). last_or None cs) (one_main program e spaces)
