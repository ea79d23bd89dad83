-- The steps of the books keep the book rule: offers, faults, collects and the end; and what a collect finds is what was awaited.
use Rattle.std.proofs.Common.{◌≡◌, ◌≢◌, ℕ, ◌+◌, ◌*◌, ◌^◌, ◌<◌, ◌≤◌, ℤ, List, [], set, refl, sym, ap, ◌∙◌, subst, arith, Option, Some, None, min}
use Prim.Native.Nat.{zero, suc}
use mathlib.Core.Option.{some}
use mathlib.Core.Option as maybe
use mathlib.Core.Logic.{dite}
use native.Mathlib.Decide.{ℕ_discrete}
use lib.ListN.{get_elem?}
use Rattle.std.specs.Int.{w64}
use Rattle.std.specs.Prelude.{FitsSigned}
use Rattle.spd_words.specs.declared.finish_kind.FinishKind.{FinishKind}
use Rattle.spd_words.specs.declared.finish_kind.FinishKind.TheVariants.{Sum}
use Rattle.spd_words.specs.Gift.{join, no_fault}
use Rattle.spd_words.specs.Meaning.{Meaning}
use Rattle.spd_words.specs.Plan.{PlanView}
use Rattle.spd_words.specs.Words.{Vertex}
use Rattle.spd_state.specs.Sums.{put, Each}
use Rattle.spd_state.specs.Dag.{Dag, busy, right_in}
use Rattle.spd_state.specs.Parts.{Rule}
use Rattle.spd_state.specs.declared.promise.Expected.{Expected}
use Rattle.spd_state.specs.declared.promise.Whole.{Whole}
use Rattle.spd_state.specs.declared.view.Running.{Running}
use Rattle.spd_state.specs.declared.view.View.{View}
use Rattle.spd_state.proofs.Rights.{running_ok, finish_inside, right_holds, unit_opens}
use Rattle.spd_debts.specs.Books.{Books, Shows}
use Rattle.spd_debts.specs.BookRule.{BookRule}
use Rattle.spd_debts.specs.Payments.{added_word, raised_word, lowered_word, offer_view, fault_view, sink_view, lower_view, shown_view, collect_view, done_view}
use Rattle.spd_debts.specs.Worth.{gift_of}
use Rattle.spd_debts.proofs.Alike.{shown_books}
use Rattle.spd_debts.proofs.Collects.{collect_books}
use Rattle.spd_debts.proofs.Ends.{done_books}
use Rattle.spd_debts.proofs.Offers.{add_sum_books, raise_books, lower_books}
use Rattle.spd_debts.proofs.Seen.{puts_shown, shows_kept, shows_word, collected_awaited, collected_end}
use Rattle.spd_debts.proofs.Standing.{HandsOn, on_same, standing, standing_on, run_drawn}

module _ {B : Type 0} (view : B → Meaning) (p : PlanView) (a : Dag) (homes : List (maybe.Option (Option B))) (vs : List View)
    (rule : Rule p a homes vs) (stands : BookRule view p a homes vs) (id : ℕ) (v : View) (at : get_elem? vs id ≡ some v)
    (r : Running) (is : v.running ≡ Some r) where
  -- ---- payments, by a share that has its right

  module _ (mine : r.right ≡ 1) where
    other : r.vertex ≢ 1
    other = (running_ok p a homes vs rule id v at r is).other mine

    -- the waiting vertex of its finish isn't woken yet
    early : (a.vertices (2 * r.finish + 1)).state ≤ 1
    early = let low = finish_inside p a homes vs rule id v at r is in let h = right_holds p a homes vs rule id v at r is mine in
        (rule.finishes.going r.finish low (unit_opens p a homes vs rule r.finish low h) h).0

    abbrev offered : ℕ → Dag
    offered n = record a { gifts = put a.gifts r.finish n }

    offer_stands : (left : ℤ) (n : ℕ) → (Books view p a homes vs → Books view p (offered n) homes (set vs id (offer_view left v)))
        → BookRule view p (offered n) homes (set vs id (offer_view left v))
    offer_stands left n books = let w : View = offer_view left v in
        standing view p a homes vs stands id v at (offered n) homes w refl refl refl (λ z. z) (on_same a.drawn v w refl refl refl refl refl)
        (shows_kept (put a.gifts r.finish n) vs (puts_shown view p a homes vs rule r.finish n early stands.shows) id v at w (λ r e. (r, e, refl)) refl)
        (λ _. books)

    -- `add_sum`: where the vertex isn't wild, x is taken out of what is owed
    pub add_sum_stands : (x left : ℤ) → FitsSigned w64 x → a.gifts r.finish < 2 ^ 64 → (v.wild ≡ 0 → (v.kind ≡ Sum) × (v.owes.gift ≡ join Sum x left))
        → BookRule view p (offered (added_word x (a.gifts r.finish))) homes (set vs id (offer_view left v))
    add_sum_stands x left fits low pays = offer_stands left (added_word x (a.gifts r.finish)) (λ books. let t = pays ((books.views id v at).tame) in
        add_sum_books view p a homes vs rule books id v at r is mine other x left t.0 t.1 fits low)

    -- `raise_best`: the value whose own word is y
    pub raise_stands : (y : ℕ) (left : ℤ) → (v.wild ≡ 0 → (v.kind ≢ Sum) × (v.owes.gift ≡ join v.kind (gift_of v.kind y) left))
        → BookRule view p (offered (raised_word y (a.gifts r.finish))) homes (set vs id (offer_view left v))
    raise_stands y left pays = offer_stands left (raised_word y (a.gifts r.finish)) (λ books. let t = pays ((books.views id v at).tame) in
        raise_books view p a homes vs rule books id v at r is mine other y left t.0 t.1)

    -- `lower_fault`: a code other than 0 is taken out of what is owed
    pub lower_stands : (c left : ℕ) → (v.wild ≡ 0 → c ≢ 0 → v.owes.fault ≡ min c left)
        → BookRule view p (record a { faults = put a.faults r.finish (lowered_word c (a.faults r.finish)) }) homes (set vs id (lower_view c left v))
    lower_stands zero left pays = let w : View = sink_view v in let b : Dag = record a { faults = put a.faults r.finish (lowered_word 0 (a.faults r.finish)) } in
        standing_on view p a homes vs stands id v at b homes w refl refl refl refl (λ z. z)
        record { whole = refl; fresh = λ z u. absurd (run_drawn p a homes vs rule id v at r is z) } (λ r e. (r, e, refl)) refl
        (λ _ books. lower_books view p a homes vs rule books id v at r is mine other 0 left (pays ((books.views id v at).tame)))
    lower_stands (suc c) left pays = let w : View = fault_view left v in
        let b : Dag = record a { faults = put a.faults r.finish (lowered_word (suc c) (a.faults r.finish)) } in
        standing_on view p a homes vs stands id v at b homes w refl refl refl refl (λ z. z)
        (on_same a.drawn v w refl refl refl refl refl) (λ r e. (r, e, refl)) refl
        (λ _ books. lower_books view p a homes vs rule books id v at r is mine other (suc c) left (pays ((books.views id v at).tame)))

  -- ---- looks, by the share that runs the waiting vertex of f

  pub shown_stands : (f : ℕ) → r.vertex ≡ 2 * f + 1 → BookRule view p a homes (set vs id (shown_view (a.gifts f) v))
  shown_stands f odd = let w : View = shown_view (a.gifts f) v in
      standing view p a homes vs stands id v at a homes w refl refl refl (λ z. z) (on_same a.drawn v w refl refl refl refl refl)
      (shows_word a.gifts vs stands.shows id v at r is f odd) (λ _ books. shown_books view p a homes vs books id v at (a.gifts f))

  pub collect_stands : (f : ℕ) → r.vertex ≡ 2 * f + 1 → (x : Expected) → v.awaited ≡ Some x → (n : ℕ) → a.faults f ≡ n
      → BookRule view p a homes (set vs id (collect_view n v))
  collect_stands f odd x waits n saw = by n saw
    where
      none : {w : View} → w.whole ≡ v.whole → HandsOn a.drawn v w
      none e = record { whole = e; fresh = λ z u. absurd (run_drawn p a homes vs rule id v at r is z) }

      by : (n : ℕ) → a.faults f ≡ n → BookRule view p a homes (set vs id (collect_view n v))
      by zero saw = standing_on view p a homes vs stands id v at a homes (collect_view 0 v) refl refl refl refl (λ z. z) (none refl) (λ r e. (r, e, refl)) refl
          (λ _ books. collect_books view p a homes vs books id v at r is f odd x waits 0 saw)
      by (suc c) saw = standing_on view p a homes vs stands id v at a homes (collect_view (suc c) v) refl refl refl refl (λ z. z) (none refl)
          (λ r e. (r, e, refl)) refl (λ _ books. collect_books view p a homes vs books id v at r is f odd x waits (suc c) saw)

  -- ---- `set_done`

  pub done_stands : r.vertex ≡ 1 → BookRule view p (record a { done = 1 }) homes (set vs id (done_view v))
  done_stands one = let w : View = done_view v in
      standing_on view p a homes vs stands id v at (record a { done = 1 }) homes w refl refl refl refl (λ z. z)
      (on_same a.drawn v w refl refl refl refl refl) (λ r e. absurd (cc)) refl
      (λ _ books. marked_books (done_books view p a homes vs books id v at r is one (unwaited books) (unhurt books) (unsunk books)))
    where
      used : right_in v.running ≡ 0
      used = let k = running_ok p a homes vs rule id v at r is in let l = k.right in let e : right_in v.running ≡ r.right = ap right_in is in
          dite (ℕ_discrete r.right 1) (λ z. absurd (k.other z one)) (λ n. omega arith)

      free : Books view p a homes vs → busy v.awaited + v.hurt ≡ 0
      free books = dite (ℕ_discrete (busy v.awaited + v.hurt) 0) (λ e. e) (λ e. let h = (books.views id v at).right (omega arith) in let u = used in
          absurd (omega arith))

      idle : (o : Option Expected) → busy o ≡ 0 → o ≡ None
      idle None e = refl
      idle (Some x) e = absurd (omega arith)

      unwaited : Books view p a homes vs → v.awaited ≡ None
      unwaited books = idle v.awaited (let f = free books in omega arith)

      unhurt : Books view p a homes vs → v.hurt ≡ 0
      unhurt books = let f = free books in omega arith

      unsunk : Books view p a homes vs → v.sunk ≡ 0
      unsunk books = dite (ℕ_discrete v.sunk 0) (λ e. e) (λ e. let h = (books.views id v at).sunk (omega arith) in
          let k : Some r ≡ Some h.0 = sym is ∙ h.1 in let m : r ≡ h.0 = cc in absurd (h.2 (ap (λ (y : Running). y.vertex) (sym m) ∙ one)))

      marked_books : Books view p a homes (set vs id (done_view v)) → Books view p (record a { done = 1 }) homes (set vs id (done_view v))
      marked_books b = record { gifts = b.gifts; faults = b.faults; passes = b.passes; counts = b.counts; bodies = b.bodies; views = b.views }

  -- ---- what a collect finds, where the share carries that books are kept

  module _ (w : Whole) (carries : v.whole ≡ Some w) (tame : w.wild ≡ 0) where
    kept : Books view p a homes vs
    kept = stands.kept ((stands.carries id v at).keeps w carries tame).0

    pub awaited_found : (x : Expected) → v.awaited ≡ Some x → (n f : ℕ) → v.seen ≡ Some n → r.vertex ≡ 2 * f + 1 → n < 2 ^ 64 → a.faults f ≢ 0
        → a.faults f ≤ no_fault → (gift_of x.kind n ≡ x.gift) × (a.faults f ≡ x.fault)
    awaited_found x waits n f saw odd fits pure fault_fits =
        collected_awaited view p a homes vs rule kept id v at (stands.shows id v at) r is x waits n saw f odd fits pure fault_fits

    pub end_found : r.vertex ≡ 1 → (n : ℕ) → v.seen ≡ Some n → n < 2 ^ 64 → a.faults 0 ≢ 0 → a.faults 0 ≤ no_fault
        → (gift_of w.kind n ≡ w.owes.gift) × (a.faults 0 ≡ w.owes.fault)
    end_found one n saw fits pure fault_fits =
        collected_end view p a homes vs rule kept id v at (stands.shows id v at) r is one n saw w carries fits pure fault_fits
