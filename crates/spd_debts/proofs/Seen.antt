-- What a share has seen of the finish that it collects: it still stands, and is what the finish was to give.
use Rattle.spd_state.specs.declared.promise.Expected.{Expected}
use Rattle.spd_state.specs.Promises.{awaited_of}
use Rattle.spd_state.proofs.Sums.{each_kept}
use Rattle.std.proofs.Common.{subst, ◌≡◌, ◌≢◌, ℕ, ◌+◌, ◌*◌, ◌^◌, ◌<◌, ◌≤◌, List, set, sym, ap, ◌∙◌, arith, Option, Some, None}
use mathlib.Core.Option.{some, none}
use mathlib.Core.Option as maybe
use lib.ListN.{get_elem?}
use Rattle.spd_words.specs.Gift.{no_fault}
use Rattle.spd_words.specs.Meaning.{Meaning}
use Rattle.spd_words.specs.Plan.{PlanView}
use Rattle.spd_words.specs.Words.{Vertex}
use Rattle.spd_state.specs.Sums.{same, put, Each}
use Rattle.spd_state.specs.declared.view.Running.{Running}
use Rattle.spd_state.specs.declared.view.View.{View}
use Rattle.spd_state.specs.Parts.{Rule}
use Rattle.spd_state.specs.Dag.{Dag, openings}
use Rattle.spd_state.specs.declared.promise.Whole.{Whole}
use Rattle.spd_state.proofs.Sums.{put_else}
use Rattle.spd_state.proofs.Rights.{running_ok}
use Rattle.spd_debts.specs.Books.{Books, Shows}
use Rattle.spd_debts.specs.Payments.{shown_view}
use Rattle.spd_debts.specs.Worth.{gift_of}
use Rattle.spd_debts.proofs.Gives.{collect_gives}

-- ---- what was shown of a gift word

module _ {B : Type 0} (view : B → Meaning) (p : PlanView) (a : Dag) (homes : List (maybe.Option (Option B))) (vs : List View) (rule : Rule p a homes vs) where
  -- a put to the finish g leaves what was shown of others: no share runs vertex 2g + 1
  pub puts_shown : (g n : ℕ) → (a.vertices (2 * g + 1)).state ≤ 1 → Each (Shows a.gifts) vs → Each (Shows (put a.gifts g n)) vs
  puts_shown g n early h j v at = record {
    gift = λ r m f is saw odd. let k = (h j v at).gift r m f is saw odd in let w = (running_ok p a homes vs rule j v at r is).word in
        put_else a.gifts g n f (λ e. let s : (a.vertices (2 * f + 1)).state ≡ 3 = ap (λ k. (a.vertices k).state) (sym odd) ∙ ap (λ (x : Vertex). x.state) w in
        let s' : (a.vertices (2 * f + 1)).state ≡ (a.vertices (2 * g + 1)).state = ap (λ k. (a.vertices (2 * k + 1)).state) e in omega arith) ∙ k;
  }

  -- at a collect the gift word, which was shown before, and the fault word are what the finish was to give
  pub collected : Books view p a homes vs → (id : ℕ) (v : View) → get_elem? vs id ≡ some v → Shows a.gifts v → (r : Running) → v.running ≡ Some r → (n : ℕ)
      → v.seen ≡ Some n → (f : ℕ) → f < p.moves → r.vertex ≡ 2 * f + 1 → 0 < openings a.vertices vs f → n < 2 ^ 64 → a.faults f ≢ 0 → a.faults f ≤ no_fault
      → (gift_of (a.expects f).kind n ≡ (a.expects f).gift) × (a.faults f ≡ (a.expects f).fault)
  collected books id v at shows r is n saw f low odd is_open fits pure fault_fits = let e = shows.gift r n f is saw odd in
      let t = collect_gives view p a homes vs rule books id v at r is f low odd is_open pure (omega arith) fault_fits in
      (ap (gift_of (a.expects f).kind) (sym e) ∙ t.0, t.1)

  -- for the share that awaits it: both are what it awaits
  pub collected_awaited : Books view p a homes vs → (id : ℕ) (v : View) → get_elem? vs id ≡ some v → Shows a.gifts v → (r : Running) → v.running ≡ Some r
      → (x : Expected) → v.awaited ≡ Some x → (n : ℕ) → v.seen ≡ Some n → (f : ℕ) → r.vertex ≡ 2 * f + 1 → n < 2 ^ 64 → a.faults f ≢ 0 → a.faults f ≤ no_fault
      → (gift_of x.kind n ≡ x.gift) × (a.faults f ≡ x.fault)
  collected_awaited books id v at shows r is x waits n saw f odd fits pure fault_fits = let t = (books.views id v at).awaited r x is waits in
      let same_finish : t.0 ≡ f = (let o = t.1 in omega arith) in let inside = (running_ok p a homes vs rule id v at r is).vertex in
      let is_open : 0 < openings a.vertices vs f = subst (λ k. 0 < openings a.vertices vs k) same_finish t.3 in
      let c = collected books id v at shows r is n saw f (omega arith) odd is_open fits pure fault_fits in
      let e : awaited_of x ≡ a.expects f = t.4 ∙ ap a.expects same_finish in
      ((λ j. gift_of ((e j).kind) n) ∙ c.0 ∙ sym (ap (λ y. y.gift) e), c.1 ∙ sym (ap (λ y. y.fault) e))

-- and of finish 0, for the share that runs vertex 1 and carries what was given to the make
pub collected_end : {B : Type 0} (view : B → Meaning) (p : PlanView) (a : Dag) (homes : List (maybe.Option (Option B))) (vs : List View)
    (rule : Rule p a homes vs) (books : Books view p a homes vs)
    → (id : ℕ) (v : View) → get_elem? vs id ≡ some v → Shows a.gifts v → (r : Running) → v.running ≡ Some r → r.vertex ≡ 1 → (n : ℕ) → v.seen ≡ Some n
    → (w : Whole) → v.whole ≡ Some w → n < 2 ^ 64 → a.faults 0 ≢ 0 → a.faults 0 ≤ no_fault
    → (gift_of w.kind n ≡ w.owes.gift) × (a.faults 0 ≡ w.owes.fault)
collected_end {B} view p a homes vs rule books id v at shows r is one n saw w carries fits pure fault_fits =
    let k = running_ok p a homes vs rule id v at r is in let s : (a.vertices 1).state ≡ 3 = ap (λ k. (a.vertices k).state) (sym one)
    ∙ ap (λ (x : Vertex). x.state) k.word in
    let size₀ = rule.plan.moves.some in let t = rule.live.finish 1 (omega arith) (omega arith) in
    let is_open : 0 < openings a.vertices vs 0 = subst (λ k. 0 < openings a.vertices vs k) (rule.history.below.end (omega arith)) t.1 in
    let c = collected view p a homes vs rule books id v at shows r is n saw 0 size₀ one is_open fits pure fault_fits in
    let e = (books.views id v at).whole w carries in
    ((λ j. gift_of ((e j).kind) n) ∙ c.0 ∙ sym (ap (λ y. y.gift) e), c.1 ∙ sym (ap (λ y. y.fault) e))

-- ---- that it still stands, after each step

module _ (gifts : ℕ → ℕ) (vs : List View) (all : Each (Shows gifts) vs) (id : ℕ) (v : View) (at : get_elem? vs id ≡ some v) where
  -- a step of a share that runs the same vertex as before, or none, and saw no more
  pub shows_kept : (w : View) → ((r : Running) → w.running ≡ Some r → (q : Running) × (v.running ≡ Some q) × (q.vertex ≡ r.vertex)) → w.seen ≡ v.seen
      → Each (Shows gifts) (set vs id w)
  shows_kept w same seen = each_kept (Shows gifts) vs id w
      record { gift = λ r n f is saw odd. let t = same r is in (all id v at).gift t.0 n f t.1 (sym seen ∙ saw) (t.2 ∙ odd) } all

  -- `start_vertex`: nothing is seen yet
  pub shows_none : (w : View) → w.seen ≡ None → Each (Shows gifts) (set vs id w)
  shows_none w unseen = each_kept (Shows gifts) vs id w record { gift = λ r n f is saw odd. let z = sym unseen ∙ saw in absurd (cc) } all

  -- `see_sum`
  pub shows_word : (r : Running) → v.running ≡ Some r → (f : ℕ) → r.vertex ≡ 2 * f + 1 → Each (Shows gifts) (set vs id (shown_view (gifts f) v))
  shows_word r is f odd = each_kept (Shows gifts) vs id (shown_view (gifts f) v)
      record {
        gift = λ q n e runs saw its. let k : Some r ≡ Some q = sym is ∙ runs in let m : r ≡ q = cc in let c : gifts f ≡ n = cc in
            let x = ap (λ (y : Running). y.vertex) m in
            ap gifts (let z : e ≡ f = omega arith in z) ∙ c;
      } all
