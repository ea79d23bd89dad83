-- Steps that write a vertex keep the book rule: starts, wakes and stores; and slots that go home with them.
use Rattle.std.proofs.Common.{◌≡◌, ◌≢◌, ℕ, ◌+◌, ◌*◌, ◌<◌, ◌≤◌, List, [], ◌∷◌, length, set, refl, sym, ap, ◌∙◌, subst, arith, Option, Some, None, not}
use mathlib.Core.Option.{some, none}
use mathlib.Core.Option as maybe
use lib.ListN.{get_elem?}
use lib.Seq.{set-set}
use Rattle.spd_words.specs.Meaning.{Meaning}
use Rattle.spd_words.specs.Plan.{PlanView}
use Rattle.spd_words.specs.Words.{Vertex}
use Rattle.spd_state.specs.Sums.{put}
use Rattle.spd_state.specs.Dag.{Dag, openings}
use Rattle.spd_state.specs.Parts.{Rule}
use Rattle.spd_state.specs.Promises.{promised}
use Rattle.spd_state.specs.Steps.{start_word, start_view, wake_word, wake_view, wake_after, is_over}
use Rattle.spd_state.specs.Stages.{end_view, end_vertex, chain_rest_view, chain_rest_vertex, last_view, body_vertex, spawn_left_view, spawn_vertex}
use Rattle.spd_state.specs.declared.view.Draw.{Draw}
use Rattle.spd_state.specs.declared.view.Draw.TheVariants.{Make, Chain, Spawn}
use Rattle.spd_state.specs.declared.view.Running.{Running}
use Rattle.spd_state.specs.declared.view.View.{View}
use Rattle.spd_state.proofs.Settle.{there_set}
use Rattle.spd_debts.specs.Books.{Books, ViewOk}
use Rattle.spd_debts.specs.BookRule.{BookRule}
use Rattle.spd_debts.proofs.Alike.{like_keeps}
use Rattle.spd_debts.proofs.Begin.{start_books, start_end_books}
use Rattle.spd_debts.proofs.Bookkeeping.{kept_runs, on_settled}
use Rattle.spd_debts.proofs.Ends.{wake_after_books}
use Rattle.spd_debts.proofs.First.{homes_books}
use Rattle.spd_debts.proofs.Seen.{shows_none}
use Rattle.spd_debts.proofs.SetVertex.{Ending, end_vertex_books, chain_vertex_books, body_vertex_books, left_vertex_books, right_vertex_books}
use Rattle.spd_debts.proofs.Standing.{HandsOn, on_same, standing, standing_on, none_stored}
use Rattle.spd_debts.proofs.StoreKinds.{Told}

module _ {B : Type 0} (view : B → Meaning) (p : PlanView) (a : Dag) (homes : List (maybe.Option (Option B))) (vs : List View)
    (rule : Rule p a homes vs) (stands : BookRule view p a homes vs) (id : ℕ) (v : View) (at : get_elem? vs id ≡ some v) where
  -- ---- `start_vertex`

  module _ (deep : length homes ≡ 2 * p.moves) (idle : v.running ≡ None) (i : ℕ) (low : i < 2 * p.moves) (ready : (a.vertices i).state ≡ 2) where
    abbrev started : Dag
    started = record a { vertices = put a.vertices i (start_word (a.vertices i)) }

    begins : a.drawn ≡ 0 → ⊥
    begins z = let s = none_stored p a homes vs rule z i low in let r = ready in absurd (omega arith)

    pub start_body_stands : i ≢ 1 → (b : B) → get_elem? homes i ≡ some (some (Some b))
        → BookRule view p started (set homes i none) (set vs id (start_view i (a.vertices i) (Some (view b)) v))
    start_body_stands other b there = let w : View = start_view i (a.vertices i) (Some (view b)) v in
        standing view p a homes vs stands id v at started (set homes i none) w refl refl refl (λ z. z)
        record { whole = refl; fresh = λ z _. absurd (begins z) } (shows_none a.gifts vs stands.shows id v at w refl)
        (λ _ books. start_books view p a homes vs rule books id v at deep idle i low ready other b there)

    pub start_end_stands : i ≡ 1 → BookRule view p started (set homes i none) (set vs id (start_view i (a.vertices i) None v))
    start_end_stands end = let w : View = start_view i (a.vertices i) None v in
        standing view p a homes vs stands id v at started (set homes i none) w refl refl refl (λ z. z)
        record { whole = refl; fresh = λ z _. absurd (begins z) } (shows_none a.gifts vs stands.shows id v at w refl)
        (λ _ books. start_end_books view p a homes vs rule books id v at deep idle i low ready end)

  -- ---- `wake_vertex`

  pub wake_stands : (f i : ℕ) → i < 2 * p.moves → (a.vertices i).state ≡ 1
      → BookRule view p (record a { vertices = put a.vertices i (wake_word (a.vertices i)) }) homes (set vs id (wake_after f v))
  wake_stands f i low waiting = let w : View = wake_view f v in
      standing_on view p a homes vs stands id v at (record a { vertices = put a.vertices i (wake_word (a.vertices i)) }) homes (wake_after f v)
      refl refl refl refl (λ z. z) (on_settled a.drawn v w (on_same a.drawn v w refl refl refl refl refl))
      (λ y e. kept_runs (not (is_over w.running w.flight w.claimed w.told)) v.running y e) refl
      (λ _ books. wake_after_books view p a homes vs books id v at f i low waiting)

  -- ---- `set_vertex`, of each kind

  pub end_vertex_stands : v.flight ≡ Some record { draw = Make; number = 0; finish = 0; stage = 2 } → (slots : List ℕ)
      → BookRule view p (record a { vertices = put a.vertices 1 end_vertex }) (set homes 1 (some None)) (set vs id (end_view slots v))
  end_vertex_stands flies slots = let w : View = end_view slots v in
      standing_on view p a homes vs stands id v at (record a { vertices = put a.vertices 1 end_vertex }) (set homes 1 (some None)) w refl refl refl refl
      (λ z. z) (on_same a.drawn v w refl refl refl refl refl) (λ r e. (r, e, refl)) refl
      (λ _ books. end_vertex_books view p a homes vs rule books id v at flies slots)

  last_on : (slots : List ℕ) → HandsOn a.drawn v (last_view slots v)
  last_on slots = record { whole = refl; fresh = λ z u. record { awaited = u.awaited; hurt = u.hurt; sunk = refl; whole = u.whole; wild = u.wild } }

  module _ (deep : length homes ≡ 2 * p.moves) (b : B) where
    pub chain_vertex_stands : (r : Running) → v.running ≡ Some r → r.right ≡ 1 → (d : ℕ)
        → v.flight ≡ Some record { draw = Chain; number = d; finish = d; stage = 2 } → (slots : List ℕ)
        → (v.wild ≡ 0 → Told (view b) v.kind (promised v.owes)
        × ((view b).awaited ≡ Some record { kind = v.gives; gift = v.body.gift; fault = v.body.fault }))
        → BookRule view p (record a { vertices = put a.vertices (2 * d + 1) (chain_rest_vertex r) }) (set homes (2 * d + 1) (some (Some b)))
        (set vs id (chain_rest_view r d slots v))
    chain_vertex_stands r is mine d flies slots lies = let w : View = chain_rest_view r d slots v in
        standing_on view p a homes vs stands id v at (record a { vertices = put a.vertices (2 * d + 1) (chain_rest_vertex r) })
        (set homes (2 * d + 1) (some (Some b))) w refl refl refl refl
        (λ z. z) (on_same a.drawn v w refl refl refl refl refl)
        (λ y e. let k : record r { right = 0 } ≡ y = cc in (r, is, ap (λ (y : Running). y.vertex) k)) refl
        (λ _ books. let t = lies ((books.views id v at).tame) in
        chain_vertex_books view p a homes vs rule books id v at deep b r is mine d flies slots t.0 t.1)

    pub body_vertex_stands : (draw : Draw) → Ending draw → (d : ℕ) → v.flight ≡ Some record { draw = draw; number = d; finish = d; stage = 3 } → (slots : List ℕ)
        → (a.tame ≡ 1 → Told (view b) v.gives (promised v.body) × ((view b).awaited ≡ None))
        → BookRule view p (record a { vertices = put a.vertices (2 * d) (body_vertex d) }) (set homes (2 * d) (some (Some b))) (set vs id (last_view slots v))
    body_vertex_stands draw kind d flies slots lies = let w : View = last_view slots v in
        standing_on view p a homes vs stands id v at (record a { vertices = put a.vertices (2 * d) (body_vertex d) }) (set homes (2 * d) (some (Some b))) w
        refl refl refl refl (λ z. z) (last_on slots) (λ r e. absurd (cc)) refl
        (λ t books. let l = lies t in body_vertex_books view p a homes vs rule books id v at deep b draw kind d flies slots l.0 l.1)

    pub left_vertex_stands : (d u inc : ℕ) → v.flight ≡ Some record { draw = Spawn; number = d; finish = u; stage = 2 } → (slots : List ℕ)
        → (v.wild ≡ 0 → Told (view b) v.gives (promised v.body) × ((view b).awaited ≡ None))
        → BookRule view p (record a { vertices = put a.vertices (2 * d) (spawn_vertex d u 0 inc) }) (set homes (2 * d) (some (Some b)))
        (set vs id (spawn_left_view d u slots v))
    left_vertex_stands d u inc flies slots lies = let w : View = spawn_left_view d u slots v in
        standing_on view p a homes vs stands id v at (record a { vertices = put a.vertices (2 * d) (spawn_vertex d u 0 inc) })
        (set homes (2 * d) (some (Some b))) w refl refl refl refl
        (λ z. z) (on_same a.drawn v w refl refl refl refl refl) (λ r e. (r, e, refl)) refl
        (λ _ books. let l = lies ((books.views id v at).tame) in
        left_vertex_books view p a homes vs rule books id v at deep b d u inc flies slots l.0 l.1)

    pub right_vertex_stands : (d u inc : ℕ) → v.flight ≡ Some record { draw = Spawn; number = d; finish = u; stage = 3 } → (slots : List ℕ)
        → (v.wild ≡ 0 → Told (view b) v.gives (promised v.rest) × ((view b).awaited ≡ None))
        → BookRule view p (record a { vertices = put a.vertices (2 * d + 1) (spawn_vertex d u 1 inc) }) (set homes (2 * d + 1) (some (Some b)))
        (set vs id (last_view slots v))
    right_vertex_stands d u inc flies slots lies = let w : View = last_view slots v in
        standing_on view p a homes vs stands id v at (record a { vertices = put a.vertices (2 * d + 1) (spawn_vertex d u 1 inc) })
        (set homes (2 * d + 1) (some (Some b))) w refl refl refl refl
        (λ z. z) (last_on slots) (λ r e. absurd (cc)) refl
        (λ _ books. let l = lies ((books.views id v at).tame) in
        right_vertex_books view p a homes vs rule books id v at deep b d u inc flies slots l.0 l.1)

  -- ---- other slots, of which one may have gone home whose vertex isn't waiting or ready

  pub slots_stand : (slots : List ℕ) (homes' : List (maybe.Option (Option B)))
      → ((x : ℕ) → x < 2 * p.moves → 0 < (a.vertices x).state → (a.vertices x).state < 3 → get_elem? homes' x ≡ get_elem? homes x)
      → BookRule view p a homes' (set vs id (record v { slots = slots }))
  slots_stand slots homes' alike = let w : View = record v { slots = slots } in
      standing_on view p a homes vs stands id v at a homes' w refl refl refl refl (λ z. z) (on_same a.drawn v w refl refl refl refl refl)
      (λ r e. (r, e, refl)) refl
      (λ _ books. let h : ViewOk (openings a.vertices vs) a.expects a.faults v = books.views id v at in
      homes_books view p a homes homes' (set vs id w)
      (like_keeps view p a homes vs books id v at w a.nodes a.pairs refl refl (λ f. refl) (λ f. refl)
      record { right = h.right; kind = h.kind; awaited = h.awaited; sunk = h.sunk; gives = h.gives; begun = h.begun; whole = h.whole; tame = h.tame }) alike)

-- the same of a share that has just taken a step
module _ {B : Type 0} (view : B → Meaning) (p : PlanView) (b : Dag) (homes : List (maybe.Option (Option B))) (vs : List View) (id : ℕ) (v w : View)
    (at : get_elem? vs id ≡ some v) (rule : Rule p b homes (set vs id w)) (stands : BookRule view p b homes (set vs id w)) where
  pub slots_after : (slots : List ℕ) (homes' : List (maybe.Option (Option B)))
      → ((x : ℕ) → x < 2 * p.moves → 0 < (b.vertices x).state → (b.vertices x).state < 3 → get_elem? homes' x ≡ get_elem? homes x)
      → BookRule view p b homes' (set vs id (record w { slots = slots }))
  slots_after slots homes' alike = subst (λ (l : List View). BookRule view p b homes' l) (set-set vs id w (record w { slots = slots }))
      (slots_stand view p b homes (set vs id w) rule stands id w (there_set vs id v w at) slots homes' alike)
