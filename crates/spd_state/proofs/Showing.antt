-- What shares have seen ready stands after each kind of step, and a start that comes too late finds the vertex started.
use Rattle.std.proofs.Common.{◌≡◌, ◌≢◌, ℕ, ◌*◌, ◌<◌, ◌≤◌, List, [], ◌∷◌, ◌++◌, set, refl, sym, ap, ◌∙◌, subst, arith, Option}
use mathlib.Core.Option.{some, some-ne-none}
use mathlib.Core.Option as maybe
use mathlib.Core.Logic.{dite}
use native.Mathlib.Decide.{ℕ_discrete}
use lib.ListN.{get_elem?}
use Rattle.spd_words.specs.Plan.{PlanView}
use Rattle.spd_words.specs.Words.{Vertex}
use Rattle.spd_state.specs.Sums.{put, Each}
use Rattle.spd_state.specs.Dag.{Dag}
use Rattle.spd_state.specs.Parts.{Rule}
use Rattle.spd_state.specs.Steps.{start_word}
use Rattle.spd_state.specs.Shown.{shown_word, shown_of, ShownOk, AllShown, note_ready}
use Rattle.spd_state.specs.declared.view.Shown.{Shown}
use Rattle.spd_state.specs.declared.view.View.{View}
use Rattle.spd_state.proofs.Sums.{put_here, put_else, each_set, each_kept, each_cons, each_more}
use Rattle.spd_state.proofs.Loads.{load_keeps}

module _ (m : ℕ) (vertices : ℕ → Vertex) (i : ℕ) where
  -- the vertex i is written, which wasn't ready: `set_vertex`, `wake_vertex`
  pub shown_beside : (x : Vertex) → (vertices i).state < 2 → (s : Shown) → ShownOk m vertices s → ShownOk m (put vertices i x) s
  shown_beside x early s h = let apart : s.vertex ≢ i = λ e. let w = h.woken in
      let k : (vertices s.vertex).state ≡ (vertices i).state = ap (λ j. (vertices j).state) e in omega arith in
      let q : put vertices i x s.vertex ≡ vertices s.vertex = put_else vertices i x s.vertex apart in record {
        low = h.low;
        woken = subst (λ (y : Vertex). 2 ≤ y.state) (sym q) h.woken;
        word = subst (λ (y : Vertex). y ≡ shown_word y.state s) (sym q) h.word;
      }

  -- it is started
  pub shown_starts : (vertices i).state ≡ 2 → (s : Shown) → ShownOk m vertices s → ShownOk m (put vertices i (start_word (vertices i))) s
  shown_starts ready s h = dite (ℕ_discrete s.vertex i)
      (λ e. let q : put vertices i (start_word (vertices i)) s.vertex ≡ start_word (vertices i) =
      put_here vertices i (start_word (vertices i)) s.vertex e in
      let was : vertices i ≡ shown_word (vertices i).state s = subst (λ j. vertices j ≡ shown_word (vertices j).state s) e h.word in record {
        low = h.low;
        woken = subst (λ (y : Vertex). 2 ≤ y.state) (sym q) (omega arith);
        word = subst (λ (y : Vertex). y ≡ shown_word y.state s) (sym q) (ap start_word was);
      })
      (λ n. let q : put vertices i (start_word (vertices i)) s.vertex ≡ vertices s.vertex =
      put_else vertices i (start_word (vertices i)) s.vertex n in record {
        low = h.low;
        woken = subst (λ (y : Vertex). 2 ≤ y.state) (sym q) h.woken;
        word = subst (λ (y : Vertex). y ≡ shown_word y.state s) (sym q) h.word;
      })

  -- what was seen ready, and isn't so any more, is started: no other word was ever there
  pub shown_taken : (s : Shown) → ShownOk m vertices s → s.vertex ≡ i → (vertices i).state < 4 → vertices i ≢ shown_word 2 s → (vertices i).state ≡ 3
  shown_taken s h e few other = let w = subst (λ j. 2 ≤ (vertices j).state) e h.woken in
      let was : vertices i ≡ shown_word (vertices i).state s = subst (λ j. vertices j ≡ shown_word (vertices j).state s) e h.word in
      dite (ℕ_discrete (vertices i).state 2) (λ two. absurd (other (was ∙ ap (λ k. shown_word k s) two))) (λ n. omega arith)

module _ (m : ℕ) (vertices vertices' : ℕ → Vertex) (vs : List View) (all : AllShown m vertices vs)
    (kept : (s : Shown) → ShownOk m vertices s → ShownOk m vertices' s) (id : ℕ) (v : View) (at : get_elem? vs id ≡ some v) where
  -- a step that keeps what one share has seen keeps what all have
  pub shown_kept : (w : View) → w.shown ≡ v.shown → AllShown m vertices' (set vs id w)
  shown_kept w e = each_set (λ (u : View). Each (ShownOk m vertices) u.shown) (λ (u : View). Each (ShownOk m vertices') u.shown) vs id w
      (subst (λ (l : List Shown). Each (ShownOk m vertices') l) (sym e) (λ j s i. kept s (all id v at j s i))) all
      (λ j u _ _ h k s i. kept s (h k s i))

module _ (m : ℕ) (vertices : ℕ → Vertex) (vs : List View) (all : AllShown m vertices vs) (id : ℕ) (v : View) (at : get_elem? vs id ≡ some v) where
  -- `see_vertex` finds a ready vertex
  pub shown_noted : (i : ℕ) → i < 2 * m → (vertices i).state ≡ 2 → AllShown m vertices (set vs id (note_ready i (vertices i) v))
  shown_noted i low ready = each_kept (λ (u : View). Each (ShownOk m vertices) u.shown) vs id (note_ready i (vertices i) v)
      (each_cons (ShownOk m vertices) (shown_of i (vertices i)) v.shown record { low = low; woken = omega arith; word = refl } (all id v at)) all

  -- a split makes a share that has seen nothing
  pub shown_split : (w n : View) → w.shown ≡ v.shown → n.shown ≡ [] → AllShown m vertices (set vs id w ++ n ∷ [])
  shown_split w n e z = each_more (λ (u : View). Each (ShownOk m vertices) u.shown) (set vs id w) n
      (subst (λ (l : List Shown). Each (ShownOk m vertices) l) (sym z) (λ j s i. absurd (some-ne-none s (sym i))))
      (each_kept (λ (u : View). Each (ShownOk m vertices) u.shown) vs id w
      (subst (λ (l : List Shown). Each (ShownOk m vertices) l) (sym e) (all id v at)) all)

-- and the load keeps the rule
pub note_keeps : {B : Type 0} (p : PlanView) (a : Dag) (homes : List (maybe.Option (Option B))) (vs : List View) (rule : Rule p a homes vs) (id : ℕ)
    (v : View) → get_elem? vs id ≡ some v → (i : ℕ) (x : Vertex) → Rule p a homes (set vs id (note_ready i x v))
note_keeps p a homes vs rule id v at i x = load_keeps p a homes vs rule id v at (note_ready i x v)
    record {
      flight = refl;
      held = refl;
      claimed = refl;
      rooted = refl;
      told = refl;
      slots = refl;
      full_draws = refl;
      seats = refl;
      spare = refl;
      lifted = refl;
      above = refl;
      halves = refl;
      known = refl;
      links = refl;
      sprout = refl;
      grow_draws = refl;
      full_grows = refl;
      spawns = refl;
      fresh = refl;
      starts = refl;
      ready = refl;
      done = refl;
    } refl (λ z. z)
