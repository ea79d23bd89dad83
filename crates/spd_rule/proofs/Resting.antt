-- A step after which a share runs nothing and has no move in flight puts its slot home too.
use Rattle.std.proofs.Common.{◌≢◌, ◌≡◌, ◌⊎◌, ℕ, ◌*◌, ◌<◌, ◌≤◌, List, [], ◌∷◌, length, set, map, refl, sym, ap, ◌∙◌, subst, arith, Option, Some, None, inl, inr}
use Rattle.std.proofs.Common.{⊎_elim}
use mathlib.Core.Option.{some}
use mathlib.Core.Option as maybe
use lib.ListN.{get_elem?}
use lib.Seq.{set-set}
use Rattle.atomic_table.specs.Table.{Me, Act, keeps, gives, Valid, homes_after, carried_after}
use Rattle.atomic_table.proofs.Lists.{set_else}
use Rattle.spd_words.specs.Meaning.{BodyView}
use Rattle.spd_rule.specs.Kept.{means_of}
use mathlib.Core.Logic.{dite}
use native.Mathlib.Decide.{ℕ_discrete}
use lib.ListN.{get_elem?}
use Rattle.spd_state.specs.Sums.{put}
use Rattle.spd_state.proofs.Sums.{put_here, put_else}
use Rattle.spd_rule.specs.Kept.{FitHomes, IsFit}
use Rattle.spd_debts.specs.BookRule.{BookRule}
use Rattle.spd_debts.proofs.Storing.{slots_after}
use Rattle.spd_words.specs.Plan.{PlanView}
use Rattle.spd_words.specs.Words.{Vertex}
use Rattle.spd_state.specs.Dag.{Dag}
use Rattle.spd_state.specs.Parts.{Rule, RunsOk}
use Rattle.spd_state.specs.declared.view.Running.{Running}
use Rattle.spd_state.specs.declared.view.Flight.{Flight}
use Rattle.spd_state.specs.declared.view.View.{View}
use Rattle.spd_state.proofs.Settle.{there_set}
use Rattle.spd_rule.specs.Rest.{due_running, rested, at_rest}
use Rattle.spd_rule.proofs.Home.{slot_home}

-- no slot, or that of a vertex that was started
pub record OneStarted (m : ℕ) (vertices : ℕ → Vertex) (i : ℕ) : Type 0 where
  pub low : i < 2 * m
  pub started : 3 ≤ (vertices i).state

abbrev pub HomeBound : {B : Type 0} → ℕ → (ℕ → Vertex) → List (ℕ × Option B) → Type 0
HomeBound {B} m vertices c = (c ≡ []) ⊎ ((i : ℕ) × (y : Option B) × (c ≡ (i, y) ∷ []) × OneStarted m vertices i)

-- by what runs
pub bound_by : {B : Type 0} (m : ℕ) (vertices : ℕ → Vertex) (c : List (ℕ × Option B)) (o : Option Running) → map (λ x. x.0) c ≡ due_running o
    → ((r : Running) → o ≡ Some r → OneStarted m vertices r.vertex) → HomeBound m vertices c
bound_by m vertices [] o e h = inl refl
bound_by m vertices (x ∷ []) None e h = absurd (cc)
bound_by m vertices (x ∷ []) (Some r) e h = let i : x.0 ≡ r.vertex = cc in inr (x.0, x.1, refl, subst (OneStarted m vertices) (sym i) (h r refl))
bound_by m vertices (x ∷ y ∷ ys) None e h = absurd (cc)
bound_by m vertices (x ∷ y ∷ ys) (Some r) e h = absurd (cc)

-- a running vertex was started
pub running_started : {B : Type 0} (p : PlanView) (a : Dag) (homes : List (maybe.Option (Option B))) (vs : List View) → Rule p a homes vs → (id : ℕ) (v : View)
    → get_elem? vs id ≡ some v
    → (r : Running) → v.running ≡ Some r → OneStarted p.moves a.vertices r.vertex
running_started p a homes vs rule id v at r e = let ok = subst (RunsOk p a.trees a.pairs a.vertices) e (rule.running id v at) in
    let s : (a.vertices r.vertex).state ≡ 3 = ap (λ (x : Vertex). x.state) ok.word in record { low = ok.vertex; started = omega arith }

-- what lies at home of vertices that wait or are ready is the same
abbrev pub SameHomes : {B : Type 0} → ℕ → (ℕ → Vertex) → List (maybe.Option (Option B)) → List (maybe.Option (Option B)) → Type 0
SameHomes m vertices homes homes' = (x : ℕ) → x < 2 * m → 0 < (vertices x).state → (vertices x).state < 3 → get_elem? homes' x ≡ get_elem? homes x

pub fit_alike : {B : Type 0} (told_of : B → BodyView) (m : ℕ) (vertices : ℕ → Vertex) (homes homes' : List (maybe.Option (Option B)))
    → FitHomes told_of m vertices homes → SameHomes m vertices homes homes' → FitHomes told_of m vertices homes'
fit_alike told_of m vertices homes homes' fit same x b low s t is = fit x b low s t (sym (same x low s t) ∙ is)

-- a vertex is written, and what lies in its slot afterwards is fit, or it doesn't wait
pub fit_put : {B : Type 0} (told_of : B → BodyView) (m : ℕ) (vertices : ℕ → Vertex) (homes homes' : List (maybe.Option (Option B))) (i : ℕ) (x : Vertex)
    → ((k : ℕ) → k ≢ i → get_elem? homes' k ≡ get_elem? homes k)
    → ((b : B) → i < 2 * m → 0 < x.state → x.state < 3 → get_elem? homes' i ≡ some (some (Some b)) → IsFit (told_of b))
    → FitHomes told_of m vertices homes → FitHomes told_of m (put vertices i x) homes'
fit_put {B} told_of m vertices homes homes' i x others here fit k b low s t is = dite (ℕ_discrete k i)
    (λ e. let v : put vertices i x k ≡ x = put_here vertices i x k e in here b (subst (λ (j : ℕ). j < 2 * m) e low)
    (subst (λ (y : Vertex). 0 < y.state) v s) (subst (λ (y : Vertex). y.state < 3) v t) (ap (get_elem? homes') (sym e) ∙ is))
    (λ n. let v : put vertices i x k ≡ vertices k = put_else vertices i x k n in fit k b low
    (subst (λ (y : Vertex). 0 < y.state) v s) (subst (λ (y : Vertex). y.state < 3) v t) (sym (others k n) ∙ is))

module _ {B : Type 0} (told_of : B → BodyView) (p : PlanView) (b : Dag) (homes : List (maybe.Option (Option B))) (vs : List View) (id : ℕ) (v : View) (at : get_elem? vs id ≡ some v)
    (w : View) (c : List (ℕ × Option B)) where
  -- the act that may follow a step
  pub record Rests (me : Me (Option B) View) : Type 0 where
    pub act : Act (Option B)
    pub valid : Valid homes c act
    pub kept : Rule p b (homes_after homes c act) (set vs id me.0)
    pub books : BookRule (means_of told_of) p b (homes_after homes c act) (set vs id me.0)
    -- What lies at home of a vertex that waits or is ready stays.
    pub alike : SameHomes p.moves b.vertices homes (homes_after homes c act)
    pub carried : me.1 ≡ carried_after c act

  module _ (kept : Rule p b homes (set vs id w)) (stands : BookRule (means_of told_of) p b homes (set vs id w)) (deep : length homes ≡ 2 * p.moves) (slots : w.slots ≡ map (λ x. x.0) c) where
    stays : Rests (w, c)
    stays = record { act = keeps; valid = tt; kept = kept; books = stands; alike = λ x l s t. refl; carried = refl }

    rests_by : (o : Option Running) (f : Option Flight) → w.running ≡ o → w.flight ≡ f → (o ≡ None → f ≡ None → HomeBound p.moves b.vertices c)
        → Rests (rested o f (w, c))
    rests_by (Some r) f e g h = stays
    rests_by None (Some f) e g h = stays
    rests_by None None e g h = ⊎_elim
        (λ (none : c ≡ []). let empty : w.slots ≡ [] = slots ∙ ap (map (λ x. x.0)) none in
        record {
          act = keeps;
          valid = tt;
          kept = subst (λ (l : List ℕ). Rule p b homes (set vs id (record w { slots = l }))) empty kept;
          books = subst (λ (l : List ℕ). BookRule (means_of told_of) p b homes (set vs id (record w { slots = l }))) empty stands;
          alike = λ x l s t. refl;
          carried = sym none;
        })
        (λ (one : (i : ℕ) × (y : Option B) × (c ≡ (i, y) ∷ []) × OneStarted p.moves b.vertices i). let i : ℕ = one.0 in let y : Option B = one.1 in
        let is = one.2 in let s = one.3 in
        let home = slot_home p b homes (set vs id w) kept id w (there_set vs id v w at) deep g i s.low s.started (slots ∙ ap (map (λ x. x.0)) is) y in record {
          act = gives;
          valid = tt;
          kept = subst (λ (l : List (ℕ × Option B)). Rule p b (homes_after homes l gives) (set vs id (record w { slots = [] }))) (sym is)
              (subst (λ (l : List View). Rule p b (set homes i (some y)) l) (set-set vs id w (record w { slots = [] })) home);
          books = subst (λ (l : List (ℕ × Option B)). BookRule (means_of told_of) p b (homes_after homes l gives) (set vs id (record w { slots = [] }))) (sym is)
              (slots_after (means_of told_of) p b homes vs id v w at kept stands [] (set homes i (some y)) (λ x l t u. let st = s.started in
              set_else homes i x (some y) (λ e. let z : (b.vertices x).state ≡ (b.vertices i).state = ap (λ k. (b.vertices k).state) e in omega arith)));
          alike = subst (λ (l : List (ℕ × Option B)). SameHomes p.moves b.vertices homes (homes_after homes l gives)) (sym is) (λ x l t u. let st = s.started in
              set_else homes i x (some y) (λ e. let z : (b.vertices x).state ≡ (b.vertices i).state = ap (λ k. (b.vertices k).state) e in omega arith));
          carried = sym (ap (λ l. carried_after l gives) is);
        })
        (h refl refl)

    pub rests : (w.running ≡ None → w.flight ≡ None → HomeBound p.moves b.vertices c) → Rests (at_rest (w, c))
    rests h = rests_by w.running w.flight refl refl h
