-- From a step on the typed words to what the table asks of a step on its words, once for each kind of word.
use Rattle.std.proofs.Common.{◌≡◌, ◌⊎◌, ℕ, ◌+◌, ◌*◌, ◌<◌, List, length, set, get_or, refl, sym, ap, ◌∙◌, subst, Option, ⊎_elim}
use mathlib.Core.Option.{some}
use mathlib.Core.Option as maybe
use lib.ListN.{get_elem?}
use lib.Seq.{set-get_or}
use Rattle.atomic_table.specs.Table.{State, Me, Act, Valid, homes_after, carried_after, Allows, stepped}
use Rattle.spd_words.specs.Plan.{PlanView, moves_place, node_place, pair_place, vertex_place, gift_place, fault_place, done_place}
use Rattle.spd_words.specs.Words.{Vertex, NodeFits, PairFits, VertexFits, pack_node, pack_pair, pack_vertex}
use Rattle.spd_state.specs.Sums.{put}
use Rattle.spd_state.specs.Dag.{Dag, IsWritten}
use Rattle.spd_state.specs.Parts.{Rule}
use Rattle.spd_state.specs.declared.view.Shown.{Shown}
use Rattle.spd_state.specs.declared.view.View.{View}
use Rattle.spd_state.specs.Shown.{ShownOk, AllShown}
use Rattle.spd_state.proofs.Showing.{shown_kept}
use Rattle.spd_state.proofs.Writes.{write_moves, write_node, write_pair, write_vertex, write_gift, write_fault, write_done}
use Rattle.spd_words.specs.Meaning.{BodyView, Awaited}
use Rattle.spd_debts.specs.BookRule.{BookRule}
use Rattle.spd_rule.specs.Held.{Held, StepUnderRule}
use Rattle.spd_rule.specs.Kept.{FitHomes, means_of, Kept, StepUnderBooks}
use Rattle.spd_rule.proofs.Conserved.{lay_there}
use Rattle.spd_rule.proofs.Follows.{follows}

-- what a step tells, it tells of a step under the rule
module _ {B : Type 0} (told_of : B → BodyView) (p key picked : PlanView) (keyed : key ≡ p) (is : picked ≡ p) (slots id : ℕ) (me : Me (Option B) View) (place : ℕ) where
  taken : (f : ℕ → ℕ) (then : ℕ → Me (Option B) View → Type 0) → Allows (Kept told_of p) slots id me place f then
      → Allows (Kept told_of p) slots id me place f (λ n m'. then n m' × StepUnderBooks (means_of told_of) p place n (f n) me m')
  taken f then allowed s held deep at fits = let r = allowed s held deep at fits in (
    r.0,
    r.1,
    r.2,
    r.3,
    (
      r.4,
      record {
        step = record {
          before = s;
          after = stepped s place (f (get_or s.words place 0)) id me.1 r.0 r.1;
          seat = id;
          held = held.held;
          kept = r.3.held;
          knew = at;
          was = refl;
          words = refl;
          views = refl;
          bodies = lay_there r.1 s.homes me.1 r.2;
          follows_before = follows p held.held.dag s.homes s.views held.held.kept;
          follows_after = follows p r.3.held.dag (homes_after s.homes me.1 r.1) (set s.views id r.0) r.3.held.kept;
        };
        books_before = held.books;
        books_after = r.3.books;
      },
    ),
  )

  pub under_rule : (f : ℕ → ℕ) (then : ℕ → Me (Option B) View → Type 0) → Allows (Kept told_of p) slots id me place f then
      → Allows (Kept told_of key) slots id me place f (λ n m'. then n m' × StepUnderBooks (means_of told_of) picked place n (f n) me m')
  under_rule f then allowed = subst (λ (k : PlanView). Allows (Kept told_of k) slots id me place f (λ n m'. then n m' × StepUnderBooks (means_of told_of) picked place n (f n) me m'))
      (sym keyed)
      (subst (λ (k : PlanView). Allows (Kept told_of p) slots id me place f (λ n m'. then n m' × StepUnderBooks (means_of told_of) k place n (f n) me m')) (sym is) (taken f then allowed))

  stored : (x : ℕ) (then : Me (Option B) View → Type 0) → Allows (Kept told_of p) slots id me place (λ _. x) (λ _. then)
      → Allows (Kept told_of p) slots id me place (λ _. x) (λ _ m'. then m' × (w : ℕ) × StepUnderBooks (means_of told_of) p place w x me m')
  stored x then allowed s held deep at fits = let r = taken (λ _. x) (λ _. then) allowed s held deep at fits in
      (r.0, r.1, r.2, r.3, (r.4.0, get_or s.words place 0, r.4.1))

  pub stores_under_rule : (x : ℕ) (tells : ℕ → Me (Option B) View → Type 0) → Allows (Kept told_of p) slots id me place (λ _. x) (λ _. tells x)
      → Allows (Kept told_of key) slots id me place (λ _. x) (λ _ m'. tells x m' × (w : ℕ) × StepUnderBooks (means_of told_of) picked place w x me m')
  stores_under_rule x tells allowed = subst (λ (k : PlanView). Allows (Kept told_of k) slots id me place (λ _. x)
      (λ _ m'. tells x m' × (w : ℕ) × StepUnderBooks (means_of told_of) picked place w x me m')) (sym keyed)
      (subst (λ (k : PlanView). Allows (Kept told_of p) slots id me place (λ _. x) (λ _ m'. tells x m' × (w : ℕ) × StepUnderBooks (means_of told_of) k place w x me m')) (sym is)
      (stored x (tells x) allowed))

module _ {B : Type 0} (p : PlanView) (id : ℕ) (me : Me (Option B) View) (place : ℕ) where
  -- Whatever the table is under the rule while the share has its view, the word is 0.
  abbrev pub IsBlank : Type 0
  IsBlank = (s : State (Option B) View) → Held p s → get_elem? s.views id ≡ some me.0 → get_or s.words place 0 ≡ 0

  -- a store onto such a word says that it found 0
  pub stores_blank : (told_of : B → BodyView) (slots x : ℕ) (then : Me (Option B) View → Type 0) → IsBlank → Allows (Kept told_of p) slots id me place (λ _. x) (λ _. then)
      → Allows (Kept told_of p) slots id me place (λ _. x) (λ _ m'. then m' × StepUnderRule p place 0 x me m')
  stores_blank told_of slots x then blank allowed s held deep at fits =
      let r = taken told_of p p p refl refl slots id me place (λ _. x) (λ _. then) allowed s held deep at fits in (
        r.0,
        r.1,
        r.2,
        r.3,
        (r.4.0, subst (λ (n : ℕ). StepUnderRule p place n x me (r.0, carried_after me.1 r.1)) (blank s held.held at) r.4.1.step),
      )

-- in no word: what finishes are to give, the region's number, and whether books are kept
abbrev pub marked : Dag → (ℕ → Awaited) → ℕ → ℕ → Dag
marked a expects region tame = record a { expects = expects; region = region; tame = tame }

-- the words stand whatever is in no word
written_marked : (p : PlanView) (a : Dag) (ws : List ℕ) (expects : ℕ → Awaited) (region tame : ℕ) → IsWritten p a ws
    → IsWritten p (marked a expects region tame) ws
written_marked p a ws expects region tame h = record {
  long = h.long;
  drawn = h.drawn;
  bred = h.bred;
  done = h.done;
  children = h.children;
  parents = h.parents;
  nodes = h.nodes;
  pairs = h.pairs;
  vertices = h.vertices;
  gifts = h.gifts;
  faults = h.faults;
  nodes_fit = h.nodes_fit;
  pairs_fit = h.pairs_fit;
  vertices_fit = h.vertices_fit;
  gifts_fit = h.gifts_fit;
  faults_fit = h.faults_fit;
}

-- and so does the rule
pub marked_rule : {B : Type 0} (p : PlanView) (a : Dag) (homes : List (maybe.Option (Option B))) (vs : List View) (expects : ℕ → Awaited) (region tame : ℕ)
    → Rule p a homes vs → Rule p (marked a expects region tame) homes vs
marked_rule p a homes vs expects region tame rule = record {
  plan = rule.plan;
  own = rule.own;
  running = rule.running;
  flying = rule.flying;
  moves = rule.moves;
  marks = rule.marks;
  starts = rule.starts;
  runs = rule.runs;
  live = rule.live;
  counts = rule.counts;
  balances = rule.balances;
  finishes = rule.finishes;
  slots = rule.slots;
  forest = rule.forest;
  bare = rule.bare;
  trees = rule.trees;
  growth = rule.growth;
  grows = rule.grows;
  history = rule.history;
}

module _ {B : Type 0} (told_of : B → BodyView) (p : PlanView) (slots id : ℕ) (me : Me (Option B) View) where
  -- the new view and the act of a step, after which the typed words are those of b
  pub record Move (b : Dag) (homes : List (maybe.Option (Option B))) (vs : List View) (then : Me (Option B) View → Type 0) : Type 0 where
    pub view : View
    pub act : Act (Option B)
    pub valid : Valid homes me.1 act
    pub kept : Rule p b (homes_after homes me.1 act) (set vs id view)
    pub shown : AllShown p.moves b.vertices (set vs id view)
    pub books : BookRule (means_of told_of) p b (homes_after homes me.1 act) (set vs id view)
    pub fit : FitHomes told_of p.moves b.vertices (homes_after homes me.1 act)
    pub tells : then (view, carried_after me.1 act)

  -- what a step may start from
  pub record From (a : Dag) (homes : List (maybe.Option (Option B))) (vs : List View) : Type 0 where
    pub rule : Rule p a homes vs
    pub shown : AllShown p.moves a.vertices vs
    pub books : BookRule (means_of told_of) p a homes vs
    pub fit : FitHomes told_of p.moves a.vertices homes
    pub gifts_fit : (d : ℕ) → d < p.moves → a.gifts d < 18446744073709551616
    pub deep : length homes ≡ slots
    pub at : get_elem? vs id ≡ some me.0

  -- no other vertex is seen, and the vertices stay, or one of them is written in a way that keeps what was seen
  pub unseen : (a : Dag) (homes : List (maybe.Option (Option B))) (vs : List View) → From a homes vs → (w : View) → w.shown ≡ me.0.shown
      → AllShown p.moves a.vertices (set vs id w)
  unseen a homes vs from w e = shown_kept p.moves a.vertices a.vertices vs from.shown (λ s h. h) id me.0 from.at w e

  pub unseen_by : (a : Dag) (homes : List (maybe.Option (Option B))) (vs : List View) → From a homes vs → (i : ℕ) (x : Vertex)
      → ((s : Shown) → ShownOk p.moves a.vertices s → ShownOk p.moves (put a.vertices i x) s) → (w : View) → w.shown ≡ me.0.shown
      → AllShown p.moves (put a.vertices i x) (set vs id w)
  unseen_by a homes vs from i x stays w e = shown_kept p.moves a.vertices (put a.vertices i x) vs from.shown stays id me.0 from.at w e

  -- the step writes x in place of a typed word, or leaves the word
  pub record Writes {W : Type 0} (Fits : W → Type 0) (pack : W → ℕ) (change : Dag → W → Dag) (a : Dag) (old : W) (f : ℕ → ℕ)
      (homes : List (maybe.Option (Option B))) (vs : List View) (then : ℕ → Me (Option B) View → Type 0) : Type 0 where
    pub new : W
    pub fits : Fits new
    pub packs : pack new ≡ f (pack old)
    pub expects : ℕ → Awaited
    pub region : ℕ
    pub tame : ℕ
    pub move : Move (marked (change a new) expects region tame) homes vs (then (pack old))

  pub record Leaves (a : Dag) (n : ℕ) (f : ℕ → ℕ) (homes : List (maybe.Option (Option B))) (vs : List View)
      (then : ℕ → Me (Option B) View → Type 0) : Type 0 where
    pub stays : f n ≡ n
    pub move : Move a homes vs (then n)

  -- the same at any word, and any change of it
  allow : {W : Type 0} (Fits : W → Type 0) (pack : W → ℕ) (change : Dag → W → Dag) (read : Dag → W) (place : ℕ)
      → ((a : Dag) (ws : List ℕ) → IsWritten p a ws → (get_or ws place 0 ≡ pack (read a)) × Fits (read a))
      → ((a : Dag) (ws : List ℕ) (x : W) → Fits x → IsWritten p a ws → IsWritten p (change a x) (set ws place (pack x)))
      → (f : ℕ → ℕ) (then : ℕ → Me (Option B) View → Type 0)
      → ((a : Dag) (homes : List (maybe.Option (Option B))) (vs : List View) → From a homes vs → Fits (read a) → pack (read a) < 18446744073709551616
      → Writes Fits pack change a (read a) f homes vs then ⊎ Leaves a (pack (read a)) f homes vs then)
      → Allows (Kept told_of p) slots id me place f then
  allow {W} Fits pack change read place found write f then step s held deep at fits =
      let a : Dag = held.held.dag in let n : ℕ = get_or s.words place 0 in let was = found a s.words held.held.written in let e : n ≡ pack (read a) = was.0 in ⊎_elim
      (λ (k : Writes Fits pack change a (read a) f s.homes s.views then). let m = k.move in (
        m.view,
        m.act,
        m.valid,
        record {
          held = record {
            dag = marked (change a k.new) k.expects k.region k.tame;
            written = written_marked p (change a k.new) (set s.words place (f n)) k.expects k.region k.tame
                (subst (λ (x : ℕ). IsWritten p (change a k.new) (set s.words place x)) (k.packs ∙ ap f (sym e))
                (write a s.words k.new k.fits held.held.written));
            kept = m.kept;
            shown = m.shown;
          };
          books = m.books;
          fit = m.fit;
        },
        subst (λ (x : ℕ). then x (m.view, carried_after me.1 m.act)) (sym e) m.tells,
      ))
      (λ (k : Leaves a (pack (read a)) f s.homes s.views then). let m = k.move in (
        m.view,
        m.act,
        m.valid,
        record {
          held = record {
            dag = a;
            written = subst (λ (ws : List ℕ). IsWritten p a ws) (sym (ap (set s.words place) (ap f e ∙ (k.stays ∙ sym e))
                ∙ set-get_or s.words place 0)) held.held.written;
            kept = m.kept;
            shown = m.shown;
          };
          books = m.books;
          fit = m.fit;
        },
        subst (λ (x : ℕ). then x (m.view, carried_after me.1 m.act)) (sym e) m.tells,
      ))
      (step a s.homes s.views record { rule = held.held.kept; shown = held.held.shown; books = held.books; fit = held.fit; gifts_fit = held.held.written.gifts_fit; deep = deep; at = at } was.1 (subst (λ (x : ℕ). x < 18446744073709551616) e fits))

  pub allow_moves : (f : ℕ → ℕ) (then : ℕ → Me (Option B) View → Type 0)
      → ((a : Dag) (homes : List (maybe.Option (Option B))) (vs : List View) → From a homes vs → a.drawn < 18446744073709551616
      → Writes (λ _. Unit {0}) (λ (x : ℕ). x) (λ b x. record b { drawn = x }) a a.drawn f homes vs then ⊎ Leaves a a.drawn f homes vs then)
      → Allows (Kept told_of p) slots id me moves_place f then
  allow_moves f then step = allow (λ _. Unit {0}) (λ (x : ℕ). x) (λ b x. record b { drawn = x }) (λ b. b.drawn) moves_place (λ a ws h. (h.drawn, tt))
      (λ a ws x _ h. write_moves p a ws x h) f then (λ a homes vs from _. step a homes vs from)

  pub allow_node : (d : ℕ) → d < p.moves + p.grown → (f : ℕ → ℕ) (then : ℕ → Me (Option B) View → Type 0)
      → ((a : Dag) (homes : List (maybe.Option (Option B))) (vs : List View) → From a homes vs → NodeFits (a.nodes d)
      → pack_node (a.nodes d) < 18446744073709551616
      → Writes NodeFits pack_node (λ b x. record b { nodes = put b.nodes d x }) a (a.nodes d) f homes vs then
      ⊎ Leaves a (pack_node (a.nodes d)) f homes vs then)
      → Allows (Kept told_of p) slots id me (node_place p d) f then
  allow_node d low = allow NodeFits pack_node (λ b x. record b { nodes = put b.nodes d x }) (λ b. b.nodes d) (node_place p d)
      (λ a ws h. (h.nodes d low, h.nodes_fit d low)) (λ a ws x fit h. write_node p a ws d x low fit h)

  pub allow_pair : (d : ℕ) → d < p.moves → (f : ℕ → ℕ) (then : ℕ → Me (Option B) View → Type 0)
      → ((a : Dag) (homes : List (maybe.Option (Option B))) (vs : List View) → From a homes vs → PairFits (a.pairs d)
      → pack_pair (a.pairs d) < 18446744073709551616
      → Writes PairFits pack_pair (λ b x. record b { pairs = put b.pairs d x }) a (a.pairs d) f homes vs then
      ⊎ Leaves a (pack_pair (a.pairs d)) f homes vs then)
      → Allows (Kept told_of p) slots id me (pair_place p d) f then
  allow_pair d low = allow PairFits pack_pair (λ b x. record b { pairs = put b.pairs d x }) (λ b. b.pairs d) (pair_place p d)
      (λ a ws h. (h.pairs d low, h.pairs_fit d low)) (λ a ws x fit h. write_pair p a ws d x low fit h)

  pub allow_vertex : (v : ℕ) → v < 2 * p.moves → (f : ℕ → ℕ) (then : ℕ → Me (Option B) View → Type 0)
      → ((a : Dag) (homes : List (maybe.Option (Option B))) (vs : List View) → From a homes vs → VertexFits (a.vertices v)
      → pack_vertex (a.vertices v) < 18446744073709551616
      → Writes VertexFits pack_vertex (λ b x. record b { vertices = put b.vertices v x }) a (a.vertices v) f homes vs then
      ⊎ Leaves a (pack_vertex (a.vertices v)) f homes vs then)
      → Allows (Kept told_of p) slots id me (vertex_place p v) f then
  allow_vertex v low = allow VertexFits pack_vertex (λ b x. record b { vertices = put b.vertices v x }) (λ b. b.vertices v) (vertex_place p v)
      (λ a ws h. (h.vertices v low, h.vertices_fit v low)) (λ a ws x fit h. write_vertex p a ws v x low fit h)

  -- the words of the books: what finish d has been offered, the least code of a fault in it, and the end
  pub allow_gift : (d : ℕ) → d < p.moves → (f : ℕ → ℕ) (then : ℕ → Me (Option B) View → Type 0)
      → ((a : Dag) (homes : List (maybe.Option (Option B))) (vs : List View) → From a homes vs → a.gifts d < 18446744073709551616
      → Writes (λ (x : ℕ). x < 18446744073709551616) (λ (x : ℕ). x) (λ b x. record b { gifts = put b.gifts d x }) a (a.gifts d) f homes vs then
      ⊎ Leaves a (a.gifts d) f homes vs then)
      → Allows (Kept told_of p) slots id me (gift_place p d) f then
  allow_gift d low f then step = allow (λ (x : ℕ). x < 18446744073709551616) (λ (x : ℕ). x) (λ b x. record b { gifts = put b.gifts d x }) (λ b. b.gifts d)
      (gift_place p d) (λ a ws h. (h.gifts d low, h.gifts_fit d low)) (λ a ws x fit h. write_gift p a ws d x low fit h) f then
      (λ a homes vs from fit _. step a homes vs from fit)

  pub allow_fault : (d : ℕ) → d < p.moves → (f : ℕ → ℕ) (then : ℕ → Me (Option B) View → Type 0)
      → ((a : Dag) (homes : List (maybe.Option (Option B))) (vs : List View) → From a homes vs → a.faults d < 18446744073709551616
      → Writes (λ (x : ℕ). x < 18446744073709551616) (λ (x : ℕ). x) (λ b x. record b { faults = put b.faults d x }) a (a.faults d) f homes vs then
      ⊎ Leaves a (a.faults d) f homes vs then)
      → Allows (Kept told_of p) slots id me (fault_place p d) f then
  allow_fault d low f then step = allow (λ (x : ℕ). x < 18446744073709551616) (λ (x : ℕ). x) (λ b x. record b { faults = put b.faults d x }) (λ b. b.faults d)
      (fault_place p d) (λ a ws h. (h.faults d low, h.faults_fit d low)) (λ a ws x fit h. write_fault p a ws d x low fit h) f then
      (λ a homes vs from fit _. step a homes vs from fit)

  pub allow_done : (f : ℕ → ℕ) (then : ℕ → Me (Option B) View → Type 0)
      → ((a : Dag) (homes : List (maybe.Option (Option B))) (vs : List View) → From a homes vs → a.done < 18446744073709551616
      → Writes (λ _. Unit {0}) (λ (x : ℕ). x) (λ b x. record b { done = x }) a a.done f homes vs then ⊎ Leaves a a.done f homes vs then)
      → Allows (Kept told_of p) slots id me done_place f then
  allow_done f then step = allow (λ _. Unit {0}) (λ (x : ℕ). x) (λ b x. record b { done = x }) (λ b. b.done) done_place (λ a ws h. (h.done, tt))
      (λ a ws x _ h. write_done p a ws x h) f then (λ a homes vs from _. step a homes vs from)
