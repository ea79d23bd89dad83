-- The table allows a vertex to be started.
use Rattle.std.proofs.Common.{[], ◌≡◌, ◌≢◌, ℕ, ◌+◌, ◌*◌, ◌<◌, List, length, set, refl, sym, ap, ◌∙◌, subst, arith, ◌∷◌, Option, Some, None, inl, inr, eqb, eq-eqb, ne_eqb}
use mathlib.Core.Option.{some}
use mathlib.Core.Option as maybe
use mathlib.Core.Logic.{dite}
use native.Mathlib.Decide.{ℕ_discrete}
use prog.Atomic.{either}
use lib.ListN.{get_elem?}
use Rattle.atomic_table.specs.Table.{Me, keeps, takes, Allows}
use Rattle.spd_words.specs.Plan.{PlanView, vertex_place}
use Rattle.spd_words.specs.Meaning.{BodyView, Meaning}
use Rattle.spd_words.specs.Words.{Vertex, VertexFits, vertex_of, pack_vertex}
use Rattle.spd_words.proofs.Reading.{vertex_read}
use Rattle.spd_state.specs.Sums.{put}
use Rattle.spd_state.specs.Dag.{Dag}
use Rattle.spd_state.specs.Parts.{Rule, IsInside}
use Rattle.spd_state.specs.Steps.{stepped, start_word, start_run, start_view}
use Rattle.spd_state.specs.Shown.{ShownOk}
use Rattle.spd_state.specs.declared.view.View.{View}
use Rattle.spd_state.proofs.Loads.{load_keeps}
use Rattle.spd_state.proofs.Start.{start_keeps}
use Rattle.spd_state.proofs.Bounds.{starts_few}
use Rattle.spd_state.proofs.Settle.{there_set}
use mathlib.Core.Option.{none}
use Rattle.spd_debts.specs.BookRule.{BookRule}
use Rattle.spd_debts.proofs.Bookkeeping.{load_stands}
use Rattle.spd_debts.proofs.Storing.{start_body_stands, start_end_stands}
use Rattle.spd_state.specs.Dag.{openings}
use Rattle.spd_state.specs.declared.promise.Whole.{Whole}
use Rattle.spd_debts.specs.Books.{BodyOk}
use Rattle.spd_rule.specs.Payments.{KnowsBooks}
use Rattle.spd_rule.specs.Kept.{StartsFit, means_of, Kept}
use Rattle.spd_rule.specs.Steps.{MayStart, StartsVertex, HasSeen, LateStart, meaning_in}
use Rattle.spd_state.proofs.Showing.{shown_starts, shown_taken}
use Rattle.atomic_table.proofs.Lists.{set_else}
use Rattle.spd_rule.proofs.Resting.{fit_put}
use Rattle.spd_rule.proofs.Glue.{From, allow_vertex, unseen, unseen_by}

-- what lies in the slot that was taken last
abbrev first_body : {S : Type 0} → S → List (ℕ × S) → S
first_body y [] = y
first_body y (x ∷ xs) = x.1

module _ {B : Type 0} (told_of : B → BodyView) (p : PlanView) (slots id : ℕ) (me : Me (Option B) View) where
  -- a step that changes the number of steps alone
  pub idles : (a : Dag) (homes : List (maybe.Option (Option B))) (vs : List View) → From told_of p slots id me a homes vs
      → Rule p a homes (set vs id (stepped me.0))
  idles a homes vs from = load_keeps p a homes vs from.rule id me.0 from.at
      (stepped me.0) record {
        flight = refl;
        held = refl;
        claimed = refl;
        rooted = refl;
        told = refl;
        slots = refl;
        full_draws = refl;
        seats = refl;
        spare = refl;
        lifted = refl;
        above = refl;
        halves = refl;
        known = refl;
        links = refl;
        sprout = refl;
        grow_draws = refl;
        full_grows = refl;
        spawns = refl;
        fresh = refl;
        starts = refl;
        ready = refl;
        done = refl;
      } refl (λ e. e)

module _ {B : Type 0} (told_of : B → BodyView) (p : PlanView) (slots id : ℕ) (me : Me (Option B) View) where
  -- what lies at home in the slot of a ready vertex
  body_there : (a : Dag) (homes : List (maybe.Option (Option B))) (vs : List View) (from : From told_of p slots id me a homes vs) (i : ℕ) → i < 2 * p.moves
      → (a.vertices i).state ≡ 2
      → (y : Option B) × (get_elem? homes i ≡ some (some y)) × (i ≡ 1 → y ≡ None) × (i ≢ 1 → (b : B) × (y ≡ Some b))
  body_there a homes vs from i low two = let h = from.rule.slots in dite (ℕ_discrete i 1)
      (λ e. let s : (a.vertices 1).state ≡ 2 = ap (λ j. (a.vertices j).state) (sym e) ∙ two in
      (None, ap (get_elem? homes) e ∙ h.end (omega arith) (omega arith), (λ _. refl), λ n. absurd (n e)))
      (λ n. let b = h.body i low (omega arith) (omega arith) n in (Some b.0, b.1, (λ e. absurd (n e)), λ _. (b.0, refl)))

  -- what the share has seen ready was started by another since
  late : (a : Dag) (homes : List (maybe.Option (Option B))) (vs : List View) → From told_of p slots id me a homes vs → (i seen : ℕ)
      → VertexFits (a.vertices i) → pack_vertex (a.vertices i) ≢ seen → HasSeen i seen me.0 → (vertex_of (pack_vertex (a.vertices i))).state ≡ 3
  late a homes vs from i seen fit miss has = let x : Vertex = a.vertices i in
      let stands : ShownOk p.moves a.vertices has.noted = from.shown id me.0 from.at has.at has.noted has.there in
      ap (λ (y : Vertex). y.state) (vertex_read x fit)
      ∙ shown_taken p.moves a.vertices i has.noted stands has.vertex fit.state (λ e. miss (ap pack_vertex e ∙ has.word))

  start_stands : (a : Dag) (homes : List (maybe.Option (Option B))) (vs : List View) (from : From told_of p slots id me a homes vs) (i : ℕ) → i < 2 * p.moves
      → length homes ≡ 2 * p.moves → me.0.running ≡ None → (a.vertices i).state ≡ 2 → (y : Option B) → get_elem? homes i ≡ some (some y) → (i ≡ 1 → y ≡ None)
      → (i ≢ 1 → (b : B) × (y ≡ Some b))
      → BookRule (means_of told_of) p (record a { vertices = put a.vertices i (start_word (a.vertices i)) }) (set homes i none)
      (set vs id (start_view i (a.vertices i) (meaning_in (means_of told_of) y) me.0))
  start_stands a homes vs from i low deep idle two None there end other = dite (ℕ_discrete i 1)
      (λ e. start_end_stands (means_of told_of) p a homes vs from.rule from.books id me.0 from.at deep idle i low two e)
      (λ n. let t = other n in let z = t.1 in absurd (cc))
  start_stands a homes vs from i low deep idle two (Some b) there end other = dite (ℕ_discrete i 1) (λ e. let z = end e in absurd (cc))
      (λ n. start_body_stands (means_of told_of) p a homes vs from.rule from.books id me.0 from.at deep idle i low two n b there)

  started_fit : (a : Dag) (homes : List (maybe.Option (Option B))) (vs : List View) (from : From told_of p slots id me a homes vs) (i : ℕ) → i < 2 * p.moves
      → (a.vertices i).state ≡ 2 → (y : Option B) → get_elem? homes i ≡ some (some y) → (w : View) → StartsFit told_of i me (w, (i, y) ∷ me.1)
  started_fit a homes vs from i low two y there w b e = let k : y ≡ Some b = ap (first_body y) e in
      let at : get_elem? homes i ≡ some (some (Some b)) = there ∙ ap (λ (o : Option B). some (some o)) k in record {
        fit = from.fit i b low (omega arith) (omega arith) at;
        tame = λ whole knows. (ok at whole knows).tame;
        waits = λ whole knows x is. let t = (ok at whole knows).only x is in (t.0, t.1);
      }
    where
      other : get_elem? homes i ≡ some (some (Some b)) → i ≢ 1
      other at n = let s : (a.vertices 1).state ≡ 2 = ap (λ j. (a.vertices j).state) (sym n) ∙ two in
          let z : some (some None) ≡ some (some (Some b)) = sym (from.rule.slots.end (omega arith) (omega arith)) ∙ sym (ap (get_elem? homes) n) ∙ at in
          absurd (cc)

      ok : get_elem? homes i ≡ some (some (Some b)) → (whole : Whole) → KnowsBooks me.0 whole
          → BodyOk (openings a.vertices vs) a.expects i (a.vertices i).finish (means_of told_of b)
      ok at whole knows = let c = (from.books.carries id me.0 from.at).keeps whole knows.0 knows.1 in
          (from.books.kept c.0).bodies i b low (omega arith) (omega arith) (other at) at

  pub starts : (i seen : ℕ) → slots ≡ 2 * p.moves → i < 2 * p.moves → MayStart seen me.0 → 0 < me.0.seats
      → Allows (Kept told_of p) slots id me (vertex_place p i) (λ n. either (eqb n seen) (seen + 1) n)
      (λ n m'. (n ≡ seen → StartsVertex (means_of told_of) p i seen me m') × (n ≢ seen → LateStart i seen n me m') × (n ≡ seen → StartsFit told_of i me m'))
  starts i seen size low may seated = allow_vertex told_of p slots id me i low (λ n. either (eqb n seen) (seen + 1) n)
      (λ n m'. (n ≡ seen → StartsVertex (means_of told_of) p i seen me m') × (n ≢ seen → LateStart i seen n me m') × (n ≡ seen → StartsFit told_of i me m'))
      (λ a homes vs from fit fits. let x : Vertex = a.vertices i in dite (ℕ_discrete (pack_vertex x) seen)
      (λ hit. let read : x ≡ vertex_of seen = sym (vertex_read x fit) ∙ ap vertex_of hit in let two : x.state ≡ 2 = ap (λ (y : Vertex). y.state) read
      ∙ may.ready in
      let slot = body_there a homes vs from i low two in let rule = from.rule in let m : Option Meaning = meaning_in (means_of told_of) slot.0 in
      let kept = start_keeps p a homes vs rule id me.0 from.at (from.deep ∙ size) may.running may.flight seated i low m two slot.0 slot.1 in
      let pair = rule.balances.pair i low (omega arith) in let finish = (rule.live.finish i low (omega arith)).0 in
      let inc = (rule.live.inc i low (omega arith)).low in
      let here : IsInside p (start_run i x) = (low, pair, finish, inc) in inl record {
        new = start_word x;
        fits = record { state = omega arith; side = fit.side; pair = fit.pair; finish = fit.finish; inc = fit.inc };
        expects = a.expects;
        region = a.region;
        tame = a.tame;
        packs = (let e : pack_vertex (start_word x) ≡ seen + 1 = omega arith in e)
            ∙ sym (ap (λ b. either b (seen + 1) (pack_vertex x)) (eq-eqb (pack_vertex x) seen hit));
        move = record {
          view = start_view i x m me.0;
          act = takes i slot.0;
          valid = slot.1;
          kept = kept;
          shown = unseen_by told_of p slots id me a homes vs from i (start_word x) (shown_starts p.moves a.vertices i two) (start_view i x m me.0) refl;
          books = start_stands a homes vs from i low (from.deep ∙ size) may.running two slot.0 slot.1 slot.2 slot.3;
          fit = fit_put told_of p.moves a.vertices homes (set homes i none) i (start_word x) (λ k n. set_else homes i k none n)
              (λ c l s (t : 3 < 3) e. absurd (omega arith)) from.fit;
          tells = (
            (λ _. record {
              body = slot.0;
              known = λ j. (start_view i (read j) m me.0, (i, slot.0) ∷ me.1);
              end = slot.2;
              other = slot.3;
              inside = subst
                  (λ (y : Vertex). IsInside p (start_run i y)) read here;
              few = starts_few p (record a { vertices = put a.vertices i (start_word x) }) (set homes i none) (set vs id (start_view i x m me.0)) kept id
                  (start_view i x m me.0) (there_set vs id me.0 (start_view i x m me.0) from.at);
            }),
            (λ miss. absurd (miss hit)),
            λ _. started_fit a homes vs from i low two slot.0 slot.1 (start_view i x m me.0),
          );
        };
      })
      (λ miss. inr record {
        stays = ap (λ b. either b (seen + 1) (pack_vertex x)) (ne_eqb (pack_vertex x) seen miss);
        move = record {
          view = stepped me.0;
          act = keeps;
          valid = tt;
          kept = idles told_of p slots id me a homes vs from;
          shown = unseen told_of p slots id me a homes vs from (stepped me.0) refl;
          books = load_stands (means_of told_of) p a homes vs from.rule from.books id me.0 from.at;
          fit = from.fit;
          tells = ((λ hit. absurd (miss hit)), (λ _. record { known = refl; taken = late a homes vs from i seen fit miss }), λ hit. absurd (miss hit));
        };
      }))
