-- The table allows a share that is told a finish to wake its waiting vertex, and the numbers beside the seat follow.
use Rattle.std.proofs.Common.{refl, ◌≡◌, ◌≢◌, ℕ, ◌+◌, ◌*◌, ◌%◌, ◌^◌, ◌<◌, ◌≤◌, List, length, set, map, sym, ap, ◌∙◌, subst, arith, Option, None, Bool, not, inl, inr}
use Rattle.std.proofs.Common.{⊎_elim}
use mathlib.Core.Option as maybe
use Rattle.atomic_table.specs.Table.{Me, Allows, homes_after}
use Rattle.atomic_table.specs.Seated.{TableId}
use Rattle.spd_words.specs.Plan.{PlanView, vertex_place}
use Rattle.spd_words.specs.Words.{Vertex, vertex_of}
use Rattle.spd_words.proofs.Reading.{vertex_read}
use Rattle.spd_state.specs.Sums.{count, without, put}
use Rattle.spd_state.specs.Dag.{Dag}
use Rattle.spd_state.specs.Steps.{wake_word, wake_after, keep_if, is_over}
use Rattle.spd_state.specs.declared.view.View.{View}
use Rattle.spd_state.proofs.Sums.{put_else}
use Rattle.spd_state.proofs.Settle.{length_without, there_set}
use Rattle.spd_state.proofs.Showing.{shown_beside}
use Rattle.spd_state.proofs.Bounds.{ready_few}
use Rattle.spd_state.proofs.Wake.{waiting, wake_all}
use Rattle.spd_words.specs.Meaning.{BodyView}
use Rattle.spd_debts.proofs.Storing.{wake_stands}
use Rattle.spd_rule.specs.Kept.{means_of, Kept}
use Rattle.spd_rule.specs.Rest.{due, at_rest}
use Rattle.spd_rule.specs.Beside.{Mirrors}
use Rattle.spd_rule.specs.Idle.{WakesBeside}
use Rattle.spd_rule.specs.Steps.{IsTold, wake_known}
use Rattle.spd_rule.specs.declared.beside.Beside.{Beside}
use Rattle.spd_rule.proofs.Glue.{From, allow_vertex, unseen_by}
use Rattle.spd_rule.proofs.Mirrors.{kept_inside}
use Rattle.spd_rule.proofs.Resting.{fit_alike, fit_put, HomeBound, bound_by, running_started, rests}
use Rattle.spd_rule.proofs.Settled.{settles, rest_due, shown_rest}

module _ {B : Type 0} (told_of : B → BodyView) (p : PlanView) (slots id : ℕ) (me : Me (Option B) View) (f : ℕ) (low : f < p.moves) (told : IsTold f me.0)
    (size : slots ≡ 2 * p.moves) (holds : me.0.slots ≡ map (λ x. x.0) me.1) (is_due : me.0.slots ≡ due me.0.flight me.0.running) where
  abbrev i : ℕ
  i = 2 * f + 1

  -- what is told of the word n
  abbrev Wakes : ℕ → Me (Option B) View → Type 0
  Wakes n m' = (m' ≡ wake_known f me) × ((vertex_of n).state ≡ 1) × (m'.0.ready ≤ 2 * p.moves)

  module _ (a : Dag) (homes : List (maybe.Option (Option B))) (vs : List View) (from : From told_of p slots id me a homes vs) where
    abbrev x : Vertex
    x = a.vertices i

    is_waiting : x.state ≡ 1
    is_waiting = waiting p a homes vs from.rule id me.0 from.at f low told

    -- the running vertex is another one, and was started
    wake_bound : me.0.flight ≡ None → HomeBound p.moves (put a.vertices i (wake_word x)) me.1
    wake_bound free = bound_by p.moves (put a.vertices i (wake_word x)) me.1 me.0.running (sym holds ∙ is_due ∙ (λ j. due (free j) me.0.running))
        (λ r e. let s = running_started p a homes vs from.rule id me.0 from.at r e in let st = s.started in let one = is_waiting in
        let apart : r.vertex ≢ i = λ k. let z : (a.vertices r.vertex).state ≡ x.state = ap (λ n. (a.vertices n).state) k in omega arith in
        record { low = s.low; started = subst (λ (v : Vertex). 3 ≤ v.state) (sym (put_else a.vertices i (wake_word x) r.vertex apart)) s.started })

  pub wakes : Allows (Kept told_of p) slots id me (vertex_place p i) (λ n. (n + 1) % 2 ^ 64) Wakes
  wakes = allow_vertex told_of p slots id me i (omega arith) (λ n. (n + 1) % 2 ^ 64) Wakes
      (λ a homes vs from fit fits. let y : Vertex = a.vertices i in let one = is_waiting a homes vs from in
      let d = fit.side in let q = fit.pair in let u = fit.finish in let n = fit.inc in
      let w : View = wake_after f me.0 in let b : Dag = record a { vertices = put a.vertices i (wake_word y) } in
      let kept = wake_all p a homes vs from.rule id me.0 from.at f low told in
      let r = rests told_of p b homes vs id me.0 from.at w me.1 kept
      (wake_stands (means_of told_of) p a homes vs from.rule from.books id me.0 from.at f i (omega arith) one) (from.deep ∙ size) holds (λ none free. wake_bound a homes vs from free) in
      let v : View = (at_rest (w, me.1)).0 in inl record {
        new = wake_word y;
        fits = record { state = omega arith; side = fit.side; pair = fit.pair; finish = fit.finish; inc = fit.inc };
        packs = omega arith;
        expects = a.expects;
        region = a.region;
        tame = a.tame;
        move = record {
          view = v;
          act = r.act;
          valid = r.valid;
          kept = r.kept;
          shown = unseen_by told_of p slots id me a homes vs from i (wake_word y) (shown_beside p.moves a.vertices i (wake_word y) (omega arith)) v
              (shown_rest (w, me.1));
          books = r.books;
          fit = fit_alike told_of p.moves b.vertices homes (homes_after homes me.1 r.act)
              (fit_put told_of p.moves a.vertices homes homes i (wake_word y) (λ k n. refl) (λ c l s t e. from.fit i c l (omega arith) (omega arith) e) from.fit) r.alike;
          tells = (
            (λ j. (v, sym r.carried j)),
            ap (λ (z : Vertex). z.state) (vertex_read y fit) ∙ one,
            ready_few p b (homes_after homes me.1 r.act) (set vs id v) r.kept id v (there_set vs id me.0 v from.at),
          );
        };
      })

-- the slots that are due
pub wake_due : {B : Type 0} (f : ℕ) (me : Me (Option B) View) → me.0.slots ≡ due me.0.flight me.0.running
    → (wake_known f me).0.slots ≡ due (wake_known f me).0.flight (wake_known f me).0.running
wake_due f me h = rest_due (wake_after f me.0) me.1 (⊎_elim
    (λ (e : (wake_after f me.0).running ≡ me.0.running). inl (h ∙ sym (λ j. due me.0.flight (e j))))
    (λ (e : ((wake_after f me.0).running ≡ None) × (me.0.flight ≡ None)). inr e)
    (settles me.0.running me.0.flight me.0.claimed (without f me.0.told)))

-- and the numbers
pub mirrors_wake : {B : Type 0} (z : TableId) (me : Me (Option B) View) (b b' : Beside) → Mirrors z me b → (f : ℕ) → IsTold f me.0 → WakesBeside b b'
    → Mirrors z (wake_after f me.0, me.1) b'
mirrors_wake z me b b' h f has k = let left : List ℕ = without f me.0.told in let told : b'.told ≡ length left = let l = length_without f me.0.told has in
    let t = k.told in let o = h.told in omega arith in
    let over : Bool = not (is_over b.running b.flight me.0.claimed left) in
    let run : b'.running ≡ keep_if over b.running = k.running me.0.claimed left (sym h.claimed) (sym told) in record {
      running = run ∙ (λ j. keep_if (not (is_over (h.running j) (h.flight j) me.0.claimed left)) (h.running j));
      flight = k.flight ∙ h.flight;
      units = λ n. (λ j. count n (k.units j).items) ∙ h.units n;
      claimed = k.claimed ∙ h.claimed;
      told = told;
      spare = k.spare ∙ h.spare;
      marked = k.full ∙ h.marked;
      starts = k.starts ∙ h.starts;
      begun = h.begun;
      inside = λ r e. kept_inside z over b.running h.inside r (sym run ∙ e);
      flies = λ g e. h.flies g (sym k.flight ∙ e);
      few = let l = h.few in let t = k.told in omega arith;
      seated = h.seated;
      slots = h.slots;
    }
