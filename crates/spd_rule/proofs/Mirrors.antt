-- The numbers beside a seat follow its view.
use Rattle.std.proofs.Common.{◌≡◌, ℕ, ◌+◌, ◌*◌, ◌<◌, ◌≤◌, List, ◌∷◌, length, refl, sym, ap, ◌∙◌, subst, arith, Option, Some, None, Bool, true, false, cond, not}
use Rattle.std.proofs.Common.{eqb, map, ◌≢◌, ⊎_elim}
use Rattle.std.proofs.lemmas.Bool.{lt-ltb, le-ltb}
use Prim.Native.Nat.{zero, suc}
use mathlib.Core.Logic.{dite}
use native.Mathlib.Decide.{dec_lt}
use Rattle.atomic_table.specs.Table.{Me}
use Rattle.atomic_table.specs.Seated.{TableId}
use Rattle.spd_words.specs.Plan.{PlanView}
use Rattle.spd_words.specs.Meaning.{Meaning}
use Rattle.spd_words.specs.Words.{Node, Pair}
use Rattle.spd_state.specs.Sums.{count, without}
use Rattle.spd_state.specs.Dag.{claimed_at}
use Rattle.spd_state.specs.Parts.{IsWithin}
use Rattle.spd_state.specs.Steps.{lose_right, claim_after, lose_view, tell_if, keep_if, is_over, settle_view, sub_after}
use Rattle.spd_state.specs.declared.view.Running.{Running}
use Rattle.spd_state.specs.declared.view.View.{View}
use Rattle.spd_state.proofs.Settle.{count_without, length_without}
use Rattle.spd_rule.proofs.Counts.{count_few}
use Rattle.spd_rule.specs.Rest.{due}
use Rattle.spd_rule.specs.Beside.{Mirrors}
use Rattle.spd_rule.specs.Idle.{DepartsFrom, PairsUnits, flight_at, flies_spawn, is_spawn}
use Rattle.spd_rule.specs.Moves.{MaySetRoot, MaySetPair, HandsRoot, HandsTwo, root_set, draw_in, pair_set, flight_with}
use Rattle.spd_rule.specs.Steps.{DrawsMove, drawn_flight, drawn_known}
use Rattle.spd_state.specs.Stages.{handed_view, flight_finish, finish_in, first_slot, second_slot}
use Rattle.spd_state.specs.declared.view.Draw.{Draw}
use Rattle.spd_state.specs.declared.view.Draw.TheVariants.{Make, Chain, Spawn}
use Rattle.spd_state.specs.declared.view.Flight.{Flight}
use Rattle.spd_rule.specs.declared.beside.Beside.{Beside}

pub kept_inside : (z : TableId) (b : Bool) (o : Option Running) → ((r : Running) → o ≡ Some r → IsWithin z r × (r.side < 2)) → (r : Running) → keep_if b o ≡ Some r
    → IsWithin z r × (r.side < 2)
kept_inside z true o h r e = h r e
kept_inside z false o h r e = absurd (cc)

pub within_lost : (z : TableId) (o : Option Running) → ((r : Running) → o ≡ Some r → IsWithin z r × (r.side < 2)) → (r : Running) → lose_right o ≡ Some r
    → IsWithin z r × (r.side < 2)
within_lost z None h r e = absurd (cc)
within_lost z (Some q) h r e = let i : record q { right = 0 } ≡ r = cc in subst (λ (x : Running). IsWithin z x × (x.side < 2)) i (h q refl)

-- a claim
pub mirrors_claim : {B : Type 0} (z : TableId) (me : Me (Option B) View) (b : Beside) → Mirrors z me b → (q : Pair)
    → Mirrors z (claim_after q me.0, me.1) (record b { running = lose_right b.running; claimed = 1 })
mirrors_claim z me b h q = record {
  running = ap lose_right h.running;
  flight = h.flight;
  units = h.units;
  claimed = refl;
  told = h.told;
  spare = h.spare;
  marked = h.marked;
  starts = h.starts;
  begun = h.begun;
  inside = within_lost z b.running h.inside;
  flies = h.flies;
  few = h.few;
  seated = h.seated;
  slots = h.slots;
}

told_more : (b : Bool) (d : ℕ) (l : List ℕ) → length (tell_if b d l) ≡ length l + cond b 1 0
told_more true d l = omega arith
told_more false d l = omega arith

claimed_less : (s d : ℕ) (l : List ℕ) → claimed_at s d l ≤ count d l
claimed_less zero d l = omega arith
claimed_less (suc s) d l = omega arith

-- a unit that the view has stands in the numbers
pub unit_stands : {B : Type 0} (z : TableId) (me : Me (Option B) View) (b : Beside) → Mirrors z me b → (d : ℕ)
    → 0 < count d me.0.held + claimed_at me.0.lifted d me.0.claimed → 0 < count d b.units.items + b.claimed
unit_stands z me b h d unit = let u = h.units d in let c = h.claimed in let l = claimed_less me.0.lifted d me.0.claimed in let f = count_few d me.0.claimed in
    omega arith

module _ {B : Type 0} (z : TableId) (me : Me (Option B) View) (b b' : Beside) (h : Mirrors z me b) (d : ℕ) (n : Node) where
  -- the view of which `sub_after` settles
  abbrev departed : (held claimed : List ℕ) → View
  departed held claimed = lose_view held claimed (tell_if (eqb n.twice 2) d me.0.told) me.0

  settled : (held claimed : List ℕ) → ((k : ℕ) → count k b'.units.items ≡ count k held) → b'.claimed ≡ length claimed → DepartsFrom d (eqb n.twice 2) b b'
      → 2 * length (settle_view (departed held claimed)).told ≤ z.slots → Mirrors z (settle_view (departed held claimed), me.1) b'
  settled held claimed units claims k few = let w : View = departed held claimed in let told : b'.told ≡ length w.told = let t = k.told in
      let l = told_more (eqb n.twice 2) d me.0.told in let o = h.told in omega arith in
      let over : Bool = not (is_over b.running b.flight claimed w.told) in let over' : Bool = not (is_over me.0.running me.0.flight claimed w.told) in
      let run : b'.running ≡ keep_if over b.running = k.running claimed w.told (sym claims) (sym told) in
      let same_over : over ≡ over' = (λ j. not (is_over (h.running j) (h.flight j) claimed w.told)) in record {
        running = run ∙ (λ j. keep_if (same_over j) (h.running j));
        flight = k.flight ∙ h.flight;
        units = units;
        claimed = claims;
        told = told;
        spare = k.spare ∙ h.spare;
        marked = k.full ∙ h.marked;
        starts = k.starts ∙ h.starts;
        begun = h.begun;
        inside = λ r e. kept_inside z over b.running h.inside r (sym run ∙ e);
        flies = λ f e. h.flies f (sym k.flight ∙ e);
        few = let t = told in omega arith;
        seated = h.seated;
        slots = h.slots;
      }

  pub mirrors_depart : 0 < count d me.0.held + claimed_at me.0.lifted d me.0.claimed → DepartsFrom d (eqb n.twice 2) b b'
      → 2 * length (sub_after d n me.0).told ≤ z.slots → Mirrors z (sub_after d n me.0, me.1) b'
  mirrors_depart unit k few = let u = h.units d in dite (dec_lt 0 (count d me.0.held))
      (λ some. let e : sub_after d n me.0 ≡ settle_view (departed (without d me.0.held) me.0.claimed) =
      ap (λ x. settle_view (cond x (departed (without d me.0.held) me.0.claimed) (departed me.0.held (without d me.0.claimed))))
      (lt-ltb 0 (count d me.0.held) some) in
      let held = k.held (omega arith) in let t = held.0 in
      subst (λ (w : View). Mirrors z (w, me.1) b') (sym e) (settled (without d me.0.held) me.0.claimed
      (λ j. let a = t j in let c = count_without j d me.0.held some in let m = h.units j in omega arith) (held.1 ∙ h.claimed) k
      (subst (λ (w : View). 2 * length w.told ≤ z.slots) e few)))
      (λ none. let e : sub_after d n me.0 ≡ settle_view (departed me.0.held (without d me.0.claimed)) =
      ap (λ x. settle_view (cond x (departed (without d me.0.held) me.0.claimed) (departed me.0.held (without d me.0.claimed))))
      (le-ltb 0 (count d me.0.held) (omega arith)) in
      let lone = k.lone (omega arith) in let l = claimed_less me.0.lifted d me.0.claimed in let c = length_without d me.0.claimed (omega arith) in
      let m = h.claimed in let l₁ = lone.1 in
      subst (λ (w : View). Mirrors z (w, me.1) b') (sym e) (settled me.0.held (without d me.0.claimed)
      (λ j. ap (count j) lone.0 ∙ h.units j) (omega arith) k (subst (λ (w : View). 2 * length w.told ≤ z.slots) e few)))

-- a draw
flight_is : (draw : Draw) (n : ℕ) (v : View) (running : Option Running) → running ≡ v.running
    → drawn_flight draw n running ≡ record { draw = draw; number = n; finish = flight_finish draw n v; stage = 0 }
flight_is Make n v running e = refl
flight_is Chain n v running e = refl
flight_is Spawn n v running e = λ i. record { draw = Spawn; number = n; finish = finish_in (e i); stage = 0 }

flight_number : (draw : Draw) (n : ℕ) (running : Option Running) → (drawn_flight draw n running).number ≡ n
flight_number Make n running = refl
flight_number Chain n running = refl
flight_number Spawn n running = refl

drawn_slots : {B : Type 0} (draw : Draw) (n : ℕ) (told : Meaning) (me : Me (Option B) View) → me.0.slots ≡ map (λ x. x.0) me.1
    → (drawn_known draw n told me).0.slots ≡ map (λ x. x.0) (drawn_known draw n told me).1
drawn_slots draw n told me e i = first_slot draw n ∷ second_slot draw n ∷ e i

pub mirrors_draw : {B : Type 0} (p : PlanView) (z : TableId) (me me' : Me (Option B) View) (b b' : Beside) (draw : Draw) (told : Meaning) (n : ℕ)
    → Mirrors z me b → z.slots ≡ 2 * p.moves → DrawsMove p draw told n me me'
    → (n < p.moves → b' ≡ record b { flight = Some (drawn_flight draw n b.running) }) → (p.moves ≤ n → b' ≡ record b { full = true }) → Mirrors z me' b'
mirrors_draw {B} p z me me' b b' draw told n h size k drawn full = dite (dec_lt n p.moves)
    (λ l. subst (Mirrors z me') (sym (drawn l)) (subst (λ (m : Me (Option B) View). Mirrors z m (record b { flight = Some (drawn_flight draw n b.running) }))
    (sym (k.drawn l)) record {
      running = h.running;
      flight = ap Some (flight_is draw n me.0 b.running h.running);
      units = h.units;
      claimed = h.claimed;
      told = h.told;
      spare = h.spare;
      marked = h.marked;
      starts = h.starts;
      begun = h.begun;
      inside = h.inside;
      flies = λ f e. let i : drawn_flight draw n b.running ≡ f = cc in let j : (drawn_flight draw n b.running).number ≡ f.number = ap
          (λ (g : Flight). g.number) i in let m = flight_number draw n b.running in omega arith;
      few = h.few;
      seated = h.seated;
      slots = drawn_slots draw n told me h.slots;
    }))
    (λ l. let o : p.moves ≤ n = omega arith in subst (Mirrors z me') (sym (full o))
    (subst (λ (m : Me (Option B) View). Mirrors z m (record b { full = true })) (sym (k.full o)) record {
      running = h.running;
      flight = h.flight;
      units = h.units;
      claimed = h.claimed;
      told = h.told;
      spare = h.spare;
      marked = sym (lt-ltb 0 (me.0.full_draws + 1) (omega arith));
      starts = h.starts;
      begun = h.begun;
      inside = h.inside;
      flies = h.flies;
      few = h.few;
      seated = h.seated;
      slots = h.slots;
    }))

-- ---- the move in flight

-- its number is one of the plan
pub flies_low : {B : Type 0} (p : PlanView) (z : TableId) (me : Me (Option B) View) (b : Beside) → Mirrors z me b → z.slots ≡ 2 * p.moves → (f : Flight)
    → me.0.flight ≡ Some f → f.number < p.moves
flies_low p z me b h size f e = let l = h.flies f (h.flight ∙ e) in omega arith

flies_at : (z : TableId) (stage : ℕ) (o : Option Flight) → ((f : Flight) → o ≡ Some f → 2 * f.number < z.slots) → (f : Flight) → flight_at stage o ≡ Some f
    → 2 * f.number < z.slots
flies_at z stage None h f e = absurd (cc)
flies_at z stage (Some g) h f e = let i : (record g { stage = stage }) ≡ f = cc in let n : g.number ≡ f.number = ap (λ (x : Flight). x.number) i in
    let l = h g refl in omega arith

module _ {B : Type 0} (z : TableId) (me : Me (Option B) View) (b : Beside) (h : Mirrors z me b) (d : ℕ) (told : Meaning) (may : MaySetRoot d told me.0) where
  pub mirrors_root : Mirrors z (root_set d told me.0, me.1) (record b { flight = flight_at 1 b.flight })
  mirrors_root = record {
    running = h.running;
    flight = ap (flight_at 1) (h.flight ∙ may.flies) ∙ ap (λ (o : Option Flight). Some (flight_with (draw_in o) d d 1)) (sym may.flies);
    units = h.units;
    claimed = h.claimed;
    told = h.told;
    spare = h.spare;
    marked = h.marked;
    starts = h.starts;
    begun = h.begun;
    inside = h.inside;
    flies = flies_at z 1 b.flight h.flies;
    few = h.few;
    seated = h.seated;
    slots = h.slots;
  }

  pub root_due : me.0.slots ≡ due me.0.flight me.0.running → (root_set d told me.0).slots ≡ due (root_set d told me.0).flight me.0.running
  root_due is = is ∙ ap (λ (o : Option Flight). due o me.0.running) may.flies
      ∙ ap (λ (o : Option Flight). due (Some (flight_with (draw_in o) d d 1)) me.0.running) (sym may.flies)

module _ {B : Type 0} (z : TableId) (me me' : Me (Option B) View) (b b' : Beside) (h : Mirrors z me b) (d : ℕ) (q : Pair) (left right : Meaning) where
  paired_root : HandsRoot d q me.0 → me' ≡ (pair_set me.0.flight q.second left right me.0, me.1)
      → (flies_spawn b.flight ≡ false → b' ≡ record b { flight = flight_at 2 b.flight }) → Mirrors z me' b'
  paired_root k tells root = let e : b.flight ≡ Some (flight_with k.draw d d 1) = h.flight ∙ k.flies in
      subst (Mirrors z me') (sym (root (ap flies_spawn e ∙ no_spawn k.draw k.opens)))
      (subst (λ (m : Me (Option B) View). Mirrors z m (record b { flight = flight_at 2 b.flight }))
      (sym (tells ∙ (λ i. (pair_set (k.flies i) q.second left right me.0, me.1)) ∙ by k.draw k.opens)) record {
        running = h.running;
        flight = ap (flight_at 2) e;
        units = h.units;
        claimed = h.claimed;
        told = h.told;
        spare = h.spare;
        marked = h.marked;
        starts = h.starts;
        begun = h.begun;
        inside = h.inside;
        flies = flies_at z 2 b.flight h.flies;
        few = h.few;
        seated = h.seated;
        slots = h.slots;
      })
    where
      no_spawn : (x : Draw) → x ≢ Spawn → is_spawn x ≡ false
      no_spawn Make o = refl
      no_spawn Chain o = refl
      no_spawn Spawn o = absurd (o refl)

      by : (x : Draw) → x ≢ Spawn → (let m : Me (Option B) View = (pair_set (Some (flight_with x d d 1)) q.second left right me.0, me.1) in m) ≡
          (handed_view x d me.0, me.1)
      by Make o = refl
      by Chain o = refl
      by Spawn o = absurd (o refl)

  paired_two : HandsTwo d q left right me.0 → me' ≡ (pair_set me.0.flight q.second left right me.0, me.1)
      → (flies_spawn b.flight ≡ true → PairsUnits q.second b b') → Mirrors z me' b'
  paired_two k tells two = let e : b.flight ≡ Some (flight_with Spawn d k.finish 0) = h.flight ∙ k.flies in let t = two (ap flies_spawn e) in
      subst (λ (m : Me (Option B) View). Mirrors z m b') (sym (tells ∙ (λ i. (pair_set (k.flies i) q.second left right me.0, me.1)))) record {
        running = t.running ∙ h.running;
        flight = t.flight ∙ ap (flight_at 2) e;
        units = λ n. let u = t.units n in let w = count_without n q.second me.0.held k.held in let m = h.units n in omega arith;
        claimed = t.claimed;
        told = t.told ∙ h.told;
        spare = t.spare ∙ h.spare;
        marked = t.full ∙ h.marked;
        starts = t.starts ∙ h.starts;
        begun = h.begun;
        inside = λ r i. h.inside r (sym t.running ∙ i);
        flies = λ f i. flies_at z 2 b.flight h.flies f (sym t.flight ∙ i);
        few = let l = h.few in let m = t.told in omega arith;
        seated = h.seated;
        slots = h.slots;
      }

  pub mirrors_pair : MaySetPair d q left right me.0 → me' ≡ (pair_set me.0.flight q.second left right me.0, me.1)
      → (flies_spawn b.flight ≡ false → b' ≡ record b { flight = flight_at 2 b.flight }) → (flies_spawn b.flight ≡ true → PairsUnits q.second b b')
      → Mirrors z me' b'
  mirrors_pair may tells root two = ⊎_elim (λ (k : HandsRoot d q me.0). paired_root k tells root)
      (λ (k : HandsTwo d q left right me.0). paired_two k tells two) may

-- ---- the slots that are due

pub drawn_due : {B : Type 0} (p : PlanView) (draw : Draw) (told : Meaning) (n : ℕ) (me me' : Me (Option B) View) → DrawsMove p draw told n me me'
    → me.0.flight ≡ None → me.0.slots ≡ due me.0.flight me.0.running
    → me'.0.slots ≡ due me'.0.flight me'.0.running
drawn_due {B} p draw told n me me' k free h = dite (dec_lt n p.moves)
    (λ l. subst (λ (m : Me (Option B) View). m.0.slots ≡ due m.0.flight m.0.running) (sym (k.drawn l))
    (λ i. first_slot draw n ∷ second_slot draw n ∷ (h ∙ (λ j. due (free j) me.0.running)) i))
    (λ l. subst (λ (m : Me (Option B) View). m.0.slots ≡ due m.0.flight m.0.running) (sym (k.full (omega arith))) h)

pub pair_due : {B : Type 0} (d : ℕ) (q : Pair) (left right : Meaning) (me me' : Me (Option B) View) → MaySetPair d q left right me.0
    → me' ≡ (pair_set me.0.flight q.second left right me.0, me.1) → me.0.slots ≡ due me.0.flight me.0.running
    → me'.0.slots ≡ due me'.0.flight me'.0.running
pair_due {B} d q left right me me' may tells h = subst (λ (m : Me (Option B) View). m.0.slots ≡ due m.0.flight m.0.running) (sym tells) (⊎_elim
    (λ (k : HandsRoot d q me.0). subst (λ (o : Option Flight). (pair_set o q.second left right me.0).slots ≡ due (pair_set o q.second left right me.0).flight
    (pair_set o q.second left right me.0).running) (sym k.flies)
    (by k.draw k.opens (h ∙ (λ i. due (k.flies i) me.0.running))))
    (λ (k : HandsTwo d q left right me.0). subst (λ (o : Option Flight). (pair_set o q.second left right me.0).slots ≡ due
    (pair_set o q.second left right me.0).flight (pair_set o q.second left right me.0).running) (sym k.flies)
    (h ∙ (λ i. due (k.flies i) me.0.running)))
    may)
  where
    by : (x : Draw) → x ≢ Spawn → me.0.slots ≡ due (Some (flight_with x d d 1)) me.0.running
        → (pair_set (Some (flight_with x d d 1)) q.second left right me.0).slots ≡ due (pair_set (Some (flight_with x d d 1)) q.second left right me.0).flight
        (pair_set (Some (flight_with x d d 1)) q.second left right me.0).running
    by Make o k = k
    by Chain o k = k
    by Spawn o k = absurd (o refl)
