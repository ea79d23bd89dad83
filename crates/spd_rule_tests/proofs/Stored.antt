-- The notes after a body is traded, and after each kind of vertex is stored.
use Rattle.std.proofs.Common.{◌≡◌, ℕ, List, [], ◌∷◌, map, refl, sym, ap, ◌∙◌, subst, Option, Some, None}
use Rattle.atomic_table.specs.Table.{Me, rest}
use Rattle.spd_state.specs.Stages.{end_view, chain_rest_view, spawn_left_view, last_view}
use Rattle.spd_state.specs.Tree.{top_in}
use Rattle.spd_state.specs.declared.view.Draw.TheVariants.{Make, Chain, Spawn}
use Rattle.spd_state.specs.declared.view.Running.{Running}
use Rattle.spd_state.specs.declared.view.Flight.{Flight}
use Rattle.spd_state.specs.declared.view.View.{View}
use Rattle.spd_words.specs.Meaning.{BodyView}
use Rattle.spd_rule.specs.Kept.{IsFit, SlotFits}
use Rattle.spd_rule.specs.Rest.{due, rested, at_rest}
use Rattle.spd_rule.specs.Moves.{flight_with, less_first, stored_in, vertex_set}
use Rattle.spd_rule_tests.specs.declared.notes.Notes.{Notes}
use Rattle.spd_rule_tests.specs.Ties.{Ties}

rested_flying : {B : Type 0} (o : Option Running) (f : Flight) (me : Me (Option B) View) → rested o (Some f) me ≡ me
rested_flying None f me = refl
rested_flying (Some r) f me = refl

firsts : {B : Type 0} (l : List (ℕ × Option B)) → map (λ x. x.0) (rest l) ≡ less_first (map (λ x. x.0) l)
firsts [] = refl
firsts (x ∷ xs) = refl

-- a body was put into the slot that was taken last
module _ {B : Type 0} (me me1 : Me (Option B) View) (n : Notes) (h : Ties me n) (put got : Option B) (slot : ℕ) (before : me.1 ≡ (slot, got) ∷ rest me.1)
    (after : me1 ≡ (me.0, (slot, put) ∷ rest me.1)) where
  pub traded : Ties me1 n
  traded = subst (λ (m : Me (Option B) View). Ties m n) (sym after) (record {
    running = h.running;
    flight = h.flight;
    held = h.held;
    claimed = h.claimed;
    rooted = h.rooted;
    told = h.told;
    plain = h.plain;
    fresh = h.fresh;
    full = h.full;
    wild = h.wild;
    made = h.made;
    awaits = h.awaits;
    waits = h.waits;
    hurt = h.hurt;
    seats = h.seats;
    knows = h.knows;
    slots = h.slots;
    heads = sym (ap (map (λ x. x.0)) before) ∙ h.heads;
  })

module _ {B : Type 0} (me : Me (Option B) View) (n : Notes) (h : Ties me n) where
  slots_of : (f : Flight) → n.flight ≡ Some f → me.0.slots ≡ due (Some f) me.0.running
  slots_of f e = h.slots ∙ ap (λ o. due o me.0.running) (h.flight ∙ e)

  ended : n.flight ≡ Some (flight_with Make 0 0 2)
      → Ties (end_view (less_first me.0.slots) me.0, rest me.1) (record n { flight = Some (flight_with Make 0 0 3) })
  ended e = record {
    running = h.running;
    flight = refl;
    held = h.held;
    claimed = h.claimed;
    rooted = h.rooted;
    told = h.told;
    plain = record {
      lifted = h.plain.lifted;
      above = h.plain.above;
      halves = h.plain.halves;
      sprout = h.plain.sprout;
      gives = h.plain.gives;
      kind = h.plain.kind;
    };
    fresh = h.fresh;
    full = h.full;
    wild = h.wild;
    made = h.made;
    awaits = h.awaits;
    waits = h.waits;
    hurt = h.hurt;
    seats = h.seats;
    knows = h.knows;
    slots = ap less_first (slots_of (flight_with Make 0 0 2) e);
    heads = firsts me.1 ∙ ap less_first h.heads;
  }

  pub ties_end : n.flight ≡ Some (flight_with Make 0 0 2) → Ties (at_rest (vertex_set me)) (record n { flight = Some (flight_with Make 0 0 3) })
  ties_end e = subst (λ (m : Me (Option B) View). Ties m (record n { flight = Some (flight_with Make 0 0 3) }))
      (sym (ap (λ (o : Option Flight). at_rest (stored_in o me.0.running (less_first me.0.slots) me.0, rest me.1)) (h.flight ∙ e)
      ∙ rested_flying me.0.running (flight_with Make 0 0 3) (end_view (less_first me.0.slots) me.0, rest me.1))) (ended e)

  -- the waiting vertex of a chain, which takes the place of the running one
  waiting : (r : Running) (d : ℕ) → n.flight ≡ Some (flight_with Chain d d 2) → n.running ≡ Some r
      → Ties (chain_rest_view r d (less_first me.0.slots) me.0, rest me.1)
      (record n { running = Some (record r { right = 0 }); flight = Some (flight_with Chain d d 3) })
  waiting r d e is = record {
    running = refl;
    flight = refl;
    held = h.held;
    claimed = h.claimed;
    rooted = h.rooted;
    told = h.told;
    plain = record {
      lifted = h.plain.lifted;
      above = h.plain.above;
      halves = h.plain.halves;
      sprout = h.plain.sprout;
      gives = h.plain.gives;
      kind = h.plain.kind;
    };
    fresh = h.fresh;
    full = h.full;
    wild = h.wild;
    made = h.made;
    awaits = h.awaits;
    waits = h.waits;
    hurt = h.hurt;
    seats = h.seats;
    knows = λ k x i. subst (λ (y : Running). top_in y.inc me.0.known ≡ Some y.finish) (let e : record r { right = 0 } ≡ x = cc in e) (h.knows k r is);
    slots = ap less_first (slots_of (flight_with Chain d d 2) e ∙ ap (due (Some (flight_with Chain d d 2))) (h.running ∙ is));
    heads = firsts me.1 ∙ ap less_first h.heads;
  }

  pub ties_rest : (r : Running) (d : ℕ) → n.flight ≡ Some (flight_with Chain d d 2) → n.running ≡ Some r
      → Ties (at_rest (vertex_set me)) (record n { running = Some (record r { right = 0 }); flight = Some (flight_with Chain d d 3) })
  ties_rest r d e is = subst (λ (m : Me (Option B) View). Ties m (record n { running = Some (record r { right = 0 }); flight = Some (flight_with Chain d d 3) }))
      (sym (λ j. at_rest (stored_in ((h.flight ∙ e) j) ((h.running ∙ is) j) (less_first me.0.slots) me.0, rest me.1))) (waiting r d e is)

  -- the left vertex of a spawn
  left : (d u : ℕ) → n.flight ≡ Some (flight_with Spawn d u 2)
      → Ties (spawn_left_view d u (less_first me.0.slots) me.0, rest me.1) (record n { flight = Some (flight_with Spawn d u 3) })
  left d u e = record {
    running = h.running;
    flight = refl;
    held = h.held;
    claimed = h.claimed;
    rooted = h.rooted;
    told = h.told;
    plain = record {
      lifted = h.plain.lifted;
      above = h.plain.above;
      halves = h.plain.halves;
      sprout = h.plain.sprout;
      gives = h.plain.gives;
      kind = h.plain.kind;
    };
    fresh = h.fresh;
    full = h.full;
    wild = h.wild;
    made = h.made;
    awaits = h.awaits;
    waits = h.waits;
    hurt = h.hurt;
    seats = h.seats;
    knows = h.knows;
    slots = ap less_first (slots_of (flight_with Spawn d u 2) e);
    heads = firsts me.1 ∙ ap less_first h.heads;
  }

  pub ties_left : (d u : ℕ) → n.flight ≡ Some (flight_with Spawn d u 2) → Ties (at_rest (vertex_set me)) (record n { flight = Some (flight_with Spawn d u 3) })
  ties_left d u e = subst (λ (m : Me (Option B) View). Ties m (record n { flight = Some (flight_with Spawn d u 3) }))
      (sym (ap (λ (o : Option Flight). at_rest (stored_in o me.0.running (less_first me.0.slots) me.0, rest me.1)) (h.flight ∙ e)
      ∙ rested_flying me.0.running (flight_with Spawn d u 3) (spawn_left_view d u (less_first me.0.slots) me.0, rest me.1))) (left d u e)

  -- the last vertex of a move
  last : (f : Flight) → stored_in (Some f) me.0.running (less_first me.0.slots) me.0 ≡ last_view (less_first me.0.slots) me.0
      → n.flight ≡ Some f → Ties (at_rest (vertex_set me)) (record n { running = None; flight = None })
  last f is e = subst (λ (v : View). Ties (at_rest (v, rest me.1)) (record n { running = None; flight = None }))
      (sym (ap (λ (o : Option Flight). stored_in o me.0.running (less_first me.0.slots) me.0) (h.flight ∙ e) ∙ is)) record {
        running = refl;
        flight = refl;
        held = h.held;
        claimed = h.claimed;
        rooted = h.rooted;
        told = h.told;
        plain = record {
          lifted = h.plain.lifted;
          above = h.plain.above;
          halves = h.plain.halves;
          sprout = h.plain.sprout;
          gives = h.plain.gives;
          kind = h.plain.kind;
        };
        fresh = h.fresh;
        full = h.full;
        wild = h.wild;
        made = h.made;
        awaits = h.awaits;
        waits = h.waits;
        hurt = h.hurt;
        seats = h.seats;
        knows = λ k r is. absurd (cc);
        slots = refl;
        heads = refl;
      }

  pub ties_first : (d : ℕ) → n.flight ≡ Some (flight_with Make d d 3) → Ties (at_rest (vertex_set me)) (record n { running = None; flight = None })
  ties_first d e = last (flight_with Make d d 3) refl e

  pub ties_body : (d : ℕ) → n.flight ≡ Some (flight_with Chain d d 3) → Ties (at_rest (vertex_set me)) (record n { running = None; flight = None })
  ties_body d e = last (flight_with Chain d d 3) refl e

  pub ties_right : (d u : ℕ) → n.flight ≡ Some (flight_with Spawn d u 3) → Ties (at_rest (vertex_set me)) (record n { running = None; flight = None })
  ties_right d u e = last (flight_with Spawn d u 3) refl e

-- what was put there is fit
abbrev head_of : {B : Type 0} → List (ℕ × Option B) → Option B
head_of [] = None
head_of (x ∷ xs) = x.1

pub traded_fits : {B : Type 0} (view : B → BodyView) (me me1 : Me (Option B) View) (slot : ℕ) (put : Option B) → me1 ≡ (me.0, (slot, put) ∷ rest me.1)
    → ((b : B) → put ≡ Some b → IsFit (view b)) → SlotFits view me1
traded_fits {B} view me me1 slot put after fits i b at = fits b (sym (ap (λ (m : Me (Option B) View). head_of m.1) after) ∙ ap head_of at)
