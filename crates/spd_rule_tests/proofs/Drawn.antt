-- The notes after a draw.
use Rattle.std.proofs.Common.{◌≡◌, ℕ, List, ◌∷◌, refl, ap, ◌∙◌, arith, Option, Some, None}
use Rattle.atomic_table.specs.Table.{Me}
use Rattle.spd_state.specs.Stages.{first_slot, second_slot, full_view, finish_in}
use Rattle.spd_state.specs.declared.view.Draw.TheVariants.{Make, Chain, Spawn}
use Rattle.spd_state.specs.declared.view.Running.{Running}
use Rattle.spd_state.specs.declared.view.View.{View}
use Rattle.spd_rule.specs.Nobody.{nobody}
use Rattle.spd_rule.specs.Rest.{due}
use Rattle.spd_rule.specs.Moves.{flight_with}
use Rattle.spd_rule.specs.Steps.{drawn_known}
use Rattle.spd_rule_tests.specs.declared.notes.Notes.{Notes}
use Rattle.spd_rule_tests.specs.Notes.{Makes}
use Rattle.spd_rule_tests.specs.Ties.{Ties, IsPlainView}

module _ {B : Type 0} (me : Me (Option B) View) (n : Notes) (h : Ties me n) where
  plain : (w : View) → w.lifted ≡ me.0.lifted → w.above ≡ me.0.above → w.halves ≡ me.0.halves → w.sprout ≡ me.0.sprout
      → w.gives ≡ me.0.gives → w.kind ≡ me.0.kind → IsPlainView w
  plain w a b c d f g = record {
    lifted = a ∙ h.plain.lifted;
    above = b ∙ h.plain.above;
    halves = c ∙ h.plain.halves;
    sprout = d ∙ h.plain.sprout;
    gives = f ∙ h.plain.gives;
    kind = g ∙ h.plain.kind;
  }

  idle_slots : me.0.flight ≡ None → me.0.slots ≡ due None me.0.running
  idle_slots e = h.slots ∙ ap (λ f. due f me.0.running) e

  pub ties_made : (k : ℕ) → Makes n → Ties (drawn_known Make k nobody me) (record n { fresh = 0; made = 1; flight = Some (flight_with Make k k 0) })
  ties_made k m = record {
    running = h.running;
    flight = refl;
    held = h.held;
    claimed = h.claimed;
    rooted = h.rooted;
    told = h.told;
    plain = record {
      lifted = h.plain.lifted;
      above = h.plain.above;
      halves = h.plain.halves;
      sprout = h.plain.sprout;
      gives = refl;
      kind = h.plain.kind;
    };
    fresh = refl;
    full = h.full;
    wild = h.wild;
    made = λ _. refl;
    seats = h.seats;
    awaits = h.awaits;
    waits = h.waits;
    hurt = h.hurt;
    knows = h.knows;
    slots = ap (λ (l : List ℕ). first_slot Make k ∷ second_slot Make k ∷ l) (idle_slots (h.flight ∙ m.flight));
    heads = ap (λ (l : List ℕ). first_slot Make k ∷ second_slot Make k ∷ l) h.heads;
  }

  pub ties_full : n.full ≡ 0 → Ties (full_view me.0, me.1) (record n { full = 1 })
  ties_full e = record {
    running = h.running;
    flight = h.flight;
    held = h.held;
    claimed = h.claimed;
    rooted = h.rooted;
    told = h.told;
    plain = plain (full_view me.0) refl refl refl refl refl refl;
    fresh = h.fresh;
    full = let a = h.full in omega arith;
    wild = h.wild;
    made = h.made;
    seats = h.seats;
    awaits = h.awaits;
    waits = h.waits;
    hurt = h.hurt;
    knows = h.knows;
    slots = h.slots;
    heads = h.heads;
  }

  pub ties_chain : (k : ℕ) → n.flight ≡ None → Ties (drawn_known Chain k nobody me) (record n { flight = Some (flight_with Chain k k 0) })
  ties_chain k none = record {
    running = h.running;
    flight = refl;
    held = h.held;
    claimed = h.claimed;
    rooted = h.rooted;
    told = h.told;
    plain = plain (drawn_known Chain k nobody me).0 refl refl refl refl refl refl;
    fresh = h.fresh;
    full = h.full;
    wild = h.wild;
    made = h.made;
    seats = h.seats;
    awaits = h.awaits;
    waits = h.waits;
    hurt = h.hurt;
    knows = h.knows;
    slots = ap (λ (l : List ℕ). first_slot Chain k ∷ second_slot Chain k ∷ l) (idle_slots (h.flight ∙ none));
    heads = ap (λ (l : List ℕ). first_slot Chain k ∷ second_slot Chain k ∷ l) h.heads;
  }

  pub ties_spawn : (k : ℕ) (r : Running) → n.flight ≡ None → n.running ≡ Some r
      → Ties (drawn_known Spawn k nobody me) (record n { flight = Some (flight_with Spawn k r.finish 0) })
  ties_spawn k r none is = record {
    running = h.running;
    flight = ap (λ (o : Option Running). Some (flight_with Spawn k (finish_in o) 0)) (h.running ∙ is);
    held = h.held;
    claimed = h.claimed;
    rooted = h.rooted;
    told = h.told;
    plain = plain (drawn_known Spawn k nobody me).0 refl refl refl refl refl refl;
    fresh = h.fresh;
    full = h.full;
    wild = h.wild;
    made = h.made;
    seats = h.seats;
    awaits = h.awaits;
    waits = h.waits;
    hurt = h.hurt;
    knows = h.knows;
    slots = ap (λ (l : List ℕ). first_slot Spawn k ∷ second_slot Spawn k ∷ l) (idle_slots (h.flight ∙ none));
    heads = ap (λ (l : List ℕ). first_slot Spawn k ∷ second_slot Spawn k ∷ l) h.heads;
  }
