-- The notes after an offer, a fault, a look at what a finish has got, and the end of the region.
use Rattle.std.proofs.Common.{◌≡◌, ◌+◌, ◌*◌, ℕ, ℤ, refl, sym, ap, ◌∙◌, subst, arith, Option, Some, None, Bool, true, false, cond, eq-eqb}
use Prim.Native.Nat.{zero, suc}
use Rattle.atomic_table.specs.Table.{Me}
use Rattle.spd_words.specs.Meaning.{Meaning}
use Rattle.spd_words.specs.declared.finish_kind.FinishKind.{FinishKind}
use Rattle.spd_state.specs.Dag.{busy}
use Rattle.spd_state.specs.Steps.{stepped}
use Rattle.spd_state.specs.declared.promise.Expected.{Expected}
use Rattle.spd_state.specs.declared.view.Flight.{Flight}
use Rattle.spd_state.specs.declared.view.Running.{Running}
use Rattle.spd_state.specs.declared.view.View.{View}
use Rattle.spd_debts.specs.Payments.{offer_view, lower_view, shown_view, collect_view, done_view}
use Rattle.spd_rule.specs.Payments.{MayPayTo, MayMarkEnd, collected_view, collected_known, runs_rest, done_known}
use Rattle.spd_book.specs.Offers.{MayGive, MayOffer, MayFault}
use Rattle.spd_book.specs.Collects.{MayCollect}
use Rattle.spd_rule.specs.Rest.{rested, due}
use Rattle.spd_rule_tests.specs.declared.notes.Notes.{Notes}
use Rattle.spd_rule_tests.specs.Notes.{Pays, PaysAtOnce, RunsEnd, IsToCollect, collected_notes, looked_notes, lowered_notes}
use Rattle.spd_rule_tests.specs.Ties.{Ties}

-- the notes read these entries of a view alone
module _ {B : Type 0} (me : Me (Option B) View) (n : Notes) (h : Ties me n) where
  pub ties_offer : (left : ℤ) → Ties (offer_view left me.0, me.1) n
  ties_offer left = record {
    running = h.running;
    flight = h.flight;
    held = h.held;
    claimed = h.claimed;
    rooted = h.rooted;
    told = h.told;
    plain = record {
      lifted = h.plain.lifted;
      above = h.plain.above;
      halves = h.plain.halves;
      sprout = h.plain.sprout;
      gives = h.plain.gives;
      kind = h.plain.kind;
    };
    fresh = h.fresh;
    full = h.full;
    wild = h.wild;
    made = h.made;
    awaits = h.awaits;
    waits = h.waits;
    hurt = h.hurt;
    seats = h.seats;
    knows = h.knows;
    slots = h.slots;
    heads = h.heads;
  }

  pub ties_lower : (c left : ℕ) → Ties (lower_view c left me.0, me.1) (lowered_notes c n)
  ties_lower zero left = record {
    running = h.running;
    flight = h.flight;
    held = h.held;
    claimed = h.claimed;
    rooted = h.rooted;
    told = h.told;
    plain = record {
      lifted = h.plain.lifted;
      above = h.plain.above;
      halves = h.plain.halves;
      sprout = h.plain.sprout;
      gives = h.plain.gives;
      kind = h.plain.kind;
    };
    fresh = h.fresh;
    full = h.full;
    wild = h.wild;
    made = h.made;
    awaits = h.awaits;
    waits = h.waits;
    hurt = refl;
    seats = h.seats;
    knows = h.knows;
    slots = h.slots;
    heads = h.heads;
  }
  ties_lower (suc c) left = record {
    running = h.running;
    flight = h.flight;
    held = h.held;
    claimed = h.claimed;
    rooted = h.rooted;
    told = h.told;
    plain = record {
      lifted = h.plain.lifted;
      above = h.plain.above;
      halves = h.plain.halves;
      sprout = h.plain.sprout;
      gives = h.plain.gives;
      kind = h.plain.kind;
    };
    fresh = h.fresh;
    full = h.full;
    wild = h.wild;
    made = h.made;
    awaits = h.awaits;
    waits = h.waits;
    hurt = h.hurt;
    seats = h.seats;
    knows = h.knows;
    slots = h.slots;
    heads = h.heads;
  }

  ties_steps : Ties (stepped me.0, me.1) n
  ties_steps = record {
    running = h.running;
    flight = h.flight;
    held = h.held;
    claimed = h.claimed;
    rooted = h.rooted;
    told = h.told;
    plain = record {
      lifted = h.plain.lifted;
      above = h.plain.above;
      halves = h.plain.halves;
      sprout = h.plain.sprout;
      gives = h.plain.gives;
      kind = h.plain.kind;
    };
    fresh = h.fresh;
    full = h.full;
    wild = h.wild;
    made = h.made;
    awaits = h.awaits;
    waits = h.waits;
    hurt = h.hurt;
    seats = h.seats;
    knows = h.knows;
    slots = h.slots;
    heads = h.heads;
  }

  pub ties_shown : (k : ℕ) (b : Bool) → Ties (cond b (shown_view k me.0) (stepped me.0), me.1) n
  ties_shown k true = record {
    running = h.running;
    flight = h.flight;
    held = h.held;
    claimed = h.claimed;
    rooted = h.rooted;
    told = h.told;
    plain = record {
      lifted = h.plain.lifted;
      above = h.plain.above;
      halves = h.plain.halves;
      sprout = h.plain.sprout;
      gives = h.plain.gives;
      kind = h.plain.kind;
    };
    fresh = h.fresh;
    full = h.full;
    wild = h.wild;
    made = h.made;
    awaits = h.awaits;
    waits = h.waits;
    hurt = h.hurt;
    seats = h.seats;
    knows = h.knows;
    slots = h.slots;
    heads = h.heads;
  }
  ties_shown k false = ties_steps

  -- it has collected
  collected : (k : ℕ) → busy me.0.awaited ≡ 1 → Ties (collect_view k me.0, me.1) (collected_notes 1 k n)
  collected zero is = record {
    running = h.running;
    flight = h.flight;
    held = h.held;
    claimed = h.claimed;
    rooted = h.rooted;
    told = h.told;
    plain = record {
      lifted = h.plain.lifted;
      above = h.plain.above;
      halves = h.plain.halves;
      sprout = h.plain.sprout;
      gives = h.plain.gives;
      kind = h.plain.kind;
    };
    fresh = h.fresh;
    full = h.full;
    wild = h.wild;
    made = h.made;
    awaits = refl;
    waits = λ x e. absurd (cc);
    hurt = refl;
    seats = h.seats;
    knows = h.knows;
    slots = h.slots;
    heads = h.heads;
  }
  collected (suc k) is = record {
    running = h.running;
    flight = h.flight;
    held = h.held;
    claimed = h.claimed;
    rooted = h.rooted;
    told = h.told;
    plain = record {
      lifted = h.plain.lifted;
      above = h.plain.above;
      halves = h.plain.halves;
      sprout = h.plain.sprout;
      gives = h.plain.gives;
      kind = h.plain.kind;
    };
    fresh = h.fresh;
    full = h.full;
    wild = h.wild;
    made = h.made;
    awaits = refl;
    waits = λ x e. absurd (cc);
    hurt = h.hurt;
    seats = h.seats;
    knows = h.knows;
    slots = h.slots;
    heads = h.heads;
  }

  pub ties_looked : (d k : ℕ) → Ties (collected_known d k me) (looked_notes d k n)
  ties_looked d k = subst (λ (o : Option Running). Ties (cond (runs_rest d me.0.running) (collected_view me.0.awaited k me.0) (stepped me.0), me.1)
      (cond (runs_rest d o) (collected_notes n.awaits k n) n)) h.running (by (runs_rest d me.0.running))
    where
      waited : (o : Option Expected) → me.0.awaited ≡ o → Ties (collected_view o k me.0, me.1) (collected_notes n.awaits k n)
      waited None e = subst (λ (a : ℕ). Ties (stepped me.0, me.1) (collected_notes a k n)) (sym (ap busy e) ∙ h.awaits) ties_steps
      waited (Some x) e = subst (λ (a : ℕ). Ties (collect_view k me.0, me.1) (collected_notes a k n)) (sym (ap busy e) ∙ h.awaits) (collected k (ap busy e))

      by : (b : Bool) → Ties (cond b (collected_view me.0.awaited k me.0) (stepped me.0), me.1) (cond b (collected_notes n.awaits k n) n)
      by true = waited me.0.awaited refl
      by false = ties_steps

  pub may_pay : (r : Running) → Pays r n → MayPayTo r.finish me.0
  may_pay r w = record { runs = r; running = h.running ∙ w.running; right = w.right; finish = refl }

  pub wild_not : (r : Running) → Pays r n → me.0.wild ≡ 0 → ⊥
  wild_not r w z = let x = h.wild in let y = w.wild in absurd (omega arith)

  gives : (r : Running) → PaysAtOnce r n → MayGive me.0 r
  gives r g = record { running = h.running ∙ g.pays.running; right = g.pays.right; flight = h.flight ∙ g.flight }

  pub may_offer : (r : Running) → PaysAtOnce r n → (kind : FinishKind) (x : ℤ) (left : Meaning) → MayOffer me.0 kind x left
  may_offer r g kind x left = record {
    runs = r;
    gives = gives r g;
    kinds = λ z. absurd (wild_not r g.pays z);
    takes = λ z. absurd (wild_not r g.pays z);
  }

  pub may_fault : (r : Running) → PaysAtOnce r n → (code : ℕ) (left : Meaning) → MayFault me.0 code left
  may_fault r g code left = record { runs = r; gives = gives r g; takes = λ _ z. absurd (wild_not r g.pays z) }

  pub may_collect : (r : Running) (d : ℕ) (kind : FinishKind) → IsToCollect r d kind n → MayCollect me.0 d kind
  may_collect r d kind c = record {
    runs = r;
    running = h.running ∙ c.running;
    rest = c.rest;
    waits = λ _. h.awaits ∙ c.awaits;
    kinds = λ x e. h.waits x e ∙ c.waits;
    end = λ z. absurd (c.inner z);
  }

  pub may_end : (r : Running) → RunsEnd r n → MayMarkEnd me.0
  may_end r w = record { runs = r; running = h.running ∙ w.running; end = w.end; flight = h.flight ∙ w.flight }

  pub ties_ended : (r : Running) → RunsEnd r n → Ties (done_known me) (record n { running = None })
  ties_ended r w = subst (λ (f : Option Flight). Ties (rested None f (done_view me.0, me.1)) (record n { running = None })) (sym (h.flight ∙ w.flight)) record {
    running = refl;
    flight = h.flight;
    held = h.held;
    claimed = h.claimed;
    rooted = h.rooted;
    told = h.told;
    plain = record {
      lifted = h.plain.lifted;
      above = h.plain.above;
      halves = h.plain.halves;
      sprout = h.plain.sprout;
      gives = h.plain.gives;
      kind = h.plain.kind;
    };
    fresh = h.fresh;
    full = h.full;
    wild = h.wild;
    made = h.made;
    awaits = h.awaits;
    waits = h.waits;
    hurt = h.hurt;
    seats = h.seats;
    knows = λ k r e. absurd (cc);
    slots = sym (ap (λ (f : Option Flight). due f None) (h.flight ∙ w.flight));
    heads = refl;
  }

-- the gift word was seen, and then the fault word
pub ties_collected : {B : Type 0} (me : Me (Option B) View) (n : Notes) → Ties me n → (r : Running) (d k word : ℕ) (kind : FinishKind) → IsToCollect r d kind n
    → Ties (collected_view me.0.awaited k (shown_view word me.0), me.1) (looked_notes d k n)
ties_collected me n h r d k word kind c = subst (λ (b : Bool). Ties (
  cond b (collected_view me.0.awaited k (shown_view word me.0))
      (stepped (shown_view word me.0)),
  me.1,
) (looked_notes d k n))
    (ap (runs_rest d) (h.running ∙ c.running) ∙ eq-eqb r.vertex (2 * d + 1) c.rest)
    (ties_looked (shown_view word me.0, me.1) n (ties_shown me n h word true) d k)
