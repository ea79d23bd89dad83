-- The notes after a root or a pair is set.
use Rattle.std.proofs.Common.{◌≡◌, ◌≢◌, ℕ, [], ◌∷◌, refl, sym, ap, ◌∙◌, subst, arith}
use Rattle.std.proofs.Common.{Option, Some, None, inr, eq-eqb, cond, true, false}
use Rattle.atomic_table.specs.Table.{Me}
use Rattle.spd_state.specs.Sums.{count, without}
use Rattle.spd_state.specs.Tree.{top_in}
use Rattle.spd_words.specs.declared.finish_kind.FinishKind.TheVariants.{Plain}
use Rattle.spd_state.specs.Stages.{handed_view, rooted_view, taken_kind}
use Rattle.spd_state.specs.declared.view.Draw.{Draw}
use Rattle.spd_state.specs.declared.view.Draw.TheVariants.{Make, Chain, Spawn}
use Rattle.spd_state.specs.declared.view.Flight.{Flight}
use Rattle.spd_state.specs.declared.view.View.{View}
use Rattle.spd_state.proofs.Sums.{same_self}
use Rattle.spd_rule.specs.Nobody.{nobody}
use Rattle.spd_rule.specs.Rest.{due}
use Rattle.spd_rule.specs.Moves.{flight_with, draw_in, root_set, pair_set, fresh_pair, MaySetPair}
use Rattle.spd_rule_tests.specs.declared.notes.Notes.{Notes}
use Rattle.spd_rule_tests.specs.Notes.{OpensAt, SpawnsAt, HasHandles}
use Rattle.spd_rule_tests.specs.Ties.{Ties, listed}

-- the first without itself
pub lone : (d : ℕ) → without d (d ∷ []) ≡ []
lone d = ap (λ b. cond b [] (d ∷ [])) (eq-eqb d d refl)

module _ {B : Type 0} (me : Me (Option B) View) (n : Notes) (h : Ties me n) where
  -- what a root that is set leaves
  rooted : (draw : Draw) (d : ℕ) → n.flight ≡ Some (flight_with draw d d 0) → Ties (rooted_view draw d nobody me.0, me.1)
      (record n { flight = Some (flight_with draw d d 1); rooted = Some d; knows = false })
  rooted draw d flies = record {
    running = h.running;
    flight = refl;
    held = h.held;
    claimed = h.claimed;
    rooted = refl;
    told = h.told;
    plain = record {
      lifted = h.plain.lifted;
      above = h.plain.above;
      halves = h.plain.halves;
      sprout = h.plain.sprout;
      gives = taken draw;
      kind = h.plain.kind;
    };
    fresh = h.fresh;
    full = h.full;
    wild = h.wild;
    made = h.made;
    seats = h.seats;
    awaits = h.awaits;
    waits = h.waits;
    hurt = h.hurt;
    knows = λ e. absurd (cc);
    slots = h.slots ∙ ap (λ f. due f me.0.running) (h.flight ∙ flies);
    heads = h.heads;
  }
    where
      taken : (x : Draw) → taken_kind x nobody me.0.gives ≡ Plain
      taken Make = h.plain.gives
      taken Chain = refl
      taken Spawn = h.plain.gives

  pub ties_root : (draw : Draw) (d : ℕ) → OpensAt draw d 0 n → Ties (root_set d nobody me.0, me.1)
      (record n { flight = Some (flight_with draw d d 1); rooted = Some d; knows = false })
  ties_root draw d o = subst (λ (f : Option Flight). Ties (rooted_view (draw_in f) d nobody me.0, me.1)
      (record n { flight = Some (flight_with draw d d 1); rooted = Some d; knows = false })) (sym (h.flight ∙ o.flies)) (rooted draw d o.flies)

  -- what the handing over of a root's unit leaves
  handed : (draw : Draw) (d : ℕ) → n.flight ≡ Some (flight_with draw d d 1) → Ties (handed_view draw d me.0, me.1)
      (record n { flight = Some (flight_with draw d d 2); rooted = None })
  handed draw d flies = record {
    running = h.running;
    flight = refl;
    held = h.held;
    claimed = h.claimed;
    rooted = refl;
    told = h.told;
    plain = record {
      lifted = h.plain.lifted;
      above = h.plain.above;
      halves = h.plain.halves;
      sprout = h.plain.sprout;
      gives = h.plain.gives;
      kind = h.plain.kind;
    };
    fresh = h.fresh;
    full = h.full;
    wild = h.wild;
    made = h.made;
    seats = h.seats;
    awaits = h.awaits;
    waits = h.waits;
    hurt = h.hurt;
    knows = h.knows;
    slots = h.slots ∙ ap (λ f. due f me.0.running) (h.flight ∙ flies);
    heads = h.heads;
  }

  pub ties_handle : (draw : Draw) (d : ℕ) → OpensAt draw d 1 n → Ties (pair_set me.0.flight 0 nobody nobody me.0, me.1)
      (record n { flight = Some (flight_with draw d d 2); rooted = None })
  ties_handle draw d o = subst (λ (o' : Option Flight). Ties (pair_set o' 0 nobody nobody me.0, me.1)
      (record n { flight = Some (flight_with draw d d 2); rooted = None })) (sym (h.flight ∙ o.flies)) (by draw o.opens (handed draw d o.flies))
    where
      by : (x : Draw) → x ≢ Spawn → Ties (handed_view x d me.0, me.1) (record n { flight = Some (flight_with x d d 2); rooted = None })
          → Ties (pair_set (Some (flight_with x d d 1)) 0 nobody nobody me.0, me.1) (record n { flight = Some (flight_with x d d 2); rooted = None })
      by Make other t = t
      by Chain other t = t
      by Spawn other t = absurd (other refl)

  pub may_handles : (d u first second : ℕ) → SpawnsAt d u 0 n → HasHandles first second u n → MaySetPair d (fresh_pair 2 0 first second) nobody nobody me.0
  may_handles d u first second s k = inr record {
    finish = u;
    flies = h.flight ∙ s;
    pair = refl;
    claimed = h.claimed ∙ ap listed k.claimed;
    lifted = h.plain.lifted;
    held = let e : count second me.0.held ≡ count second (second ∷ []) = ap (count second) (h.held ∙ ap listed k.held) in
        let o = same_self second second refl in omega arith;
    known = ap (λ (x : ℕ). top_in x me.0.known) (sym k.inc) ∙ (h.knows k.knows k.runs k.running ∙ ap Some k.finish_of);
    tells = λ e. let a = h.wild in let b = k.wild in absurd (omega arith);
  }

  pub ties_handles : (d u first second : ℕ) → SpawnsAt d u 0 n → HasHandles first second u n → Ties (pair_set me.0.flight second nobody nobody me.0, me.1)
      (record n { flight = Some (flight_with Spawn d u 2); held = None; claimed = None })
  ties_handles d u first second s k = subst (λ (o' : Option Flight). Ties (pair_set o' second nobody nobody me.0, me.1)
      (record n { flight = Some (flight_with Spawn d u 2); held = None; claimed = None })) (sym (h.flight ∙ s)) (record {
        running = h.running;
        flight = refl;
        held = ap (without second) (h.held ∙ ap listed k.held) ∙ lone second;
        claimed = refl;
        rooted = h.rooted;
        told = h.told;
        plain = record {
          lifted = refl;
          above = h.plain.above;
          halves = h.plain.halves;
          sprout = h.plain.sprout;
          gives = h.plain.kind;
          kind = h.plain.kind;
        };
        fresh = h.fresh;
        full = h.full;
        wild = h.wild;
        made = h.made;
        seats = h.seats;
        awaits = h.awaits;
        waits = h.waits;
        hurt = h.hurt;
        knows = h.knows;
        slots = h.slots ∙ ap (λ f. due f me.0.running) (h.flight ∙ s);
        heads = h.heads;
      })
