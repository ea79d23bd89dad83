-- That a share which spawns may take the step of each stage, and what it knows after each.
use Rattle.std.proofs.Common.{◌≡◌, ℕ, ◌+◌, ◌-◌, ◌*◌, ◌≤◌, List, [], ◌∷◌, Bool, cond, Option, Some, None, refl, sym, ap, ◌∙◌, subst, arith, inr, eq-eqb}
use Rattle.atomic_table.specs.Table.{Me, rest}
use Rattle.spd_words.specs.Plan.{PlanView}
use Rattle.spd_words.specs.Words.{Pair}
use Rattle.spd_words.specs.Meaning.{Meaning, BodyView}
use Rattle.spd_state.specs.Sums.{same, gate, without}
use Rattle.spd_state.specs.Dag.{next_handle, right_at}
use Rattle.spd_state.specs.Steps.{claim_after}
use Rattle.spd_state.specs.Stages.{spawn_vertex, drawn_view}
use Rattle.spd_state.specs.declared.view.Draw.TheVariants.{Make, Spawn}
use Rattle.spd_state.specs.declared.view.View.{View}
use Rattle.spd_state.proofs.Sums.{same_self}
use Rattle.spd_rule.specs.Nobody.{nobody}
use Rattle.spd_rule.specs.Rest.{at_rest}
use Rattle.spd_rule.specs.Steps.{MayClaim, MayAdd, drawn_known}
use Rattle.spd_rule.specs.Moves.{MaySetPair, MaySetVertex, the_left, the_right, fresh_pair, vertex_set, pair_set, flight_with}
use Rattle.spd_dag.specs.Acts.{MaySpawn}
use Rattle.spd_dag.specs.Ends.{IsOver, over_view}
use Rattle.spd_dag.specs.Origins.{Origin, HasDrawn}
use Rattle.spd_dag.specs.Draws.{MayDrawOrSee}
use Rattle.spd_dag.specs.Spawns.{spawn_drawn, spawn_arrived, spawn_claimed, spawn_paired, spawn_stored}

not_make : {A : Type 0} → Spawn ≡ Make → A
not_make e = cc

without_front : (n : ℕ) (l : List ℕ) → without n (n ∷ l) ≡ l
without_front n l = ap (λ (b : Bool). cond b l (n ∷ without n l)) (eq-eqb n n refl)

module _ {B : Type 0} (view : B → BodyView) (o : Origin B) (may : MaySpawn o.known.0 o.runs (view o.body) (view o.rest)) where
  abbrev means : B → Meaning
  means b = (view b).means

  -- the moves that are owed
  moves_owed : o.known.0.wild ≡ 0 → o.known.0.owes.moves ≡ (means o.body).promise.moves + (means o.rest).promise.moves + 1
  moves_owed w = ap (λ q. q.moves) (may.cuts.books w).owed

  pub spawn_may_draw : MayDrawOrSee Spawn o.known.0
  spawn_may_draw = record {
    runs = λ e. not_make e;
    flight = may.cuts.acts.flight;
    maker = (o.runs, may.cuts.acts.running, may.cuts.acts.right);
    free = may.cuts.acts.free;
    pays = λ w. let e = moves_owed w in omega arith;
  }

  module _ (d : ℕ) where
    abbrev pub drawn : Me (Option B) View
    drawn = spawn_drawn o.runs d o.known

    abbrev pub arrived : Me (Option B) View
    arrived = spawn_arrived o.runs drawn

    abbrev pub claimed : ℕ → Me (Option B) View
    claimed n = spawn_claimed o.runs n arrived

    abbrev pub paired : Me (Option B) View
    paired = spawn_paired o.runs d (means o.body) (means o.rest) o.known.0 (claimed 0)

    abbrev pub stored : Me (Option B) View
    stored = spawn_stored o.runs d paired

    -- what the draw leaves
    pub spawn_draws : drawn_known Spawn d nobody o.known ≡ drawn
    spawn_draws = λ i. (
      record (drawn_view Spawn d nobody o.known.0) {
        running = may.cuts.acts.running i;
        flight = Some (flight_with Spawn d (Rattle.spd_state.specs.Stages.finish_in (may.cuts.acts.running i)) 0);
      },
      (2 * d, None) ∷ (2 * d + 1, None) ∷ o.known.1,
    )

    pub spawn_may_add : o.runs.inc ≡ o.runs.finish → MayAdd o.runs.inc drawn.0
    spawn_may_add root = record {
      right = let s = same_self o.runs.inc o.runs.finish root in let k : right_at o.runs.inc (Some o.runs) ≡ 1 =
          ap (λ (x : ℕ). gate x (same o.runs.inc o.runs.finish)) may.cuts.acts.right ∙ s in omega arith;
      room = let l = may.cuts.acts.room in omega arith;
    }

    pub spawn_may_claim : MayClaim arrived.0
    spawn_may_claim = record {
      right = may.cuts.acts.right;
      room = let l = may.cuts.acts.room in omega arith;
      free = may.cuts.acts.free;
    }

    -- what the claim leaves
    pub spawn_claims : (q : Pair) → claim_after q arrived.0 ≡ (claimed (next_handle q)).0
    spawn_claims q = refl

    pub spawn_may_pair : o.runs.inc ≡ o.runs.finish → (n : ℕ) → MaySetPair d (fresh_pair 2 0 n o.runs.inc) (means o.body) (means o.rest) (claimed n).0
    spawn_may_pair root n = inr record {
      finish = o.runs.finish;
      flies = refl;
      pair = refl;
      claimed = refl;
      lifted = refl;
      held = let s = same_self o.runs.inc o.runs.inc refl in omega arith;
      known = may.knows;
      tells = λ w. let s = may.cuts.books w in let e = moves_owed w in let m = means o.body in let n = means o.rest in
          let moves : o.known.0.owes.moves - 1 ≡ m.promise.moves + n.promise.moves = omega arith in record {
            left_body = record { tame = s.carries.tame; kinds = may.cuts.ready.kind; lawful = s.carries.promise };
            right_body = record { tame = s.tame.tame; kinds = s.kind; lawful = s.tame.promise };
            owed = λ i. record { gift = (s.owed i).gift; fault = (s.owed i).fault; moves = moves i };
          };
    }

    -- what the pair's store leaves
    pub spawn_pairs : (n : ℕ) → (let k : Me (Option B) View = (
      pair_set (claimed n).0.flight o.runs.inc (means o.body) (means o.rest) (claimed n).0,
      (claimed n).1,
    ) in k) ≡ paired
    spawn_pairs n = λ i. (
      record (pair_set (claimed n).0.flight o.runs.inc (means o.body) (means o.rest) (claimed n).0) { held = without_front o.runs.inc o.known.0.held i },
      (claimed n).1,
    )

    pub spawn_may_left : MaySetVertex means (2 * d) (spawn_vertex d o.runs.finish 0 o.runs.inc) (paired.0, (2 * d, Some o.body) ∷ rest paired.1)
    spawn_may_left = the_left record {
      number = d;
      finish = o.runs.finish;
      inc = o.runs.inc;
      flies = refl;
      vertex = refl;
      word = refl;
      known = may.knows;
      body = o.body;
      slot = refl;
      lies = λ w. let s = may.cuts.books w in record { tame = s.carries.tame; kinds = may.cuts.ready.kind; promise = refl; waits = may.cuts.ready.awaited };
    }

    -- what the store of the left vertex leaves
    pub left_stored : (x : Option B) → at_rest (vertex_set (paired.0, (2 * d, x) ∷ rest paired.1)) ≡ stored
    left_stored x = refl

    pub spawn_may_right : MaySetVertex means (2 * d + 1) (spawn_vertex d o.runs.finish 1 o.runs.inc) (stored.0, (2 * d + 1, Some o.rest) ∷ rest stored.1)
    spawn_may_right = the_right record {
      number = d;
      finish = o.runs.finish;
      inc = o.runs.inc;
      flies = refl;
      vertex = refl;
      word = refl;
      known = may.knows;
      body = o.rest;
      slot = refl;
      lies = λ w. let s = may.cuts.books w in record { tame = s.tame.tame; kinds = s.kind; promise = refl; waits = s.awaited };
    }

    abbrev pub over : Option B → Me (Option B) View
    over x = at_rest (vertex_set (stored.0, (2 * d + 1, x) ∷ rest stored.1))

    -- and what the store of the right one leaves
    pub spawn_over : (p : PlanView) → HasDrawn p d o.runs o.known.0 → (m : Me (Option B) View) (x : Option B) → m ≡ over x → m.0.ready ≤ 2 * p.moves
        → IsOver p o.known.0 m.0 2 6 × (m.1 ≡ [])
    spawn_over p h m x e most = let ready : (over x).0.ready ≡ o.known.0.ready + 2 = omega arith in (
      record {
        view = subst (λ (v : View). v ≡ over_view o.known.0 v 2) (ap (λ (k : Me (Option B) View). k.0) (sym e))
            (λ i. record (over x).0 { flight = sym may.cuts.acts.flight i; claimed = sym h.claimed i; ready = ready i });
        most = most;
        steps = ap (λ (k : Me (Option B) View). k.0.steps) e ∙ omega arith;
      },
      ap (λ (k : Me (Option B) View). k.1) e,
    )
