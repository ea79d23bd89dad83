-- That a share which chains may take the step of each stage, and what it knows after the last.
use Rattle.std.proofs.Common.{◌≡◌, ℕ, ◌+◌, ◌-◌, ◌*◌, ◌≤◌, [], ◌∷◌, Option, Some, refl, sym, ap, ◌∙◌, subst, arith, inl}
use Rattle.atomic_table.specs.Table.{Me, rest}
use Rattle.spd_words.specs.Plan.{PlanView}
use Rattle.spd_words.specs.Words.{pair_with}
use Rattle.spd_words.specs.Meaning.{Meaning, BodyView}
use Rattle.spd_words.specs.declared.finish_kind.FinishKind.{FinishKind}
use Rattle.spd_state.specs.Stages.{chain_rest_vertex, body_vertex}
use Rattle.spd_state.specs.declared.view.Draw.TheVariants.{Make, Chain, Spawn}
use Rattle.spd_state.specs.declared.view.View.{View}
use Rattle.spd_rule.specs.Nobody.{nobody}
use Rattle.spd_rule.specs.Rest.{at_rest}
use Rattle.spd_rule.specs.Moves.{MaySetRoot, MaySetPair, MaySetVertex, the_rest, the_body, fresh_pair, pair_kind, vertex_set, stored_in, less_first}
use Rattle.spd_dag.specs.Acts.{MayChain}
use Rattle.spd_dag.specs.Ends.{IsOver, over_view}
use Rattle.spd_dag.specs.Origins.{Origin, HasDrawn}
use Rattle.spd_dag.specs.Draws.{MayDrawOrSee}
use Rattle.spd_dag.specs.Chains.{chain_drawn, chain_opened, chain_handed, chain_waits}

no_make : {A : Type 0} → Chain ≡ Make → A
no_make e = cc

chain_opens : {A : Type 0} → Chain ≡ Spawn → A
chain_opens e = cc

module _ {B : Type 0} (view : B → BodyView) (o : Origin B) (kind : FinishKind) (may : MayChain o.known.0 o.runs kind (view o.body) (view o.rest)) where
  abbrev means : B → Meaning
  means b = (view b).means

  -- the moves that are owed
  moves_owed : o.known.0.wild ≡ 0 → o.known.0.owes.moves ≡ (means o.body).promise.moves + (means o.rest).promise.moves + 1
  moves_owed w = ap (λ q. q.moves) (may.books w).owed

  pub chain_may_draw : MayDrawOrSee Chain o.known.0
  chain_may_draw = record {
    runs = λ e. no_make e;
    flight = may.acts.flight;
    maker = (o.runs, may.acts.running, may.acts.right);
    free = may.acts.free;
    pays = λ w. let e = moves_owed w in omega arith;
  }

  module _ (d : ℕ) where
    abbrev pub drawn : Me (Option B) View
    drawn = chain_drawn d o.known

    abbrev pub opened : Me (Option B) View
    opened = chain_opened d (means o.body) drawn

    abbrev pub handed : Me (Option B) View
    handed = chain_handed opened

    abbrev pub waiting : Me (Option B) View
    waiting = chain_waits o.runs d handed

    pub chain_may_root : MaySetRoot d (means o.body) drawn.0
    chain_may_root = record {
      draw = Chain;
      opens = λ e. chain_opens e;
      flies = refl;
      room = let l = may.acts.room in omega arith;
      tells = λ w. let s = may.books w in let e = moves_owed w in (record { tame = s.carries.tame; kinds = refl; lawful = s.carries.promise }, omega arith);
    }

    pub chain_may_pair : MaySetPair d (fresh_pair 1 (pair_kind kind) d 0) nobody nobody opened.0
    chain_may_pair = inl record {
      draw = Chain;
      opens = λ e. chain_opens e;
      flies = refl;
      pair = ap (λ (k : FinishKind). pair_with 0 1 (pair_kind k) d 0) (sym may.ready.kind);
    }

    pub chain_may_rest : MaySetVertex means (2 * d + 1) (chain_rest_vertex o.runs) (handed.0, (2 * d + 1, Some o.rest) ∷ rest handed.1)
    chain_may_rest = the_rest record {
      number = d;
      runs = o.runs;
      running = may.acts.running;
      right = may.acts.right;
      flies = refl;
      vertex = refl;
      word = refl;
      body = o.rest;
      slot = refl;
      lies = λ w. let s = may.books w in let e = moves_owed w in let m = means o.body in let n = means o.rest in
          let moves : n.promise.moves ≡ o.known.0.owes.moves - 1 - m.promise.moves = omega arith in
          record {
            tame = s.tame.tame;
            kinds = s.kind;
            promise = λ i. record { gift = (sym s.owed i).gift; fault = (sym s.owed i).fault; moves = moves i };
            waits = s.awaited ∙ (λ i. Some record { kind = sym may.ready.kind i; gift = m.promise.gift; fault = m.promise.fault });
          };
    }

    -- what the store of the waiting vertex leaves
    pub rest_stored : (x : Option B) → at_rest (vertex_set (handed.0, (2 * d + 1, x) ∷ rest handed.1)) ≡ waiting
    rest_stored x = ap (λ q. at_rest (stored_in handed.0.flight q (less_first handed.0.slots) handed.0, rest handed.1)) may.acts.running

    pub chain_may_body : MaySetVertex means (2 * d) (body_vertex d) (waiting.0, (2 * d, Some o.body) ∷ rest waiting.1)
    chain_may_body = the_body record {
      draw = Chain;
      opens = λ e. chain_opens e;
      number = d;
      flies = refl;
      vertex = refl;
      word = refl;
      body = o.body;
      slot = refl;
      lies = λ w. let s = may.books w in record { tame = s.carries.tame; kinds = refl; promise = refl; waits = may.ready.awaited };
    }

    abbrev pub over : Option B → Me (Option B) View
    over x = at_rest (vertex_set (waiting.0, (2 * d, x) ∷ rest waiting.1))

    -- and what the store of the body's vertex leaves
    pub chain_over : (p : PlanView) → HasDrawn p d o.runs o.known.0 → (m : Me (Option B) View) (x : Option B) → m ≡ over x → m.0.ready ≤ 2 * p.moves
        → IsOver p o.known.0 m.0 1 5 × (m.1 ≡ [])
    chain_over p h m x e most = (
      record {
        view = subst (λ (v : View). v ≡ over_view o.known.0 v 1) (ap (λ (k : Me (Option B) View). k.0) (sym e)) (λ i. record (over x).0 { flight = sym may.acts.flight i; rooted = sym h.rooted i });
        most = most;
        steps = ap (λ (k : Me (Option B) View). k.0.steps) e ∙ omega arith;
      },
      ap (λ (k : Me (Option B) View). k.1) e,
    )
