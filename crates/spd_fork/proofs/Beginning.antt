-- What a share that rests may start, what one that works may begin, and what it knows then.
use Rattle.std.proofs.Common.{◌≡◌, ◌≢◌, ℕ, length, Bool, true, false, cond, eqb, eq-eqb, Option, Some, refl, sym, ap, subst, arith}
use Prim.Native.Nat.{zero, suc}
use Rattle.atomic_table.specs.Table.{Me}
use Rattle.spd_words.specs.Plan.{PlanView}
use Rattle.spd_words.specs.Words.{Vertex, vertex_of}
use Rattle.spd_words.specs.Meaning.{Going}
use Rattle.spd_words.specs.BodyCalls.{IsReady}
use Rattle.spd_words.specs.declared.finish_kind.FinishKind.TheVariants.{Plain}
use Rattle.spd_state.specs.Dag.{busy, not_end}
use Rattle.spd_state.specs.Tree.{top_in}
use Rattle.spd_state.specs.Shown.{note_ready, see_after}
use Rattle.spd_state.specs.Steps.{stepped, start_run, start_view}
use Rattle.spd_state.specs.declared.view.Running.{Running}
use Rattle.spd_state.specs.declared.view.View.{View}
use Rattle.spd_rule.specs.Steps.{see_known}
use Rattle.spd_rule.specs.Kept.{IsFit}
use Rattle.spd_vertex.specs.Starting.{StartsBy}
use Rattle.spd_vertex.specs.declared.starting.Start.TheVariants.{Ours}
use Rattle.spd_dag.specs.Acts.{MayAct, MayChain, MaySpawn, MaySignal}
use Rattle.spd_dag.specs.Chains.{ChainBegins}
use Rattle.spd_dag.specs.Spawns.{SpawnBegins}
use Rattle.spd_dag.specs.Signals.{SignalBegins}
use Rattle.spd_dag.specs.declared.chain.ChainCall.{ChainCall}
use Rattle.spd_dag.specs.declared.spawn.SpawnCall.{SpawnCall}
use Rattle.spd_dag.specs.declared.signal.SignalCall.{SignalCall}
use Rattle.spd_fork.specs.Workers.{IsResting, IsWorking, IsBegun, FitsStage}
use Rattle.spd_fork.specs.declared.stage.Stage.{Stage}
use Rattle.spd_fork.specs.declared.stage.Stage.TheVariants as stage
use Rattle.spd_fork.specs.Pieces.{piece_view}
use Rattle.spd_fork.specs.declared.piece.Piece.{Piece}

-- any vertex but 1 has a right
is_other : (i : ℕ) → i ≢ 1 → not_end i ≡ 1
is_other zero other = refl
is_other (suc zero) other = absurd (other refl)
is_other (suc (suc i)) other = refl

-- a piece that goes on may lie in a slot
pub fit_piece : (b : Piece) → (piece_view b).stage ≡ Going → IsFit (piece_view b)
fit_piece b goes = record { goes = goes; tame = λ (wild : true ≡ false). absurd (cc) }

module _ (seats : ℕ) (r : Running) (v : View) (w : IsWorking seats r v) where
  pub may_act : MayAct v r
  may_act = record {
    running = w.running;
    right = w.right;
    flight = w.has.flight;
    free = let a = ap busy w.awaited in let h = w.has.hurt in omega arith;
    room = let a = ap length w.has.held in let b = ap length w.has.claimed in let c = ap length w.has.rooted in
        let d = ap length w.has.above in omega arith;
  }

  pub may_chain : (body rest : Piece) → IsReady Plain (piece_view body) → IsFit (piece_view rest)
      → MayChain v r Plain (piece_view body) (piece_view rest)
  may_chain body rest ready fit = record {
    acts = may_act;
    ready = ready;
    carried = fit_piece body ready.stage;
    fit = fit;
    books = λ tame. let a = w.wild in absurd (omega arith);
  }

  pub may_spawn : (body rest : Piece) → IsReady Plain (piece_view body) → IsFit (piece_view rest)
      → MaySpawn v r (piece_view body) (piece_view rest)
  may_spawn body rest ready fit = record {
    cuts = record {
      acts = may_act;
      ready = record { kind = sym w.kind; awaited = ready.awaited; stage = ready.stage };
      carried = fit_piece body ready.stage;
      fit = fit;
      books = λ tame. let a = w.wild in absurd (omega arith);
    };
    knows = w.knows;
  }

  pub may_signal : MaySignal v r
  may_signal = record {
    acts = may_act;
    held = w.has.held;
    told = w.has.told;
    paid = λ tame. let a = w.wild in absurd (omega arith);
  }

module _ (seats : ℕ) (v : View) (h : IsResting seats v) where
  -- a view that differs in nothing that is told of a share that rests
  rests_alike : (u : View) → u ≡ record v { shown = u.shown; steps = u.steps } → IsResting seats u
  rests_alike u e = subst (IsResting seats) (sym e) (record {
    has = record {
      number = h.has.number;
      flight = h.has.flight;
      held = h.has.held;
      claimed = h.has.claimed;
      rooted = h.has.rooted;
      above = h.has.above;
      halves = h.has.halves;
      sprout = h.has.sprout;
      told = h.has.told;
      hurt = h.has.hurt;
    };
    running = h.running;
    slots = h.slots;
  })

  pub rests_stepped : IsResting seats (stepped v)
  rests_stepped = rests_alike (stepped v) refl

  pub rests_late : (i : ℕ) (x : Vertex) → IsResting seats (stepped (note_ready i x v))
  rests_late i x = rests_alike (stepped (note_ready i x v)) refl

  pub rests_seen : (i : ℕ) (x : Vertex) → IsResting seats (see_after i x v)
  rests_seen i x = by (eqb x.state 2)
    where
      by : (b : Bool) → IsResting seats (cond b (note_ready i x v) (stepped v))
      by true = rests_alike (note_ready i x v) refl
      by false = rests_stepped

  -- the vertex of a piece was started
  pub begun_started : (i : ℕ) (x : Vertex) (b : Piece) → i ≢ 1
      → IsBegun seats i b (start_run i x) (start_view i x (Some (piece_view b).means) (note_ready i x v))
  begun_started i x b other = record {
    works = record {
      has = record {
        number = h.has.number;
        flight = h.has.flight;
        held = h.has.held;
        claimed = h.has.claimed;
        rooted = h.has.rooted;
        above = h.has.above;
        halves = h.has.halves;
        sprout = h.has.sprout;
        told = h.has.told;
        hurt = h.has.hurt;
      };
      running = refl;
      right = is_other i other;
      awaited = refl;
      wild = refl;
      kind = refl;
      knows = ap (λ (o : Bool). cond o (Some x.finish) (top_in x.inc v.known)) (eq-eqb x.inc x.inc refl);
    };
    number = refl;
    waits = refl;
  }

-- ---- at a stage

module _ (p : PlanView) (seats : ℕ) (me : Me (Option Piece) View) (s : Stage) (fits : FitsStage p seats me s) where
  module _ (works : s ≡ stage.Works) where
    at_work : (r : Running) × IsWorking seats r me.0
    at_work = subst (FitsStage p seats me) works fits

    pub begun_chain : (body rest : Piece) → IsReady Plain (piece_view body) → IsFit (piece_view rest) → (call : ChainCall Piece)
        → ChainBegins piece_view Plain body rest call → FitsStage p seats me (stage.Chains call)
    begun_chain body rest ready fit call begins = let r = at_work.0 in let w = at_work.1 in (
      record { known = me; runs = r; body = body; rest = rest },
      begins p (record { known = me; runs = r; body = body; rest = rest }) refl refl (may_chain seats r me.0 w body rest ready fit),
      w,
    )

    pub begun_spawn : (body rest : Piece) → IsReady Plain (piece_view body) → IsFit (piece_view rest) → (call : SpawnCall Piece)
        → SpawnBegins piece_view body rest call → FitsStage p seats me (stage.Spawns call)
    begun_spawn body rest ready fit call begins = let r = at_work.0 in let w = at_work.1 in (
      record { known = me; runs = r; body = body; rest = rest },
      begins p (record { known = me; runs = r; body = body; rest = rest }) refl refl (may_spawn seats r me.0 w body rest ready fit),
      w,
    )

    pub begun_signal : (call : SignalCall) → SignalBegins call → FitsStage p seats me (stage.Signals call)
    begun_signal call begins = let r = at_work.0 in let w = at_work.1 in
        (record { before = me.0; runs = r }, begins p (record { before = me.0; runs = r }) (may_signal seats r me.0 w), w)

  module _ (rests : s ≡ stage.Rests) where
    pub at_rest_here : IsResting seats me.0
    at_rest_here = subst (FitsStage p seats me) rests fits

    -- what a look leaves
    pub fits_seen : (i n : ℕ) (me' : Me (Option Piece) View) → me' ≡ see_known i n me → FitsStage p seats me' s
    fits_seen i n me' e = subst (FitsStage p seats me') (sym rests)
        (subst (λ (m : Me (Option Piece) View). IsResting seats m.0) (sym e) (rests_seen seats me.0 at_rest_here i (vertex_of n)))

    -- what a start leaves
    module _ (i : ℕ) (me' : Me (Option Piece) View) where
      pub begins_started : (b : Piece) → StartsBy (λ b. (piece_view b).means) p i me me' (Ours b)
          → (r : Running) × IsBegun seats i b r me'.0
      begins_started b t = let x : Vertex = vertex_of t.1.found in (
        start_run i x,
        subst (λ (m : Me (Option Piece) View). IsBegun seats i b (start_run i x) m.0) (sym t.1.known)
            (begun_started seats me.0 at_rest_here i x b t.0),
      )
