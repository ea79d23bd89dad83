-- What a player's notes say of the vertex that runs and of the move in flight.
use Rattle.std.specs.Prelude.{◌≡◌, ◌≢◌, ◌+◌, ◌*◌, ℕ, Some, None, Bool, true, false, cond}
use Prim.Native.Nat.{zero, suc}
use Rattle.spd_words.specs.declared.finish_kind.FinishKind.{FinishKind}
use Rattle.spd_words.specs.declared.finish_kind.FinishKind.TheVariants.{Plain}
use Rattle.spd_state.specs.declared.view.Draw.{Draw}
use Rattle.spd_state.specs.declared.view.Draw.TheVariants.{Chain, Spawn}
use Rattle.spd_state.specs.declared.view.Running.{Running}
use Rattle.spd_rule.specs.Moves.{flight_with}
use Rattle.spd_rule.specs.Payments.{runs_rest}
use Rattle.spd_rule_tests.specs.declared.notes.Notes.{Notes}

-- those of a share that holds nothing
abbrev pub new_notes : ℕ → Notes
new_notes fresh = record {
  running = None;
  flight = None;
  held = None;
  claimed = None;
  rooted = None;
  told = None;
  fresh = fresh;
  full = 0;
  wild = 0;
  made = 0;
  awaits = 0;
  waits = Plain;
  hurt = 0;
  seats = 1;
  knows = false;
}

-- It runs this vertex with its right; the vertex's body is wild.
pub record Pays (r : Running) (n : Notes) : Type 0 where
  pub running : n.running ≡ Some r
  pub right : r.right ≡ 1
  pub wild : n.wild ≡ 1

-- And it has neither to collect nor to put the code 0.
pub record Works (r : Running) (n : Notes) : Type 0 where
  pub pays : Pays r n
  pub free : n.awaits ≡ 0
  pub unhurt : n.hurt ≡ 0

-- And it has no move in flight.
pub record PaysAtOnce (r : Running) (n : Notes) : Type 0 where
  pub pays : Pays r n
  pub flight : n.flight ≡ None

-- It may begin the make.
pub record Makes (n : Notes) : Type 0 where
  pub fresh : n.fresh ≡ 1
  pub unmarked : n.full ≡ 0
  pub free : n.awaits ≡ 0
  pub unhurt : n.hurt ≡ 0
  pub running : n.running ≡ None
  pub flight : n.flight ≡ None

-- It may draw a move as this vertex.
pub record Draws (r : Running) (n : Notes) : Type 0 where
  pub works : Works r n
  pub unmarked : n.full ≡ 0
  pub flight : n.flight ≡ None

-- The move d of a make or a chain is in flight at this stage.
pub record OpensAt (draw : Draw) (d stage : ℕ) (n : Notes) : Type 0 where
  pub opens : draw ≢ Spawn
  pub flies : n.flight ≡ Some (flight_with draw d d stage)

-- The move d of a spawn for the finish u is.
abbrev pub SpawnsAt : ℕ → ℕ → ℕ → Notes → Type 0
SpawnsAt d u stage n = n.flight ≡ Some (flight_with Spawn d u stage)

abbrev pub is_chain : Draw → Bool
is_chain Chain = true
is_chain _ = false

-- It holds these two units, and knows that the second lies under the root of its vertex's finish.
pub record HasHandles (first second finish : ℕ) (n : Notes) : Type 0 where
  pub claimed : n.claimed ≡ Some first
  pub held : n.held ≡ Some second
  pub runs : Running
  pub running : n.running ≡ Some runs
  pub inc : runs.inc ≡ second
  pub finish_of : runs.finish ≡ finish
  pub knows : n.knows ≡ true
  pub wild : n.wild ≡ 1

-- The move d, which this draw has brought to this stage, is in flight, and opens the finish d.
abbrev pub FliesAs : Draw → ℕ → ℕ → Notes → Type 0
FliesAs draw d stage n = n.flight ≡ Some (flight_with draw d d stage)

-- It may give back the claimed unit at d, and has no other.
pub record Signals (d : ℕ) (n : Notes) : Type 0 where
  pub claimed : n.claimed ≡ Some d
  pub held : n.held ≡ None
  pub told : n.told ≡ None
  pub flight : n.flight ≡ None
  pub wild : n.wild ≡ 1
  pub runs : Running
  pub running : n.running ≡ Some runs
  pub right : runs.right ≡ 0

-- It has nothing in hand.
pub record IsIdle (n : Notes) : Type 0 where
  pub running : n.running ≡ None
  pub flight : n.flight ≡ None
  pub held : n.held ≡ None
  pub claimed : n.claimed ≡ None
  pub rooted : n.rooted ≡ None
  pub told : n.told ≡ None

-- It neither runs a vertex nor has a move in flight.
pub record IsAtLeisure (n : Notes) : Type 0 where
  pub running : n.running ≡ None
  pub flight : n.flight ≡ None

-- It knows that its vertex increments under the root of this finish.
pub record KnowsInc (inc finish : ℕ) (n : Notes) : Type 0 where
  pub runs : Running
  pub running : n.running ≡ Some runs
  pub inc_of : runs.inc ≡ inc
  pub finish_of : runs.finish ≡ finish
  pub knows : n.knows ≡ true
  pub wild : n.wild ≡ 1

-- It is told this finish, and has nothing else left to do.
pub record Wakes (f : ℕ) (n : Notes) : Type 0 where
  pub told : n.told ≡ Some f
  pub claimed : n.claimed ≡ None
  pub flight : n.flight ≡ None
  pub runs : Running
  pub running : n.running ≡ Some runs
  pub right : runs.right ≡ 0

-- It runs vertex 1, and has no move in flight.
pub record RunsEnd (r : Running) (n : Notes) : Type 0 where
  pub running : n.running ≡ Some r
  pub end : r.vertex ≡ 1
  pub flight : n.flight ≡ None

-- It runs the waiting vertex of the finish d, is to collect it, and the finish is of this kind; 0 is that of the region.
pub record IsToCollect (r : Running) (d : ℕ) (kind : FinishKind) (n : Notes) : Type 0 where
  pub running : n.running ≡ Some r
  pub rest : r.vertex ≡ 2 * d + 1
  pub inner : d ≢ 0
  pub awaits : n.awaits ≡ 1
  pub waits : n.waits ≡ kind

-- after a look at the fault word, which was this, of a finish for which it was to collect
abbrev pub collected_notes : ℕ → ℕ → Notes → Notes
collected_notes zero word n = n
collected_notes (suc a) zero n = record n { awaits = 0; hurt = 1 }
collected_notes (suc a) (suc word) n = record n { awaits = 0 }

-- after a look at the fault word of the finish d
abbrev pub looked_notes : ℕ → ℕ → Notes → Notes
looked_notes d word n = cond (runs_rest d n.running) (collected_notes n.awaits word n) n

-- after the code was put: 0 ends the hurt
abbrev pub lowered_notes : ℕ → Notes → Notes
lowered_notes zero n = record n { hurt = 0 }
lowered_notes (suc code) n = n
