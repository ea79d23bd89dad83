-- What a share knows once it has collected what its vertex waited for.
use Rattle.std.proofs.Common.{◌≡◌, ◌≢◌, ℕ, ◌+◌, ◌*◌, ◌/◌, ◌%◌, Bool, true, false, cond, eq-eqb, Option, Some, None, is_some, not, refl, sym, ap, ◌∙◌, subst, arith}
use Prim.Native.Nat.{zero, suc}
use Rattle.std.specs.Option.{IsSome}
use Rattle.spd_words.specs.Meaning.{Awaited, kind_of_awaited}
use Rattle.spd_words.specs.declared.finish_kind.FinishKind.{FinishKind}
use Rattle.spd_state.specs.Promises.{expected_in, expected_of}
use Rattle.spd_state.specs.Steps.{stepped}
use Rattle.spd_state.specs.declared.promise.Expected.{Expected}
use Rattle.spd_state.specs.declared.view.Running.{Running}
use Rattle.spd_state.specs.declared.view.View.{View}
use Rattle.spd_debts.specs.Payments.{collect_view}
use Rattle.spd_rule.specs.Payments.{runs_rest, collected_view}
use Rattle.spd_fork.specs.Pieces.{piece_awaits}
use Rattle.spd_fork.specs.Workers.{IsWorking, PieceGoesOn}
use Rattle.spd_fork.specs.declared.piece.Piece.{Piece}

-- what a view becomes by a look at the fault word n of the finish d
abbrev collected : ℕ → ℕ → View → View
collected d n v = cond (runs_rest d v.running) (collected_view v.awaited n v) (stepped v)

no_awaited : (o : Option Awaited) → kind_of_awaited o ≡ None → o ≡ None
no_awaited None e = refl
no_awaited (Some x) e = absurd (cc)

-- what is told to be there is so
pub told_some : (o k : Option FinishKind) (none : Bool) → k ≡ o → is_some k ≡ not none → none ≡ false → o ≢ None
told_some o k none e s f = λ (n : o ≡ None). absurd (let a : is_some k ≡ false = ap is_some (e ∙ n) in let b : is_some k ≡ true = s ∙ ap not f in
    cc)

some_awaited : (o : Option Awaited) → kind_of_awaited o ≢ None → (x : Awaited) × (o ≡ Some x)
some_awaited None some = absurd (some refl)
some_awaited (Some x) some = (x, refl)

-- the look leaves the seats
pub seats_stay : (b : Bool) (o : Option Expected) (n : ℕ) (v : View) → (cond b (collected_view o n v) (stepped v)).seats ≡ v.seats
seats_stay false o n v = refl
seats_stay true None n v = refl
seats_stay true (Some x) zero v = refl
seats_stay true (Some x) (suc c) v = refl

-- what waits awaits something
pub awaits_some : (o : Option Awaited) → kind_of_awaited o ≢ None → IsSome o
awaits_some None some = absurd (some refl)
awaits_some (Some x) some = refl

module _ (seats : ℕ) (r : Running) (v : View) (w : IsWorking seats r (record v { awaited = None })) where
  works_now : v.awaited ≡ None → IsWorking seats r v
  works_now none = record {
    has = record {
      number = w.has.number;
      flight = w.has.flight;
      held = w.has.held;
      claimed = w.has.claimed;
      rooted = w.has.rooted;
      above = w.has.above;
      halves = w.has.halves;
      sprout = w.has.sprout;
      told = w.has.told;
      hurt = w.has.hurt;
    };
    running = w.running;
    right = w.right;
    awaited = none;
    wild = w.wild;
    kind = w.kind;
    knows = w.knows;
  }

  works_collected : (n : ℕ) → n ≢ 0 → IsWorking seats r (collect_view n v)
  works_collected zero some = absurd (some refl)
  works_collected (suc c) some = record {
    has = record {
      number = w.has.number;
      flight = w.has.flight;
      held = w.has.held;
      claimed = w.has.claimed;
      rooted = w.has.rooted;
      above = w.has.above;
      halves = w.has.halves;
      sprout = w.has.sprout;
      told = w.has.told;
      hurt = w.has.hurt;
    };
    running = w.running;
    right = w.right;
    awaited = refl;
    wild = w.wild;
    kind = w.kind;
    knows = w.knows;
  }

module _ (vertex : ℕ) (b next : Piece) (v : View) where
  -- a piece that doesn't wait
  pub goes_at_once : kind_of_awaited (piece_awaits b.stage) ≡ None → PieceGoesOn vertex b v v (Some next)
  goes_at_once none = λ seats r begun.
      works_now seats r v begun.works (begun.waits ∙ ap expected_in (no_awaited (piece_awaits b.stage) none))

  -- a piece that waited at an odd vertex, for a finish without want of memory
  pub goes_resumed : (n : ℕ) → kind_of_awaited (piece_awaits b.stage) ≢ None → vertex % 2 ≢ 0 → n ≢ 0
      → PieceGoesOn vertex b v (collected (vertex / 2) n v) (Some next)
  goes_resumed n waits odd some = λ seats r begun.
      let x = some_awaited (piece_awaits b.stage) waits in
      let awaits : v.awaited ≡ Some (expected_of x.0) = begun.waits ∙ ap expected_in x.1 in
      let number = begun.number in
      let runs : runs_rest (vertex / 2) v.running ≡ true =
      ap (runs_rest (vertex / 2)) begun.works.running ∙ eq-eqb r.vertex (2 * (vertex / 2) + 1) (omega arith) in
      let is : collected (vertex / 2) n v ≡ collect_view n v =
      ap (λ (y : Bool). cond y (collected_view v.awaited n v) (stepped v)) runs ∙ ap (λ (o : Option Expected). collected_view o n v) awaits in
      subst (IsWorking seats r) (sym is) (works_collected seats r v begun.works n some)
