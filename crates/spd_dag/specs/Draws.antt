-- The draw of a chain or a spawn: what it asks, what it leaves, and what the share knows afterwards.
use Rattle.std.specs.Prelude.{◌≡◌, ◌≢◌, ◌+◌, ◌%◌, ◌^◌, ◌<◌, ℕ, Option, None}
use Prim.Native.Nat.{zero, suc}
use Rattle.atomic_table.specs.Table.{Me}
use Rattle.spd_words.specs.Plan.{moves_place}
use Rattle.spd_state.specs.Stages.{MayDraw, full_view}
use Rattle.spd_state.specs.declared.view.Draw.{Draw}
use Rattle.spd_state.specs.declared.view.Draw.TheVariants.{Make}
use Rattle.spd_state.specs.declared.view.View.{View}
use Rattle.spd_debts.specs.Payments.{sees_view}
use Rattle.spd_rule.specs.Held.{StepUnderRule}
use Rattle.spd_rule.specs.Nobody.{nobody}
use Rattle.spd_rule.specs.Steps.{IsFree, drawn_known}
use Rattle.spd_rule.specs.declared.field.Field.{Field}
use Rattle.spd_rule.specs.declared.field.Share.{Share}

-- what a draw leaves: one more, or, by a share that has seen the moves full so often, what it found
abbrev pub draw_writes : ℕ → ℕ → ℕ
draw_writes zero found = (found + 1) % 2 ^ 64
draw_writes (suc marks) found = found

-- What a share knows once it has found no move left: by a draw, or, where it had the mark, by a look.
abbrev pub unmoved_view : ℕ → View → View
unmoved_view zero v = full_view v
unmoved_view (suc marks) v = sees_view v

abbrev pub unmoved_known : {B : Type 0} → Me (Option B) View → Me (Option B) View
unmoved_known me = (unmoved_view me.0.full_draws me.0, me.1)

-- It runs a vertex with its right and has no move in flight, and a vertex that isn't wild owes a move.
pub record MayDrawOrSee (draw : Draw) (v : View) : Type 0 where
  pub runs : draw ≢ Make
  pub flight : v.flight ≡ None
  pub maker : MayDraw draw v
  pub free : IsFree v
  pub pays : v.wild ≡ 0 → 0 < v.owes.moves

-- The move of this number is in flight with the share.
abbrev pub FindsMove : {B : Type 0} → Draw → ℕ → Share B → Share B → Type 0
FindsMove draw n s t = t.seat.me ≡ drawn_known draw n nobody s.seat.me

-- No move was left.
abbrev pub FindsNone : {B : Type 0} → Share B → Share B → Type 0
FindsNone s t = t.seat.me ≡ unmoved_known s.seat.me

-- The draw found this number of moves, under the rule.
abbrev pub DrawnUnderRule : {B : Type 0} → Field B → ℕ → Share B → Share B → Type 0
DrawnUnderRule f found s t = StepUnderRule f.plan moves_place found (draw_writes s.seat.me.0.full_draws found) s.seat.me t.seat.me
