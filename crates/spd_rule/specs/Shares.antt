-- What a clause says of a field and its shares.
use Rattle.std.specs.Prelude.{◌≡◌, ◌≢◌, ◌∷◌, ◌+◌, ◌-◌, ◌%◌, ◌^◌, ◌<◌, ◌≤◌, ℕ, List, Option, Result, Ok, Err}
use Rattle.atomic_table.specs.Table.{Me, rest}
use Rattle.spd_words.specs.Plan.{PlanView, node_place, pair_place, vertex_place, gift_place, fault_place}
use Rattle.spd_words.specs.Meaning.{Meaning, BodyView}
use Rattle.spd_state.specs.declared.view.Draw.{Draw}
use Rattle.spd_state.specs.declared.view.View.{View}
use Rattle.spd_rule.specs.Steps.{pair_in, StartsVertex, LateStart, DrawsMove}
use Rattle.spd_words.specs.Words.{Pair, Vertex, node_of, pack_pair, pack_vertex}
use Rattle.spd_rule.specs.Moves.{MaySetVertex, pair_set}
use Rattle.spd_rule.specs.Consequences.{IsFinished}
use Rattle.spd_rule.specs.Held.{StepUnderRule}
use Rattle.spd_rule.specs.Kept.{StandsAround, StartsFit, means_of}
use Rattle.spd_rule.specs.declared.field.Field.{Field}
use Rattle.spd_rule.specs.declared.field.Share.{Share}

abbrev pub field_plan : {B : Type 0} → Field B → PlanView
field_plan f = f.plan

-- what a share knows
abbrev pub share_view : {B : Type 0} → Share B → View
share_view s = s.seat.me.0

-- the slots that it holds, the last taken first, with what lies in each
abbrev pub share_bodies : {B : Type 0} → Share B → List (ℕ × Option B)
share_bodies s = s.seat.me.1

abbrev pub share_known : {B : Type 0} → Share B → Me (Option B) View
share_known s = s.seat.me

-- The share is one of the field.
abbrev pub IsOf : {B : Type 0} → Field B → Share B → Type 0
IsOf f s = s.seat.table_id ≡ f.table.shared.table_id

-- It is the same share.
abbrev pub IsSame : {B : Type 0} → Share B → Share B → Type 0
IsSame s t = (t.seat.table_id ≡ s.seat.table_id) × (t.seat.id ≡ s.seat.id)

-- A load of this share found a word at this place, under the rule.
abbrev pub LoadsUnderRule : {B : Type 0} → Field B → ℕ → ℕ → Share B → Share B → Type 0
LoadsUnderRule f place found s t = StepUnderRule f.plan place found found s.seat.me t.seat.me

-- A fetch of this share found a word at this place and added k to it, under the rule.
abbrev pub AddsUnderRule : {B : Type 0} → Field B → ℕ → ℕ → ℕ → Share B → Share B → Type 0
AddsUnderRule f place k found s t = StepUnderRule f.plan place found ((found + k) % 2 ^ 64) s.seat.me t.seat.me

-- the same of one that takes k away
abbrev pub SubsUnderRule : {B : Type 0} → Field B → ℕ → ℕ → ℕ → Share B → Share B → Type 0
SubsUnderRule f place k found s t = StepUnderRule f.plan place found
    ((found + (2 ^ 64 - k)) % 2 ^ 64) s.seat.me t.seat.me

-- A fetch of this share found a word at this place and left that one, under the rule.
abbrev pub LeavesUnderRule : {B : Type 0} → Field B → ℕ → ℕ → ℕ → Share B → Share B → Type 0
LeavesUnderRule f place found left s t = StepUnderRule f.plan place found left s.seat.me t.seat.me

-- the same of a store onto a word that was 0 until then
abbrev pub StoresUnderRule : {B : Type 0} → Field B → ℕ → ℕ → Share B → Share B → Type 0
StoresUnderRule f place left s t = StepUnderRule f.plan place 0 left s.seat.me t.seat.me

-- where the pair of the running vertex stands
abbrev pub claim_place : {B : Type 0} → Field B → Share B → ℕ
claim_place f s = pair_place f.plan (pair_in s.seat.me.0.running)

-- An exchange found its answer there, and left `next` in the place of `seen`.
abbrev pub ExchangesUnderRule : {B : Type 0} → Field B → ℕ → ℕ → ℕ → Result ℕ ℕ → Share B → Share B → Type 0
ExchangesUnderRule f place seen next (Ok w) s t = StepUnderRule f.plan place w next s.seat.me t.seat.me
ExchangesUnderRule f place seen next (Err w) s t = StepUnderRule f.plan place w w s.seat.me t.seat.me

-- Where the word was the one that was seen the share runs the vertex, and else it has taken a step, and comes too late.
abbrev pub StartAnswer : {B : Type 0} → (B → Meaning) → Field B → ℕ → ℕ → Result ℕ ℕ → Share B → Share B → Type 0
StartAnswer means f v seen (Ok w) s t = (w ≡ seen) × StartsVertex means f.plan v seen s.seat.me t.seat.me
StartAnswer means f v seen (Err w) s t = (w ≢ seen) × LateStart v seen w s.seat.me t.seat.me

-- the same of the body that lies in the slot
abbrev pub StartIsFit : {B : Type 0} → (B → BodyView) → ℕ → Result ℕ ℕ → Share B → Share B → Type 0
StartIsFit view v (Ok w) s t = StartsFit view v s.seat.me t.seat.me
StartIsFit view v (Err w) s t = Unit {0}

-- The claim found a handle left of the two at most.
abbrev pub FindsHandle : Pair → Type 0
FindsHandle q = (q.claims < q.total) × (q.total ≤ 2)

-- The step at root d found the count 1: it left 0 there, and then the finish d was over.
abbrev pub OverAtLast : {B : Type 0} → Field B → ℕ → ℕ → Share B → Share B → Type 0
OverAtLast f d found s t = (node_of found).twice ≡ 2 → (step : SubsUnderRule f (node_place f.plan d) 2 found s t)
    × IsFinished f.plan step.kept.dag step.after.views d

-- where the words of a root and of a vertex stand
abbrev pub root_place : {B : Type 0} → Field B → ℕ → ℕ
root_place f d = node_place f.plan d

abbrev pub start_place : {B : Type 0} → Field B → ℕ → ℕ
start_place f v = vertex_place f.plan v

-- and those of what a finish has been offered, and of its least code
abbrev pub offer_place : {B : Type 0} → Field B → ℕ → ℕ
offer_place f d = gift_place f.plan d

abbrev pub code_place : {B : Type 0} → Field B → ℕ → ℕ
code_place f d = fault_place f.plan d

-- The share's draw found n moves drawn.
abbrev pub MoveDrawn : {B : Type 0} → Field B → Draw → Meaning → ℕ → Share B → Share B → Type 0
MoveDrawn f draw told n s t = DrawsMove f.plan draw told n s.seat.me t.seat.me

-- The share has given a pair its handles, of which this was the second.
abbrev pub PairSet : {B : Type 0} → ℕ → Meaning → Meaning → Share B → Share B → Type 0
PairSet second left right s t = t.seat.me ≡ (pair_set s.seat.me.0.flight second left right s.seat.me.0, s.seat.me.1)

-- The word of the pair d is q from this step on.
abbrev pub PairStored : {B : Type 0} → Field B → ℕ → Pair → Share B → Share B → Type 0
PairStored f d q s t = StoresUnderRule f (pair_place f.plan d) (pack_pair q) s t

-- The word of the vertex i is x from this step on.
abbrev pub VertexStored : {B : Type 0} → Field B → ℕ → Vertex → Share B → Share B → Type 0
VertexStored f i x s t = StoresUnderRule f (vertex_place f.plan i) (pack_vertex x) s t

-- The slot that the share took last had this and has that, and nothing else changed.
pub record IsTraded {B : Type 0} (put got : Option B) (s t : Share B) : Type 0 where
  pub slot : ℕ
  pub before : s.seat.me.1 ≡ (slot, got) ∷ rest s.seat.me.1
  pub after : t.seat.me ≡ (s.seat.me.0, (slot, put) ∷ rest s.seat.me.1)

-- The share may store x in the word of the vertex i, with the body that lies in the slot.
abbrev pub MayStore : {B : Type 0} → (B → Meaning) → ℕ → Vertex → Share B → Type 0
MayStore means i x s = MaySetVertex means i x s.seat.me

-- The share took one step under the rule, just before which and just after which the books stood.
abbrev pub BooksStand : {B : Type 0} → (B → BodyView) → Field B → Share B → Share B → Type 0
BooksStand view f s t = StandsAround (means_of view) f.plan s.seat.me t.seat.me
