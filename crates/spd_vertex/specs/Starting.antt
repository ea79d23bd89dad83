-- How the start of a vertex ends: what it gives, what its steps found, and what the share knows afterwards.
use Rattle.std.specs.Prelude.{◌≡◌, ◌≢◌, ◌⊎◌, ◌+◌, ◌∷◌, ℕ, Option, Some, None}
use mathlib.Core.Option.{some}
use lib.ListN.{get_elem?}
use Rattle.atomic_table.specs.Table.{Me}
use Rattle.spd_words.specs.Meaning.{Meaning, BodyView}
use Rattle.spd_rule.specs.Kept.{FitsStart}
use Rattle.spd_words.specs.Plan.{PlanView, vertex_place}
use Rattle.spd_words.specs.Words.{vertex_of}
use Rattle.spd_state.specs.Parts.{IsInside}
use Rattle.spd_state.specs.Shown.{note_ready}
use Rattle.spd_state.specs.Steps.{stepped, start_run, start_view}
use Rattle.spd_state.specs.declared.view.View.{View}
use Rattle.spd_rule.specs.Held.{StepUnderRule}
use Rattle.spd_rule.specs.Steps.{meaning_in}
use Rattle.spd_rule.specs.Shares.{share_view, share_known, field_plan}
use Rattle.spd_rule.specs.declared.field.Field.{Field}
use Rattle.spd_rule.specs.declared.field.Share.{Share}
use Rattle.spd_vertex.specs.declared.starting.Start.{Start}
use Rattle.spd_vertex.specs.declared.starting.Start.TheVariants.{Ours, End, Taken}

-- the share has seen the vertex i ready, in the word n
abbrev pub ready_known : {B : Type 0} → ℕ → ℕ → Me (Option B) View → Me (Option B) View
ready_known i n me = (note_ready i (vertex_of n) me.0, me.1)

-- the share runs the vertex i, whose word was n; this lies in its slot, and the body that lay there had this meaning
abbrev pub runs_known : {B : Type 0} → ℕ → ℕ → Option Meaning → Option B → Me (Option B) View → Me (Option B) View
runs_known i n m left me = (start_view i (vertex_of n) m (note_ready i (vertex_of n) me.0), (i, left) ∷ me.1)

module _ {B : Type 0} (means : B → Meaning) (p : PlanView) (i : ℕ) (me me' : Me (Option B) View) where
  -- The load found the vertex ready in a word, the exchange found that word and left it started, and with it the share
  -- took the slot, where this body lay at home just before. The body is out of it now.
  pub record StartsWith (body : Option B) : Type 0 where
    pub found : ℕ
    pub ready : (vertex_of found).state ≡ 2
    pub inside : IsInside p (start_run i (vertex_of found))
    pub saw : StepUnderRule p (vertex_place p i) found found me (ready_known i found me)
    pub started : StepUnderRule p (vertex_place p i) found (found + 1)
        (ready_known i found me) (runs_known i found (meaning_in means body) body me)
    pub lay : get_elem? started.before.homes i ≡ some (some body)
    pub known : me' ≡ runs_known i found (meaning_in means body) None me

  -- The load found this state, which isn't ready.
  pub record FoundTaken (state : ℕ) : Type 0 where
    pub found : ℕ
    pub reads : (vertex_of found).state ≡ state
    pub saw : StepUnderRule p (vertex_place p i) found found me me'
    pub known : me' ≡ (stepped me.0, me.1)

  -- The load found the vertex ready, and the exchange found that another share had started it.
  pub record LostToAnother (state : ℕ) : Type 0 where
    pub found : ℕ
    pub ready : (vertex_of found).state ≡ 2
    pub saw : StepUnderRule p (vertex_place p i) found found me (ready_known i found me)
    pub later : ℕ
    pub reads : (vertex_of later).state ≡ state
    pub started : state ≡ 3
    pub missed : StepUnderRule p (vertex_place p i) later later (ready_known i found me) me'
    pub known : me' ≡ (stepped (note_ready i (vertex_of found) me.0), me.1)

  -- what each answer says
  abbrev pub StartsBy : Start B → Type 0
  StartsBy (Ours b) = (i ≢ 1) × StartsWith (Some b)
  StartsBy End = (i ≡ 1) × StartsWith None
  StartsBy (Taken state) = (state ≢ 2) × (FoundTaken state ⊎ LostToAnother state)

abbrev pub Starting : {B : Type 0} → (B → Meaning) → Field B → ℕ → Share B → Share B → Start B → Type 0
Starting means f i s t answer = StartsBy means (field_plan f) i (share_known s) (share_known t) answer

-- what came out of the slot of a vertex that was started
abbrev pub start_of_slot : {B : Type 0} → Option B → Start B
start_of_slot None = End
start_of_slot (Some b) = Ours b

-- The body that came out may go on, and is tame where the share carries that books are kept; it waits only where the vertex waited.
abbrev pub GivesFit : {B : Type 0} → (B → BodyView) → ℕ → Share B → Start B → Type 0
GivesFit view i s (Ours b) = FitsStart (share_view s) i (view b)
GivesFit view i s End = Unit {0}
GivesFit view i s (Taken state) = Unit {0}
