-- A player's notes say what its share knows.
use Rattle.std.specs.Prelude.{◌≡◌, ℕ, List, [], ◌∷◌, Option, Some, None, map, true, ◌==◌, if◌then◌else◌}
use Rattle.atomic_table.specs.Table.{Me}
use Rattle.spd_words.specs.declared.finish_kind.FinishKind.{FinishKind}
use Rattle.spd_words.specs.declared.finish_kind.FinishKind.TheVariants.{Plain}
use Rattle.spd_state.specs.Dag.{busy}
use Rattle.spd_state.specs.Tree.{top_in}
use Rattle.spd_state.specs.declared.view.Draw.TheVariants.{Make}
use Rattle.spd_state.specs.declared.promise.Expected.{Expected}
use Rattle.spd_state.specs.declared.view.Running.{Running}
use Rattle.spd_state.specs.declared.view.View.{View}
use Rattle.spd_rule.specs.Moves.{is_wild}
use Rattle.spd_rule.specs.Rest.{due}
use Rattle.spd_rule_tests.specs.declared.stub.Stub.{Stub}
use Rattle.spd_rule_tests.specs.Stubs.{stub_awaits, stub_waits_for}
use Rattle.spd_rule_tests.specs.declared.notes.Notes.{Notes}

-- what a share knows of the body in the slot of the vertex that it has started: all stubs are wild
abbrev pub wild_mark_of : {A : Type 0} → Option A → ℕ
wild_mark_of None = 0
wild_mark_of (Some b) = 1

-- and some wait
abbrev pub wait_mark_of : Option Stub → ℕ
wait_mark_of None = 0
wait_mark_of (Some b) = busy (stub_awaits b.stage)

-- and for which kind of finish
abbrev pub wait_kind_of : Option Stub → FinishKind
wait_kind_of None = Plain
wait_kind_of (Some b) = stub_waits_for b.stage

-- vertex 1, where it runs
abbrev pub end_alone : Option Running → Option Running
end_alone None = None
end_alone (Some r) = if r.vertex == 1 then Some r else None

-- the list of what is there
abbrev pub listed : Option ℕ → List ℕ
listed None = []
listed (Some n) = n ∷ []

-- It has nothing that only trees or finishes with gifts have.
pub record IsPlainView (v : View) : Type 0 where
  pub lifted : v.lifted ≡ 0
  pub above : v.above ≡ []
  pub halves : v.halves ≡ []
  pub sprout : v.sprout ≡ None
  pub gives : v.gives ≡ Plain
  pub kind : v.kind ≡ Plain

pub record Ties {B : Type 0} (me : Me (Option B) View) (n : Notes) : Type 0 where
  pub running : me.0.running ≡ n.running
  pub flight : me.0.flight ≡ n.flight
  pub held : me.0.held ≡ listed n.held
  pub claimed : me.0.claimed ≡ listed n.claimed
  pub rooted : me.0.rooted ≡ listed n.rooted
  pub told : me.0.told ≡ listed n.told
  pub plain : IsPlainView me.0
  pub fresh : me.0.fresh ≡ n.fresh
  pub full : me.0.full_draws ≡ n.full
  pub wild : me.0.wild ≡ n.wild
  pub made : n.made ≡ 1 → is_wild Make me.0 ≡ 1
  pub seats : me.0.seats ≡ n.seats
  pub awaits : busy me.0.awaited ≡ n.awaits
  pub waits : (x : Expected) → me.0.awaited ≡ Some x → x.kind ≡ n.waits
  pub hurt : me.0.hurt ≡ n.hurt
  pub knows : n.knows ≡ true → (r : Running) → n.running ≡ Some r → top_in r.inc me.0.known ≡ Some r.finish
  pub slots : me.0.slots ≡ due me.0.flight me.0.running
  pub heads : map (λ x. x.0) me.1 ≡ me.0.slots
