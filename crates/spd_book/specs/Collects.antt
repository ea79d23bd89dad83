-- When a share may collect what its vertex has waited for, and what it gets.
use Rattle.std.specs.Prelude.{◌≡◌, ◌≢◌, ◌+◌, ◌*◌, ℕ, Option, Some}
use Rattle.atomic_table.specs.Table.{Me}
use Rattle.spd_words.specs.declared.finish_kind.FinishKind.{FinishKind}
use Rattle.spd_state.specs.Dag.{busy}
use Rattle.spd_state.specs.declared.promise.Expected.{Expected}
use Rattle.spd_state.specs.declared.promise.Whole.{Whole}
use Rattle.spd_state.specs.declared.view.Running.{Running}
use Rattle.spd_state.specs.declared.view.View.{View}
use Rattle.spd_debts.specs.Payments.{shown_view}
use Rattle.spd_debts.specs.Worth.{gift_of}
use Rattle.spd_rule.specs.Held.{StepUnderRule}
use Rattle.spd_rule.specs.Payments.{KnowsBooks, collected_view}
use Rattle.spd_rule.specs.Shares.{field_plan, share_view, share_known, share_bodies, offer_place, code_place}
use Rattle.spd_rule.specs.declared.field.Field.{Field}
use Rattle.spd_rule.specs.declared.field.Share.{Share}
use Rattle.spd_book.specs.declared.collecting.Collected.{Collected}

-- It runs the waiting vertex of the finish, of this kind, and hasn't collected; vertex 1 waits for finish 0 of the region.
pub record MayCollect (v : View) (finish : ℕ) (kind : FinishKind) : Type 0 where
  pub runs : Running
  pub running : v.running ≡ Some runs
  pub rest : runs.vertex ≡ 2 * finish + 1
  pub waits : finish ≢ 0 → busy v.awaited ≡ 1
  pub kinds : (x : Expected) → v.awaited ≡ Some x → x.kind ≡ kind
  pub end : finish ≡ 0 → (w : Whole) → v.whole ≡ Some w → w.kind ≡ kind

-- Two looks under the rule: first at the gift word of the finish, then at its fault word.
pub record Collects {B : Type 0} (f : Field B) (finish : ℕ) (kind : FinishKind) (c : Collected) (s t : Share B) : Type 0 where
  pub word : ℕ
  pub between : Me (Option B) View
  pub saw_gift : StepUnderRule (field_plan f) (offer_place f finish) word word (share_known s) between
  pub saw_fault : StepUnderRule (field_plan f) (code_place f finish) c.fault c.fault between (share_known t)
  pub gift : c.gift ≡ gift_of kind word
  -- The share has collected, and is hurt where the code is 0.
  pub known : share_known t ≡ (collected_view (share_view s).awaited c.fault (shown_view word (share_view s)), share_bodies s)

-- What finish f was to give is what was collected, where books are kept and the code isn't 0.
pub record GivesBack (v : View) (finish : ℕ) (w : Whole) (c : Collected) : Type 0 where
  pub awaited : (x : Expected) → v.awaited ≡ Some x → (c.gift ≡ x.gift) × (c.fault ≡ x.fault)
  pub end : finish ≡ 0 → (c.gift ≡ w.owes.gift) × (c.fault ≡ w.owes.fault)

abbrev pub GivesExpected : View → ℕ → Collected → Type 0
GivesExpected v finish c = c.fault ≢ 0 → (w : Whole) → KnowsBooks v w → GivesBack v finish w c
