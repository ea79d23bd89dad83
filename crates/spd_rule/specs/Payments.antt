-- When a share may offer, fault, look at what a finish has got, and end the region; and what it knows afterwards.
use Rattle.std.specs.Prelude.{◌≡◌, ◌≢◌, ◌+◌, ◌*◌, ℕ, ℤ, Option, Some, None, min, Bool, true, false, cond, ◌==◌}
use Rattle.atomic_table.specs.Table.{Me}
use Rattle.spd_words.specs.Gift.{join}
use Rattle.spd_words.specs.declared.finish_kind.FinishKind.TheVariants.{Sum}
use Rattle.spd_state.specs.Steps.{stepped}
use Rattle.spd_state.specs.declared.promise.Expected.{Expected}
use Rattle.spd_state.specs.declared.promise.Whole.{Whole}
use Rattle.spd_state.specs.declared.view.Running.{Running}
use Rattle.spd_state.specs.declared.view.View.{View}
use Rattle.spd_debts.specs.Payments.{offer_view, lower_view, shown_view, collect_view, done_view}
use Rattle.spd_debts.specs.Worth.{gift_of}
use Rattle.spd_rule.specs.Rest.{at_rest}

-- ---- payments: `add_sum`, `raise_best` and `lower_fault`

-- It runs a vertex of the finish d with its right.
pub record MayPayTo (d : ℕ) (v : View) : Type 0 where
  pub runs : Running
  pub running : v.running ≡ Some runs
  pub right : runs.right ≡ 1
  pub finish : runs.finish ≡ d

-- The finish is a sum, and x is taken out of what is owed. A share that runs a wild body owes nothing.
abbrev pub TakesSum : ℤ → ℤ → View → Type 0
TakesSum x left v = v.wild ≡ 0 → (v.kind ≡ Sum) × (v.owes.gift ≡ join Sum x left)

-- It is no sum, and the value whose own word is y is taken out.
abbrev pub TakesBest : ℕ → ℤ → View → Type 0
TakesBest y left v = v.wild ≡ 0 → (v.kind ≢ Sum) × (v.owes.gift ≡ join v.kind (gift_of v.kind y) left)

-- The code is taken out, unless it is 0.
abbrev pub TakesFault : ℕ → ℕ → View → Type 0
TakesFault c left v = v.wild ≡ 0 → c ≢ 0 → v.owes.fault ≡ min c left

abbrev pub offered_known : {B : Type 0} → ℤ → Me (Option B) View → Me (Option B) View
offered_known left me = (offer_view left me.0, me.1)

-- with the code 0 nothing is taken out, a hurt share has passed it on, and is sunk
abbrev pub lowered_known : {B : Type 0} → ℕ → ℕ → Me (Option B) View → Me (Option B) View
lowered_known c left me = (lower_view c left me.0, me.1)

-- ---- looks: `see_sum` and `see_fault`

-- whether the share runs the waiting vertex of the finish d
abbrev pub runs_rest : ℕ → Option Running → Bool
runs_rest d None = false
runs_rest d (Some r) = r.vertex == 2 * d + 1

-- the gift word of d was n: the share that runs its waiting vertex has seen it
abbrev pub shown_known : {B : Type 0} → ℕ → ℕ → Me (Option B) View → Me (Option B) View
shown_known d n me = (cond (runs_rest d me.0.running) (shown_view n me.0) (stepped me.0), me.1)

-- the fault word was n: a share that was to collect has collected, and is hurt where the word was 0
abbrev pub collected_view : Option Expected → ℕ → View → View
collected_view None n v = stepped v
collected_view (Some x) n v = collect_view n v

abbrev pub collected_known : {B : Type 0} → ℕ → ℕ → Me (Option B) View → Me (Option B) View
collected_known d n me = (cond (runs_rest d me.0.running) (collected_view me.0.awaited n me.0) (stepped me.0), me.1)

-- The share carries from the make that books are kept.
abbrev pub KnowsBooks : View → Whole → Type 0
KnowsBooks v w = (v.whole ≡ Some w) × (w.wild ≡ 0)

-- A share that carries this sees a code c other than 0 of the finish d whose waiting vertex it runs, and has seen the gift word n.
-- Where it was to collect, the two are what it awaited; and of finish 0, what was given to the make.
pub record FindsWhole (d n c : ℕ) (v : View) (w : Whole) : Type 0 where
  pub awaited : (x : Expected) → v.awaited ≡ Some x → (gift_of x.kind n ≡ x.gift) × (c ≡ x.fault)
  pub end : d ≡ 0 → (gift_of w.kind n ≡ w.owes.gift) × (c ≡ w.owes.fault)

abbrev pub FindsAwaited : ℕ → ℕ → View → Type 0
FindsAwaited d c v = c ≢ 0 → (w : Whole) → KnowsBooks v w → runs_rest d v.running ≡ true → (n : ℕ) → v.seen ≡ Some n → FindsWhole d n c v w

-- ---- `set_done`

-- It runs vertex 1, and has nothing in hand.
pub record MayMarkEnd (v : View) : Type 0 where
  pub runs : Running
  pub running : v.running ≡ Some runs
  pub end : runs.vertex ≡ 1
  pub flight : v.flight ≡ None

abbrev pub done_known : {B : Type 0} → Me (Option B) View → Me (Option B) View
done_known me = at_rest (done_view me.0, me.1)
