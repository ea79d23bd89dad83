-- The numbers beside the seats of shares that are split and joined.
use Rattle.std.proofs.Common.{◌≡◌, ℕ, ◌+◌, ◌-◌, [], refl, sym, ap, ◌∙◌, subst, arith, Option, Bool}
use Rattle.std.specs.Prelude.{◌||◌}
use Rattle.std.proofs.lemmas.Bool.{lt-ltb, le-ltb}
use lib.Dec.{ltb}
use mathlib.Core.Logic.{dite}
use native.Mathlib.Decide.{dec_lt}
use Rattle.atomic_table.specs.Table.{Me}
use Rattle.atomic_table.specs.Seated.{TableId}
use Rattle.spd_state.specs.Sums.{count}
use Rattle.spd_state.specs.Seats.{kept_view, given_view, joined_view}
use Rattle.spd_state.specs.declared.view.View.{View}
use Rattle.spd_rule.specs.Beside.{Mirrors}
use Rattle.spd_rule.specs.Idle.{IsNewBeside, JoinsBeside}
use Rattle.spd_rule.specs.declared.beside.Beside.{Beside}

-- one of two numbers isn't 0 where their sum isn't
either_some : (m n : ℕ) → (ltb 0 m || ltb 0 n) ≡ ltb 0 (m + n)
either_some m n = dite (dec_lt 0 m)
    (λ some. ap (λ (b : Bool). b || ltb 0 n) (lt-ltb 0 m some) ∙ sym (lt-ltb 0 (m + n) (omega arith)))
    (λ none. ap (λ (b : Bool). b || ltb 0 n) (le-ltb 0 m (omega arith)) ∙ ap (ltb 0) (let e : n ≡ m + n = omega arith in e))

module _ {B : Type 0} (z : TableId) where
  module _ (me : Me (Option B) View) (b : Beside) (h : Mirrors z me b) where
    pub mirrors_join : (o : Me (Option B) View) (c : Beside) → Mirrors z o c → (b' : Beside) → JoinsBeside b c b'
        → Mirrors z (joined_view me.0 o.0, me.1) b'
    mirrors_join o c k b' is = subst (Mirrors z (joined_view me.0 o.0, me.1)) (sym is) record {
      running = h.running;
      flight = h.flight;
      units = h.units;
      claimed = h.claimed;
      told = h.told;
      spare = let s = h.spare in let t = k.spare in omega arith;
      marked = (λ i. h.marked i || k.marked i) ∙ either_some me.0.full_draws o.0.full_draws;
      starts = let s = h.starts in let t = k.starts in omega arith;
      begun = let s = h.begun in let t = k.begun in omega arith;
      inside = h.inside;
      flies = h.flies;
      few = h.few;
      seated = let s = h.seated in omega arith;
      slots = h.slots;
    }

    pub mirrors_split : Mirrors z (kept_view me.0, me.1) (record b { spare = b.spare - 1 })
    mirrors_split = record {
      running = h.running;
      flight = h.flight;
      units = h.units;
      claimed = h.claimed;
      told = h.told;
      spare = ap (λ (n : ℕ). n - 1) h.spare;
      marked = h.marked;
      starts = h.starts;
      begun = h.begun;
      inside = h.inside;
      flies = h.flies;
      few = h.few;
      seated = h.seated;
      slots = h.slots;
    }

  -- a share that was split off holds nothing, and has started nothing
  pub mirrors_new : (v : View) (b : Beside) → IsNewBeside b 0 → Mirrors z (let m : Me (Option B) View = (given_view v, []) in m) b
  mirrors_new v b k = record {
    running = k.running;
    flight = k.flight;
    units = λ n. ap (count n) k.units;
    claimed = k.claimed;
    told = k.told;
    spare = k.spares;
    marked = k.full;
    starts = let s = k.starts in omega arith;
    begun = omega arith;
    inside = λ r e. let i = sym k.running ∙ e in absurd (cc);
    flies = λ f e. let i = sym k.flight ∙ e in absurd (cc);
    few = let t = k.told in omega arith;
    seated = omega arith;
    slots = refl;
  }
