-- A vertex that has just been started: it goes on at once, or collects first.
use Rattle.std.proofs.Common.{◌≡◌, ◌≢◌, ℕ, ℤ, ◌+◌, ◌*◌, ◌/◌, refl, sym, ap, ◌∙◌, subst, arith, Option, None, Some, Bool, false, if◌then◌else◌, ◌==◌, rules}
use Prim.Native.Nat.{zero, suc}
use Rattle.spd_words.specs.Meaning.{Awaited, BodyView, Promise, Going, Spent}
use Rattle.spd_words.specs.BodyCalls.{Resumes, Expects}
use Rattle.spd_words.specs.declared.finish_kind.FinishKind.{FinishKind}
use Rattle.spd_state.specs.Dag.{busy}
use Rattle.spd_state.specs.Promises.{expected_in, expected_of}
use Rattle.spd_state.specs.declared.promise.Expected.{Expected}
use Rattle.spd_state.specs.declared.view.Running.{Running}
use Rattle.spd_state.specs.declared.view.View.{View}
use Rattle.spd_debts.specs.Payments.{shown_view}
use Rattle.spd_rule.specs.Payments.{collected_view}
use Rattle.spd_book.specs.Collects.{MayCollect}
use Rattle.spd_work.specs.Runs.{RunsOn, RunsBody, RunsNew, Lasts}

-- ---- at once

pub new_body : (v : View) (r : Running) (vertex : ℕ) (b : BodyView) → RunsNew v r vertex b → b.means.awaited ≡ None → RunsBody v r b
new_body v r vertex b runs none = record {
  on = runs.on;
  clear = record { collected = runs.expects ∙ ap expected_in none; well = runs.well };
  keeps = runs.keeps;
  kind = runs.kind;
  awaited = none;
  stage = runs.stage;
  tame = runs.tame;
  owed = runs.owed;
}

-- ---- it collects

pub may_collect : (v : View) (r : Running) (vertex : ℕ) (b : BodyView) (x : Awaited) (k : FinishKind) → RunsNew v r vertex b →
    b.means.awaited ≡ Some x → x.kind ≡ k → MayCollect v (vertex / 2) k
may_collect v r vertex b x k runs waits kinds =
    let at = runs.odd x waits in
    let f : ℕ = at.0 in
    let place : vertex ≡ 2 * f + 1 = at.1 in
    let expects : v.awaited ≡ Some (expected_of x) = runs.expects ∙ ap expected_in waits in
    let number = runs.number in
    let other = runs.on.other in
    record {
      runs = r;
      running = runs.on.running;
      rest = omega arith;
      waits = λ _. ap busy expects;
      kinds = λ y is. some_kind y (sym is ∙ expects) ∙ kinds;
      end = λ first. absurd (other (omega arith));
    }
  where
    some_kind : (y : Expected) → Some y ≡ Some (expected_of x) → y.kind ≡ x.kind
    some_kind y e = ap kind_of e
      where
        kind_of : Option Expected → FinishKind
        kind_of None = x.kind
        kind_of (Some z) = z.kind

-- what the share has in hand and runs stays while it collects
pub collected_on : (o : Option Expected) (c word : ℕ) (v : View) (r : Running) → RunsOn v r → RunsOn (collected_view o c (shown_view word v)) r
collected_on None c word v r on = record { running = on.running; other = on.other; right = on.right; nothing = record { flight = on.nothing.flight; held = on.nothing.held; claimed = on.nothing.claimed; rooted = on.nothing.rooted; above = on.nothing.above; halves = on.nothing.halves; sprout = on.nothing.sprout; told = on.nothing.told }; knows = on.knows }
collected_on (Some x) zero word v r on = record { running = on.running; other = on.other; right = on.right; nothing = record { flight = on.nothing.flight; held = on.nothing.held; claimed = on.nothing.claimed; rooted = on.nothing.rooted; above = on.nothing.above; halves = on.nothing.halves; sprout = on.nothing.sprout; told = on.nothing.told }; knows = on.knows }
collected_on (Some x) (suc c) word v r on = record { running = on.running; other = on.other; right = on.right; nothing = record { flight = on.nothing.flight; held = on.nothing.held; claimed = on.nothing.claimed; rooted = on.nothing.rooted; above = on.nothing.above; halves = on.nothing.halves; sprout = on.nothing.sprout; told = on.nothing.told }; knows = on.knows }

pub collected_lasts : (o : Option Expected) (c word : ℕ) (v : View) → Lasts v (collected_view o c (shown_view word v)) × ((collected_view o c (shown_view word v)).ready ≡ v.ready)
collected_lasts None c word v = (record { stays = record { whole = refl; seats = refl; spare = refl }; done = refl }, refl)
collected_lasts (Some x) zero word v = (record { stays = record { whole = refl; seats = refl; spare = refl }; done = refl }, refl)
collected_lasts (Some x) (suc c) word v = (record { stays = record { whole = refl; seats = refl; spare = refl }; done = refl }, refl)

-- it has collected, whatever it found
pub has_collected : (o : Option Expected) (c word : ℕ) (v : View) → v.awaited ≡ o → (collected_view o c (shown_view word v)).awaited ≡ None
has_collected None c word v e = e
has_collected (Some x) zero word v e = refl
has_collected (Some x) (suc c) word v e = refl

-- it has found another code than 0, and the body goes on with what it expected
pub resumed_body : (v : View) (r : Running) (vertex : ℕ) (b new : BodyView) (x : Awaited) (c word : ℕ) (g : ℤ) (p : Promise) → RunsNew v r vertex b →
    b.means.awaited ≡ Some x → c ≢ 0 → g ≡ x.gift → c ≡ x.fault → Resumes b new p g c →
    RunsBody (collected_view (Some (expected_of x)) c (shown_view word v)) r new
resumed_body v r vertex b new x zero word g p runs waits some gift fault step = absurd (some refl)
resumed_body v r vertex b new x (suc c) word g p runs waits some gift fault step =
    let some_code : (suc c == 0) ≡ false = search (rules, arith) in
    let expects : Expects b.means.awaited g (suc c) = subst (λ o. Expects o g (suc c)) (sym waits) (gift, fault) in
    record {
      on = collected_on (Some (expected_of x)) (suc c) word v r runs.on;
      clear = record { collected = refl; well = runs.well };
      keeps = runs.keeps;
      kind = step.kind ∙ runs.kind;
      awaited = step.awaited;
      stage = step.stage ∙ ap (λ (t : Bool). if t then Spent else Going) some_code;
      tame = step.tame runs.tame expects;
      owed = runs.owed ∙ sym (step.expected runs.tame.tame expects);
    }
