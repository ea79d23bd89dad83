-- The end: it collects what the region gives, and the share has the mark of the end then.
use Rattle.std.proofs.Common.{◌≡◌, ◌≢◌, ℕ, [], refl, sym, ap, ◌∙◌, subst, arith, Option, None, Some, List}
use Rattle.spd_words.specs.declared.finish_kind.FinishKind.{FinishKind}
use Rattle.spd_state.specs.Steps.{stepped}
use Rattle.spd_state.specs.declared.promise.Expected.{Expected}
use Rattle.spd_state.specs.declared.view.Running.{Running}
use Rattle.spd_state.specs.declared.view.View.{View}
use Rattle.spd_debts.specs.Payments.{shown_view, done_view}
use Rattle.spd_rule.specs.Rest.{rested}
use Rattle.spd_rule.specs.Payments.{MayMarkEnd, collected_view, done_known}
use Rattle.spd_rule.specs.Shares.{share_view, share_known, share_bodies}
use Rattle.spd_rule.specs.declared.field.Share.{Share}
use Rattle.spd_book.specs.Collects.{MayCollect, GivesExpected}
use Rattle.spd_book.specs.declared.collecting.Collected.{Collected}
use Rattle.spd_work.specs.Runs.{Rests, RunsTheEnd, Stays}
use Rattle.spd_work.specs.Workers.{EndsWell, HasKind}

pub end_collects : (v : View) (r : Running) (k : FinishKind) → RunsTheEnd v r → HasKind v k → MayCollect v 0 k
end_collects v r k runs kinds = record {
  runs = r;
  running = runs.running;
  rest = runs.end;
  waits = λ n. absurd (n refl);
  kinds = λ x is. no_kind x (sym runs.clear.collected ∙ is);
  end = λ _. kinds;
}
  where
    no_kind : (x : Expected) → None ≡ Some x → x.kind ≡ k
    no_kind x e = absurd (cc)

-- the view once it has collected
pub end_seen : (v : View) (r : Running) (c word : ℕ) → RunsTheEnd v r → collected_view v.awaited c (shown_view word v) ≡ stepped (shown_view word v)
end_seen v r c word runs = ap (λ (o : Option Expected). collected_view o c (shown_view word v)) runs.clear.collected

pub end_marks : (v : View) (r : Running) (word : ℕ) → RunsTheEnd v r → MayMarkEnd (stepped (shown_view word v))
end_marks v r word runs = record { runs = r; running = runs.running; end = runs.end; flight = runs.nothing.flight }

-- the view once it has set the word of the end
abbrev ended_view : ℕ → View → View
ended_view word v = record (done_view (stepped (shown_view word v))) { slots = [] }

pub end_is : {B : Type 0} (v : View) (r : Running) (word : ℕ) (bodies : List (ℕ × Option B)) → RunsTheEnd v r →
    done_known (stepped (shown_view word v), bodies) ≡ (ended_view word v, [])
end_is {B} v r word bodies runs = ap (λ f. rested None f (done_view (stepped (shown_view word v)), bodies)) runs.nothing.flight

pub end_rests : (v : View) (r : Running) (word : ℕ) → RunsTheEnd v r → Rests (ended_view word v)
end_rests v r word runs = record {
  running = refl;
  slots = refl;
  nothing = record {
    flight = runs.nothing.flight;
    held = runs.nothing.held;
    claimed = runs.nothing.claimed;
    rooted = runs.nothing.rooted;
    above = runs.nothing.above;
    halves = runs.nothing.halves;
    sprout = runs.nothing.sprout;
    told = runs.nothing.told;
  };
  clear = record { collected = runs.clear.collected; well = runs.clear.well };
}

pub end_stays : (v : View) (word : ℕ) → Stays v (ended_view word v) × ((ended_view word v).ready ≡ v.ready)
end_stays v word = (record { whole = refl; seats = refl; spare = refl }, refl)

pub end_well : (v : View) (word : ℕ) (c : Collected) → GivesExpected v 0 c → EndsWell (ended_view word v) (Some c)
end_well v word c gives = record {
  done = λ d is. omega arith;
  gives = λ d is some w knows. subst (λ (z : Collected). (z.gift ≡ w.owes.gift) × (z.fault ≡ w.owes.fault)) (some_inj is)
      ((gives (subst (λ (z : Collected). z.fault ≢ 0) (sym (some_inj is)) some) w knows).end refl);
}
  where
    some_inj : {d : Collected} → Some c ≡ Some d → c ≡ d
    some_inj e = ap (λ o. or_that o) e
      where
        or_that : Option Collected → Collected
        or_that None = c
        or_that (Some z) = z

-- the share s has collected as m, and has set the word of the end as t
pub end_view : {B : Type 0} (s m t : Share B) (r : Running) (c word : ℕ) → RunsTheEnd (share_view s) r →
    share_known m ≡ (collected_view (share_view s).awaited c (shown_view word (share_view s)), share_bodies s) →
    share_known t ≡ done_known (share_known m) → share_view t ≡ ended_view word (share_view s)
end_view {B} s m t r c word runs saw set =
    let v = share_view s in
    let seen : share_known m ≡ (stepped (shown_view word v), share_bodies s) =
    saw ∙ ap (λ (w : View). (w, share_bodies s)) (end_seen v r c word runs) in
    ap (λ k. k.0) (set ∙ ap done_known seen ∙ end_is v r word (share_bodies s) runs)
