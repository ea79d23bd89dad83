-- A body came to an event: what the share then runs, and when it may chain and spawn.
use Rattle.std.proofs.Common.{◌≡◌, ℕ, ◌+◌, ◌-◌, refl, sym, ap, ◌∙◌, subst, arith}
use Prim.Native.Nat.{zero, suc}
use Rattle.spd_words.specs.Meaning.{BodyView, Promise, Going, IsTame, add}
use Rattle.spd_words.specs.BodyCalls.{Advances, Splits, CarriesReady, CarriesTame, IsReady, before_event, stage_after, with_part, in_part}
use Rattle.spd_words.specs.declared.finish_kind.FinishKind.{FinishKind}
use Rattle.spd_words.specs.declared.event.Event.{Event}
use Rattle.spd_words.specs.declared.event.Event.TheVariants as event
use Rattle.spd_words.specs.declared.event.Part.{Part}
use Rattle.spd_words.specs.declared.event.Part.TheVariants as part
use Rattle.spd_state.specs.Promises.{promised, less_move}
use Rattle.spd_state.specs.declared.view.Running.{Running}
use Rattle.spd_state.specs.declared.view.View.{View}
use Rattle.spd_rule.specs.Kept.{IsFit}
use Rattle.spd_dag.specs.Acts.{CarriesFit, MayCut, MayChain, MaySpawn}
use Rattle.spd_dag.specs.Draws.{unmoved_view}
use Rattle.spd_work.specs.Runs.{HoldsNothing, IsClear, RunsOn, RunsBody, RunsCut, RunsPart, Lasts}
use Rattle.spd_work.proofs.Over.{may_act}

-- ---- from the body to the event

pub cut : (v : View) (r : Running) (b rest : BodyView) (e : Event BodyView) → RunsBody v r b → Advances b rest e →
    IsTame rest.means → CarriesTame e → Splits b.means e rest.means → RunsCut v r e rest
cut v r b rest e runs step tame carries split = record {
  on = runs.on;
  clear = runs.clear;
  keeps = runs.keeps;
  kind = step.kind ∙ runs.kind;
  awaited = step.awaited;
  stage = step.stage;
  tame = tame;
  carries = carries;
  ready = subst (λ k. CarriesReady k e) runs.kind step.ready;
  owed = runs.owed ∙ split ∙ ap (λ k. before_event k e rest.means.promise) runs.kind;
}

-- ---- may chain, may spawn

-- a body that is ready to be started for a finish and is tame may lie in a slot
fit_ready : (k : FinishKind) (b : BodyView) → IsReady k b → IsTame b.means → IsFit b
fit_ready k b ready tame = record { goes = ready.stage; tame = λ _. tame }

carried_fit : (k : FinishKind) (e : Event BodyView) → CarriesReady k e → CarriesTame e → CarriesFit e
carried_fit k (event.Async b) ready tame = fit_ready k b ready tame
carried_fit k (event.Finish kind b) ready tame = fit_ready kind b ready tame
carried_fit k (event.Offer x) ready tame = _
carried_fit k (event.Fault code) ready tame = _
carried_fit k event.Over ready tame = _
carried_fit k event.NoMemory ready tame = _

-- after this event the rest goes on
may_cut : (v : View) (r : Running) (e : Event BodyView) (rest : BodyView) → stage_after e ≡ Going → RunsCut v r e rest → MayCut v r e rest
may_cut v r e rest going runs = record {
  acts = may_act v r runs.on runs.clear;
  ready = runs.ready;
  carried = carried_fit v.kind e runs.ready runs.carries;
  fit = record { goes = runs.stage ∙ going; tame = λ _. runs.tame };
  books = λ _. record {
    tame = runs.tame;
    carries = runs.carries;
    kind = runs.kind;
    awaited = runs.awaited;
    owed = runs.owed;
  };
}

pub may_chain : (v : View) (r : Running) (k : FinishKind) (b rest : BodyView) → RunsCut v r (event.Finish k b) rest → MayChain v r k b rest
may_chain v r k b rest runs = may_cut v r (event.Finish k b) rest refl runs

pub may_spawn : (v : View) (r : Running) (b rest : BodyView) → RunsCut v r (event.Async b) rest → MaySpawn v r b rest
may_spawn v r b rest runs = record { cuts = may_cut v r (event.Async b) rest refl runs; knows = runs.on.knows }

-- ---- full: one move less is owed, and the part goes back

-- what is left of a promise of which one move was taken
one_less : (p q : Promise) → p.gift ≡ q.gift → p.fault ≡ q.fault → p.moves ≡ q.moves + 1 → record p { moves = p.moves - 1 } ≡ q
one_less p q g f m = rw g (rw f (let e : p.moves - 1 ≡ q.moves = omega arith in rw e refl))

full_owed_async : (v : View) (b : BodyView) (p : Promise) → promised v.owes ≡ before_event v.kind (event.Async b) p →
    record (promised v.owes) { moves = (promised v.owes).moves - 1 } ≡ with_part v.kind (part.Async b) p
full_owed_async v b p e = one_less (promised v.owes) (add v.kind b.means.promise p)
    (ap (λ (q : Promise). q.gift) e) (ap (λ (q : Promise). q.fault) e) (ap (λ (q : Promise). q.moves) e)

full_owed_finish : (v : View) (k : FinishKind) (b : BodyView) (p : Promise) → promised v.owes ≡ before_event v.kind (event.Finish k b) p →
    record (promised v.owes) { moves = (promised v.owes).moves - 1 } ≡ with_part v.kind (part.Finish k b) p
full_owed_finish v k b p e = one_less (promised v.owes) (with_part v.kind (part.Finish k b) p)
    (ap (λ (q : Promise). q.gift) e) (ap (λ (q : Promise). q.fault) e) (ap (λ (q : Promise). q.moves) e)

-- the share after a draw that found no move left
unmoved_on : (n : ℕ) (v : View) (r : Running) → RunsOn v r → RunsOn (unmoved_view n v) r
unmoved_on zero v r on = record { running = on.running; other = on.other; right = on.right; nothing = nothing_of v on.nothing; knows = on.knows }
  where
    nothing_of : (v : View) → HoldsNothing v → HoldsNothing (unmoved_view 0 v)
    nothing_of v h = record { flight = h.flight; held = h.held; claimed = h.claimed; rooted = h.rooted; above = h.above; halves = h.halves; sprout = h.sprout; told = h.told }
unmoved_on (suc n) v r on = record { running = on.running; other = on.other; right = on.right; nothing = nothing_of v on.nothing; knows = on.knows }
  where
    nothing_of : (v : View) → HoldsNothing v → HoldsNothing (unmoved_view (suc n) v)
    nothing_of v h = record { flight = h.flight; held = h.held; claimed = h.claimed; rooted = h.rooted; above = h.above; halves = h.halves; sprout = h.sprout; told = h.told }

unmoved_clear : (n : ℕ) (v : View) → IsClear v → IsClear (unmoved_view n v)
unmoved_clear zero v c = record { collected = c.collected; well = c.well }
unmoved_clear (suc n) v c = record { collected = c.collected; well = c.well }

unmoved_same : (n : ℕ) (v : View) → ((unmoved_view n v).wild ≡ v.wild) × ((unmoved_view n v).kind ≡ v.kind) × ((unmoved_view n v).owes ≡ less_move v.owes)
unmoved_same zero v = (refl, refl, refl)
unmoved_same (suc n) v = (refl, refl, refl)

pub unmoved_lasts : (n : ℕ) (v : View) → Lasts v (unmoved_view n v) × ((unmoved_view n v).ready ≡ v.ready)
unmoved_lasts zero v = (record { stays = record { whole = refl; seats = refl; spare = refl }; done = refl }, refl)
unmoved_lasts (suc n) v = (record { stays = record { whole = refl; seats = refl; spare = refl }; done = refl }, refl)

-- the part goes back into a rest that may be resumed inside
runs_part : (n : ℕ) (v : View) (r : Running) (e : Event BodyView) (rest : BodyView) (p : Part BodyView) → RunsCut v r e rest → rest.stage ≡ Going →
    IsTame (in_part p).means → record (promised v.owes) { moves = (promised v.owes).moves - 1 } ≡ with_part v.kind p rest.means.promise →
    RunsPart (unmoved_view n v) r rest p
runs_part n v r e rest p runs going carried owed = let same = unmoved_same n v in record {
  on = unmoved_on n v r runs.on;
  clear = unmoved_clear n v runs.clear;
  keeps = same.0 ∙ runs.keeps;
  kind = runs.kind ∙ sym same.1;
  stage = going;
  tame = runs.tame;
  carried = carried;
  owed = ap promised same.2 ∙ owed ∙ ap (λ k. with_part k p rest.means.promise) (sym runs.kind);
}

pub full_async : (n : ℕ) (v : View) (r : Running) (b rest : BodyView) → RunsCut v r (event.Async b) rest → RunsPart (unmoved_view n v) r rest (part.Async b)
full_async n v r b rest runs = runs_part n v r (event.Async b) rest (part.Async b) runs runs.stage runs.carries (full_owed_async v b rest.means.promise runs.owed)

pub full_finish : (n : ℕ) (v : View) (r : Running) (k : FinishKind) (b rest : BodyView) → RunsCut v r (event.Finish k b) rest →
    RunsPart (unmoved_view n v) r rest (part.Finish k b)
full_finish n v r k b rest runs =
    runs_part n v r (event.Finish k b) rest (part.Finish k b) runs runs.stage runs.carries (full_owed_finish v k b rest.means.promise runs.owed)
