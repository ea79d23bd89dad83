-- What a scripted body gives keeps the contract of a body.
use Rattle.std.proofs.Common.{◌≡◌, ◌≢◌, ℕ, ◌+◌, ◌-◌, ◌<◌, ◌≤◌, Bool, true, false, Option, None, Box, ℤ, min}
use Rattle.std.proofs.Common.{zero, suc, refl, sym, ◌∙◌, ap, subst, arith}
use Rattle.std.specs.Prelude.{◌==◌, ◌&&◌, not, if◌then◌else◌}
use Rattle.std.proofs.Math.Dec.{eqb-suc-zero}
use Rattle.std.specs.declared.alloc.Global.{Global}
use Rattle.spd_words.specs.Gift.{no_fault, join}
use Rattle.spd_words.specs.Meaning.{Promise, Awaited, Stage, Going, Spent, empty, IsTame}
use Rattle.spd_words.specs.BodyCalls.{TakesIn, stage_at}
use Rattle.spd_words.specs.declared.finish_kind.FinishKind.{FinishKind}
use Rattle.spd_words.specs.declared.event.Event.TheVariants as event
use Rattle.spd_words.specs.declared.event.Part.TheVariants as part
use Rattle.spd_script.specs.declared.steps.Steps.{Steps, Over, Offer', Fault', Async', Finish'}
use Rattle.spd_script.specs.declared.script.State.{State}
use Rattle.spd_script.specs.declared.script.State.TheVariants as state
use Rattle.spd_script.specs.declared.script.Script.{Script}
use Rattle.spd_script.specs.Steps.{behind, with_offer, with_fault, promise}
use Rattle.spd_words.specs.declared.tally.Tally.{Tally}
use Rattle.spd_script.specs.Sums.{promise_of_sum, StandsBefore}
use Rattle.spd_script.specs.Scripts.{with_moves, script_view, fresh_script, state_awaits, state_stage, state_promise, state_size, state_behind}
use Rattle.spd_script.specs.Scripts.{IsFresh, ScriptAwaits, FitsScript, ScriptEvent, ScriptTakesAsync, ScriptTakesFinish}
use Rattle.spd_region.specs.Dag.{MayRun}
use Rattle.spd_script.proofs.Promises.{same_promise, with_code_is, promise_lawful, behind_lawful, moves_weigh}

-- a script that may go on
abbrev pub going : FinishKind → ℕ → Steps → Script
going k n s = record { kind = k; held = n; rest = s; state = state.Going }

-- the meaning of a script that may go on is tame
going_tame : (k : FinishKind) (n : ℕ) (s : Steps) → IsTame (script_view (going k n s)).means
going_tame k n s = let l = promise_lawful k s in record {
  tame = refl;
  promise = record { gift = l.gift; fault = l.fault; memory = l.memory };
  awaited = tt;
}

pub fresh_may_run : (k : FinishKind) (s : Steps) → MayRun k (script_view (fresh_script k s))
fresh_may_run k s = record { kind = refl; awaited = refl; stage = refl; tame = going_tame k 0 s }

-- ---- events

gave_held : (k : FinishKind) (n : ℕ) (s : Steps) → 0 < n →
    ScriptEvent (going k n s) (going k (n - 1) s) (event.Async (fresh_script k Over))
gave_held k n s l =
    let p = promise k s in
    let h = promise_lawful k s in
    record {
      step = record {
        kind = refl;
        means = λ e. cc;
        awaited = refl;
        stage = refl;
        spent = λ e. cc;
        ready = record { kind = refl; awaited = refl; stage = refl };
        split = λ e. same_promise _ _ (sym h.gift) (let z = h.fault in omega arith) (omega arith);
        falls = omega arith;
      };
      tame = λ t. (going_tame k (n - 1) s, going_tame k 0 Over);
      part = (refl, refl, record { held = refl; state = refl });
    }

pub gave_offer : (k : FinishKind) (x : ℤ) (p : Box (Unit {0}) Global) (s : Steps) →
    ScriptEvent (going k 0 (Offer' x p s)) (going k 0 s) (event.Offer x)
gave_offer k x p s = record {
  step = record {
    kind = refl;
    means = λ e. cc;
    awaited = refl;
    stage = refl;
    spent = λ e. cc;
    ready = tt;
    split = λ e. refl;
    falls = omega arith;
  };
  tame = λ t. (going_tame k 0 s, tt);
  part = tt;
}

pub gave_async : (k : FinishKind) (p q : Box (Unit {0}) Global) (b s : Steps) →
    ScriptEvent (going k 0 (Async' p b q s)) (going k 0 s) (event.Async (fresh_script k b))
gave_async k p q b s = record {
  step = record {
    kind = refl;
    means = λ e. cc;
    awaited = refl;
    stage = refl;
    spent = λ e. cc;
    ready = record { kind = refl; awaited = refl; stage = refl };
    split = λ e. same_promise _ _ refl refl (omega arith);
    falls = omega arith;
  };
  tame = λ t. (going_tame k 0 s, going_tame k 0 b);
  part = (refl, refl, record { held = refl; state = refl });
}

pub gave_finish : (k i : FinishKind) (c : Bool) (p q : Box (Unit {0}) Global) (b s : Steps) (gift : ℤ) (fault : ℕ) →
    gift ≡ (promise i b).gift → fault ≡ (promise i b).fault →
    ScriptEvent (going k 0 (Finish' i c p b q s))
    (record { kind = k; held = 0; rest = s; state = state.Waits i c gift fault }) (event.Finish i (fresh_script i b))
gave_finish k i c p q b s gift fault e f = rw (e, f) (record {
  step = record {
    kind = refl;
    means = λ e. cc;
    awaited = refl;
    stage = refl;
    spent = λ e. cc;
    ready = record { kind = refl; awaited = refl; stage = refl };
    split = λ e. same_promise _ _ refl refl (omega arith);
    falls = omega arith;
  };
  tame = λ t. (
    (let h = promise_lawful i b in
        let l = behind_lawful k (promise i b).gift (promise i b).fault c (promise k s) h.memory (promise_lawful k s) in
        record { tame = refl; promise = record { gift = l.gift; fault = l.fault; memory = l.memory }; awaited = h }),
    going_tame i 0 b,
  );
  part = ((refl, refl), record { held = refl; state = refl });
})

pub gave_gift : (s : Script) (g : ℤ) (f : ℕ) → s.state ≡ state.Resumed g f → f ≡ no_fault →
    ScriptEvent s (record s { state = state.Going }) (event.Offer g)
gave_gift s g f e n =
    let t : s.state ≡ state.Resumed g no_fault = e ∙ ap (state.Resumed g) n in
    subst (λ (x : State). ScriptEvent (record s { state = x }) (record s { state = state.Going }) (event.Offer g)) (sym t)
    (record {
      step = record {
        kind = refl;
        means = λ z. cc;
        awaited = refl;
        stage = refl;
        spent = λ z. cc;
        ready = tt;
        split = λ z. refl;
        falls = omega arith;
      };
      tame = λ z. (going_tame s.kind s.held s.rest, tt);
      part = tt;
    })

pub gave_fault : (k : FinishKind) (c : ℕ) (p : Box (Unit {0}) Global) (s : Steps) → c ≢ 0 → c < no_fault →
    ScriptEvent (going k 0 (Fault' c p s)) (going k 0 s) (event.Fault c)
gave_fault k c p s n l = record {
  step = record {
    kind = refl;
    means = λ e. cc;
    awaited = refl;
    stage = refl;
    spent = λ e. cc;
    ready = tt;
    split = λ e. ap (λ (q : Promise). with_moves 0 q) (with_code_is k c (promise k s) n (let m : c ≢ no_fault = omega arith in m));
    falls = omega arith;
  };
  tame = λ t. (going_tame k 0 s, (n, l));
  part = tt;
}

-- a move that is held
pub gave_move : (s : Script) → s.state ≡ state.Going → 0 < s.held →
    ScriptEvent s (record s { held = s.held - 1 }) (event.Async (fresh_script s.kind Over))
gave_move s e l =
    subst (λ (x : State). ScriptEvent (record s { state = x }) (record s { held = s.held - 1; state = x })
    (event.Async (fresh_script s.kind Over))) (sym e) (gave_held s.kind s.held s.rest l)

-- ---- an async inside

-- What the async gives stands before the rest, and its moves are held.
took_fresh : (k : FinishKind) (n : ℕ) (s new : Steps) (g : ℤ) (f m : ℕ) (r : Steps) →
    g ≡ (promise k r).gift → f ≡ (promise k r).fault → m ≡ (promise k r).moves →
    StandsBefore (record { kind = k; gift = g; fault = f }) s new →
    TakesIn (script_view (going k n s)) (script_view (going k (n + m) new)) (part.Async (script_view (going k 0 r)))
took_fresh k n s new g f m r eg ef em b = record {
  kind = refl;
  means = λ z. cc;
  awaited = refl;
  stage = refl;
  wild = λ z. refl;
  promise = λ z. same_promise _ _
      (b.gift ∙ ap (λ x. join k x (promise k s).gift) eg) (b.fault ∙ ap (λ x. min x (promise k s).fault) ef)
      (let h = b.moves in omega arith);
  tame = λ y z. going_tame k (n + m) new;
  size = let h = b.size in let w = moves_weigh k r in omega arith;
}

-- a script that is as it was given
fresh_is : (k : FinishKind) (child : Script) → child.kind ≡ k → IsFresh child → child ≡ going k 0 child.rest
fresh_is k child e h =
    ap (λ (z : FinishKind). record { kind = z; held = child.held; rest = child.rest; state = child.state }) e
    ∙ ap (λ (z : ℕ). record { kind = k; held = z; rest = child.rest; state = child.state }) h.held
    ∙ ap (λ (z : State). record { kind = k; held = 0; rest = child.rest; state = z }) h.state

pub took_async : (old : Script) (new : Steps) (t : Tally) (m : ℕ) (child : Script) →
    FitsScript old (part.Async child) → t.kind ≡ child.kind →
    promise_of_sum (record { tally = t; moves = m }) ≡ promise child.kind child.rest → StandsBefore t old.rest new →
    ScriptTakesAsync old child (record old { held = old.held + m; rest = new })
took_async old new t m child f e q b =
    let k = old.kind in
    let p = q ∙ ap (λ (z : FinishKind). promise z child.rest) f.1 in
    let b1 = subst (λ (z : FinishKind). StandsBefore (record t { kind = z }) old.rest new) (e ∙ f.1) b in
    let h = took_fresh k old.held old.rest new t.gift t.fault m child.rest
    (ap (λ (z : Promise). z.gift) p) (ap (λ (z : Promise). z.fault) p) (ap (λ (z : Promise). z.moves) p) b1 in
    let i = subst (λ (c : Script). TakesIn (script_view (going k old.held old.rest))
    (script_view (going k (old.held + m) new)) (part.Async (script_view c))) (sym (fresh_is k child f.1 f.2)) h in
    subst (λ (z : State). TakesIn (script_view (record old { state = z }))
    (script_view (record old { held = old.held + m; rest = new; state = z })) (part.Async (script_view child))) (sym f.0) i

-- ---- behind a finish

-- by what a finish gave: passed over, without a fault, or with one
if_state : (C : Type 0) (f : State → C) (b : Bool) (x y : State) → f (if b then x else y) ≡ (if b then f x else f y)
if_state C f true x y = refl
if_state C f false x y = refl

three_ways : (c z x : Bool) (o p q : Promise) →
    (if c && not z && not x then p else (if x then o else (if false && not z then p else q)))
    ≡ (if x then o else (if c && not z then p else q))
three_ways true true true o p q = refl
three_ways true true false o p q = refl
three_ways true false true o p q = refl
three_ways true false false o p q = refl
three_ways false true true o p q = refl
three_ways false true false o p q = refl
three_ways false false true o p q = refl
three_ways false false false o p q = refl

two_stages : (c z x : Bool) →
    (if c && not z && not x then Going else (if z then Spent else Going)) ≡ (if z then Spent else Going)
two_stages true true true = refl
two_stages true true false = refl
two_stages true false true = refl
two_stages true false false = refl
two_stages false z x = refl

behind_promise : (s : Script) (c : Bool) (g : ℤ) (f : ℕ) →
    state_promise s (state_behind c g f) ≡ behind s.kind g f c (promise s.kind s.rest)
behind_promise s c g f =
    let k = s.kind in
    let p = promise k s.rest in
    if_state Promise (state_promise s) (c && not (f == 0) && not (f == no_fault)) state.Going (state.Resumed g f)
    ∙ three_ways c (f == 0) (f == no_fault) (with_offer k g p) p (with_fault f (empty k))

behind_stage : (c : Bool) (g : ℤ) (f : ℕ) → state_stage (state_behind c g f) ≡ stage_at f
behind_stage c g f =
    if_state Stage state_stage (c && not (f == 0) && not (f == no_fault)) state.Going (state.Resumed g f)
    ∙ two_stages c (f == 0) (f == no_fault)

if_none : (b : Bool) (n : Option Awaited) → (if b then n else n) ≡ n
if_none true n = refl
if_none false n = refl

behind_awaits : (c : Bool) (g : ℤ) (f : ℕ) → state_awaits (state_behind c g f) ≡ None
behind_awaits c g f =
    let b = c && not (f == 0) && not (f == no_fault) in
    if_state (Option Awaited) state_awaits b state.Going (state.Resumed g f) ∙ if_none b None

if_size : (b : Bool) → (if b then 0 else 1) ≤ 1
if_size true = omega arith
if_size false = omega arith

behind_size : (c : Bool) (g : ℤ) (f : ℕ) → state_size (state_behind c g f) ≤ 1
behind_size c g f =
    let b = c && not (f == 0) && not (f == no_fault) in
    let h = if_size b in
    let e = if_state ℕ state_size b state.Going (state.Resumed g f) in
    omega arith

going_at : (f : ℕ) → f ≢ 0 → stage_at f ≡ Going
going_at zero h = absurd (h refl)
going_at (suc f) h = ap (λ (t : Bool). if t then Spent else Going) (eqb-suc-zero f)

-- ---- a finish inside, and a finish that has ended

took_of : (k i j : FinishKind) (n m : ℕ) (s : Steps) (c : Bool) (g : ℤ) (f : ℕ) (r : Steps) →
    g ≡ (promise i r).gift → f ≡ (promise i r).fault → m ≡ (promise i r).moves →
    TakesIn (script_view (record { kind = k; held = n; rest = s; state = state.Waits j c g f }))
    (script_view (record { kind = k; held = n + m; rest = s; state = state_behind c g f }))
    (part.Finish i (script_view (going i 0 r)))
took_of k i j n m s c g f r eg ef em =
    let l = promise_lawful i r in
    let f0 : f ≢ 0 = λ z. l.memory (sym ef ∙ z) in
    let new : Script = record { kind = k; held = n + m; rest = s; state = state_behind c g f } in
    let p = behind_promise new c g f in
    let h = behind_lawful k g f c (promise k s) f0 (promise_lawful k s) in
    let a = behind_awaits c g f in
    record {
      kind = refl;
      means = λ z. cc;
      awaited = a;
      stage = behind_stage c g f ∙ going_at f f0;
      wild = λ z. refl;
      promise = λ z. ap (with_moves (n + m)) p ∙ same_promise _ _ refl refl (omega arith);
      tame = λ y z. record {
        tame = refl;
        promise = rw p (record { gift = h.gift; fault = h.fault; memory = h.memory });
        awaited = rw a tt;
      };
      size = let w = moves_weigh i r in let z = behind_size c g f in omega arith;
    }

pub took_finish : (old : Script) (m : ℕ) (child : Script) (c : Bool) (g : ℤ) (f : ℕ) (k : FinishKind) →
    old.state ≡ state.Waits k c g f → FitsScript old (part.Finish child.kind child) → m ≡ (promise child.kind child.rest).moves →
    ScriptTakesFinish old child (record old { held = old.held + m; state = state_behind c g f })
took_finish old m child c g f k e h em =
    let w = subst (λ (x : State). ScriptAwaits x child) e h.0 in
    let t = took_of old.kind child.kind k old.held m old.rest c g f child.rest w.0 w.1 em in
    let new = script_view (record old { held = old.held + m; state = state_behind c g f }) in
    let u = subst (λ (x : Script). TakesIn (script_view (record old { state = state.Waits k c g f })) new
    (part.Finish child.kind (script_view x))) (sym (fresh_is child.kind child refl h.1)) t in
    subst (λ (x : State). TakesIn (script_view (record old { state = x })) new (part.Finish child.kind (script_view child))) (sym e) u
