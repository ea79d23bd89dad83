-- What the calls of a task do to what is told of it.
use Rattle.std.proofs.Common.{◌≡◌, ◌≢◌, ℕ, ◌+◌, List, [], ◌∷◌, ◌++◌, refl, sym, ◌∙◌, ap, subst, arith, ℤ, Some}
use Rattle.std.specs.Prelude.{min}
use Rattle.spd_words.specs.Meaning.{Promise, Going, Spent, BodyView, IsLawfulTotal, IsTame, AwaitsLawful, add}
use Rattle.spd_words.specs.BodyCalls.{Advances, StaysTame, IsReady, FitsNext, event_seen, before_event}
use Rattle.spd_words.specs.declared.finish_kind.FinishKind.{FinishKind}
use Rattle.spd_words.specs.declared.event.Event.{Event}
use Rattle.spd_words.specs.declared.event.Event.TheVariants as event
use Rattle.spd_words.proofs.Joins.{gift_is}
use Rattle.spd_meaning.specs.Acts.{Acts, Piece, Offer, Code, Line, Begin, Async, Finish, Call, Over, Tick}
use Rattle.spd_meaning.specs.Acts.{heard, mark_in, passed, offers_of, codes_of, moves_of}
use Rattle.spd_words.specs.Gift.{least}
use Rattle.spd_meaning.specs.Eval.{End, Fell, Back, Fault, Eval, for_finish, end_codes, promised_by, promise_left}
use Rattle.spd_code.specs.Coded.{Context, around_of, eval_block}
use Rattle.spd_machine.specs.Machine.{machine_frames}
use Rattle.spd_level.specs.declared.step.FinishAt.{FinishAt}
use Rattle.spd_level.specs.declared.frame.Frame.TheVariants as frame
use Rattle.spd_level.proofs.Turns.{codes_cut}
use Rattle.spd_meaning.proofs.Hearing.{heard_both, moves_both}
use Rattle.spd_meaning.proofs.Collecting.{promise_heard}
use Rattle.spd_code.proofs.Never.{never, back_never, block_never, around_never}
use Rattle.spd_machine.specs.Elision.{job_eval}
use Rattle.spd_machine.specs.declared.job.JobBody.{JobBody}
use Rattle.spd_machine.specs.declared.job.JobBody.TheVariants as job
use Rattle.spd_code.specs.Places.{fitted}
use Rattle.spd_task.specs.declared.task.State.{State}
use Rattle.spd_task.specs.declared.task.State.TheVariants as state
use Rattle.spd_task.specs.declared.task.Task.{Task}
use Rattle.spd_task.specs.Task.{awaited_body, awaited_by, stage_by, context_in, left_of, task_view, fits_task, IsFreshTask, RunsBlock}
use Rattle.spd_task.specs.TaskEvents.{hears_event, TaskGave}
use Rattle.spd_task.proofs.Splits.{promise_none, promise_offer, promise_code, promise_async, promise_finish}
use Rattle.spd_task.proofs.Events.{block_left}

-- ---- promises are lawful but for want of memory

pub lawful : (kind : FinishKind) (g : Acts) → (promised_by kind g).fault ≢ 0 → IsLawfulTotal kind (promised_by kind g).gift (promised_by kind g).fault
lawful kind g h = record { gift = gift_is kind (offers_of g); fault = omega arith; memory = h }

pub block_lawful : (x : Context) (f : FinishAt) (vars : List ℤ) → let p = promise_left f.kind (eval_block (around_of x f.left) f.body.now vars) in
    IsLawfulTotal f.kind p.gift p.fault
block_lawful x f vars = let n = never x f.left f.body.now vars in
    lawful f.kind (for_finish (eval_block (around_of x f.left) f.body.now vars)) (omega (arith, n))

-- ---- states

pub awaits : (t : Task) (s : State) → t.state ≡ s → (task_view t).means.awaited ≡ awaited_by (context_in t) s t.machine
awaits t s e = ap (λ st. awaited_by (context_in t) st t.machine) e

pub stands : (t : Task) (s : State) → t.state ≡ s → (task_view t).stage ≡ stage_by s
stands t s e = ap stage_by e

fresh_ready : (t b : Task) (k : FinishKind) → IsFreshTask t b → b.kind ≡ k → IsReady k (task_view b)
fresh_ready t b k r e = record { kind = e; awaited = awaits b state.Ready r.state; stage = stands b state.Ready r.state }

going_not_spent : (v : BodyView) (e : Event BodyView) → v.stage ≡ Going → v.stage ≡ Spent → e ≡ event.NoMemory
going_not_spent v e g s = let z : Going ≡ Spent = sym g ∙ s in absurd (cc)

-- the body of a finish promises what is awaited
pub finish_promise : (t b : Task) (f : FinishAt) → IsFreshTask t b → b.kind ≡ f.kind → b.machine.level.vars.items ≡ t.machine.level.vars.items →
    b.machine.level.frames.items ≡ frame.Block f.body 0 0 f.left ∷ [] →
    promise_left b.kind (left_of b) ≡ promise_left f.kind (awaited_body (context_in t) f t.machine)
finish_promise t b f r k vs fs =
    let vars = t.machine.level.vars.items in
    let e = eval_block (around_of (context_in b) f.left) f.body.now vars in
    ap (λ (x : Eval ℤ). promise_left b.kind x) (block_left b f.body f.left vars r.state r.inside r.falls_through vs fs)
    ∙ ap (λ (cs : Acts). promised_by b.kind (e.given ++ cs)) (codes_cut 0 e.end)
    ∙ ap (λ (kd : FinishKind). promise_left kd e) k
    ∙ ap (λ c. promise_left f.kind (eval_block (around_of c f.left) f.body.now vars)) r.context

-- ---- events

heard_mark : (b : Piece) (p q : Acts) → heard p ≡ q → heard (mark_in b ++ p) ≡ mark_in b ++ q
heard_mark Async p q h = ap (λ (g : Acts). Begin Async ∷ g) h
heard_mark Finish p q h = ap (λ (g : Acts). Begin Finish ∷ g) h
heard_mark Call p q h = h

heard_again : (p : Acts) → heard (heard p) ≡ heard p
heard_again [] = refl
heard_again (Offer v ∷ p) = ap (λ (g : Acts). Offer v ∷ g) (heard_again p)
heard_again (Code c ∷ p) = ap (λ (g : Acts). Code c ∷ g) (heard_again p)
heard_again (Line l ∷ p) = heard_again p
heard_again (Begin b ∷ p) = heard_mark b (heard p) (heard p) (heard_again p)
heard_again (Over ∷ p) = heard_again p
heard_again (Tick ∷ p) = heard_again p

heard_twice : (e : Event Task) → heard (hears_event e) ≡ hears_event e
heard_twice (event.Offer x) = refl
heard_twice (event.Fault c) = refl
heard_twice (event.Async b) = ap (λ (g : Acts). Begin Async ∷ g) (heard_again (for_finish (left_of b)))
heard_twice (event.Finish k b) = ap (λ (g : Acts). Begin Finish ∷ g) (heard_again (passed (left_of b).given))
heard_twice event.Over = refl
heard_twice event.NoMemory = refl

-- the promise is split into the event and the rest
split : (kind : FinishKind) (a : Eval ℤ) (given : Acts) (e : Event Task) (b : Eval ℤ) → for_finish a ≡ given ++ for_finish b → heard given ≡ hears_event e →
    promise_left kind a ≡ promised_by kind (hears_event e ++ for_finish b)
split kind a given e b i h =
    ap (promised_by kind) i ∙ promise_heard kind (given ++ for_finish b) (hears_event e ++ for_finish b)
    (heard_both given (for_finish b) ∙ ap (λ (g : Acts). g ++ heard (for_finish b)) (h ∙ sym (heard_twice e)) ∙ sym (heard_both (hears_event e) (for_finish b)))

-- with what is heard of a body in place of the body
async_split : (kind : FinishKind) (b p q : Acts) → heard p ≡ heard b → promised_by kind (Begin Async ∷ (p ++ q)) ≡ promised_by kind (Begin Async ∷ (b ++ q))
async_split kind b p q h = promise_heard kind (Begin Async ∷ (p ++ q)) (Begin Async ∷ (b ++ q))
    (ap (λ (g : Acts). Begin Async ∷ g) (heard_both p q ∙ ap (λ (g : Acts). g ++ heard q) h ∙ sym (heard_both b q)))

finish_split : (kind : FinishKind) (b p q : Acts) → heard p ≡ heard b → promised_by kind (Begin Finish ∷ (p ++ q)) ≡ promised_by kind (Begin Finish ∷ (b ++ q))
finish_split kind b p q h = promise_heard kind (Begin Finish ∷ (p ++ q)) (Begin Finish ∷ (b ++ q))
    (ap (λ (g : Acts). Begin Finish ∷ g) (heard_both p q ∙ ap (λ (g : Acts). g ++ heard q) h ∙ sym (heard_both b q)))

no_moves : (e : End ℤ) → moves_of (end_codes e) ≡ 0
unfolding moves_of
no_moves (Fell vars) = refl
no_moves (Back v) = refl
no_moves (Fault c) = refl

pub block_moves : (a : Eval ℤ) → moves_of (for_finish a) ≡ moves_of a.given
block_moves a = moves_both a.given (end_codes a.end) ∙ (let z = no_moves a.end in omega arith)

abbrev async_before : FinishKind → Promise → Promise → Promise
async_before kind b p = let q = add kind b p in record { gift = q.gift; fault = q.fault; moves = q.moves + 1 }

abbrev finish_before : ℕ → Promise → Promise
finish_before m p = record { gift = p.gift; fault = p.fault; moves = m + p.moves + 1 }

-- a task that ran out of memory
pub memory_out : (o n : Task) → n.kind ≡ o.kind → n.state ≡ state.Ended → Advances (task_view o) (task_view n) event.NoMemory
memory_out o n k e = record {
  kind = k;
  means = λ z. absurd (cc);
  awaited = awaits n state.Ended e;
  stage = stands n state.Ended e;
  spent = λ _. refl;
  ready = tt;
  split = tt;
  falls = tt;
}

pub tame_ready : (t : Task) → t.state ≡ state.Ready → (promise_left t.kind (left_of t)).fault ≢ 0 → IsTame (task_view t).means
tame_ready t e h = record { tame = refl; promise = lawful t.kind (for_finish (left_of t)) h; awaited = subst AwaitsLawful (sym (awaits t state.Ready e)) tt }

pub advances : (o n : Task) (e : Event Task) → (task_view o).stage ≡ Going → TaskGave (left_of o) (machine_frames o.machine) o n e →
    Advances (task_view o) (task_view n) (event_seen task_view e)
advances o n (event.Offer x) s g = record {
  kind = g.kind;
  means = λ z. absurd (cc);
  awaited = awaits n state.Ready g.after;
  stage = stands n state.Ready g.after;
  spent = going_not_spent (task_view o) _ s;
  ready = tt;
  split = λ _. split o.kind (left_of o) g.given (event.Offer x) (left_of n) g.is g.hears ∙ promise_offer o.kind x (for_finish (left_of n))
      ∙ ap (λ (k : FinishKind). before_event o.kind (event.Offer x) (promise_left k (left_of n))) (sym g.kind);
  falls = g.falls;
}
advances o n (event.Fault c) s g = record {
  kind = g.kind;
  means = λ z. absurd (cc);
  awaited = awaits n state.Ready g.after.0;
  stage = stands n state.Ready g.after.0;
  spent = going_not_spent (task_view o) _ s;
  ready = tt;
  split = λ _. split o.kind (left_of o) g.given (event.Fault c) (left_of n) g.is g.hears ∙ promise_code o.kind c (for_finish (left_of n))
      ∙ ap (λ (k : FinishKind). before_event o.kind (event.Fault c) (promise_left k (left_of n))) (sym g.kind);
  falls = g.falls;
}
advances o n (event.Async b) s g =
    let q = for_finish (left_of n) in
    record {
      kind = g.kind;
      means = λ z. absurd (cc);
      awaited = awaits n state.Ready g.after.2;
      stage = stands n state.Ready g.after.2;
      spent = going_not_spent (task_view o) _ s;
      ready = fresh_ready n b o.kind g.after.0 (g.after.1 ∙ g.kind);
      split = λ _. split o.kind (left_of o) g.given (event.Async b) (left_of n) g.is g.hears
          ∙ async_split o.kind (for_finish (left_of b)) (heard (for_finish (left_of b))) q (heard_again (for_finish (left_of b)))
          ∙ promise_async o.kind (for_finish (left_of b)) q
          ∙ ap (λ (k : FinishKind). async_before o.kind (promise_left k (left_of b)) (promise_left o.kind (left_of n))) (sym (g.after.1 ∙ g.kind))
          ∙ ap (λ (k : FinishKind). async_before o.kind (promise_left b.kind (left_of b)) (promise_left k (left_of n))) (sym g.kind);
      falls = g.falls;
    }
advances o n (event.Finish k b) s g =
    let x = g.next in
    let f = x.0 in
    let q = for_finish (left_of n) in
    let r = subst (λ (st : State). RunsBlock st k n.machine b) x.1 g.after.2 in
    let p = finish_promise n b f g.after.0 (g.after.1 ∙ sym x.2) r.1 r.2 in
    record {
      kind = g.kind;
      means = λ z. absurd (cc);
      awaited = awaits n (state.Waits f) x.1 ∙ ap (λ (t : Promise). Some (record { kind = f.kind; gift = t.gift; fault = t.fault })) (sym p)
          ∙ ap (λ (kd : FinishKind). Some
          (record { kind = kd; gift = (promise_left b.kind (left_of b)).gift; fault = (promise_left b.kind (left_of b)).fault })) x.2;
      stage = stands n (state.Waits f) x.1;
      spent = going_not_spent (task_view o) _ s;
      ready = fresh_ready n b k g.after.0 g.after.1;
      split = λ _. split o.kind (left_of o) g.given (event.Finish k b) (left_of n) g.is g.hears
          ∙ finish_split o.kind (passed (left_of b).given) (heard (passed (left_of b).given)) q (heard_again (passed (left_of b).given))
          ∙ promise_finish o.kind (left_of b).given q
          ∙ ap (λ (m : ℕ). finish_before m (promise_left o.kind (left_of n))) (sym (block_moves (left_of b)))
          ∙ ap (λ (kd : FinishKind). finish_before (promise_left b.kind (left_of b)).moves (promise_left kd (left_of n))) (sym g.kind);
      falls = g.falls;
    }
advances o n event.Over s g = record {
  kind = g.kind;
  means = λ z. absurd (cc);
  awaited = awaits n state.Ended g.after;
  stage = stands n state.Ended g.after;
  spent = going_not_spent (task_view o) _ s;
  ready = tt;
  split = λ _. promise_heard o.kind (for_finish (left_of o)) [] g.next ∙ promise_none o.kind;
  falls = tt;
}
advances o n event.NoMemory s g = memory_out o n g.kind g.after

-- what was tame stays so, and gives only what is
pub stays_tame : (o n : Task) (e : Event Task) → (task_view o).stage ≡ Going → TaskGave (left_of o) (machine_frames o.machine) o n e →
    StaysTame (task_view o) (task_view n) (event_seen task_view e)
stays_tame o n (event.Offer x) s g t =
    let p = (advances o n (event.Offer x) s g).split refl in
    let f : (promise_left o.kind (left_of o)).fault ≡ (promise_left n.kind (left_of n)).fault = ap (λ (q : Promise). q.fault) p in
    (tame_ready n g.after (λ z. t.promise.memory (f ∙ z)), tt)
stays_tame o n (event.Fault c) s g t =
    let p = (advances o n (event.Fault c) s g).split refl in
    let f : (promise_left o.kind (left_of o)).fault ≡ min c (promise_left n.kind (left_of n)).fault = ap (λ (q : Promise). q.fault) p in
    (tame_ready n g.after.0 (λ z. t.promise.memory (f ∙ omega (arith, z))), (λ z. t.promise.memory (f ∙ omega (arith, z)), g.after.1))
stays_tame o n (event.Async b) s g t =
    let p = (advances o n (event.Async b) s g).split refl in
    let f : (promise_left o.kind (left_of o)).fault ≡ min (promise_left b.kind (left_of b)).fault (promise_left n.kind (left_of n)).fault =
    ap (λ (q : Promise). q.fault) p in
    (tame_ready n g.after.2 (λ z. t.promise.memory (f ∙ omega (arith, z))), tame_ready b g.after.0.state (λ z. t.promise.memory (f ∙ omega (arith, z))))
stays_tame o n (event.Finish k b) s g t =
    let x = g.next in
    let f = x.0 in
    let a = advances o n (event.Finish k b) s g in
    let l : (promise_left o.kind (left_of o)).fault ≡ (promise_left n.kind (left_of n)).fault = ap (λ (q : Promise). q.fault) (a.split refl) in
    let r = subst (λ (st : State). RunsBlock st k n.machine b) x.1 g.after.2 in
    let p = finish_promise n b f g.after.0 (g.after.1 ∙ sym x.2) r.1 r.2 in
    let w = block_lawful (context_in n) f n.machine.level.vars.items in (
      record {
        tame = refl;
        promise = lawful n.kind (for_finish (left_of n)) (λ z. t.promise.memory (l ∙ z));
        awaited = subst AwaitsLawful (sym (awaits n (state.Waits f) x.1)) w;
      },
      tame_ready b g.after.0.state (λ z. w.memory (sym (ap (λ (q : Promise). q.fault) p) ∙ z)),
    )
stays_tame o n event.Over s g t = (tt, tt)
stays_tame o n event.NoMemory s g t = (tt, tt)

pub fits_next : (o n : Task) (e : Event Task) → TaskGave (left_of o) (machine_frames o.machine) o n e → FitsNext fits_task n e
fits_next o n (event.Offer x) g = tt
fits_next o n (event.Fault c) g = tt
fits_next o n (event.Async b) g = g.after
fits_next o n (event.Finish k b) g = g.after
fits_next o n event.Over g = tt
fits_next o n event.NoMemory g = tt

-- ---- jobs

job_never : (x : Context) (body : JobBody) → least (codes_of (for_finish (job_eval x body))) ≢ 0
job_never x (job.Block block left vars) = never x left block.now vars.items
job_never x (job.Call item left args) =
    let inner = around_of x left in
    back_never (eval_block inner item.now.body (fitted item.now.params args.items))
    (block_never inner (around_never x left) item.now.body (fitted item.now.params args.items))

pub job_tame : (t : Task) (body : JobBody) → t.state ≡ state.Ready → for_finish (left_of t) ≡ for_finish (job_eval (context_in t) body) →
    IsTame (task_view t).means
job_tame t body e h = tame_ready t e (λ z. job_never (context_in t) body (omega (arith, sym (ap (λ (g : Acts). (promised_by t.kind g).fault) h) ∙ z)))
