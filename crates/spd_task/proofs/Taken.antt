-- Parts that are taken inside.
use Rattle.std.proofs.Common.{◌≡◌, ◌≢◌, ℕ, ◌+◌, ◌<◌, List, [], ◌∷◌, ◌++◌, length, refl, sym, ◌∙◌, ap, subst, arith}
use Rattle.std.proofs.Common.{append_assoc, ℤ, inl, inr, Vec, Global, length-append}
use Rattle.std.specs.Prelude.{min}
use Rattle.std.proofs.lemmas.Grind.{flat_map-append}
use Rattle.spd_words.specs.Total.{nothing}
use Rattle.spd_words.specs.Meaning.{Promise, add, empty}
use Rattle.spd_words.specs.BodyCalls.{TakesIn, with_part}
use Rattle.spd_words.specs.declared.finish_kind.FinishKind.{FinishKind}
use Rattle.spd_words.specs.declared.event.Part.TheVariants as part
use Rattle.spd_meaning.specs.Acts.{Acts, Over, heard, passed, passed_in, moves_of, work_of}
use Rattle.spd_meaning.specs.Eval.{Fell, Eval, quiet, before, cut, for_finish, end_codes, async_left, finish_left, finish_end, job_total}
use Rattle.spd_meaning.specs.Eval.{promised_by, promise_left}
use Rattle.spd_code.specs.Coded.{Context, around_of, eval_block}
use Rattle.spd_code.specs.Places.{bind_if}
use Rattle.spd_level.specs.Left.{frame_left, frames_left, level_left, level_eval, level_now}
use Rattle.spd_machine.specs.Machine.{insides_frames, machine_frames, insides_left, machine_left, machine_eval}
use Rattle.spd_level.specs.declared.step.FinishAt.{FinishAt}
use Rattle.spd_level.specs.declared.frame.Frame.{Frame}
use Rattle.spd_level.specs.declared.frame.Frame.TheVariants as frame
use Rattle.spd_level.specs.declared.frame.Flow.TheVariants as flow
use Rattle.spd_machine.specs.declared.machine.Inside.{Inside}
use Rattle.spd_level.proofs.Through.{frames_before, frames-snoc}
use Rattle.spd_meaning.proofs.Sequence.{nil_behind}
use Rattle.spd_meaning.proofs.Hearing.{heard_both, work_both, work_passed, moves_both}
use Rattle.spd_meaning.proofs.Collecting.{promise_heard}
use Rattle.spd_machine.proofs.Moving.{machine_passed}
use Rattle.spd_machine.proofs.Eliding.{finish_given}
use Rattle.spd_task.specs.declared.task.State.{State}
use Rattle.spd_task.specs.declared.task.State.TheVariants as state
use Rattle.spd_task.specs.declared.task.Task.{Task}
use Rattle.spd_task.specs.Task.{awaited_body, behind_finish, left_by, context_in, left_of, task_view, fits_task, RunsBlock}
use Rattle.spd_task.proofs.Splits.{promise_none, promise_add, promise_passed}
use Rattle.spd_task.proofs.Events.{ready_left, block_left, no_work}
use Rattle.spd_task.proofs.Views.{awaits, stands, tame_ready, block_moves, finish_promise}

frames-append : (x : Context) (fs gs : List Frame) (a : Eval ℤ) → frames_left x (fs ++ gs) a ≡ frames_left x fs (frames_left x gs a)
frames-append x [] gs a = refl
frames-append x (f ∷ fs) gs a = ap (frame_left x f) (frames-append x fs gs a)

-- an async whose frames stand upon those of the task
async_stands : (o n b : Task) (saved : Vec ℤ Global) → context_in n ≡ context_in o → context_in b ≡ context_in o → b.machine.inside.items ≡ [] →
    b.state ≡ state.Ready →
    o.state ≡ state.Ready → n.state ≡ state.Ready →
    o.machine.inside.items ≡ [] → o.machine.level.flow ≡ flow.Fell → n.machine.inside.items ≡ o.machine.inside.items →
    saved.items ≡ o.machine.level.vars.items →
    n.machine.level.flow ≡ b.machine.level.flow → n.machine.level.vars.items ≡ b.machine.level.vars.items →
    n.machine.level.frames.items ≡ (o.machine.level.frames.items ++ frame.Async saved ∷ []) ++ b.machine.level.frames.items →
    left_of n ≡ before (for_finish (left_of b) ++ Over ∷ []) (left_of o)
async_stands o n b saved cn cb bi bs os ns oi of ni sv nf nv fs =
    let x = context_in o in
    let lb = level_eval x b.machine.level in
    let q = for_finish lb ++ Over ∷ [] in
    let vars = o.machine.level.vars.items in
    let bl : left_of b ≡ lb = ready_left b bs ∙ ap (λ (is : List Inside). insides_left (context_in b) is (level_eval (context_in b) b.machine.level)) bi
    ∙ ap (λ c. level_eval c b.machine.level) cb in
    let ol : left_of o ≡ level_left x o.machine.level (quiet (Fell vars)) = ready_left o os
    ∙ ap (λ (is : List Inside). insides_left x is (level_eval x o.machine.level)) oi ∙ rw of refl in
    let nl : left_of n ≡ level_eval x n.machine.level = ready_left n ns ∙ ap (λ c. machine_eval c n.machine) cn
    ∙ ap (λ (is : List Inside). insides_left x is (level_eval x n.machine.level)) (ni ∙ oi) in
    let al : async_left vars lb ≡ before q (quiet (Fell vars)) =
    ap (λ (g : Acts). record { end = Fell vars; given = g }) (sym (append_assoc lb.given (end_codes lb.end) (Over ∷ [])) ∙ sym (nil_behind q)) in
    let inner : level_eval x n.machine.level ≡ level_left x o.machine.level (async_left vars lb) =
    rw (fs, nf, nv) (frames-append x (o.machine.level.frames.items ++ frame.Async saved ∷ []) b.machine.level.frames.items (level_now b.machine.level)
    ∙ frames-snoc x o.machine.level.frames.items (frame.Async saved) lb ∙ ap (λ (vs : List ℤ). level_left x o.machine.level (async_left vs lb)) sv) in
    nl ∙ inner ∙ ap (level_left x o.machine.level) al ∙ frames_before x o.machine.level.frames.items q (quiet (Fell vars))
    ∙ ap (before q) (sym ol) ∙ ap (λ (y : Eval ℤ). before (for_finish y ++ Over ∷ []) (left_of o)) (sym bl)

-- the end of a piece is no work and no move
over_work : work_of (Over ∷ []) ≡ 0
unfolding work_of
over_work = refl

over_moves : moves_of (Over ∷ []) ≡ 0
unfolding moves_of
over_moves = refl

work_over : (g : Acts) → work_of (g ++ Over ∷ []) ≡ work_of g
work_over g = work_both g (Over ∷ []) ∙ (let z = over_work in omega arith)

moves_over : (g : Acts) → moves_of (g ++ Over ∷ []) ≡ moves_of g
moves_over g = moves_both g (Over ∷ []) ∙ (let z = over_moves in omega arith)

work_async : (o n b : Task) → left_of n ≡ before (for_finish (left_of b) ++ Over ∷ []) (left_of o) →
    work_of (left_of n).given ≡ work_of (left_of b).given + work_of (left_of o).given
work_async o n b e =
    ap (λ (y : Eval ℤ). work_of y.given) e ∙ work_both (for_finish (left_of b) ++ Over ∷ []) (left_of o).given
    ∙ ap (λ (v : ℕ). v + work_of (left_of o).given) (work_over (for_finish (left_of b)) ∙ work_both (left_of b).given (end_codes (left_of b).end) ∙
    (let z = no_work (left_of b).end in omega arith))

pub async_taken : (o n b : Task) (saved : Vec ℤ Global) → fits_task o (part.Async b) → 0 < length b.machine.level.frames.items → context_in n ≡ context_in o →
    n.kind ≡ o.kind → n.state ≡ o.state →
    n.machine.inside.items ≡ o.machine.inside.items → saved.items ≡ o.machine.level.vars.items →
    n.machine.level.flow ≡ b.machine.level.flow → n.machine.level.vars.items ≡ b.machine.level.vars.items →
    n.machine.level.frames.items ≡ (o.machine.level.frames.items ++ frame.Async saved ∷ []) ++ b.machine.level.frames.items →
    TakesIn (task_view o) (task_view n) (part.Async (task_view b))
async_taken o n b saved (r, k, s, inr z) p cn kn sn ni sv nf nv fs = absurd (let y : length b.machine.level.frames.items ≡ 0 = ap length z in omega arith)
async_taken o n b saved (r, k, s, inl (oi, of)) p cn kn sn ni sv nf nv fs =
    let ns : n.state ≡ state.Ready = sn ∙ s in
    let e = async_stands o n b saved cn r.context r.inside r.state s ns oi of ni sv nf nv fs in
    let q = for_finish (left_of b) ++ Over ∷ [] in
    let g : for_finish (left_of n) ≡ q ++ for_finish (left_of o) = ap for_finish e ∙ finish_given q (left_of o) in
    let h : heard (for_finish (left_of n)) ≡ heard (for_finish (left_of b) ++ for_finish (left_of o)) =
    ap heard g ∙ heard_both q (for_finish (left_of o)) ∙ ap (λ (y : Acts). y ++ heard (for_finish (left_of o))) (heard_both (for_finish (left_of b))
    (Over ∷ []) ∙ nil_behind (heard (for_finish (left_of b)))) ∙ sym (heard_both (for_finish (left_of b)) (for_finish (left_of o))) in
    let pr : promise_left n.kind (left_of n) ≡ add o.kind (promise_left b.kind (left_of b)) (promise_left o.kind (left_of o)) =
    ap (λ (kd : FinishKind). promise_left kd (left_of n)) kn ∙ promise_heard o.kind (for_finish (left_of n)) (for_finish (left_of b) ++ for_finish
    (left_of o)) h
    ∙ promise_add o.kind (for_finish (left_of b)) (for_finish (left_of o))
    ∙ ap (λ (kd : FinishKind). add o.kind (promise_left kd (left_of b)) (promise_left o.kind (left_of o))) (sym k) in
    let w : work_of (left_of n).given ≡ work_of (left_of b).given + work_of (left_of o).given = work_async o n b e in
    let l : length (end_codes (left_of n).end) ≡ length (end_codes (left_of o).end) = ap (λ (y : Eval ℤ). length (end_codes y.end)) e in
    let fl : length n.machine.level.frames.items ≡ length o.machine.level.frames.items + 1 + length b.machine.level.frames.items =
    ap length fs ∙ length-append (o.machine.level.frames.items ++ frame.Async saved ∷ []) b.machine.level.frames.items
    ∙ ap (λ m. m + length b.machine.level.frames.items) (length-append o.machine.level.frames.items (frame.Async saved ∷ [])) in
    let iw : insides_frames n.machine.inside.items ≡ insides_frames o.machine.inside.items = ap insides_frames ni in
    record {
      kind = kn;
      means = λ z. absurd (cc);
      awaited = awaits n state.Ready ns;
      stage = stands n state.Ready ns;
      wild = λ _. refl;
      promise = λ _. pr;
      tame = λ t u. tame_ready n ns (λ z. two_faults (promise_left b.kind (left_of b)).fault
          (promise_left o.kind (left_of o)).fault u.promise.memory t.promise.memory (sym (ap (λ (y : Promise). y.fault) pr) ∙ z));
      size = omega arith;
    }
  where
    two_faults : (m n : ℕ) → m ≢ 0 → n ≢ 0 → min m n ≡ 0 → ⊥
    two_faults m n h g z = omega (arith, h, g, z)

-- nothing was left of it
pub nothing_taken : (o b : Task) → fits_task o (part.Async b) → b.machine.level.frames.items ≡ [] →
    TakesIn (task_view o) (task_view o) (part.Async (task_view b))
nothing_taken o b (r, k, s, z) e =
    let vars = b.machine.level.vars.items in
    let lb : left_of b ≡ quiet (Fell vars) = ready_left b r.state
    ∙ ap (λ (is : List Inside). insides_left (context_in b) is (level_eval (context_in b) b.machine.level)) r.inside ∙ rw (r.falls_through, e) refl in
    let pb : promise_left b.kind (left_of b) ≡ empty o.kind = ap (promise_left b.kind) lb ∙ promise_none b.kind ∙ ap empty k in
    let pr : promise_left o.kind (left_of o) ≡ add o.kind (promise_left b.kind (left_of b)) (promise_left o.kind (left_of o)) =
    sym (sym (promise_add o.kind [] (for_finish (left_of o))) ∙ refl)
    ∙ ap (λ (y : Promise). add o.kind y (promise_left o.kind (left_of o))) (promise_none o.kind ∙ sym pb) in
    record {
      kind = refl;
      means = λ z. absurd (cc);
      awaited = awaits o state.Ready s;
      stage = stands o state.Ready s;
      wild = λ _. refl;
      promise = λ _. pr;
      tame = λ t u. t;
      size = omega arith;
    }

-- ---- finishes

pub finish_taken : (o n b : Task) (f : FinishAt) → fits_task o (part.Finish f.kind b) → o.state ≡ state.Waits f → context_in n ≡ context_in o →
    n.kind ≡ o.kind →
    n.state ≡ state.Ready →
    machine_frames n.machine ≡ machine_frames o.machine + 2 →
    machine_left (context_in o) o.machine (finish_left f.kind (nothing f.kind) f.line (bind_if f.binds o.machine.level.vars.items)
    (awaited_body (context_in o) f o.machine)) ≡ machine_eval (context_in o) n.machine →
    TakesIn (task_view o) (task_view n) (part.Finish f.kind (task_view b))
finish_taken o n b f (r, k, rb) s cn kn ns wn e =
    let x = context_in o in
    let a = awaited_body x f o.machine in
    let bh = bind_if f.binds o.machine.level.vars.items in
    let q = a.given ++ Over ∷ [] in
    let blk = subst (λ (st : State). RunsBlock st f.kind o.machine b) s rb in
    let p = finish_promise o b f r k blk.1 blk.2 in
    let ol : left_of o ≡ behind_finish x f.line f.binds o.machine (job_total f.kind a) = ap (λ (st : State). left_by x st o.machine) s in
    let gives : finish_left f.kind (nothing f.kind) f.line bh a ≡ before (passed q) (quiet (finish_end f.line bh (job_total f.kind a))) =
    ap (λ (g : Acts). record { end = finish_end f.line bh (job_total f.kind a); given = g })
    (sym (flat_map-append passed_in a.given (Over ∷ [])) ∙ sym (nil_behind (passed q))) in
    let nl : left_of n ≡ before (passed q) (left_of o) =
    ready_left n ns ∙ ap (λ c. machine_eval c n.machine) cn ∙ sym e ∙ ap (machine_left x o.machine) gives
    ∙ machine_passed x o.machine q (quiet (finish_end f.line bh (job_total f.kind a))) ∙ ap (before (passed q)) (sym ol) in
    let g : for_finish (left_of n) ≡ passed q ++ for_finish (left_of o) = ap for_finish nl ∙ finish_given (passed q) (left_of o) in
    let lb : left_of b ≡ cut 0 (eval_block (around_of (context_in b) f.left) f.body.now o.machine.level.vars.items) =
    block_left b f.body f.left o.machine.level.vars.items r.state r.inside r.falls_through blk.1 blk.2 in
    let lg : (left_of b).given ≡ a.given = ap (λ (y : Eval ℤ). y.given) lb
    ∙ ap (λ c. (eval_block (around_of c f.left) f.body.now o.machine.level.vars.items).given) r.context in
    let m : moves_of q ≡ (promise_left b.kind (left_of b)).moves = moves_over a.given ∙ ap moves_of (sym lg) ∙ sym (block_moves (left_of b)) in
    let pr : promise_left n.kind (left_of n) ≡ with_part o.kind (part.Finish f.kind (task_view b)) (promise_left o.kind (left_of o)) =
    ap (λ (kd : FinishKind). promise_left kd (left_of n)) kn ∙ ap (promised_by o.kind) g ∙ promise_passed o.kind q (for_finish (left_of o))
    ∙ ap (λ (mm : ℕ). record {
      gift = (promise_left o.kind (left_of o)).gift;
      fault = (promise_left o.kind (left_of o)).fault;
      moves = mm + (promise_left o.kind (left_of o)).moves;
    }) m in
    let w : work_of (left_of n).given ≡ work_of (left_of b).given + work_of (left_of o).given =
    ap (λ (y : Eval ℤ). work_of y.given) nl ∙ work_both (passed q) (left_of o).given
    ∙ ap (λ (v : ℕ). v + work_of (left_of o).given) (work_passed q ∙ work_over a.given ∙ ap work_of (sym lg)) in
    let l : length (end_codes (left_of n).end) ≡ length (end_codes (left_of o).end) = ap (λ (y : Eval ℤ). length (end_codes y.end)) nl in
    let fb : length b.machine.level.frames.items ≡ 1 = ap length blk.2 in
    record {
      kind = kn;
      means = λ z. absurd (cc);
      awaited = awaits n state.Ready ns;
      stage = stands n state.Ready ns;
      wild = λ _. refl;
      promise = λ _. pr;
      tame = λ t u. tame_ready n ns (λ z. t.promise.memory (sym (ap (λ (y : Promise). y.fault) pr) ∙ z));
      size = omega arith;
    }
