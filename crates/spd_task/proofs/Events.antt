-- Each thing that a machine meets, as the event of a task.
use Rattle.std.proofs.Common.{◌≡◌, ℕ, ◌+◌, ◌*◌, ◌<◌, ◌≤◌, List, [], ◌∷◌, ◌++◌, length, refl, sym, ◌∙◌, ap, subst, arith, append_assoc, ℤ, Bool, Bor, inl, inr}
use Rattle.std.proofs.lemmas.Grind.{flat_map-append}
use Rattle.spd_words.specs.Gift.{no_fault}
use Rattle.spd_words.specs.Total.{Total, settle, nothing, ended}
use Rattle.spd_words.specs.declared.tally.Given.{Given}
use Rattle.spd_words.specs.BodyCalls.{carried, event_seen}
use Rattle.spd_words.specs.declared.finish_kind.FinishKind.{FinishKind}
use Rattle.spd_words.specs.declared.event.Event.TheVariants as event
use Rattle.spd_code.specs.declared.stmt.CodeBlock.{CodeBlock}
use Rattle.spd_meaning.specs.Acts.{Acts, Code, Begin, Async, Finish, Over, heard, passed, passed_in, work_of}
use Rattle.spd_meaning.specs.Eval.{End, Fell, Back, Fault, Eval, quiet, before, cut, for_finish, end_codes, async_of}
use Rattle.spd_meaning.specs.Eval.{finish_of, finish_end, collected, job_total}
use Rattle.spd_code.specs.Coded.{Context, around_of, eval_block}
use Rattle.spd_code.specs.Places.{bind_if}
use Rattle.spd_level.specs.declared.frame.Frame.{Frame}
use Rattle.spd_task.specs.declared.task.State.{State}
use Rattle.spd_level.specs.Left.{level_left, frames_left, level_eval, flow_end, level_now}
use Rattle.spd_machine.specs.Machine.{insides_frames, machine_frames, machine_left, machine_eval, insides_left, MachineTurn}
use Rattle.spd_level.specs.declared.step.FinishAt.{FinishAt}
use Rattle.spd_machine.specs.declared.machine.Inside.{Inside}
use Rattle.spd_machine.specs.declared.machine.Machine.{Machine}
use Rattle.spd_machine.specs.declared.machine.Met.{Met}
use Rattle.spd_machine.specs.declared.machine.Met.TheVariants as met
use Rattle.spd_level.specs.declared.frame.Flow.TheVariants as flow
use Rattle.spd_level.specs.declared.frame.Frame.TheVariants as frame
use Rattle.spd_meaning.proofs.Sequence.{before_both, nil_behind}
use Rattle.spd_level.proofs.Through.{frames_before}
use Rattle.spd_level.proofs.Turns.{entered, codes_cut}
use Rattle.spd_meaning.proofs.Hearing.{heard_both, work_both, work_passed}
use Rattle.spd_machine.proofs.Moving.{machine_passed}
use Rattle.spd_machine.proofs.Eliding.{finish_given}
use Rattle.spd_task.specs.declared.task.State.TheVariants as state
use Rattle.spd_task.specs.declared.task.Task.{Task}
use Rattle.spd_task.specs.Task.{behind_finish, left_by, context_in, left_of, task_view, IsFreshTask, RunsBlock}
use Rattle.spd_task.specs.TaskEvents.{TaskGave}

-- ---- sizes

pub one_end : (e : End ℤ) → length (end_codes e) ≤ 1
one_end (Fell vars) = omega arith
one_end (Back v) = omega arith
one_end (Fault c) = omega arith

pub no_work : (e : End ℤ) → work_of (end_codes e) ≡ 0
unfolding work_of
no_work (Fell vars) = refl
no_work (Back v) = refl
no_work (Fault c) = refl

pub size_falls : (a b : Eval ℤ) (p : Acts) (n k more : ℕ) → a ≡ before p b → k + more < 4 * work_of p + n →
    4 * work_of b.given + k + length (end_codes b.end) + more < 4 * work_of a.given + n + length (end_codes a.end)
size_falls a b p n k more e h =
    let w : work_of a.given ≡ work_of p + work_of b.given = ap (λ (x : Eval ℤ). work_of x.given) e ∙ work_both p b.given in
    let l : length (end_codes a.end) ≡ length (end_codes b.end) = ap (λ (x : Eval ℤ). length (end_codes x.end)) e in
    omega arith

-- ---- states

pub ready_left : (t : Task) → t.state ≡ state.Ready → left_of t ≡ machine_eval (context_in t) t.machine
ready_left t e = ap (λ s. left_by (context_in t) s t.machine) e

-- ---- parts of the same values

pub async_cut : (vars : List ℤ) (n : ℕ) (e : Eval ℤ) → async_of vars (cut n e) ≡ async_of vars e
async_cut vars n e = ap (λ (cs : Acts). record { end = Fell vars; given = Begin Async ∷ (e.given ++ (cs ++ Over ∷ [])) }) (codes_cut n e.end)

pub total_cut : (kind : FinishKind) (n : ℕ) (e : Eval ℤ) → job_total kind (cut n e) ≡ job_total kind e
total_cut kind n e = ap (λ (cs : Acts). settle (collected kind (nothing kind) (e.given ++ cs))) (codes_cut n e.end)

pub finish_cut : (kind : FinishKind) (line : ℕ) (h : ℤ → List ℤ) (n : ℕ) (e : Eval ℤ) → finish_of kind line h (cut n e) ≡ finish_of kind line h e
finish_cut kind line h n e = ap (λ (t : Total). record { end = finish_end line h t; given = Begin Finish ∷ (passed e.given ++ Over ∷ []) }) (total_cut kind n e)

-- an async is all that it gives, and then the values as they were
pub async_given : (vars : List ℤ) (e : Eval ℤ) → async_of vars e ≡ before (Begin Async ∷ (for_finish e ++ Over ∷ [])) (quiet (Fell vars))
async_given vars e = ap (λ (g : Acts). record { end = Fell vars; given = Begin Async ∷ g })
    (sym (append_assoc e.given (end_codes e.end) (Over ∷ [])) ∙ sym (nil_behind (for_finish e ++ Over ∷ [])))

pub finish_gives : (kind : FinishKind) (line : ℕ) (h : ℤ → List ℤ) (e : Eval ℤ) →
    finish_of kind line h e ≡ before (passed (Begin Finish ∷ (e.given ++ Over ∷ []))) (quiet (finish_end line h (job_total kind e)))
finish_gives kind line h e = ap (λ (g : Acts). record { end = finish_end line h (job_total kind e); given = Begin Finish ∷ g })
    (sym (flat_map-append passed_in e.given (Over ∷ [])) ∙ sym (nil_behind (passed (e.given ++ Over ∷ []))))

-- a fresh task that runs a block
pub block_left : (t : Task) (body : Bor CodeBlock) (left : ℕ) (vars : List ℤ) → t.state ≡ state.Ready → t.machine.inside.items ≡ [] →
    t.machine.level.flow ≡ flow.Fell → t.machine.level.vars.items ≡ vars → t.machine.level.frames.items ≡ frame.Block body 0 0 left ∷ [] →
    left_of t ≡ cut 0 (eval_block (around_of (context_in t) left) body.now vars)
block_left t body left vars e i f vs fs =
    ready_left t e ∙ ap (λ (is : List Inside). insides_left (context_in t) is (level_eval (context_in t) t.machine.level)) i
    ∙ rw (f, vs, fs) (sym (entered (context_in t) left body 0 vars))

weighs : (m : Machine) (k : ℕ) → length m.level.frames.items ≡ k → m.inside.items ≡ [] → machine_frames m ≡ k
weighs m k e i = let w : insides_frames m.inside.items ≡ 0 = ap insides_frames i in omega arith

-- a machine without frames, where nothing went wrong
quiet_machine : (x : Context) (m : Machine) → m.level.flow ≡ flow.Fell → m.level.frames.items ≡ [] → m.inside.items ≡ [] →
    machine_eval x m ≡ quiet (Fell m.level.vars.items)
quiet_machine x m f fs is = rw (f, fs, is) refl

over_left : (t : Task) → t.state ≡ state.Ended → t.machine.level.flow ≡ flow.Fell → t.machine.level.frames.items ≡ [] → t.machine.inside.items ≡ [] →
    for_finish (left_of t) ≡ []
over_left t s f fs is = ap for_finish (ap (λ st. left_by (context_in t) st t.machine) s ∙ quiet_machine (context_in t) t.machine f fs is)

runs_block : (t b : Task) (f : FinishAt) → t.state ≡ state.Waits f → b.machine.level.vars.items ≡ t.machine.level.vars.items →
    b.machine.level.frames.items ≡ frame.Block f.body 0 0 f.left ∷ [] → RunsBlock t.state f.kind t.machine b
runs_block t b f s vs fs = rw s (refl, vs, fs)

module _ (o n : Task) (a : Eval ℤ) (w : ℕ) (context : context_in n ≡ context_in o) (kind : n.kind ≡ o.kind) where
  pub gave_offer : (x : ℤ) → n.state ≡ state.Ready → MachineTurn (context_in n) a w n.machine (met.Offer x) → TaskGave a w o n (event.Offer x)
  gave_offer x s h =
      let e : a ≡ before h.given (left_of n) = h.is ∙ ap (before h.given) (sym (ready_left n s)) in
      record {
        context = context;
        kind = kind;
        next = (h.given, e, h.said);
        given = h.given;
        is = ap for_finish e ∙ finish_given h.given (left_of n);
        hears = h.said;
        after = s;
        falls = size_falls a (left_of n) h.given w (machine_frames n.machine) 0 e (let f = h.falls in omega arith);
      }

  pub gave_fault : (c : ℕ) → c < no_fault → n.state ≡ state.Ready → MachineTurn (context_in n) a w n.machine (met.Fault c) → TaskGave a w o n (event.Fault c)
  gave_fault c l s h =
      let e : a ≡ before h.given (left_of n) = h.is ∙ ap (before h.given) (sym (ready_left n s)) in
      let q = ap for_finish e ∙ finish_given h.given (left_of n) in
      record {
        context = context;
        kind = kind;
        next = (h.given, q, h.said);
        given = h.given;
        is = q;
        hears = h.said;
        after = (s, l);
        falls = size_falls a (left_of n) h.given w (machine_frames n.machine) 0 e (let f = h.falls in omega arith);
      }

  -- an async that runs inside already: its move is an event, and nothing is left of it
  pub gave_held : (b : Task) → n.state ≡ state.Ready → IsFreshTask n b → b.kind ≡ n.kind → b.machine.level.frames.items ≡ [] → b.machine.level.vars.items ≡ [] →
      MachineTurn (context_in n) a w n.machine met.Held → TaskGave a w o n (event.Async b)
  unfolding work_of
  gave_held b s r k fs vs h =
      let e : a ≡ before h.given (left_of n) = h.is ∙ ap (before h.given) (sym (ready_left n s)) in
      let lb : left_of b ≡ quiet (Fell []) = ready_left b r.state ∙ ap (λ (is : List Inside). insides_left (context_in b) is
      (level_eval (context_in b) b.machine.level)) r.inside ∙ rw (r.falls_through, vs, fs) refl in
      let z : heard (for_finish (left_of b)) ≡ [] = ap (λ (x : Eval ℤ). heard (for_finish x)) lb in
      let zw : 4 * work_of (left_of b).given + length (end_codes (left_of b).end) ≡ 0 =
      ap (λ (x : Eval ℤ). 4 * work_of x.given + length (end_codes x.end)) lb in
      let wb : machine_frames b.machine ≡ 0 = weighs b.machine 0 (ap length fs) r.inside in
      record {
        context = context;
        kind = kind;
        next = inr (h.stands, z, (h.given, e, h.said));
        given = h.given;
        is = ap for_finish e ∙ finish_given h.given (left_of n);
        hears = h.said ∙ ap (λ (g : Acts). Begin Async ∷ g) (sym z);
        after = (r, k, s, inr fs);
        falls = let f = size_falls a (left_of n) h.given w (machine_frames n.machine) 1 e (let g = h.falls in omega arith) in omega arith;
      }

  -- an async that another task runs
  pub gave_async : (b : Task) (body : Bor CodeBlock) (left : ℕ) → n.state ≡ state.Ready → IsFreshTask n b → b.kind ≡ n.kind →
      b.machine.level.vars.items ≡ n.machine.level.vars.items → b.machine.level.frames.items ≡ frame.Block body 0 0 left ∷ [] →
      MachineTurn (context_in n) a w n.machine (met.Async body left) → TaskGave a w o n (event.Async b)
  unfolding work_of
  gave_async b body left s r k vs fs h =
      let x = context_in n in
      let vars = n.machine.level.vars.items in
      let e = eval_block (around_of x left) body.now vars in
      let lb : left_of b ≡ cut 0 e = block_left b body left vars r.state r.inside r.falls_through vs fs
      ∙ ap (λ c. cut 0 (eval_block (around_of c left) body.now vars)) r.context in
      let f : n.machine.level.flow ≡ flow.Fell = h.stands.0 in
      let is_async : a ≡ before h.given (machine_left x n.machine (async_of vars (left_of b))) = h.is
      ∙ ap (λ (y : Eval ℤ). before h.given (machine_left x n.machine y)) (sym (async_cut vars 0 e) ∙ ap (async_of vars) (sym lb)) in
      let q = Begin Async ∷ (for_finish (left_of b) ++ Over ∷ []) in
      let now : level_now n.machine.level ≡ quiet (Fell vars) = rw f refl in
      let inner : machine_left x n.machine (async_of vars (left_of b)) ≡ before q (left_of n) =
      ap (λ (is : List Inside). insides_left x is (level_left x n.machine.level (async_of vars (left_of b)))) h.stands.1
      ∙ ap (level_left x n.machine.level) (async_given vars (left_of b)) ∙ frames_before x n.machine.level.frames.items q (quiet (Fell vars))
      ∙ ap (before q) (ap (level_left x n.machine.level) (sym now)
      ∙ ap (λ (is : List Inside). insides_left x is (level_eval x n.machine.level)) (sym h.stands.1) ∙ sym (ready_left n s)) in
      let all : a ≡ before (h.given ++ q) (left_of n) = is_async ∙ ap (before h.given) inner ∙ before_both h.given q (left_of n) in
      let wq : work_of (h.given ++ q) ≡ work_of h.given + work_of (left_of b).given =
      work_both h.given q ∙ (let u = work_both (for_finish (left_of b)) (Over ∷ []) in let v = work_both (left_of b).given (end_codes (left_of b).end) in
      let y = no_work (left_of b).end in omega arith) in
      let hq : heard q ≡ Begin Async ∷ heard (for_finish (left_of b)) =
      ap (λ (g : Acts). Begin Async ∷ g) (heard_both (for_finish (left_of b)) (Over ∷ []) ∙ nil_behind (heard (for_finish (left_of b)))) in
      let wb : machine_frames b.machine ≡ 1 = weighs b.machine 1 (ap length fs) r.inside in
      let oe = one_end (left_of b).end in
      record {
        context = context;
        kind = kind;
        next = inl (h.stands.1, (h.given, is_async, h.said));
        given = h.given ++ q;
        is = ap for_finish all ∙ finish_given (h.given ++ q) (left_of n);
        hears = heard_both h.given q ∙ ap (λ (g : Acts). g ++ heard q) h.said ∙ hq;
        after = (r, k, s, inl (h.stands.1, f));
        falls = let g = h.falls in let z = size_falls a (left_of n) (h.given ++ q) w (machine_frames n.machine) (carried
            (event_seen task_view (event.Async b))) all (omega arith) in omega arith;
      }

  -- a finish that another task runs
  pub gave_finish : (b : Task) (f : FinishAt) → n.state ≡ state.Waits f → IsFreshTask n b → b.kind ≡ f.kind →
      b.machine.level.vars.items ≡ n.machine.level.vars.items → b.machine.level.frames.items ≡ frame.Block f.body 0 0 f.left ∷ [] →
      MachineTurn (context_in n) a w n.machine (met.Finish f) → TaskGave a w o n (event.Finish f.kind b)
  unfolding work_of
  gave_finish b f s r k vs fs h =
      let x = context_in n in
      let m = n.machine in
      let vars = m.level.vars.items in
      let e = eval_block (around_of x f.left) f.body.now vars in
      let bh = bind_if f.binds vars in
      let lb : left_of b ≡ cut 0 e = block_left b f.body f.left vars r.state r.inside r.falls_through vs fs
      ∙ ap (λ c. cut 0 (eval_block (around_of c f.left) f.body.now vars)) r.context in
      let is_finish : a ≡ before h.given (machine_left x m (finish_of f.kind f.line bh (left_of b))) =
      h.is ∙ ap (λ (y : Eval ℤ). before h.given (machine_left x m y)) (sym (finish_cut f.kind f.line bh 0 e) ∙ ap (finish_of f.kind f.line bh) (sym lb)) in
      let q = passed (Begin Finish ∷ ((left_of b).given ++ Over ∷ [])) in
      let total : job_total f.kind (left_of b) ≡ job_total f.kind e = ap (job_total f.kind) lb ∙ total_cut f.kind 0 e in
      let waits : behind_finish x f.line f.binds m (job_total f.kind (left_of b)) ≡ left_of n = ap (behind_finish x f.line f.binds m) total
      ∙ ap (λ st. left_by x st m) (sym s) in
      let inner : machine_left x m (finish_of f.kind f.line bh (left_of b)) ≡ before q (left_of n) =
      ap (machine_left x m) (finish_gives f.kind f.line bh (left_of b))
      ∙ machine_passed x m (Begin Finish ∷ ((left_of b).given ++ Over ∷ [])) (quiet (finish_end f.line bh (job_total f.kind (left_of b))))
      ∙ ap (before q) waits in
      let all : a ≡ before (h.given ++ q) (left_of n) = is_finish ∙ ap (before h.given) inner ∙ before_both h.given q (left_of n) in
      let wq : work_of (h.given ++ q) ≡ work_of h.given + work_of (left_of b).given =
      work_both h.given q ∙ (let u = work_both (left_of b).given (Over ∷ []) in let v = work_passed ((left_of b).given ++ Over ∷ []) in omega arith) in
      let hq : heard q ≡ Begin Finish ∷ heard (passed (left_of b).given) =
      ap (λ (g : Acts). Begin Finish ∷ heard g) (flat_map-append passed_in (left_of b).given (Over ∷ []))
      ∙ ap (λ (g : Acts). Begin Finish ∷ g) (heard_both (passed (left_of b).given) (Over ∷ []) ∙ nil_behind (heard (passed (left_of b).given))) in
      let wb : machine_frames b.machine ≡ 1 = weighs b.machine 1 (ap length fs) r.inside in
      let oe = one_end (left_of b).end in
      record {
        context = context;
        kind = kind;
        next = (f, s, refl, (h.given, is_finish, h.said));
        given = h.given ++ q;
        is = ap for_finish all ∙ finish_given (h.given ++ q) (left_of n);
        hears = heard_both h.given q ∙ ap (λ (g : Acts). g ++ heard q) h.said ∙ hq;
        after = (r, k, runs_block n b f s vs fs);
        falls = let g = h.falls in let z = size_falls a (left_of n) (h.given ++ q) w (machine_frames n.machine) (carried
            (event_seen task_view (event.Finish f.kind b))) all (omega arith) in omega arith;
      }

  -- nothing is left
  pub gave_over : (m : Machine) → n.state ≡ state.Ended → end_codes (flow_end m.level.flow m.level.vars.items) ≡ [] → n.machine.level.flow ≡ flow.Fell →
      n.machine.level.frames.items ≡ m.level.frames.items → n.machine.inside.items ≡ m.inside.items →
      MachineTurn (context_in n) a w m met.Over → TaskGave a w o n event.Over
  gave_over m s z f fs is h =
      let x = context_in n in
      let st = h.stands in
      let ends : machine_eval x m ≡ level_now m.level = rw (st.0, st.1) refl in
      let e : for_finish a ≡ h.given = ap for_finish (h.is ∙ ap (before h.given) ends) ∙ ap (λ (cs : Acts). (h.given ++ []) ++ cs) z
      ∙ nil_behind (h.given ++ []) ∙ nil_behind h.given in
      let ln : for_finish (left_of n) ≡ [] = over_left n s f (fs ∙ st.0) (is ∙ st.1) in
      record {
        context = context;
        kind = kind;
        next = ap heard e ∙ h.said;
        given = h.given;
        is = e ∙ sym (nil_behind h.given) ∙ ap (λ (g : Acts). h.given ++ g) (sym ln);
        hears = h.said;
        after = s;
        falls = tt;
      }

  -- the task itself ended in a fault
  pub gave_own : (m : Machine) (c : ℕ) → c < no_fault → n.state ≡ state.Ready → m.level.flow ≡ flow.Fault c → n.machine.level.flow ≡ flow.Fell →
      n.machine.level.frames.items ≡ m.level.frames.items → n.machine.inside.items ≡ m.inside.items →
      MachineTurn (context_in n) a w m met.Over → TaskGave a w o n (event.Fault c)
  unfolding work_of
  gave_own m c l s z f fs is h =
      let x = context_in n in
      let st = h.stands in
      let ends : machine_eval x m ≡ quiet (Fault c) = rw (st.0, st.1, z) refl in
      let e : a ≡ before h.given (quiet (Fault c)) = h.is ∙ ap (before h.given) ends in
      let q : for_finish a ≡ h.given ++ Code c ∷ [] = ap for_finish e ∙ ap (λ (g : Acts). g ++ Code c ∷ []) (nil_behind h.given) in
      let ln : left_of n ≡ quiet (Fell n.machine.level.vars.items) = ready_left n s ∙ quiet_machine x n.machine f (fs ∙ st.0) (is ∙ st.1) in
      let all : for_finish a ≡ (h.given ++ Code c ∷ []) ++ for_finish (left_of n) = q ∙ sym (nil_behind (h.given ++ Code c ∷ []))
      ∙ ap (λ (y : Eval ℤ). (h.given ++ Code c ∷ []) ++ for_finish y) (sym ln) in
      let hs : heard (h.given ++ Code c ∷ []) ≡ Code c ∷ [] = heard_both h.given (Code c ∷ []) ∙ ap (λ (g : Acts). g ++ Code c ∷ []) h.said in
      let wn : machine_frames n.machine ≡ 0 = weighs n.machine 0 (ap length (fs ∙ st.0)) (is ∙ st.1) in
      let zn : work_of (left_of n).given ≡ 0 = ap (λ (y : Eval ℤ). work_of y.given) ln in
      let en : length (end_codes (left_of n).end) ≡ 0 = ap (λ (y : Eval ℤ). length (end_codes y.end)) ln in
      let ea : length (end_codes a.end) ≡ 1 = ap (λ (y : Eval ℤ). length (end_codes y.end)) e in
      record {
        context = context;
        kind = kind;
        next = (h.given ++ Code c ∷ [], all, hs);
        given = h.given ++ Code c ∷ [];
        is = all;
        hears = hs;
        after = (s, l);
        falls = omega arith;
      }

pub moved_from : (x : Context) (a b : Eval ℤ) (n k : ℕ) (m : Machine) (t : Met) → a ≡ b → k ≡ n → MachineTurn x b k m t → MachineTurn x a n m t
moved_from x a b n k m t e w h = subst (λ (y : Eval ℤ). MachineTurn x y n m t) (sym e) (subst (λ (z : ℕ). MachineTurn x b z m t) w h)

-- a finish that ended has been settled
pub resumes_so : (x : Context) (s : State) (m n : Machine) (binds : Bool) (line : ℕ) (given : Given) → s ≡ state.Resumed binds line given →
    n.inside.items ≡ m.inside.items → n.level.frames.items ≡ m.level.frames.items →
    level_now n.level ≡ quiet (finish_end line (bind_if binds m.level.vars.items) (ended given)) → left_by x s m ≡ machine_eval x n
resumes_so x s m n binds line given e i fs now =
    ap (λ (st : State). left_by x st m) e
    ∙ ap (machine_left x m) (sym now) ∙ ap (λ (zs : List Frame). insides_left x m.inside.items (frames_left x zs (level_now n.level))) (sym fs)
    ∙ ap (λ (is : List Inside). insides_left x is (level_eval x n.level)) (sym i)
