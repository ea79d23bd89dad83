-- Turns of a spine from those of its level, one after the other.
use Rattle.std.proofs.Common.{◌≡◌, ◌≢◌, ℕ, ◌+◌, ◌*◌, ◌<◌, ◌≤◌, [], ◌∷◌, ◌++◌, length, refl, sym, ◌∙◌, ap, subst, arith, ℤ, Bor}
use Rattle.std.proofs.lemmas.List.{append-nil}
use Rattle.spd_io.specs.Sink.{SinkState, Gets, GetsFront}
use Rattle.spd_words.specs.Total.{Total, nothing}
use Rattle.spd_words.specs.declared.finish_kind.FinishKind.TheVariants as kind
use Rattle.spd_meaning.specs.Acts.{Acts, work_of}
use Rattle.spd_meaning.specs.Eval as eval
use Rattle.spd_meaning.specs.Eval.{Fell, Back, Fault, Eval, quiet, before, cut, cut_end}
use Rattle.spd_meaning.specs.Printed.{printed}
use Rattle.spd_meaning.proofs.Sequence.{before_both}
use Rattle.spd_code.specs.declared.stmt.CodeBlock.{CodeBlock}
use Rattle.spd_code.specs.Coded.{Context, around_of, eval_block}
use Rattle.spd_level.specs.Left.{level_eval}
use Rattle.spd_level.specs.declared.frame.Frame.TheVariants as frame
use Rattle.spd_level.specs.declared.frame.Flow.TheVariants as flow
use Rattle.spd_level.specs.declared.level.Level.{Level}
use Rattle.spd_level.proofs.Turns.{entered}
use Rattle.spd_machine.specs.declared.job.Job.{Job}
use Rattle.spd_spine.specs.Walk.{behind_job, main_eval, EndsSo, spine_context, left_so, left_with, spine_left, size_with, spine_size, PutSoFar, PutBeforeJob, job_acts, total_of_job, MeetsJob, EndsMain, EndTold, TurnsSo, SpineTurned, GoesOn}
use Rattle.spd_spine.specs.declared.turn.End.{End}
use Rattle.spd_spine.specs.declared.turn.End.TheVariants as end
use Rattle.spd_spine.specs.declared.turn.SpineTurn.{SpineTurn}
use Rattle.spd_spine.specs.declared.turn.SpineTurn.TheVariants as turn
use Rattle.spd_spine.specs.declared.spine.Standing.{Standing}
use Rattle.spd_spine.specs.declared.spine.Standing.TheVariants as standing
use Rattle.spd_spine.specs.declared.spine.Spine.{Spine}
use Rattle.spd_spine.proofs.Putting.{gets_then, gets_nothing, front_then}
use Rattle.spd_spine.proofs.Walking.{printed_both, put_both, level_size}

-- ---- a spine that runs

pub left_runs : (s : Spine) → s.standing ≡ standing.Runs → spine_left s ≡ level_eval (spine_context s) s.level
left_runs s e = ap (λ (st : Standing). left_so (spine_context s) st s.level (nothing kind.Plain)) e

size_runs : (s : Spine) → s.standing ≡ standing.Runs → spine_size s ≡ level_size (spine_context s) s.level
size_runs s e = ap (λ (a : Eval ℤ). 4 * work_of a.given + length s.level.frames.items) (left_runs s e)

pub front_runs : (s : Spine) (was is_now : SinkState) → s.standing ≡ standing.Runs →
    GetsFront was is_now (printed (level_eval (spine_context s) s.level).given) →
    GetsFront was is_now (printed (spine_left s).given)
front_runs s was is_now e front = subst (λ (a : Eval ℤ). GetsFront was is_now (printed a.given)) (sym (left_runs s e)) front

-- the same stretch of what is the same
pub told_of_same : (a a' b b' : Eval ℤ) (x y : SinkState) → a ≡ a' → b ≡ b' → PutBeforeJob a' b' x y → PutBeforeJob a b x y
told_of_same a a' b b' x y e f p = record { given = p.given; is = e ∙ p.is ∙ ap (before p.given) (sym f); put = p.put; no_job = p.no_job }

-- A spine over the same code and columns whose level went on.
pub goes_on : (o n : Spine) (was is_now : SinkState) → n.code ≡ o.code → n.columns ≡ o.columns → o.standing ≡ standing.Runs → n.standing ≡ standing.Runs →
    PutBeforeJob (level_eval (spine_context o) o.level) (level_eval (spine_context o) n.level) was is_now →
    level_size (spine_context o) n.level < level_size (spine_context o) o.level → GoesOn o n was is_now
goes_on o n was is_now code columns os ns p falls =
    let same : spine_context n ≡ spine_context o = rw (code, columns) refl in
    let ln : spine_left n ≡ level_eval (spine_context o) n.level = left_runs n ns ∙ ap (λ (x : Context). level_eval x n.level) same in
    let sn : spine_size n ≡ level_size (spine_context o) n.level = size_runs n ns ∙ ap (λ (x : Context). level_size x n.level) same in
    record {
      next = told_of_same (spine_left o) (level_eval (spine_context o) o.level) (spine_left n) (level_eval (spine_context o) n.level) was is_now (left_runs o
          os) ln p;
      runs = ns;
      falls = let so = size_runs o os in omega arith;
    }

-- A spine whose level came to a job, for which it waits.
pub meets : (o n : Spine) (at : SinkState) (job : Job) (line : ℕ) (binds : _) → n.code ≡ o.code → n.columns ≡ o.columns → o.standing ≡ standing.Runs →
    n.standing ≡ standing.Waits line binds →
    PutBeforeJob (level_eval (spine_context o) o.level)
    (before (job_acts (spine_context o) job.body) (behind_job (spine_context o) n.level line binds (total_of_job (spine_context o) job))) at at →
    printed (job_acts (spine_context o) job.body) ≡ [] →
    4 * work_of (behind_job (spine_context o) n.level line binds (total_of_job (spine_context o) job)).given + length n.level.frames.items
    < level_size (spine_context o) o.level →
    MeetsJob (spine_context o) (spine_left o) (spine_size o) n at at job
meets o n at job line binds code columns os ns p z falls =
    let total = total_of_job (spine_context o) job in
    let rest = behind_job (spine_context o) n.level line binds total in
    let same : spine_context n ≡ spine_context o = rw (code, columns) refl in
    let ln : left_with n total ≡ rest = ap (λ (st : Standing). left_so (spine_context n) st n.level total) ns
    ∙ ap (λ (x : Context). behind_job x n.level line binds total) same in
    let acts = job_acts (spine_context o) job.body in
    record {
      next = told_of_same (spine_left o) (level_eval (spine_context o) o.level) (before acts (left_with n total)) (before acts rest) at at (left_runs o os)
          (ap (before acts) ln) p;
      no_line = z;
      waits = rw ns tt;
      falls = let so = size_runs o os in let sn = ap (λ (a : Eval ℤ). 4 * work_of a.given + length n.level.frames.items) ln in omega arith;
    }

-- ---- turns one after the other

pub turn_ends : (o n : Spine) (was is_now : SinkState) (by : SpineTurn) (last : eval.End ℤ) → EndTold by last →
    PutBeforeJob (spine_left o) (quiet last) was is_now → TurnsSo o n was is_now by
turn_ends o n was is_now (turn.Region job) last e p = absurd e
turn_ends o n was is_now turn.Done last e p = record { last = last; next = p; ends = e }
turn_ends o n was is_now (turn.Fault code) last e p = record { last = last; next = p; ends = e }
turn_ends o n was is_now turn.Stopped last e p = absurd e
turn_ends o n was is_now turn.NoMemory last e p = absurd e

pub turns_behind : (o m n : Spine) (start was is_now : SinkState) (by : SpineTurn) → spine_context m ≡ spine_context o →
    PutBeforeJob (spine_left o) (spine_left m) start was →
    spine_size m ≤ spine_size o → TurnsSo m n was is_now by → TurnsSo o n start is_now by
turns_behind o m n start was is_now (turn.Region job) e p le t =
    let u = subst (λ (x : Context). MeetsJob x (spine_left m) (spine_size m) n was is_now job) e t in
    record {
      next = put_both (spine_left o) (spine_left m) (before (job_acts (spine_context o) job.body) (left_with n (total_of_job (spine_context o) job))) start
          was is_now p u.next;
      no_line = u.no_line;
      waits = u.waits;
      falls = let f = u.falls in omega arith;
    }
turns_behind o m n start was is_now turn.Done e p le t =
    record { last = t.last; next = put_both (spine_left o) (spine_left m) (quiet t.last) start was is_now p t.next; ends = t.ends }
turns_behind o m n start was is_now (turn.Fault code) e p le t =
    record { last = t.last; next = put_both (spine_left o) (spine_left m) (quiet t.last) start was is_now p t.next; ends = t.ends }
turns_behind o m n start was is_now turn.Stopped e p le t = absurd t
turns_behind o m n start was is_now turn.NoMemory e p le t = absurd t

pub front_behind : (a b : Eval ℤ) (start was is_now : SinkState) → PutBeforeJob a b start was → GetsFront was is_now (printed b.given) →
    GetsFront start is_now (printed a.given)
front_behind a b start was is_now p front =
    let g : printed a.given ≡ printed p.given ++ printed b.given = ap (λ (y : Eval ℤ). printed y.given) p.is ∙ printed_both p.given b.given in
    rw g (front_then start was is_now (printed p.given) (printed b.given) p.put front)

pub turned_so : (o n : Spine) (was is_now : SinkState) (by : SpineTurn) → TurnsSo o n was is_now by → SpineTurned o n was is_now by
turned_so o n was is_now (turn.Region job) t = t
turned_so o n was is_now turn.Done t = t
turned_so o n was is_now (turn.Fault code) t = t
turned_so o n was is_now turn.Stopped t = absurd t
turned_so o n was is_now turn.NoMemory t = absurd t

pub never_stops : (o n : Spine) (was is_now : SinkState) (by : SpineTurn) → TurnsSo o n was is_now by → by ≢ turn.Stopped
never_stops o n was is_now by t e = subst (λ (b : SpineTurn). TurnsSo o n was is_now b) e t

-- ---- main as a whole

abbrev pub whole_main : Context → Eval ℤ
whole_main context = cut 0 (main_eval context)

pub begins_so : (context : Context) (level : Level) (body : Bor CodeBlock) → body.now ≡ context.code.main → level.flow ≡ flow.Fell → level.vars.items ≡ [] →
    level.frames.items ≡ frame.Block body 0 0 256 ∷ [] → level_eval context level ≡ whole_main context
begins_so context level body e f vs fs =
    sym (ap (λ (b : CodeBlock). cut 0 (eval_block (around_of context 256) b [])) (sym e) ∙ entered context 256 body 0 [] ∙ rw (f, vs, fs) refl)

pub begun : (whole rest : Eval ℤ) (at : SinkState) → rest ≡ whole → PutSoFar whole rest at at
begun whole rest at e = record { given = []; is = sym e; put = gets_nothing at }

-- A job has run, and its result was given.
pub job_done : (context : Context) (whole left : Eval ℤ) (size : ℕ) (start was is_now : SinkState) (m n : Spine) (job : Job) (total : Total) →
    PutSoFar whole left start was →
    MeetsJob context left size m was is_now job → total ≡ total_of_job context job → spine_left n ≡ left_with m total →
    PutSoFar whole (spine_left n) start is_now
job_done context whole left size start was is_now m n job total s t e l =
    let p = t.next.given in
    let q = job_acts context job.body in
    let rest = left_with m (total_of_job context job) in
    let ln : spine_left n ≡ rest = l ∙ ap (left_with m) e in
    record {
      given = s.given ++ (p ++ q);
      is = s.is ∙ ap (before s.given) (t.next.is ∙ before_both p q rest) ∙ before_both s.given (p ++ q) rest ∙ ap (before (s.given ++ (p ++ q))) (sym ln);
      put = rw (printed_both s.given (p ++ q), printed_both p q, t.no_line, append-nil (printed p)) (gets_then start was is_now (printed s.given) (printed p)
          s.put t.next.put);
    }

pub job_falls : (context : Context) (left : Eval ℤ) (size : ℕ) (was is_now : SinkState) (m n : Spine) (job : Job) (total : Total) →
    MeetsJob context left size m was is_now job → total ≡ total_of_job context job → spine_size n ≡ size_with m total → spine_size n < size
job_falls context left size was is_now m n job total t e l = let f = t.falls in let z = l ∙ ap (size_with m) e in omega arith

pub front_so_far : (whole left : Eval ℤ) (start was is_now : SinkState) → PutSoFar whole left start was → GetsFront was is_now (printed left.given) →
    GetsFront start is_now (printed whole.given)
front_so_far whole left start was is_now p front =
    let g : printed whole.given ≡ printed p.given ++ printed left.given = ap (λ (y : Eval ℤ). printed y.given) p.is ∙ printed_both p.given left.given in
    rw g (front_then start was is_now (printed p.given) (printed left.given) p.put front)

-- what is put where a job is met
pub front_at_job : (context : Context) (left : Eval ℤ) (size : ℕ) (was is_now : SinkState) (m : Spine) (job : Job) →
    MeetsJob context left size m was is_now job →
    GetsFront was is_now (printed left.given)
front_at_job context left size was is_now m job t =
    let rest = before (job_acts context job.body) (left_with m (total_of_job context job)) in
    (printed t.next.given, printed rest.given, ap (λ (y : Eval ℤ). printed y.given) t.next.is ∙ printed_both t.next.given rest.given, t.next.put)

pub all_put : (a left : Eval ℤ) (start was is_now : SinkState) (how : End) → PutSoFar (cut 0 a) left start was → EndsMain left was is_now how →
    Gets start is_now (printed a.given)
all_put a left start was is_now how s t =
    let g : a.given ≡ s.given ++ t.next.given = ap (λ (y : Eval ℤ). y.given) (s.is ∙ ap (before s.given) t.next.is)
    ∙ ap (λ (q : Acts). s.given ++ q) (append-nil t.next.given) in
    rw (g, printed_both s.given t.next.given) (gets_then start was is_now (printed s.given) (printed t.next.given) s.put t.next.put)

pub main_ends : (a left : Eval ℤ) (start was is_now : SinkState) (how : End) → PutSoFar (cut 0 a) left start was → EndsMain left was is_now how →
    EndsSo how a.end
main_ends a left start was is_now how s t =
    let q : cut_end 0 a.end ≡ t.last = ap (λ (y : Eval ℤ). y.end) (s.is ∙ ap (before s.given) t.next.is) in
    uncut a.end how (subst (λ (y : eval.End ℤ). EndsSo how y) (sym q) t.ends)
  where
    uncut : (y : eval.End ℤ) (how : End) → EndsSo how (cut_end 0 y) → EndsSo how y
    uncut (Fell vars) end.Done z = tt
    uncut (Fell vars) (end.Fault c) z = z
    uncut (Back v) end.Done z = tt
    uncut (Back v) (end.Fault c) z = z
    uncut (Fault code) end.Done z = z
    uncut (Fault code) (end.Fault c) z = z
