-- Main's turns: the lines that they put, the jobs that they meet, and what is left behind them.
use Rattle.std.proofs.Common.{◌≡◌, ◌≢◌, ℕ, ◌+◌, ◌*◌, ◌<◌, List, [], ◌∷◌, ◌++◌, length, flat_map, refl, sym, ◌∙◌, ap, subst, arith, ℤ, Bool, true, false, if◌then◌else◌, Result, Ok, Err, inl, inr, Vec, Global}
use Rattle.std.specs.Prelude.{min, pos, ◌⊎◌}
use Rattle.std.proofs.lemmas.List.{append-nil}
use Rattle.std.proofs.lemmas.Grind.{flat_map-append}
use Rattle.std.proofs.lemmas.Bool.Decides.{eqb_tells}
use Rattle.std.proofs.Math.Dec.{eqb}
use Rattle.spd_io.specs.Sink.{SinkState, Gets, GetsFront}
use Rattle.spd_words.specs.Gift.{no_fault}
use Rattle.spd_words.specs.Total.{settle, at_line}
use Rattle.spd_words.specs.declared.finish_kind.FinishKind.TheVariants as kind
use Rattle.spd_meaning.specs.Acts.{Acts, Finish, Call, Offer, Code, Line, Begin, Over, Tick, said, lines_of, line_in, work_of, passed, beginnings, beginning_in}
use Rattle.spd_meaning.specs.Eval as eval
use Rattle.spd_meaning.specs.Eval.{Fell, Fault, Eval, quiet, before, finish_of, finish_end, call_end, value_back, job_total}
use Rattle.spd_meaning.specs.Jobs.{total_back}
use Rattle.spd_meaning.specs.Printed.{printed, ended_line}
use Rattle.spd_meaning.proofs.Sequence.{before_both, finish_whole, call_whole}
use Rattle.spd_meaning.proofs.Hearing.{passed_lines, work_both}
use Rattle.spd_code.specs.Silent.{silent_block}
use Rattle.spd_code.specs.declared.tree.CodeItem.{CodeItem}
use Rattle.spd_code.specs.Places.{bind_if, fitted}
use Rattle.spd_code.specs.Coded.{Context, around_of, item_returned, eval_block}
use Rattle.spd_code.proofs.Below.{function_below}
use Rattle.spd_code.proofs.Silent.{Silent, block_silent, functions_silent, call_total}
use Rattle.spd_level.specs.Left.{level_left, level_eval, frames_left, flow_end, level_now}
use Rattle.spd_level.specs.Turn.{IsCallee, says, behind_step, StepPays, LevelTurn}
use Rattle.spd_level.specs.declared.step.Step.{Step}
use Rattle.spd_level.specs.declared.step.Step.TheVariants as step
use Rattle.spd_level.specs.declared.step.FinishAt.{FinishAt}
use Rattle.spd_level.specs.declared.step.CallAt.{CallAt}
use Rattle.spd_level.specs.declared.frame.Frame.{Frame}
use Rattle.spd_level.specs.declared.level.Level.{Level}
use Rattle.spd_level.proofs.Through.{frames_before}
use Rattle.spd_machine.specs.declared.job.JobBody.{JobBody}
use Rattle.spd_machine.specs.declared.job.JobBody.TheVariants as job
use Rattle.spd_spine.specs.Walk.{KeepsToMain, behind_job, PutBeforeJob, job_acts, total_of_job}
use Rattle.spd_spine.proofs.Putting.{gets_then, gets_nothing, front_longer}

-- ---- what is printed

lines_said : (p : Acts) → lines_of (said p) ≡ lines_of p
lines_said [] = refl
lines_said (Offer v ∷ p) = lines_said p
lines_said (Code c ∷ p) = lines_said p
lines_said (Line l ∷ p) = ap (λ (ls : List (List ℕ)). l ∷ ls) (lines_said p)
lines_said (Begin b ∷ p) = lines_said p
lines_said (Over ∷ p) = lines_said p
lines_said (Tick ∷ p) = lines_said p

pub printed_both : (p q : Acts) → printed (p ++ q) ≡ printed p ++ printed q
printed_both p q = ap (λ (ls : List (List ℕ)). flat_map ended_line ls) (flat_map-append line_in p q) ∙ flat_map-append ended_line (lines_of p) (lines_of q)

printed_said : (p s : Acts) → said p ≡ s → printed p ≡ printed s
printed_said p s e = ap (λ (ls : List (List ℕ)). flat_map ended_line ls) (sym (lines_said p) ∙ ap lines_of e)

begins_said : (p : Acts) → beginnings (said p) ≡ beginnings p
begins_said [] = refl
begins_said (Offer v ∷ p) = begins_said p
begins_said (Code c ∷ p) = begins_said p
begins_said (Line l ∷ p) = begins_said p
begins_said (Begin b ∷ p) = ap (λ (q : Acts). Begin b ∷ q) (begins_said p)
begins_said (Over ∷ p) = begins_said p
begins_said (Tick ∷ p) = begins_said p

begins_as_said : (p s : Acts) → said p ≡ s → beginnings p ≡ beginnings s
begins_as_said p s e = sym (begins_said p) ∙ ap beginnings e

pub begins_both : (p q : Acts) → beginnings (p ++ q) ≡ beginnings p ++ beginnings q
begins_both p q = flat_map-append beginning_in p q

-- a finish prints nothing
finish_printed : (g : Acts) → printed (Begin Finish ∷ (passed g ++ Over ∷ [])) ≡ []
finish_printed g = printed_both (passed g) (Over ∷ []) ∙ append-nil (printed (passed g)) ∙ ap (λ (ls : List (List ℕ)). flat_map ended_line ls) (passed_lines g)

call_printed : (g : Acts) → lines_of g ≡ [] → printed (Begin Call ∷ (g ++ Over ∷ [])) ≡ []
call_printed g e = printed_both g (Over ∷ []) ∙ append-nil (printed g) ∙ ap (λ (ls : List (List ℕ)). flat_map ended_line ls) e

-- what falls by what was given
falls_by : (a b : Eval ℤ) (p : Acts) (n k : ℕ) → a ≡ before p b → k < 4 * work_of p + n → 4 * work_of b.given + k < 4 * work_of a.given + n
falls_by a b p n k e h =
    let w : work_of a.given ≡ work_of p + work_of b.given = ap (λ (y : Eval ℤ). work_of y.given) e ∙ work_both p b.given in
    omega arith

-- the end of a call is the end of the finish that makes it
call_ends : (r : Result ℤ ℕ) (line : ℕ) (b : ℤ → List ℤ) → ((c : ℕ) → r ≡ Err c → c < no_fault) → finish_end line b (settle (total_back r)) ≡ call_end b r
call_ends (Ok v) line b h = refl
call_ends (Err c) line b h =
    let l = h c refl in
    let m : min c no_fault ≡ c = omega arith in
    ap (λ (y : ℕ). finish_end line b (record { gift = pos 0; fault = y })) m ∙ told (eqb_tells c no_fault) l
  where
    told : ((eqb c no_fault ≡ true) × (c ≡ no_fault)) ⊎ ((eqb c no_fault ≡ false) × (c ≢ no_fault)) → c < no_fault →
        finish_end {A = ℤ} line b (record { gift = pos 0; fault = c }) ≡ Fault c
    told (inl t) l = absurd (let z = t.1 in omega arith)
    told (inr t) l = ap (λ (y : Bool). if y then Fell (b (pos 0)) else Fault (at_line line c)) t.0

-- one stretch before a job, and another one
pub put_both : (a b c : Eval ℤ) (x y z : SinkState) → PutBeforeJob a b x y → PutBeforeJob b c y z → PutBeforeJob a c x z
put_both a b c x y z p q = record {
  given = p.given ++ q.given;
  is = p.is ∙ ap (before p.given) q.is ∙ before_both p.given q.given c;
  put = rw (printed_both p.given q.given) (gets_then x y z (printed p.given) (printed q.given) p.put q.put);
  no_job = begins_both p.given q.given ∙ ap (λ (g : Acts). g ++ beginnings q.given) p.no_job ∙ q.no_job;
}

module _ (context : Context) where
  abbrev pub level_size : Level → ℕ
  level_size level = 4 * work_of (level_eval context level).given + length level.frames.items

  -- ---- statements that meet no job: one puts a line at most

  pub stepped : (l n : Level) (was is_now : SinkState) (s : Step) → LevelTurn context (level_eval context l) (length l.frames.items) n s →
      behind_step context s n ≡ level_eval context n → beginnings (says s) ≡ [] → Gets was is_now (printed (says s)) →
      PutBeforeJob (level_eval context l) (level_eval context n) was is_now
  stepped l n was is_now s h b z put = record {
    given = h.given;
    is = h.is ∙ ap (before h.given) b;
    put = rw (printed_said h.given (says s) h.said) put;
    no_job = begins_as_said h.given (says s) h.said ∙ z;
  }

  pub step_falls : (l n : Level) (s : Step) → LevelTurn context (level_eval context l) (length l.frames.items) n s →
      behind_step context s n ≡ level_eval context n →
      ((w : ℕ) → StepPays context s w (length l.frames.items) n → length n.frames.items < 4 * w + length l.frames.items) → level_size n < level_size l
  step_falls l n s h b f =
      falls_by (level_eval context l) (level_eval context n) h.given (length l.frames.items) (length n.frames.items) (h.is
      ∙ ap (before h.given) b) (f (work_of h.given) h.goes_on)

  -- a line of which a front was put
  pub line_front : (l n : Level) (text : List ℕ) (was is_now : SinkState) (s : Step) → says s ≡ Line text ∷ [] →
      behind_step context s n ≡ level_eval context n → LevelTurn context (level_eval context l) (length l.frames.items) n s →
      GetsFront was is_now (ended_line text) → GetsFront was is_now (printed (level_eval context l).given)
  line_front l n text was is_now s e b h front =
      let whole : printed (level_eval context l).given ≡ ended_line text ++ printed (level_eval context n).given =
      ap (λ (y : Eval ℤ). printed y.given) (h.is ∙ ap (before h.given) b) ∙ printed_both h.given (level_eval context n).given
      ∙ ap (λ (x : List ℕ). x ++ printed (level_eval context n).given) (printed_said h.given (Line text ∷ []) (h.said ∙ e) ∙ append-nil (ended_line text)) in
      rw whole (front_longer was is_now (ended_line text) (printed (level_eval context n).given) front)

  -- ---- jobs

  -- a piece of main behind which this is left
  piece_met : (l k : Level) (at : SinkState) (s : Step) (rest : Eval ℤ) → LevelTurn context (level_eval context l) (length l.frames.items) k s → says s ≡ [] →
      behind_step context s k ≡ rest → PutBeforeJob (level_eval context l) rest at at
  piece_met l k at s rest h e b = record {
    given = h.given;
    is = h.is ∙ ap (before h.given) b;
    put = rw (printed_said h.given [] (h.said ∙ e)) (gets_nothing at);
    no_job = begins_as_said h.given [] (h.said ∙ e);
  }

  piece_falls : (l k : Level) (s : Step) (q : Acts) (rest : Eval ℤ) → LevelTurn context (level_eval context l) (length l.frames.items) k s →
      behind_step context s k ≡ before q rest → ((w : ℕ) → StepPays context s w (length l.frames.items) k →
      length k.frames.items < 4 * w + length l.frames.items) →
      4 * work_of rest.given + length k.frames.items < level_size l
  piece_falls l k s q rest h b f =
      let w = work_both h.given q in
      let g = f (work_of h.given) h.goes_on in
      falls_by (level_eval context l) rest (h.given ++ q) (length l.frames.items) (length k.frames.items) (h.is ∙ ap (before h.given) b
      ∙ before_both h.given q rest) (omega arith)

  -- a finish whose block is the job, over the values there
  module _ (l k : Level) (f : FinishAt) (vars : Vec ℤ Global) (same : vars.items ≡ k.vars.items) (h : LevelTurn context (level_eval context l) (length
      l.frames.items) k (step.Finish f)) where
    abbrev pub block_job : JobBody
    block_job = job.Block f.body f.left vars

    abbrev pub finish_rest : Eval ℤ
    finish_rest = behind_job context k f.line f.binds (total_of_job context (record { kind = f.kind; body = block_job }))

    finish_behind : behind_step context (step.Finish f) k ≡ before (job_acts context block_job) finish_rest
    finish_behind =
        let b = bind_if f.binds k.vars.items in
        let a = eval_block (around_of context f.left) f.body.now vars.items in
        ap (λ (vs : List ℤ). level_left context k (finish_of f.kind f.line b (eval_block (around_of context f.left) f.body.now vs))) (sym same)
        ∙ ap (level_left context k) (finish_whole f.kind f.line b a)
        ∙ frames_before context k.frames.items (job_acts context block_job) (quiet (finish_end f.line b (job_total f.kind a)))

    pub finish_met : (at : SinkState) → PutBeforeJob (level_eval context l) (before (job_acts context block_job) finish_rest) at at
    finish_met at = piece_met l k at (step.Finish f) _ h refl finish_behind

    pub finish_falls : 4 * work_of finish_rest.given + length k.frames.items < level_size l
    finish_falls = piece_falls l k (step.Finish f) (job_acts context block_job) finish_rest h finish_behind (λ w g. omega arith)

    pub finish_no_line : printed (job_acts context block_job) ≡ []
    finish_no_line = finish_printed (eval_block (around_of context f.left) f.body.now vars.items).given

  -- a call whose function is the job, over these arguments
  module _ (l k : Level) (c : CallAt) (law : KeepsToMain context) (bound : c.binds ≡ true) (h : LevelTurn context (level_eval context l) (length
      l.frames.items) k (step.Call c)) where
    abbrev pub call_job : JobBody
    call_job = job.Call c.item c.left c.args

    abbrev pub call_rest : Eval ℤ
    call_rest = behind_job context k 0 c.binds (total_of_job context (record { kind = kind.Sum; body = call_job }))

    abbrev body_eval : Eval ℤ
    body_eval = eval_block (around_of context c.left) c.item.now.body (fitted c.item.now.params c.args.items)

    callee : IsCallee context true c.item.now
    callee = subst (λ (y : Bool). IsCallee context y c.item.now) bound h.callee

    callee_silent : Silent body_eval.given
    callee_silent =
        block_silent (around_of context c.left) (functions_silent context law.silent c.left) c.item.now.body
        (ap (λ (i : CodeItem). silent_block i.body) callee.1 ∙ law.silent callee.0) (fitted c.item.now.params c.args.items)

    callee_bounded : (code : ℕ) → value_back body_eval.end ≡ Err code → code < no_fault
    callee_bounded code e =
        function_below context law.functions_lined law.tasks_lined callee.0 c.left c.args.items code
        (ap (λ (i : CodeItem). value_back (eval_block (around_of context c.left) i.body (fitted i.params c.args.items)).end) (sym callee.1) ∙ e)

    call_behind : behind_step context (step.Call c) k ≡ before (job_acts context call_job) call_rest
    call_behind =
        let b = bind_if c.binds k.vars.items in
        let r = item_returned (around_of context c.left) c.item.now c.args.items in
        let ends : call_end b r.value ≡ finish_end 0 b (total_of_job context (record { kind = kind.Sum; body = call_job })) =
        sym (call_ends (value_back body_eval.end) 0 b callee_bounded) ∙ ap (finish_end 0 b) (sym (call_total body_eval callee_silent)) in
        ap (level_left context k) (call_whole b r)
        ∙ frames_before context k.frames.items (job_acts context call_job) (quiet (call_end b r.value))
        ∙ ap (λ (e : eval.End ℤ). before (job_acts context call_job) (level_left context k (quiet e))) ends

    pub call_met : (at : SinkState) → PutBeforeJob (level_eval context l) (before (job_acts context call_job) call_rest) at at
    call_met at = piece_met l k at (step.Call c) _ h refl call_behind

    pub call_falls : 4 * work_of call_rest.given + length k.frames.items < level_size l
    call_falls = piece_falls l k (step.Call c) (job_acts context call_job) call_rest h call_behind (λ w g. omega arith)

    pub call_no_line : printed (job_acts context call_job) ≡ []
    call_no_line = call_printed body_eval.given callee_silent.lines

  -- ---- the end

  pub over_met : (l n : Level) (at : SinkState) → LevelTurn context (level_eval context l) (length l.frames.items) n step.Over →
      PutBeforeJob (level_eval context l) (quiet (flow_end n.flow n.vars.items)) at at
  over_met l n at h = piece_met l n at step.Over _ h refl (ap (λ (zs : List Frame). frames_left context zs (level_now n)) h.goes_on)
