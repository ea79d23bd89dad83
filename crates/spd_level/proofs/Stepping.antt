-- Statements and frames that are taken off, as turns of a level.
use Rattle.std.proofs.Common.{◌≡◌, ℕ, suc, ◌+◌, ◌<◌, ◌≤◌, List, [], ◌∷◌, ◌++◌, length, take, refl, sym, ◌∙◌, ap, subst, arith, ℤ, pos, ◌+ℤ◌, ◌≤ℤ◌, ◌<ℤ◌, Some, slice_get, Bor, Bool, Ok, Err, Result, length-append}
use Rattle.std.specs.Prelude.{true, false, unwrap_or}
use Rattle.spd_code.specs.declared.stmt.CodeBlock.{CodeBlock, out-CodeBlock}
use Rattle.spd_code.specs.declared.stmt.CodeStmt.{CodeStmt}
use Rattle.spd_code.specs.declared.tree.CodeItem.{CodeItem}
use Rattle.spd_meaning.specs.Acts.{Offer, Line, Call, Begin, Over, Tick, work_of}
use Rattle.spd_meaning.specs.Eval.{Fell, Fault, Eval, quiet, before, counted, with_values, cut, call_of}
use Rattle.spd_code.specs.Coded.{Context, run_code, no_item, item_at, around_of, eval_stmt}
use Rattle.spd_code.specs.Places.{bind_if}
use Rattle.spd_level.specs.Turn.{AreCalled, IsCallee, KnowsCallee, says, LevelTurn, PlainTurn, StatementDone, behind_step, StepFalls, StepPays}
use Rattle.spd_level.specs.Left.{called_in, frame_left, level_left, level_eval, level_now}
use Rattle.spd_meaning.specs.Values.{too_deep}
use Rattle.spd_level.proofs.Through.{frames_before, popped}
use Rattle.spd_level.proofs.Called.{none_called}
use Rattle.spd_level.proofs.Quiet.{Quietly, quietly_none, quietly_more, turn_further}
use Rattle.spd_level.proofs.Turns.{none_at, drop_none, quiet_turn, block_steps, block_left, plain_goes, for_turns, for_ends}
use Rattle.spd_level.specs.declared.step.Step.{Step}
use Rattle.spd_level.specs.declared.step.Step.TheVariants as step
use Rattle.spd_level.specs.declared.frame.Frame.{Frame}
use Rattle.spd_level.specs.declared.frame.Frame.TheVariants as frame
use Rattle.spd_level.specs.declared.frame.Flow.TheVariants as flow
use Rattle.spd_level.specs.declared.level.Level.{Level}
use Rattle.spd_level.specs.declared.step.CallAt.{CallAt}

module _ (context : Context) where
  -- ---- statements, as turns

  -- a statement that needs no frame
  pub done_turned : (l n : Level) (a : Eval ℤ) (s : Step) → StatementDone l n s a →
      LevelTurn context (level_left context l (counted a)) (length l.frames.items) n s
  unfolding work_of
  done_turned l n a step.Quiet d =
      let k : length n.frames.items ≡ length l.frames.items = ap length d.0 in
      record {
        given = Tick ∷ [];
        is = rw (d.0, d.1) (frames_before context l.frames.items (Tick ∷ []) (level_now n));
        said = refl;
        falls_through = tt;
        callee = tt;
        goes_on = omega arith;
      }
  done_turned l n a (step.Offer x) d =
      let k : length n.frames.items ≡ length l.frames.items = ap length d.0 in
      record {
        given = Tick ∷ Offer x ∷ [];
        is = rw (d.0, d.1) (frames_before context l.frames.items (Tick ∷ Offer x ∷ []) (level_now n));
        said = refl;
        falls_through = tt;
        callee = tt;
        goes_on = omega arith;
      }
  done_turned l n a (step.Line text) d =
      let k : length n.frames.items ≡ length l.frames.items = ap length d.0 in
      record {
        given = Tick ∷ Line text.items ∷ [];
        is = rw (d.0, d.1) (frames_before context l.frames.items (Tick ∷ Line text.items ∷ []) (level_now n));
        said = refl;
        falls_through = tt;
        callee = tt;
        goes_on = omega arith;
      }
  done_turned l n a (step.Fault c) d = absurd d.2
  done_turned l n a (step.Async body left) d = absurd d.2
  done_turned l n a (step.Finish f) d = absurd d.2
  done_turned l n a (step.Call c) d = absurd d.2
  done_turned l n a step.Called d = absurd d.2
  done_turned l n a step.Over d = absurd d.2

  -- a statement that goes into a block or a loop
  pub inner_turned : (l n : Level) (a : Eval ℤ) → level_left context l a ≡ level_eval context n → length n.frames.items ≤ length l.frames.items + 1 →
      LevelTurn context (level_left context l (counted a)) (length l.frames.items) n step.Quiet
  unfolding work_of
  inner_turned l n a e k = quiet_turn context _ (length l.frames.items) n (Tick ∷ [])
      (frames_before context l.frames.items (Tick ∷ []) a ∙ ap (before (Tick ∷ [])) e) refl (omega arith)

  -- a statement that leaves a part to be done
  pub met_turned : (l : Level) (a : Eval ℤ) (s : Step) → level_left context l a ≡ behind_step context s l → StepFalls context s l → KnowsCallee context s →
      says s ≡ [] → StepPays context s 1 (length l.frames.items) l →
      LevelTurn context (level_left context l (counted a)) (length l.frames.items) l s
  unfolding work_of
  met_turned l a s e f kc q g = record {
    given = Tick ∷ [];
    is = frames_before context l.frames.items (Tick ∷ []) a ∙ ap (before (Tick ∷ [])) e;
    said = sym q;
    falls_through = f;
    callee = kc;
    goes_on = subst (λ (w : ℕ). StepPays context s w (length l.frames.items) l) (omega arith) g;
  }

  pub turned_at : (a b : Eval ℤ) (n : ℕ) (new : Level) (s : Step) → a ≡ b → LevelTurn context b n new s → LevelTurn context a n new s
  turned_at a b n new s e h = subst (λ (x : Eval ℤ). LevelTurn context x n new s) (sym e) h

  -- ---- a frame is taken off, as a turn

  pub popped_turned : (l m new : Level) (f : Frame) (s : Step) → l.frames.items ≡ m.frames.items ++ f ∷ [] → l.flow ≡ m.flow → l.vars.items ≡ m.vars.items →
      LevelTurn context (level_left context m (frame_left context f (level_now m))) (length m.frames.items + 1) new s →
      LevelTurn context (level_eval context l) (length l.frames.items) new s
  popped_turned l m new f s fs g vs h =
      let k : length l.frames.items ≡ length m.frames.items + 1 = ap length fs ∙ length-append m.frames.items (f ∷ []) in
      subst (λ (n : ℕ). LevelTurn context (level_eval context l) n new s) (sym k)
      (turned_at _ _ (length m.frames.items + 1) new s (popped context l m f fs g vs) h)

  -- a frame that is passed over
  pub popped_skipped : (l m : Level) (f : Frame) → l.frames.items ≡ m.frames.items ++ f ∷ [] → l.flow ≡ m.flow → l.vars.items ≡ m.vars.items →
      frame_left context f (level_now m) ≡ level_now m →
      LevelTurn context (level_eval context l) (length l.frames.items) m step.Quiet
  unfolding work_of
  popped_skipped l m f fs g vs e =
      popped_turned l m m f step.Quiet fs g vs (quiet_turn context _ (length m.frames.items + 1) m [] (ap (level_left context m) e) refl (omega arith))

  -- the end of a block
  pub block_ends : (l n : Level) (block : Bor CodeBlock) (next floor left : ℕ) → l.flow ≡ flow.Fell → length (out-CodeBlock block.now).stmts ≤ next →
      n.flow ≡ l.flow → n.frames.items ≡ l.frames.items → n.vars.items ≡ take floor l.vars.items →
      LevelTurn context (level_left context l (frame_left context (frame.Block block next floor left) (level_now l))) (length l.frames.items + 1) n step.Quiet
  unfolding work_of
  block_ends l n block next floor left f e g fs vs =
      let k : length n.frames.items ≡ length l.frames.items = ap length fs in
      quiet_turn context _ (length l.frames.items + 1) n [] (rw (g, f, fs, vs)
      (ap (λ ss. level_left context l (cut floor (run_code ss l.vars.items)))
      (drop_none (eval_stmt (around_of context left)) (out-CodeBlock block.now).stmts next (none_at (out-CodeBlock block.now).stmts next e)))) refl
      (omega arith)

  -- a block between two of its statements, of which those before needed nothing but the values
  abbrev pub BlockRuns : Level → Level → CodeBlock → ℕ → ℕ → ℕ → ℕ → Type 0
  BlockRuns l m b next at floor left =
      Quietly (level_left context l (block_left context left b next floor (level_now l))) (length l.frames.items + 1)
      (level_left context m (block_left context left b at floor (level_now m))) (length m.frames.items + 1)

  pub plain_ran : (l m n : Level) (b : CodeBlock) (next at floor left : ℕ) (s : CodeStmt) → BlockRuns l m b next at floor left → m.flow ≡ flow.Fell →
      slice_get (out-CodeBlock b).stmts at ≡ Some s → PlainTurn m n true (eval_stmt (around_of context left) s m.vars.items) →
      BlockRuns l n b next (at + 1) floor left
  unfolding work_of
  plain_ran l m n b next at floor left s runs f e plain =
      let k : length n.frames.items ≡ length m.frames.items = ap length plain.0 in
      quietly_more _ _ _ (length l.frames.items + 1) (length m.frames.items + 1) (length n.frames.items + 1) (Tick ∷ []) runs
      (plain_goes context m n b at floor left s f e plain.0 plain.1) refl (omega arith)

  -- a block that is over, since what ran in it has ended otherwise than by falling through
  pub block_over : (l m : Level) (b : CodeBlock) (next at floor left : ℕ) → BlockRuns l m b next at floor left →
      block_left context left b at floor (level_now m) ≡ level_now m →
      LevelTurn context (level_left context l (block_left context left b next floor (level_now l))) (length l.frames.items + 1) m step.Quiet
  unfolding work_of
  block_over l m b next at floor left runs e =
      turn_further context _ _ (length l.frames.items + 1) (length m.frames.items + 1) m step.Quiet runs
      (quiet_turn context _ (length m.frames.items + 1) m [] (ap (level_left context m) e) refl (omega arith))

  -- a statement of a block, as a turn
  pub block_turned : (l m new : Level) (block : Bor CodeBlock) (next floor left : ℕ) (s : CodeStmt) (t : Step) → l.flow ≡ flow.Fell →
      slice_get (out-CodeBlock block.now).stmts next ≡ Some s →
      m.frames.items ≡ l.frames.items ++ frame.Block block (next + 1) floor left ∷ [] → m.vars.items ≡ l.vars.items →
      LevelTurn context (level_left context m (eval_stmt (around_of context left) s m.vars.items)) (length m.frames.items) new t →
      LevelTurn context (level_left context l (frame_left context (frame.Block block next floor left) (level_now l))) (length l.frames.items + 1) new t
  block_turned l m new block next floor left s t f e fs vs h =
      let k : length m.frames.items ≡ length l.frames.items + 1 = ap length fs ∙ length-append l.frames.items (frame.Block block (next + 1) floor left ∷ []) in
      turned_at _ _ (length l.frames.items + 1) new t (block_steps context l m block next floor left s f e fs ∙ ap
      (λ v. level_left context m (eval_stmt (around_of context left) s v)) (sym vs))
      (subst (λ (n : ℕ). LevelTurn context (level_left context m (eval_stmt (around_of context left) s m.vars.items)) n new t) k h)

  -- ---- calls, as turns

  -- what a call statement evaluates to whose arguments have these values
  abbrev asked : Level → Bool → ℕ → List CodeItem → ℕ → ℕ → Result (List ℤ) ℕ → Eval ℤ
  asked l binds left items callee line r = counted (with_values r (λ vs. call_of (bind_if binds l.vars.items) (called_in context left items callee vs line)))

  pub call_refused : (l n : Level) (binds : Bool) (left : ℕ) (items : List CodeItem) (callee line : ℕ) (r : Result (List ℤ) ℕ) (code : ℕ) → r ≡ Err code →
      n.frames.items ≡ l.frames.items → n.flow ≡ flow.Fault code →
      LevelTurn context (level_left context l (asked l binds left items callee line r)) (length l.frames.items) n step.Quiet
  unfolding work_of
  call_refused l n binds left items callee line r code e fs f =
      let k : length n.frames.items ≡ length l.frames.items = ap length fs in
      quiet_turn context _ (length l.frames.items) n (Tick ∷ []) (rw (e, fs, f) (frames_before context l.frames.items (Tick ∷ []) (quiet (Fault code))))
      refl (omega arith)

  -- a call that ends where it stands
  called_turn : (a : Eval ℤ) (n : ℕ) (new : Level) → a ≡ before (Tick ∷ Begin Call ∷ Over ∷ []) (level_eval context new) → length new.frames.items < 4 + n →
      LevelTurn context a n new step.Called
  unfolding work_of
  called_turn a n new e h = record { given = Tick ∷ []; is = e; said = refl; falls_through = tt; callee = tt; goes_on = omega arith }

  pub call_too_deep : (l n : Level) (binds : Bool) (left : ℕ) (items : List CodeItem) (callee line : ℕ) (r : Result (List ℤ) ℕ) (vs : List ℤ) → r ≡ Ok vs →
      left ≡ 0 → n.frames.items ≡ l.frames.items → n.flow ≡ flow.Fault (too_deep line) →
      LevelTurn context (level_left context l (asked l binds left items callee line r)) (length l.frames.items) n step.Called
  call_too_deep l n binds left items callee line r vs e z fs f =
      let k : length n.frames.items ≡ length l.frames.items = ap length fs in
      called_turn _ (length l.frames.items) n (rw (e, z, fs, f)
      (frames_before context l.frames.items (Tick ∷ Begin Call ∷ Over ∷ []) (quiet (Fault (too_deep line))))) (omega arith)

  pub call_of_none : (l n : Level) (binds : Bool) (left : ℕ) (items : List CodeItem) (callee line : ℕ) (r : Result (List ℤ) ℕ) (vs : List ℤ) (inner : ℕ) →
      r ≡ Ok vs → left ≡ suc inner → length items ≤ callee → n.frames.items ≡ l.frames.items → n.flow ≡ flow.Fell →
      n.vars.items ≡ bind_if binds l.vars.items (pos 0) →
      LevelTurn context (level_left context l (asked l binds left items callee line r)) (length l.frames.items) n step.Called
  call_of_none l n binds left items callee line r vs inner e z o fs f v =
      let k : length n.frames.items ≡ length l.frames.items = ap length fs in
      called_turn _ (length l.frames.items) n
      (rw (e, z, fs, f, v) (ap (λ q. level_left context l (counted (call_of (bind_if binds l.vars.items) q)))
      (none_called context inner items callee vs (none_at items callee o))
      ∙ frames_before context l.frames.items (Tick ∷ Begin Call ∷ Over ∷ []) (quiet (Fell (bind_if binds l.vars.items (pos 0)))))) (omega arith)

  called_item : (binds : Bool) (items : List CodeItem) (callee : ℕ) (item : CodeItem) → slice_get items callee ≡ Some item →
      AreCalled binds items context.code → IsCallee context binds item
  called_item true items callee item o k = (callee, ap (λ r. unwrap_or r no_item) (sym o) ∙ ap (λ zs. item_at zs callee) k)
  called_item false items callee item o k = (callee, ap (λ r. unwrap_or r no_item) (sym o) ∙ ap (λ zs. item_at zs callee) k)

  pub call_met : (l : Level) (binds : Bool) (left : ℕ) (items : List CodeItem) (callee line : ℕ) (r : Result (List ℤ) ℕ) (c : CallAt) →
      r ≡ Ok c.args.items → left ≡ suc c.left → slice_get items callee ≡ Some c.item.now → c.binds ≡ binds → AreCalled binds items context.code →
      l.flow ≡ flow.Fell →
      LevelTurn context (level_left context l (asked l binds left items callee line r)) (length l.frames.items) l (step.Call c)
  call_met l binds left items callee line r c e z o b k f =
      met_turned l (with_values r (λ vs. call_of (bind_if binds l.vars.items) (called_in context left items callee vs line))) (step.Call c)
      (rw (e, z, o, b) refl) f (subst (λ (x : Bool). IsCallee context x c.item.now) (sym b) (called_item binds items callee c.item.now o k)) refl (omega arith)

  -- ---- loops, as turns

  pub for_turned : (l n new : Level) (body : Bor CodeBlock) (at end : ℤ) (left : ℕ) (t : Step) → l.flow ≡ flow.Fell → n.flow ≡ flow.Fell → at <ℤ end →
      n.frames.items ≡ l.frames.items ++ frame.For body (at +ℤ pos 1) end left ∷ [] → n.vars.items ≡ l.vars.items ++ at ∷ [] →
      LevelTurn context (level_left context n (frame_left context (frame.Block body 0 (length l.vars.items) left) (level_now n)))
      (length n.frames.items + 1) new t →
      LevelTurn context (level_left context l (frame_left context (frame.For body at end left) (level_now l))) (length l.frames.items + 1) new t
  unfolding work_of
  for_turned l n new body at end left t f g h fs vs turned =
      let a = level_left context l (frame_left context (frame.For body at end left) (level_now l)) in
      let k : length n.frames.items ≡ length l.frames.items + 1 = ap length fs ∙ length-append l.frames.items (frame.For body (at +ℤ pos 1) end left ∷ []) in
      turn_further context a _ (length l.frames.items + 1) (length n.frames.items + 1) new t
      (quietly_more a a _ (length l.frames.items + 1) (length l.frames.items + 1) (length n.frames.items + 1) (Tick ∷ [])
      (quietly_none a (length l.frames.items + 1)) (for_turns context l n body at end left f g h fs vs) refl (omega arith)) turned

  pub for_ended : (l : Level) (body : Bor CodeBlock) (at end : ℤ) (left : ℕ) → l.flow ≡ flow.Fell → end ≤ℤ at →
      LevelTurn context (level_left context l (frame_left context (frame.For body at end left) (level_now l))) (length l.frames.items + 1) l step.Quiet
  unfolding work_of
  for_ended l body at end left f h = quiet_turn context _ (length l.frames.items + 1) l [] (for_ends context l body at end left f h) refl (omega arith)

  -- ---- frames that are passed over where what runs now has ended otherwise than by falling through

  pub block_skipped_back : (l : Level) (block : Bor CodeBlock) (next floor left : ℕ) (v : ℤ) → l.flow ≡ flow.Back v →
      frame_left context (frame.Block block next floor left) (level_now l) ≡ level_now l
  block_skipped_back l block next floor left v e = rw e refl

  pub block_skipped_fault : (l : Level) (block : Bor CodeBlock) (next floor left code : ℕ) → l.flow ≡ flow.Fault code →
      frame_left context (frame.Block block next floor left) (level_now l) ≡ level_now l
  block_skipped_fault l block next floor left code e = rw e refl

  pub for_skipped_back : (l : Level) (body : Bor CodeBlock) (at end : ℤ) (left : ℕ) (v : ℤ) → l.flow ≡ flow.Back v →
      frame_left context (frame.For body at end left) (level_now l) ≡ level_now l
  for_skipped_back l body at end left v e = rw e refl

  pub for_skipped_fault : (l : Level) (body : Bor CodeBlock) (at end : ℤ) (left code : ℕ) → l.flow ≡ flow.Fault code →
      frame_left context (frame.For body at end left) (level_now l) ≡ level_now l
  for_skipped_fault l body at end left code e = rw e refl
