-- The turns of a level, frame by frame.
use Rattle.std.proofs.Common.{◌≡◌, ℕ, zero, suc, ◌+◌, ◌*◌, ◌<◌, ◌≤◌, List, [], ◌∷◌, ◌++◌, length, drop, take, refl, sym, ◌∙◌, ap, arith, ℤ, pos, negsuc, ◌-ℤ◌, ◌+ℤ◌, ◌≤ℤ◌, ◌<ℤ◌, Some, None, slice_get, Bor, Bool, Ok, Err, Result, Vec, Global, add-one}
use Rattle.std.specs.Prelude.{map}
use Rattle.std.proofs.lemmas.Int.{ints}
use Rattle.spd_code.specs.declared.stmt.CodeBlock.{CodeBlock, out-CodeBlock}
use Rattle.spd_code.specs.declared.stmt.CodeStmt.{CodeStmt}
use Rattle.spd_code.specs.declared.tree.CodeItem.{CodeItem}
use Rattle.spd_meaning.specs.Acts.{Acts, Code, Offer, Call, Begin, Over, Tick, work_of, Async, said}
use Rattle.spd_meaning.specs.Eval.{End, Fell, Back, Fault, Eval, Returned, quiet, before, then_do, counted, with_values, cut, cut_end, turns, turns_to, end_codes, call_of, call_left, call_end, returned, value_back, async_of, async_left, offer_back}
use Rattle.spd_code.specs.Coded.{Context, CodeRun, run_code, item_returned, around_of, eval_block, eval_stmt}
use Rattle.spd_code.specs.Places.{bind_if, put_at, fitted}
use Rattle.spd_level.specs.Turn.{LevelTurn}
use Rattle.spd_level.specs.Left.{frame_left, block_rest, loop_rest, level_left, level_eval, level_now, flow_end}
use Rattle.spd_meaning.proofs.Sequence.{then_before}
use Rattle.spd_level.proofs.Through.{frames_before, frames-snoc}
use Rattle.spd_code.proofs.Layers.{block_is}
use Rattle.spd_level.specs.declared.step.Step.TheVariants as step
use Rattle.spd_level.specs.declared.frame.Frame.TheVariants as frame
use Rattle.spd_level.specs.declared.frame.Flow.TheVariants as flow
use Rattle.spd_level.specs.declared.level.Level.{Level}
use Rattle.spd_level.specs.declared.step.CallAt.{CallAt}

-- ---- ends that ignore what a block cut

pub codes_cut : (n : ℕ) (e : End ℤ) → end_codes (cut_end n e) ≡ end_codes e
codes_cut n (Fell vars) = refl
codes_cut n (Back v) = refl
codes_cut n (Fault c) = refl

pub back_cut : (n : ℕ) (e : End ℤ) → value_back (cut_end n e) ≡ value_back e
back_cut n (Fell vars) = refl
back_cut n (Back v) = refl
back_cut n (Fault c) = refl

pub fitted_more : (n : ℕ) (xs : List ℤ) → length xs < n → fitted n (xs ++ pos 0 ∷ []) ≡ fitted n xs
fitted_more zero xs h = absurd (omega arith)
fitted_more (suc n) [] h = refl
fitted_more (suc n) (x ∷ xs) h = ap (λ (r : List ℤ). x ∷ r) (fitted_more n xs (omega arith))

pub fitted_take : (n : ℕ) (xs : List ℤ) → fitted n (take n xs) ≡ fitted n xs
fitted_take zero xs = refl
fitted_take (suc n) [] = refl
fitted_take (suc n) (x ∷ xs) = ap (λ (r : List ℤ). x ∷ r) (fitted_take n xs)

pub same_calls : (b : ℤ → List ℤ) (r : Result (List ℤ) ℕ) (f g : List ℤ → Returned) → ((vs : List ℤ) → f vs ≡ g vs) →
    counted (with_values r (λ vs. call_of b (f vs))) ≡ counted (with_values r (λ vs. call_of b (g vs)))
same_calls b (Ok vs) f g h = ap (λ q. counted (call_of b q)) (h vs)
same_calls b (Err c) f g h = refl

-- ---- counts of loops

count_suc : (d e : ℤ) → d ≡ e +ℤ pos 1 → pos 0 ≤ℤ e → turns_to d ≡ suc (turns_to e)
count_suc d (pos n) h p = rw (h, add-one) refl
count_suc d (negsuc n) h p = absurd (omega (arith, ints))

one_more : (at end : ℤ) → at <ℤ end → turns_to (end -ℤ at) ≡ suc (turns_to (end -ℤ (at +ℤ pos 1)))
one_more at end h = count_suc (end -ℤ at) (end -ℤ (at +ℤ pos 1)) (omega (arith, ints)) (omega (arith, ints))

count_zero : (d : ℤ) → d ≤ℤ pos 0 → turns_to d ≡ 0
count_zero (pos zero) p = refl
count_zero (pos (suc n)) p = absurd (omega (arith, ints))
count_zero (negsuc n) p = refl

pub none_at : {A : Type 0} (xs : List A) (n : ℕ) → length xs ≤ n → slice_get xs n ≡ None
none_at [] n h = refl
none_at (x ∷ xs) zero h = absurd (omega arith)
none_at (x ∷ xs) (suc n) h = none_at xs n (omega arith)

pub drop_none : (f : CodeStmt → CodeRun) (xs : List CodeStmt) (n : ℕ) → slice_get xs n ≡ None → drop n (map f xs) ≡ []
drop_none f [] zero h = refl
drop_none f [] (suc n) h = refl
drop_none f (y ∷ ys) zero h = absurd (cc)
drop_none f (y ∷ ys) (suc n) h = drop_none f ys n h

drop_some : (f : CodeStmt → CodeRun) (xs : List CodeStmt) (n : ℕ) (x : CodeStmt) → slice_get xs n ≡ Some x → drop n (map f xs) ≡ f x ∷ drop (suc n) (map f xs)
drop_some f [] n x h = absurd (cc)
drop_some f (y ∷ ys) zero x h = let e : y ≡ x = cc in ap (λ z. f z ∷ map f ys) e
drop_some f (y ∷ ys) (suc n) x h = drop_some f ys n x h

-- a place that has no value stays without one
pub put_outside : (vars : List ℤ) (place : ℕ) (v : ℤ) → length vars ≤ place → put_at vars place v ≡ vars
put_outside [] place v h = refl
put_outside (w ∷ vars) zero v h = absurd (omega arith)
put_outside (w ∷ vars) (suc place) v h = ap (λ (vs : List ℤ). w ∷ vs) (put_outside vars place v (omega arith))

-- ---- what a turn of a level is

pub quiet_turn : (context : Context) (a : Eval ℤ) (n : ℕ) (new : Level) (p : Acts) → a ≡ before p (level_eval context new) → said p ≡ [] →
    length new.frames.items < 4 * work_of p + n → LevelTurn context a n new step.Quiet
quiet_turn context a n new p e s g = record { given = p; is = e; said = s; falls_through = tt; callee = tt; goes_on = g }

module _ (context : Context) where
  -- ---- blocks

  rest_step : (left : ℕ) (b : CodeBlock) (next : ℕ) (s : CodeStmt) (vars : List ℤ) → slice_get (out-CodeBlock b).stmts next ≡ Some s →
      block_rest context left b next vars ≡ then_do (eval_stmt (around_of context left) s vars) (block_rest context left b (next + 1))
  rest_step left b next s vars e = rw add-one (ap (λ ss. run_code ss vars) (drop_some (eval_stmt (around_of context left)) (out-CodeBlock b).stmts next s e))

  -- a statement of a block
  pub block_steps : (l m : Level) (block : Bor CodeBlock) (next floor left : ℕ) (s : CodeStmt) → l.flow ≡ flow.Fell →
      slice_get (out-CodeBlock block.now).stmts next ≡ Some s →
      m.frames.items ≡ l.frames.items ++ frame.Block block (next + 1) floor left ∷ [] →
      level_left context l (frame_left context (frame.Block block next floor left) (level_now l))
      ≡ level_left context m (eval_stmt (around_of context left) s l.vars.items)
  block_steps l m block next floor left s f e fs =
      rw (f, fs, frames-snoc context l.frames.items (frame.Block block (next + 1) floor left) (eval_stmt (around_of context left) s l.vars.items))
      (ap (λ (a : Eval ℤ). level_left context l (cut floor a)) (rest_step left block.now next s l.vars.items e))

  -- what a block makes of what ended before one of its statements
  abbrev pub block_left : ℕ → CodeBlock → ℕ → ℕ → Eval ℤ → Eval ℤ
  block_left left b next floor a = cut floor (then_do a (block_rest context left b next))

  -- a statement of a block that needs no frame and says nothing
  pub plain_goes : (l m : Level) (b : CodeBlock) (next floor left : ℕ) (s : CodeStmt) → l.flow ≡ flow.Fell →
      slice_get (out-CodeBlock b).stmts next ≡ Some s → m.frames.items ≡ l.frames.items →
      eval_stmt (around_of context left) s l.vars.items ≡ counted (level_now m) →
      level_left context l (block_left left b next floor (level_now l))
      ≡ before (Tick ∷ []) (level_left context m (block_left left b (next + 1) floor (level_now m)))
  plain_goes l m b next floor left s f e fs is =
      rw (f, fs)
      (ap (λ (a : Eval ℤ). level_left context l (cut floor a)) (rest_step left b next s l.vars.items e)
      ∙ ap (λ (a : Eval ℤ). level_left context l (block_left left b (next + 1) floor a)) is
      ∙ ap (λ (a : Eval ℤ). level_left context l (cut floor a)) (then_before (Tick ∷ []) (level_now m) (block_rest context left b (next + 1)))
      ∙ frames_before context l.frames.items (Tick ∷ []) (block_left left b (next + 1) floor (level_now m)))

  -- a block that begins
  pub entered : (left : ℕ) (b : Bor CodeBlock) (floor : ℕ) (vars : List ℤ) →
      cut floor (eval_block (around_of context left) b.now vars) ≡ frame_left context (frame.Block b 0 floor left) (quiet (Fell vars))
  entered left b floor vars = ap (λ (r : CodeRun). cut floor (r vars)) (block_is (around_of context left) b.now)

  pub block_enters : (l n : Level) (block : Bor CodeBlock) (left : ℕ) → l.flow ≡ flow.Fell → n.flow ≡ flow.Fell → n.vars.items ≡ l.vars.items →
      n.frames.items ≡ l.frames.items ++ frame.Block block 0 (length l.vars.items) left ∷ [] →
      level_left context l (cut (length l.vars.items) (eval_block (around_of context left) block.now l.vars.items)) ≡ level_eval context n
  block_enters l n block left f g vs fs =
      rw (g, vs, fs, frames-snoc context l.frames.items (frame.Block block 0 (length l.vars.items) left) (quiet (Fell l.vars.items)))
      (ap (level_left context l) (entered left block (length l.vars.items) l.vars.items))

  -- ---- loops

  pub for_begins : (l n : Level) (body : Bor CodeBlock) (at end : ℤ) (left : ℕ) → n.flow ≡ flow.Fell → n.vars.items ≡ l.vars.items →
      n.frames.items ≡ l.frames.items ++ frame.For body at end left ∷ [] →
      level_left context l (loop_rest context left body.now at end l.vars.items) ≡ level_eval context n
  for_begins l n body at end left g vs fs = rw (g, vs, fs, frames-snoc context l.frames.items (frame.For body at end left) (quiet (Fell l.vars.items))) refl

  -- a turn: what falls is the number of turns that are left
  loop_turns : (body : Bor CodeBlock) (at end : ℤ) (left : ℕ) (vars : List ℤ) → at <ℤ end →
      frame_left context (frame.For body at end left) (quiet (Fell vars))
      ≡ before (Tick ∷ []) (frame_left context (frame.For body (at +ℤ pos 1) end left)
      (frame_left context (frame.Block body 0 (length vars) left) (quiet (Fell (vars ++ at ∷ [])))))
  loop_turns body at end left vars h =
      let f : ℤ → List ℤ → Eval ℤ = λ turn vs. eval_block (around_of context left) body.now (vs ++ turn ∷ []) in
      ap (λ n. turns n at f vars) (one_more at end h)
      ∙ ap (λ (a : Eval ℤ). then_do (counted a) (loop_rest context left body.now (at +ℤ pos 1) end)) (entered left body (length vars) (vars ++ at ∷ []))
      ∙ then_before (Tick ∷ []) (frame_left context (frame.Block body 0 (length vars) left) (quiet (Fell (vars ++ at ∷ []))))
      (loop_rest context left body.now (at +ℤ pos 1) end)

  pub for_turns : (l n : Level) (body : Bor CodeBlock) (at end : ℤ) (left : ℕ) → l.flow ≡ flow.Fell → n.flow ≡ flow.Fell → at <ℤ end →
      n.frames.items ≡ l.frames.items ++ frame.For body (at +ℤ pos 1) end left ∷ [] → n.vars.items ≡ l.vars.items ++ at ∷ [] →
      level_left context l (frame_left context (frame.For body at end left) (level_now l))
      ≡ before (Tick ∷ []) (level_left context n (frame_left context (frame.Block body 0 (length l.vars.items) left) (level_now n)))
  for_turns l n body at end left f g h fs vs =
      let first = frame_left context (frame.Block body 0 (length l.vars.items) left) (quiet (Fell (l.vars.items ++ at ∷ []))) in
      rw (f, g, fs, vs, frames-snoc context l.frames.items (frame.For body (at +ℤ pos 1) end left) first)
      (ap (level_left context l) (loop_turns body at end left l.vars.items h)
      ∙ frames_before context l.frames.items (Tick ∷ []) (frame_left context (frame.For body (at +ℤ pos 1) end left) first))

  -- the end of a loop
  pub for_ends : (l : Level) (body : Bor CodeBlock) (at end : ℤ) (left : ℕ) → l.flow ≡ flow.Fell → end ≤ℤ at →
      level_left context l (frame_left context (frame.For body at end left) (level_now l)) ≡ level_eval context l
  for_ends l body at end left f h = rw f (ap
      (λ n. level_left context l (turns n at (λ turn vs. eval_block (around_of context left) body.now (vs ++ turn ∷ [])) l.vars.items))
      (count_zero (end -ℤ at) (omega (arith, ints))))

  -- ---- calls

  -- a call that begins
  call_enters : (left : ℕ) (item : CodeItem) (body : Bor CodeBlock) (binds : Bool) (vars args : List ℤ) → body.now ≡ item.body →
      call_of (bind_if binds vars) (item_returned (around_of context left) item args)
      ≡ before (Begin Call ∷ []) (call_left (bind_if binds vars) (returned
      (frame_left context (frame.Block body 0 0 left) (quiet (Fell (fitted item.params args))))))
  call_enters left item body binds vars args e =
      let b = frame_left context (frame.Block body 0 0 left) (quiet (Fell (fitted item.params args))) in
      let a = eval_block (around_of context left) body.now (fitted item.params args) in
      ap (λ (c : CodeBlock). call_of (bind_if binds vars) (returned (eval_block (around_of context left) c (fitted item.params args)))) (sym e)
      ∙ ap (λ r. call_of (bind_if binds vars) (record { value = r; given = a.given })) (sym (back_cut 0 a.end))
      ∙ ap (λ (x : Eval ℤ). call_of (bind_if binds vars) (returned x)) (entered left body 0 (fitted item.params args))

  pub call_goes_in : (l n : Level) (left : ℕ) (item : CodeItem) (body : Bor CodeBlock) (binds : Bool) (args : List ℤ) (saved : Vec ℤ Global) →
      body.now ≡ item.body → saved.items ≡ l.vars.items → n.flow ≡ flow.Fell →
      n.frames.items ≡ (l.frames.items ++ frame.Call saved binds ∷ []) ++ frame.Block body 0 0 left ∷ [] → n.vars.items ≡ fitted item.params args →
      level_left context l (call_of (bind_if binds l.vars.items) (item_returned (around_of context left) item args))
      ≡ before (Begin Call ∷ []) (level_eval context n)
  call_goes_in l n left item body binds args saved e s f fs vs =
      let now = quiet (Fell (fitted item.params args)) in
      rw (
        f,
        fs,
        vs,
        frames-snoc context (l.frames.items ++ frame.Call saved binds ∷ []) (frame.Block body 0 0 left) now,
        frames-snoc context l.frames.items (frame.Call saved binds) (frame_left context (frame.Block body 0 0 left) now),
        s,
      )
      (ap (level_left context l) (call_enters left item body binds l.vars.items args e)
      ∙ frames_before context l.frames.items (Begin Call ∷ []) (call_left (bind_if binds l.vars.items)
      (returned (frame_left context (frame.Block body 0 0 left) now))))

  pub call_goes : (l n : Level) (c : CallAt) (body : Bor CodeBlock) (saved : Vec ℤ Global) → body.now ≡ c.item.now.body → saved.items ≡ l.vars.items →
      n.flow ≡ flow.Fell →
      n.frames.items ≡ (l.frames.items ++ frame.Call saved c.binds ∷ []) ++ frame.Block body 0 0 c.left ∷ [] →
      n.vars.items ≡ fitted c.item.now.params c.args.items →
      level_left context l (call_of (bind_if c.binds l.vars.items) (item_returned (around_of context c.left) c.item.now c.args.items))
      ≡ before (Begin Call ∷ []) (level_eval context n)
  call_goes l n c body saved e s f fs vs = call_goes_in l n c.left c.item.now body c.binds c.args.items saved e s f fs vs

  -- a call that ends by a value: `return`, whose frames above were skipped
  call_comes_back : (l n : Level) (binds : Bool) (saved : Vec ℤ Global) (value : ℤ) → value_back (flow_end l.flow l.vars.items) ≡ Ok value →
      n.frames.items ≡ l.frames.items → n.flow ≡ flow.Fell → n.vars.items ≡ bind_if binds saved.items value →
      level_left context l (frame_left context (frame.Call saved binds) (level_now l)) ≡ before (Over ∷ []) (level_eval context n)
  call_comes_back l n binds saved value e fs f vs =
      rw (fs, f, vs)
      (ap (λ r. level_left context l (call_left (bind_if binds saved.items) (record { value = r; given = [] }))) e
      ∙ frames_before context l.frames.items (Over ∷ []) (quiet (Fell (bind_if binds saved.items value))))

  pub call_back : (l n : Level) (binds : Bool) (saved : Vec ℤ Global) (value : ℤ) → value_back (flow_end l.flow l.vars.items) ≡ Ok value →
      n.frames.items ≡ l.frames.items → n.flow ≡ flow.Fell → n.vars.items ≡ bind_if binds saved.items value →
      LevelTurn context (level_left context l (frame_left context (frame.Call saved binds) (level_now l))) (length l.frames.items + 1) n step.Quiet
  unfolding work_of
  call_back l n binds saved value e fs f vs =
      let k : length n.frames.items ≡ length l.frames.items = ap length fs in
      quiet_turn context _ (length l.frames.items + 1) n (Over ∷ []) (call_comes_back l n binds saved value e fs f vs) refl (omega arith)

  -- a call that ends by a fault
  call_faults : (l n : Level) (binds : Bool) (saved : Vec ℤ Global) (code : ℕ) → value_back (flow_end l.flow l.vars.items) ≡ Err code →
      n.frames.items ≡ l.frames.items → n.flow ≡ flow.Fault code →
      level_left context l (frame_left context (frame.Call saved binds) (level_now l)) ≡ before (Over ∷ []) (level_eval context n)
  call_faults l n binds saved code e fs f =
      rw (fs, f)
      (ap (λ r. level_left context l (call_left (bind_if binds saved.items) (record { value = r; given = [] }))) e
      ∙ frames_before context l.frames.items (Over ∷ []) (quiet (Fault code)))

  pub call_fault : (l n : Level) (binds : Bool) (saved : Vec ℤ Global) (code : ℕ) → value_back (flow_end l.flow l.vars.items) ≡ Err code →
      n.frames.items ≡ l.frames.items → n.flow ≡ flow.Fault code →
      LevelTurn context (level_left context l (frame_left context (frame.Call saved binds) (level_now l))) (length l.frames.items + 1) n step.Quiet
  unfolding work_of
  call_fault l n binds saved code e fs f =
      let k : length n.frames.items ≡ length l.frames.items = ap length fs in
      quiet_turn context _ (length l.frames.items + 1) n (Over ∷ []) (call_faults l n binds saved code e fs f) refl (omega arith)

  -- ---- asyncs

  -- an async that begins to run inside
  pub async_goes_in : (l n : Level) (body : Bor CodeBlock) (left : ℕ) (saved : Vec ℤ Global) → saved.items ≡ l.vars.items → n.flow ≡ flow.Fell →
      n.vars.items ≡ l.vars.items →
      n.frames.items ≡ (l.frames.items ++ frame.Async saved ∷ []) ++ frame.Block body 0 0 left ∷ [] →
      level_left context l (async_of l.vars.items (eval_block (around_of context left) body.now l.vars.items))
      ≡ before (Begin Async ∷ []) (level_eval context n)
  async_goes_in l n body left saved s f vs fs =
      let now = quiet (Fell l.vars.items) in
      let a = eval_block (around_of context left) body.now l.vars.items in
      let b = frame_left context (frame.Block body 0 0 left) now in
      rw (
        f,
        vs,
        fs,
        frames-snoc context (l.frames.items ++ frame.Async saved ∷ []) (frame.Block body 0 0 left) now,
        frames-snoc context l.frames.items
            (frame.Async saved) b,
        s,
      )
      (ap (λ (cs : Acts). level_left context l (record { end = Fell l.vars.items; given = Begin Async ∷ (a.given ++ (cs ++ Over ∷ [])) }))
      (sym (codes_cut 0 a.end))
      ∙ ap (λ (x : Eval ℤ). level_left context l (async_of l.vars.items x)) (entered left body 0 l.vars.items)
      ∙ frames_before context l.frames.items (Begin Async ∷ []) (async_left l.vars.items b))

  async_quiet : (l n : Level) (saved : Vec ℤ Global) → end_codes (flow_end l.flow l.vars.items) ≡ [] → n.frames.items ≡ l.frames.items →
      n.flow ≡ flow.Fell → n.vars.items ≡ saved.items →
      LevelTurn context (level_left context l (frame_left context (frame.Async saved) (level_now l))) (length l.frames.items + 1) n step.Quiet
  unfolding work_of
  async_quiet l n saved e fs f vs =
      let k : length n.frames.items ≡ length l.frames.items = ap length fs in
      let h : level_left context l (frame_left context (frame.Async saved) (level_now l)) ≡ before (Over ∷ []) (level_eval context n) =
      rw (fs, f, vs) (ap (λ (g : Acts). level_left context l (record { end = Fell saved.items; given = g ++ Over ∷ [] })) e
      ∙ frames_before context l.frames.items (Over ∷ []) (quiet (Fell saved.items))) in
      quiet_turn context _ (length l.frames.items + 1) n (Over ∷ []) h refl (omega arith)

  pub async_fell : (l n : Level) (saved : Vec ℤ Global) → l.flow ≡ flow.Fell → n.frames.items ≡ l.frames.items → n.flow ≡ flow.Fell →
      n.vars.items ≡ saved.items →
      LevelTurn context (level_left context l (frame_left context (frame.Async saved) (level_now l))) (length l.frames.items + 1) n step.Quiet
  async_fell l n saved e fs f vs = async_quiet l n saved (rw e refl) fs f vs

  pub async_back : (l n : Level) (saved : Vec ℤ Global) (v : ℤ) → l.flow ≡ flow.Back v → n.frames.items ≡ l.frames.items → n.flow ≡ flow.Fell →
      n.vars.items ≡ saved.items →
      LevelTurn context (level_left context l (frame_left context (frame.Async saved) (level_now l))) (length l.frames.items + 1) n step.Quiet
  async_back l n saved v e fs f vs = async_quiet l n saved (rw e refl) fs f vs

  pub async_fault : (l n : Level) (saved : Vec ℤ Global) (code : ℕ) → l.flow ≡ flow.Fault code → n.frames.items ≡ l.frames.items → n.flow ≡ flow.Fell →
      n.vars.items ≡ saved.items →
      LevelTurn context (level_left context l (frame_left context (frame.Async saved) (level_now l))) (length l.frames.items + 1) n (step.Fault code)
  unfolding work_of
  async_fault l n saved code e fs f vs =
      let k : length n.frames.items ≡ length l.frames.items = ap length fs in
      record {
        given = Code code ∷ Over ∷ [];
        is = rw (fs, e, f, vs) (frames_before context l.frames.items (Code code ∷ Over ∷ []) (quiet (Fell saved.items)));
        said = refl;
        falls_through = tt;
        callee = tt;
        goes_on = omega arith;
      }

  -- ---- the end of a job that is a call

  pub gift_turn : (l n : Level) (value : ℤ) → value_back (flow_end l.flow l.vars.items) ≡ Ok value → n.frames.items ≡ l.frames.items → n.flow ≡ flow.Fell →
      n.vars.items ≡ [] →
      LevelTurn context (level_left context l (frame_left context frame.Gift (level_now l))) (length l.frames.items + 1) n (step.Offer value)
  unfolding work_of
  gift_turn l n value e fs f vs =
      let k : length n.frames.items ≡ length l.frames.items = ap length fs in
      record {
        given = Offer value ∷ [];
        is = rw (fs, f, vs) (ap (λ r. level_left context l (record { end = call_end (λ v. []) r; given = offer_back r })) e
            ∙ frames_before context l.frames.items (Offer value ∷ []) (quiet (Fell [])));
        said = refl;
        falls_through = tt;
        callee = tt;
        goes_on = omega arith;
      }

  pub gift_fault : (l n : Level) (code : ℕ) → value_back (flow_end l.flow l.vars.items) ≡ Err code → n.frames.items ≡ l.frames.items →
      n.flow ≡ flow.Fault code →
      LevelTurn context (level_left context l (frame_left context frame.Gift (level_now l))) (length l.frames.items + 1) n step.Quiet
  unfolding work_of
  gift_fault l n code e fs f =
      let k : length n.frames.items ≡ length l.frames.items = ap length fs in
      quiet_turn context _ (length l.frames.items + 1) n [] (rw (fs, f)
      (ap (λ r. level_left context l (record { end = call_end (λ v. []) r; given = offer_back r })) e)) refl (omega arith)
