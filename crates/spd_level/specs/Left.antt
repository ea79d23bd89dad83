-- What is left of a level: its frames over what runs now.
use Rattle.std.specs.Prelude.{ℕ, List, [], ◌∷◌, ◌++◌, drop, map, ℤ, ◌-ℤ◌, zero, suc, Err}
use Rattle.spd_code.specs.declared.tree.CodeItem.{CodeItem}
use Rattle.spd_code.specs.declared.stmt.CodeBlock.{CodeBlock, out-CodeBlock}
use Rattle.spd_meaning.specs.Values.{too_deep}
use Rattle.spd_meaning.specs.Eval.{End, Fell, Back, Fault, Eval, Returned, quiet, then_do, cut, turns, turns_to, async_left, returned, call_left, back_offered}
use Rattle.spd_code.specs.Coded.{Context, CodeRun, run_code, item_returned, item_at, around_of, eval_block, eval_stmt}
use Rattle.spd_code.specs.Places.{bind_if, fitted}
use Rattle.spd_level.specs.declared.frame.Frame.{Frame}
use Rattle.spd_level.specs.declared.frame.Frame.TheVariants as frame
use Rattle.spd_level.specs.declared.frame.Flow.{Flow}
use Rattle.spd_level.specs.declared.frame.Flow.TheVariants as flow
use Rattle.spd_level.specs.declared.level.Level.{Level}

-- how what runs now ends
abbrev pub flow_end : Flow → List ℤ → End ℤ
flow_end flow.Fell vars = Fell vars
flow_end (flow.Back value) vars = Back value
flow_end (flow.Fault code) vars = Fault code

abbrev pub level_now : Level → Eval ℤ
level_now level = quiet (flow_end level.flow level.vars.items)

module _ (context : Context) where
  -- a function that is called where so many more calls may be opened inside, and whose value is offered
  abbrev pub item_job : ℕ → CodeItem → List ℤ → Eval ℤ
  item_job left item args = back_offered (eval_block (around_of context left) item.body (fitted item.params args))

  -- the statements of a block from a place on, where so many more calls may be opened
  abbrev pub block_rest : ℕ → CodeBlock → ℕ → CodeRun
  block_rest left block next = run_code (drop next (map (eval_stmt (around_of context left)) (out-CodeBlock block).stmts))

  -- the turns of a loop from a number on
  abbrev pub loop_rest : ℕ → CodeBlock → ℤ → ℤ → CodeRun
  loop_rest left body at end = turns (turns_to (end -ℤ at)) at (λ turn vars. eval_block (around_of context left) body (vars ++ turn ∷ []))

  -- what a frame makes of what ended above it
  abbrev pub frame_left : Frame → Eval ℤ → Eval ℤ
  frame_left (frame.Block block next floor left) a = cut floor (then_do a (block_rest left block.now next))
  frame_left (frame.For body at end left) a = then_do a (loop_rest left body.now at end)
  frame_left (frame.Async saved) a = async_left saved.items a
  frame_left (frame.Call saved binds) a = call_left (bind_if binds saved.items) (returned a)
  frame_left frame.Gift a = back_offered a

  -- the frames, the outermost first
  abbrev pub frames_left : List Frame → Eval ℤ → Eval ℤ
  frames_left [] a = a
  frames_left (f ∷ fs) a = frame_left f (frames_left fs a)

  -- what is left of a level where what runs now evaluates so
  abbrev pub level_left : Level → Eval ℤ → Eval ℤ
  level_left level a = frames_left level.frames.items a

  -- what is left of a level
  abbrev pub level_eval : Level → Eval ℤ
  level_eval level = level_left level (level_now level)

-- what a call of one of these items gives where so many calls may be opened
abbrev pub called_in : Context → ℕ → List CodeItem → ℕ → List ℤ → ℕ → Returned
called_in context zero items number args line = record { value = Err (too_deep line); given = [] }
called_in context (suc left) items number args line = item_returned (around_of context left) (item_at items number) args
