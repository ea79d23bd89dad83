-- What is given passes through the frames.
use Rattle.spd_meaning.proofs.Sequence.{then_before, behind_before}
use Rattle.spd_meaning.specs.Acts.{Acts, Over}
use Rattle.spd_meaning.specs.Eval.{Fell, Eval, before, cut, end_codes, call_left, returned, value_back, back_offered, offer_back}
use Rattle.spd_code.specs.Coded.{Context}
use Rattle.spd_code.specs.Places.{bind_if}
use Rattle.spd_level.specs.Left.{frame_left, frames_left, block_rest, loop_rest, level_left, level_eval, level_now}
use Rattle.std.proofs.Common.{◌≡◌, List, [], ◌∷◌, ◌++◌, refl, ◌∙◌, ap, ℤ}
use Rattle.spd_level.specs.declared.frame.Frame.{Frame}
use Rattle.spd_level.specs.declared.frame.Frame.TheVariants as frame
use Rattle.spd_level.specs.declared.level.Level.{Level}

module _ (context : Context) where
  pub frame_before : (f : Frame) (p : Acts) (a : Eval ℤ) → frame_left context f (before p a) ≡ before p (frame_left context f a)
  frame_before (frame.Block block next floor left) p a = ap (cut floor) (then_before p a (block_rest context left block.now next))
  frame_before (frame.For body at end left) p a = then_before p a (loop_rest context left body.now at end)
  frame_before (frame.Async saved) p a = behind_before p a (Fell saved.items) (end_codes a.end ++ Over ∷ [])
  frame_before (frame.Call saved binds) p a = behind_before p a (call_left (bind_if binds saved.items) (returned a)).end (Over ∷ [])
  frame_before frame.Gift p a = behind_before p a (back_offered a).end (offer_back (value_back a.end))

  pub frames_before : (fs : List Frame) (p : Acts) (a : Eval ℤ) → frames_left context fs (before p a) ≡ before p (frames_left context fs a)
  frames_before [] p a = refl
  frames_before (f ∷ fs) p a = ap (frame_left context f) (frames_before fs p a) ∙ frame_before f p (frames_left context fs a)

  pub frames-snoc : (fs : List Frame) (f : Frame) (a : Eval ℤ) → frames_left context (fs ++ f ∷ []) a ≡ frames_left context fs (frame_left context f a)
  frames-snoc [] f a = refl
  frames-snoc (g ∷ fs) f a = ap (frame_left context g) (frames-snoc fs f a)

  -- a frame is taken off
  pub popped : (l m : Level) (f : Frame) → l.frames.items ≡ m.frames.items ++ f ∷ [] → l.flow ≡ m.flow → l.vars.items ≡ m.vars.items →
      level_eval context l ≡ level_left context m (frame_left context f (level_now m))
  popped l m f fs g vs = rw (fs, g, vs) (frames-snoc m.frames.items f (level_now m))
