-- Jobs that begin: what is left of their levels is what the jobs evaluate to.
use Rattle.std.proofs.Common.{◌≡◌, ℕ, List, [], ◌∷◌, ◌++◌, sym, ◌∙◌, ap, ℤ, Bor, Result}
use Rattle.spd_code.specs.declared.stmt.CodeBlock.{CodeBlock}
use Rattle.spd_code.specs.declared.tree.CodeItem.{CodeItem}
use Rattle.spd_meaning.specs.Acts.{Acts}
use Rattle.spd_meaning.specs.Eval.{call_end, for_finish, back_offered, offer_back}
use Rattle.spd_code.specs.Coded.{Context, around_of, eval_block}
use Rattle.spd_code.specs.Places.{fitted}
use Rattle.spd_level.specs.Left.{level_eval, item_job}
use Rattle.spd_level.proofs.Turns.{entered, codes_cut, back_cut}
use Rattle.spd_level.specs.declared.level.Level.{Level}
use Rattle.spd_level.specs.declared.frame.Flow.TheVariants as flow
use Rattle.spd_level.specs.declared.frame.Frame.TheVariants as frame

module _ (context : Context) where
  pub block_begun : (l : Level) (body : Bor CodeBlock) (left : ℕ) (vars : List ℤ) → l.flow ≡ flow.Fell → l.vars.items ≡ vars →
      l.frames.items ≡ frame.Block body 0 0 left ∷ [] →
      for_finish (level_eval context l) ≡ for_finish (eval_block (around_of context left) body.now vars)
  block_begun l body left vars f vs fs =
      let a = eval_block (around_of context left) body.now vars in
      rw (f, vs, fs) (ap for_finish (sym (entered context left body 0 vars)) ∙ ap (λ (cs : Acts). a.given ++ cs) (codes_cut 0 a.end))

  pub call_begun : (l : Level) (left : ℕ) (item : CodeItem) (body : Bor CodeBlock) (args : List ℤ) → body.now ≡ item.body → l.flow ≡ flow.Fell →
      l.vars.items ≡ fitted item.params args →
      l.frames.items ≡ frame.Gift ∷ (frame.Block body 0 0 left ∷ []) → level_eval context l ≡ item_job context left item args
  call_begun l left item body args e f vs fs =
      let vars = fitted item.params args in
      let a = eval_block (around_of context left) body.now vars in
      rw (f, vs, fs)
      (ap back_offered (sym (entered context left body 0 vars))
      ∙ ap (λ (r : Result ℤ ℕ). record { end = call_end (λ v. []) r; given = a.given ++ offer_back r }) (back_cut 0 a.end)
      ∙ ap (λ (b : CodeBlock). back_offered (eval_block (around_of context left) b vars)) e)
