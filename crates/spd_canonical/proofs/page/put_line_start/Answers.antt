-- Two spaces more.
use Rattle.std.proofs.Common.{◌++◌, ◌∷◌, [], List, ℕ, ◌∙◌, ap, append_assoc}
use Rattle.spd_canonical.specs.Layout.{spaces}
use Rattle.spd_canonical.proofs.Pages.{spaces_more}
use Rattle.spd_canonical.proofs.page.put_line_start.Goals as goal

pub loop-brace-preserved : goal.loop-brace-preserved
loop-brace-preserved c =
    c.in_ok-extend_from_slice.ensures.items ∙ ap (λ (z : List ℕ). z ++ 32 ∷ 32 ∷ []) c.loop-brace.invariant
    ∙ append_assoc c.push.new.self.items (spaces c.loop-brace._brace) (32 ∷ 32 ∷ [])
    ∙ ap (λ (z : List ℕ). c.push.new.self.items ++ z) (spaces_more c.loop-brace._brace)
