-- Bytes that come one piece after another.
use Rattle.std.proofs.Common.{◌≡◌, List, ℕ, ◌++◌, Option, Some, None, IfSome, ap, ◌∙◌, append_assoc}
use Rattle.spd_io.specs.Sink.{SinkState, Gets}

-- Who gets one list of bytes and then another gets both.
pub Gets-then : (a b c : SinkState) (x y z : List ℕ) → x ++ y ≡ z → Gets a b x → Gets b c y → Gets a c z
Gets-then a b c x y z e p q = joined a.got b.got c.got p q
  where
    joined : (s t u : Option (List ℕ)) → IfSome s (λ before. t ≡ Some (before ++ x)) → IfSome t (λ before. u ≡ Some (before ++ y))
        → IfSome s (λ before. u ≡ Some (before ++ z))
    joined None t u p q = tt
    joined (Some before) t u p q =
        (rw p at q) ∙ ap (λ (bytes : List ℕ). Some bytes) (append_assoc before x y ∙ ap (λ (bytes : List ℕ). before ++ bytes) e)
