-- What a reader gives up to a limit.
use Rattle.std.proofs.Common.{◌≡◌, ℕ, ◌<◌, List, length, take, Option, Some, None, IfSome, ◌∙◌, ap, arith}
use Rattle.std.specs.Option.{option_map}
use Rattle.std.proofs.lemmas.List.{take_all, length-take}

-- Bytes that are fewer than were wanted are all that were left.
pub taken-all : (left : Option (List ℕ)) (wanted : ℕ) (bytes : List ℕ) → IfSome (option_map (take wanted) left) (λ first. bytes ≡ first)
    → length bytes < wanted → IfSome left (λ all. bytes ≡ all)
taken-all None wanted bytes e h = tt
taken-all (Some all) wanted bytes e h = e ∙ take_all wanted all (omega (arith, ap length e, length-take wanted all))
