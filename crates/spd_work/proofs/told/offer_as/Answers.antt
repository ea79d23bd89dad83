use Rattle.std.proofs.Common.{sym, subst, ℤ}
use Rattle.std.specs.Int.{w64}
use Rattle.std.specs.Prelude.{FitsSigned}
use Rattle.std.proofs.lemmas.Int.{to_z-of_z}
use Rattle.spd_rule.specs.Shares.{share_view}
use Rattle.spd_book.specs.Offers.{MayOffer}
use Rattle.spd_work.proofs.Pays.{may_offer}
use Rattle.spd_work.proofs.told.offer_as.Goals as goal

pub offer-requires-clause-may : goal.offer-requires-clause-may
offer-requires-clause-may g c κs bound =
    let fits : FitsSigned w64 c.args.value = c.ranges.value in
    subst (λ (x : ℤ). MayOffer (share_view c.args.share.now) c.args.kind x g.P.Told.told) (sym (to_z-of_z w64 c.args.value fits))
    (may_offer _ c.requires.runs.0 _ _ _ _ c.requires.told c.requires.kind c.requires.runs.1)
