use Rattle.std.proofs.Common.{rules, w64, FitsSigned}
use Rattle.std.proofs.lemmas.Int.{to_z-of_z}
use Rattle.spd_region.proofs.dag.Dag.play.Goals as goal

pub returns-in_ok-offer-in-Offer : goal.returns-in_ok-offer-in-Offer
returns-in_ok-offer-in-Offer g c =
    let f : FitsSigned w64 c.in-Offer.value = search rules in
    let h = rw (to_z-of_z w64 c.in-Offer.value f) at c.in_ok-offer-in-Offer.ensures in
    h (g.B.Body.view c.args.vertex) c.in-Offer.ensures.step c.in-Offer.ensures.tame

pub end-requires-after_bounds : goal.end-requires-after_bounds
end-requires-after_bounds g c κs within =
    let view = g.B.Body.view in
    (view c.advance.new.self, (view c.args.vertex, c.in-Over.ensures.step, c.in-Over.ensures.tame, c.requires))
