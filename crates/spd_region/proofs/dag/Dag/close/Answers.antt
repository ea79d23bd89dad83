use Rattle.std.proofs.Common.{◌≡◌, [], ◌∷◌, ap, ◌∙◌, rules, w64, FitsSigned}
use Rattle.std.specs.Prelude.{map, reverse}
use Rattle.std.proofs.lemmas.List.{map-append, reverse-append}
use Rattle.std.proofs.lemmas.Int.{to_z-of_z}
use Rattle.spd_words.specs.Total.{ended}
use Rattle.spd_region.specs.Dag.{dag_view, outer_view}
use Rattle.spd_region.proofs.DagEnds.{closes_inner}
use Rattle.spd_region.proofs.dag.Dag.close.Goals as goal

pub returns-in_ok-push-in-Some : goal.returns-in_ok-push-in-Some
returns-in_ok-push-in-Some g c =
    let view = g.B.Body.view in
    let now = c.args.self.now in
    let t = dag_view view now in
    let outer = c.in-Some.outer in
    let os = c.pop.new.self.items in
    let outside = map (outer_view view) (reverse os) in
    let e : t.outside ≡ outer_view view outer ∷ outside =
    ap (λ l. map (outer_view view) (reverse l)) c.in-Some.ensures.items
    ∙ ap (map (outer_view view)) (reverse-append os (outer ∷ [])) in
    let f : FitsSigned w64 c.given-given.result.gift = search rules in
    let r = rw (to_z-of_z w64 c.given-given.result.gift f) at c.resume.ensures in
    rw (c.in_ok-push-in-Some.ensures.items, map-append view now.ready.items (c.resume.new.self ∷ []))
    (closes_inner t (outer_view view outer) outside (view c.resume.new.self) _ (ended c.given-given.result) e c.given-given.ensures r)
