use Rattle.std.proofs.Common.{rules, ◌≡◌, sym, ◌∙◌, ap, subst, min, ◌+◌, slice_index, w64}
use Rattle.std.specs.Prelude.{FitsSigned}
use Rattle.std.proofs.lemmas.Int.{to_z-of_z}
use Rattle.spd_state.specs.Promises.{whole_of}
use Rattle.spd_words.specs.Plan.{PlanView, fault_place}
use Rattle.spd_rule.specs.Closings.{EveryStarted, closed_plan, closed_words, drawn_moves}
use Rattle.spd_rule.specs.Payments.{KnowsBooks}
use Rattle.spd_rule.specs.Shares.{share_view}
use Rattle.spd_work.proofs.Joins.{all_left, all_rest}
use Rattle.spd_work.proofs.Makings.{has_made, made_carries, made_tame, new_makes, no_lack, ready_fit}
use Rattle.spd_work.proofs.Seatings.{seats_worked}
use Rattle.spd_work.proofs.workers.run_region.Goals as goal

pub make-requires-clause-fit : goal.make-requires-clause-fit
make-requires-clause-fit g c κs within = ready_fit c.args.kind (g.B.Body.view c.args.body) c.requires.ready c.requires.tame

pub make-requires-clause-may : goal.make-requires-clause-may
make-requires-clause-may g c κs within =
    new_makes c.args.share c.args.kind (g.B.Body.view c.args.body) c.requires.new c.requires.ready c.requires.tame

pub place-requires-clause-made : goal.place-requires-clause-made
place-requires-clause-made g c κs within =
    has_made c.args.field (g.B.Body.view c.args.body).means c.args.share c.make.new.share c.requires.new c.make.ensures.made c.requires.tame

pub run_all-requires-clause-works : goal.run_all-requires-clause-works
run_all-requires-clause-works g c κs within =
    let m = (g.B.Body.view c.args.body).means in
    let carries = made_carries c.args.field m c.args.share c.make.new.share c.requires.new c.make.ensures.made in
    all_rest g.Q.Ready.room g.Q.Ready.pushed c.args.field c.args.kind m (share_view c.make.new.share).whole c.requires.ready.kind carries
    c.place.new.workers.items c.place.ensures.placed.begin

pub gather-share-requires-clause-left : goal.gather-share-requires-clause-left
gather-share-requires-clause-left g c κs within =
    let m = (g.B.Body.view c.args.body).means in
    let carries = made_carries c.args.field m c.args.share c.make.new.share c.requires.new c.make.ensures.made in (
      whole_of m,
      all_left g.Q.Ready.room g.Q.Ready.pushed c.args.field c.args.kind (whole_of m) (share_view c.make.new.share).whole carries
          c.place.new.workers.items c.run_all.new.workers.items c.place.ensures.placed.begin c.run_all.ensures,
    )

pub gather-share-requires-clause-total : goal.gather-share-requires-clause-total
gather-share-requires-clause-total g c κs within =
    seats_worked g.Q.Ready.room g.Q.Ready.pushed c.args.field c.args.kind c.place.new.workers.items c.run_all.new.workers.items c.run_all.ensures
    ∙ c.place.ensures.placed.total

pub returns : goal.returns
returns g c =
    let m = (g.B.Body.view c.args.body).means in
    let carries = made_carries c.args.field m c.args.share c.make.new.share c.requires.new c.make.ensures.made in
    let knows : KnowsBooks (share_view c.gather-share.result.0) (whole_of m) = (
      c.gather-share.ensures.carries (whole_of m)
          (all_left g.Q.Ready.room g.Q.Ready.pushed c.args.field c.args.kind (whole_of m) (share_view c.make.new.share).whole carries
          c.place.new.workers.items c.run_all.new.workers.items c.place.ensures.placed.begin c.run_all.ensures),
      made_tame m c.requires.tame,
    ) in
    let lacks = no_lack c.in-Some.collected.fault c.word-code.result _ c.lacks_memory.ensures c.if-lacks_memory.false in
    let ends = c.gather-share.ensures.ends in
    let gives = ends.gives c.in-Some.collected c.in-Some.is lacks.0 (whole_of m) knows in
    let done = ends.done c.in-Some.collected c.in-Some.is in
    let fits : FitsSigned w64 c.in-Some.collected.gift = search rules in
    let closed = c.close-closed.ensures in
    let words = closed_words c.close-closed.result in
    let place : c.fault_place.result ≡ fault_place (closed_plan c.close-closed.result) 0 =
    c.fault_place.ensures.place ∙ ap (λ (p : PlanView). fault_place p 0) (c.plan-plan.ensures ∙ sym closed.plan) in
    record {
      gift = to_z-of_z w64 c.in-Some.collected.gift fits ∙ gives.0;
      fault = gives.1;
      of = c.close-closed.ensures.plan;
      started = subst (λ (p : PlanView). EveryStarted p words) closed.plan (closed.started done);
      moves = subst (λ (p : PlanView). drawn_moves p words ≡ min (m.promise.moves + 1) p.moves) closed.plan
          (closed.moves done (whole_of m) knows (λ e. lacks.1 (c.word-code.ensures ∙ ap (slice_index words) place ∙ e)));
    }
