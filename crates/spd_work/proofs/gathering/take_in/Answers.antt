use Rattle.std.proofs.Common.{sym, ap, subst, ◌∙◌}
use Rattle.spd_state.specs.declared.view.View.{View}
use Rattle.spd_rule.specs.Shares.{share_view}
use Rattle.spd_work.specs.Workers.{EndsWell}
use Rattle.spd_work.proofs.Joins.{ends_ours, ends_theirs, joined_carries, rests_empty}
use Rattle.spd_work.proofs.gathering.take_in.Goals as goal

pub join-requires-clause-empty : goal.join-requires-clause-empty
join-requires-clause-empty g c κs within = rests_empty (share_view c.args.worker.hands.share) c.requires.left.1.rests

pub returns-then-is_some-clause-ends : goal.returns-then-is_some-clause-ends
returns-then-is_some-clause-ends g c =
    let left = c.requires.left.1 in
    subst (λ (v : View). EndsWell v c.args.worker.ended) (sym (ap (λ k. k.0) c.join.ensures.view))
    (ends_theirs (share_view c.args.share.now) (share_view c.args.worker.hands.share) c.requires.left.0 c.requires.left.2
    c.args.worker.ended left.carries left.ends)

pub returns-clause-ends : goal.returns-clause-ends
returns-clause-ends g c =
    subst (λ (v : View). EndsWell v c.args.ended) (sym (ap (λ k. k.0) c.join.ensures.view))
    (ends_ours (share_view c.args.share.now) (share_view c.args.worker.hands.share) c.requires.left.0 c.requires.left.2
    c.args.ended c.requires.ends)

pub returns-clause-carries : goal.returns-clause-carries
returns-clause-carries g c =
    ap (λ k. k.0.whole) c.join.ensures.view
    ∙ joined_carries (share_view c.args.share.now) (share_view c.args.worker.hands.share) c.requires.left.0 c.requires.left.2
