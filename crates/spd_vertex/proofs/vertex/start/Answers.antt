use Rattle.std.proofs.Common.{◌≡◌, ℕ, ◌+◌, sym, subst, ◌∙◌}
use Rattle.spd_words.specs.Plan.{vertex_place}
use Rattle.spd_words.specs.Meaning.{Meaning}
use Rattle.spd_rule.specs.Held.{StepUnderRule}
use Rattle.spd_rule.specs.Shares.{share_known, field_plan}
use Rattle.spd_rule.specs.Rest.{due}
use Rattle.spd_rule.proofs.Settled.{none_there}
use Rattle.spd_vertex.specs.Starting.{StartsBy}
use Rattle.spd_vertex.specs.declared.starting.Start.{Start}
use Rattle.spd_vertex.specs.declared.starting.Start.TheVariants.{Taken}
use Rattle.std.proofs.Common.{ap, Option}
use Rattle.atomic_table.specs.Table.{Me, rest}
use Rattle.spd_state.specs.declared.view.View.{View}
use Rattle.spd_vertex.specs.Starting.{GivesFit}
use Rattle.spd_vertex.proofs.Fits.{fit_out}
use Rattle.spd_vertex.proofs.Outcomes.{begun, lost}
use Rattle.spd_vertex.proofs.vertex.start.Goals as goal

pub returns-in-Ok-clause-starts : goal.returns-in-Ok-clause-starts
returns-in-Ok-clause-starts g c = let means : g.row.B.Denot → Meaning = λ b. (g.B.Body.view b).means in let p = field_plan c.args.field.now in
    let i : ℕ = c.args.vertex in let s = share_known c.args.share.now in let seen = share_known c.see_vertex-seen.new.share in
    let after = share_known c.start_vertex.new.share in let left = share_known c.trade.new.share in let found : ℕ = c.see_vertex-seen.result in
    let share = c.args.share.now in let answer = c.in-Ok.ensures.answer in let t = c.trade.ensures.traded in
    subst (λ (r : Start g.row.B.Denot). StartsBy means p i s left r) (sym c.taken_out.ensures)
    (begun means p i s seen after found (sym c.state-state.ensures ∙ c.if-state-ne-READY.false) c.see_vertex-seen.ensures.view c.see_vertex-seen.ensures.rule
    answer.1 (subst (λ (w : ℕ). StepUnderRule p (vertex_place p i) w (found + 1) seen after) answer.0 c.in-Ok.ensures.rule)
    t.slot c.trade.result t.before left t.after
    (none_there share.seat.me.1 (sym share.mirrors.slots ∙ (share.holds ∙ (λ j. due (c.requires.landed j) (c.requires.idle j))))))

pub returns-in-Err-clause-starts : goal.returns-in-Err-clause-starts
returns-in-Err-clause-starts g c = let means : g.row.B.Denot → Meaning = λ b. (g.B.Body.view b).means in let p = field_plan c.args.field.now in
    let i : ℕ = c.args.vertex in let s = share_known c.args.share.now in let seen = share_known c.see_vertex-seen.new.share in
    let after = share_known c.start_vertex.new.share in let found : ℕ = c.see_vertex-seen.result in
    let ready : (Rattle.spd_words.specs.Words.vertex_of found).state ≡ 2 = sym c.state-state.ensures ∙ c.if-state-ne-READY.false in
    subst (λ (x : ℕ). StartsBy means p i s after (Taken x)) (sym c.state.ensures)
    (lost means p i s seen after found ready c.see_vertex-seen.ensures.view c.see_vertex-seen.ensures.rule c.in-Err.found
    (c.see_vertex-seen.ensures.seen ready) c.in-Err.ensures.answer.1 c.in-Err.ensures.rule)

pub returns-in-Ok-clause-fit : goal.returns-in-Ok-clause-fit
returns-in-Ok-clause-fit g c = let view = g.B.Body.view in let share = c.args.share.now in let seen = share_known c.see_vertex-seen.new.share in
    let after = share_known c.start_vertex.new.share in let t = c.trade.ensures.traded in let answer = c.in-Ok.ensures.answer in
    subst (λ (r : Start g.row.B.Denot). GivesFit view c.args.vertex share r) (sym c.taken_out.ensures)
    (fit_out view c.args.vertex c.see_vertex-seen.result share seen after c.see_vertex-seen.ensures.view c.in-Ok.ensures.fit answer.1.body
    (ap (λ (m : Me (Option g.row.B.Denot) View). m.1) answer.1.known) t.slot c.trade.result (rest after.1) t.before)
