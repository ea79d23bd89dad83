use Rattle.std.proofs.Common.{ℕ, sym, subst, ◌∙◌}
use Rattle.std.specs.Mem.Slots.{slots_items}
use Rattle.spd_words.specs.Plan.{PlanView}
use Rattle.spd_state.proofs.Bounds.{others_empty}
use Rattle.spd_rule.specs.Consequences.{EndsAllStarted}
use Rattle.spd_rule.specs.Held.{Held}
use Rattle.spd_rule.specs.Kept.{Kept, means_of}
use Rattle.spd_rule.proofs.Follows.{follows, ends_all}
use Rattle.std.proofs.Common.{◌≡◌, ◌≢◌, ◌+◌, List, min, get_or}
use Rattle.spd_words.specs.Plan.{fault_place}
use Rattle.spd_state.specs.declared.view.View.{View}
use Rattle.spd_rule.specs.Closings.{AreAllStarts, EveryStarted, drawn_moves}
use Rattle.spd_rule.proofs.Final.{counts, every_started, moves_promised}
use Rattle.spd_rule.proofs.field.Field.close.Goals as goal

pub returns-clause-rule : goal.returns-clause-rule
returns-clause-rule g c = let final = c.close_with.ensures.values.2 in let s = final.0 in let seen = final.1 in let p = c.args.self.plan in
    let held : Held p s = (subst (λ (k : PlanView). Kept g.B.Body.view k s) c.args.self.keyed seen.0).held in let id : ℕ = c.args.share.seat.id in record {
      last = s;
      seat = id;
      held = held;
      knew = seen.1;
      alone = others_empty p held.dag s.homes s.views held.kept id c.args.share.seat.me.0 seen.1 c.requires.all;
      ends = final.2 ∙ sym (λ i. slots_items (c.of.ensures.words i));
      follows = follows p held.dag s.homes s.views held.kept;
    }

pub returns-clause-ended : goal.returns-clause-ended
returns-clause-ended g c = let final = c.close_with.ensures.values.2 in let s = final.0 in let p = c.args.self.plan in
    let held : Held p s = (subst (λ (k : PlanView). Kept g.B.Body.view k s) c.args.self.keyed final.1.0).held in
    subst (λ (k : PlanView). EndsAllStarted k (slots_items c.of.result.table.words)) (sym c.of.ensures.plan)
    (subst (EndsAllStarted p) (final.2 ∙ sym (λ i. slots_items (c.of.ensures.words i)))
    (ends_all p held.dag s.homes s.views held.kept s.words held.written))

pub returns-clause-started : goal.returns-clause-started
returns-clause-started g c mark = let final = c.close_with.ensures.values.2 in let s = final.0 in let p = c.args.self.plan in
    let kept : Kept g.B.Body.view p s = subst (λ (k : PlanView). Kept g.B.Body.view k s) c.args.self.keyed final.1.0 in
    let held = kept.held in
    subst (λ (k : PlanView). EveryStarted k (slots_items c.of.result.table.words)) (sym c.of.ensures.plan)
    (subst (EveryStarted p) (final.2 ∙ sym (λ i. slots_items (c.of.ensures.words i)))
    (every_started (means_of g.B.Body.view) p held.dag s.homes s.views held.kept c.args.share.seat.id c.args.share.seat.me.0 final.1.1 mark s.words held.written))

pub returns-clause-moves : goal.returns-clause-moves
returns-clause-moves g c mark w knows = let final = c.close_with.ensures.values.2 in let s = final.0 in let p = c.args.self.plan in
    let kept : Kept g.B.Body.view p s = subst (λ (k : PlanView). Kept g.B.Body.view k s) c.args.self.keyed final.1.0 in
    let held = kept.held in
    subst (λ (k : PlanView). get_or (slots_items c.of.result.table.words) (fault_place k 0) 0 ≢ 0
    → drawn_moves k (slots_items c.of.result.table.words) ≡ min (w.owes.moves + 1) k.moves) (sym c.of.ensures.plan)
    (subst (λ (l : List ℕ). get_or l (fault_place p 0) 0 ≢ 0 → drawn_moves p l ≡ min (w.owes.moves + 1) p.moves)
    (final.2 ∙ sym (λ i. slots_items (c.of.ensures.words i)))
    (moves_promised (means_of g.B.Body.view) p held.dag s.homes s.views held.kept c.args.share.seat.id c.args.share.seat.me.0 final.1.1 mark s.words held.written
    kept.books w knows))

pub returns-clause-starts : goal.returns-clause-starts
returns-clause-starts g c = let final = c.close_with.ensures.values.2 in let s = final.0 in let p = c.args.self.plan in
    let kept : Kept g.B.Body.view p s = subst (λ (k : PlanView). Kept g.B.Body.view k s) c.args.self.keyed final.1.0 in
    let held = kept.held in let id : ℕ = c.args.share.seat.id in let v : View = c.args.share.seat.me.0 in
    subst (λ (k : PlanView). AreAllStarts k (slots_items c.of.result.table.words) v.starts v.done) (sym c.of.ensures.plan)
    (subst (λ (l : List ℕ). AreAllStarts p l v.starts v.done) (final.2 ∙ sym (λ i. slots_items (c.of.ensures.words i)))
    (counts p held.dag s.homes s.views held.kept id v final.1.1 s.words held.written c.requires.all
    (λ mark. every_started (means_of g.B.Body.view) p held.dag s.homes s.views held.kept id v final.1.1 mark s.words held.written)))
