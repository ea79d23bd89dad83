use Rattle.std.proofs.Common.{rules, ◌≡◌, ◌+ℤ◌, ◌<ℤ◌, ◌≤ℤ◌, pos, length, arith, FitsSigned, w64, subst, ℕ}
use Rattle.std.proofs.lemmas.Int.{ints, to_z-of_z}
use Rattle.spd_level.specs.Columns.{context_of}
use Rattle.spd_level.specs.Turn.{FrameTurn}
use Rattle.spd_level.specs.declared.frame.Frame.TheVariants as frame
use Rattle.spd_level.specs.declared.level.Level.{Level}
use Rattle.spd_level.proofs.Stepping.{for_turned, for_ended}
use Rattle.spd_level.proofs.level.Level.turn_of.Goals as goal

pub returns : goal.returns
returns c =
    let context = context_of c.args.code.now c.args.columns.now in
    let f : FitsSigned w64 c.args.at = c.ranges.at in
    let g : FitsSigned w64 c.args.end = c.ranges.end in
    let t : c.args.at <ℤ c.args.end = grind (arith, ints) in
    let k : FitsSigned w64 (c.args.at +ℤ pos 1) = search (rules, ints) in
    let n : c.len-floor.result ≡ length c.args.self.now.vars.items = search rules in
    let m : Level = record { flow = c.args.self.now.flow; vars = c.push-2.new.self; frames = c.push.new.self } in
    for_turned context c.args.self.now m c.go_on.new.self c.args.body c.args.at c.args.end c.args.left c.in_ok-step.step c.requires c.requires t
    (rw (to_z-of_z w64 c.args.at f, to_z-of_z w64 (c.args.at +ℤ pos 1) k, to_z-of_z w64 c.args.end g) at c.in_ok-push.ensures.items)
    (rw (to_z-of_z w64 c.args.at f) at c.in_ok-push-2.ensures.items)
    (subst (λ (floor : ℕ). FrameTurn context (frame.Block c.args.body 0 floor c.args.left) m c.go_on.new.self c.in_ok-step.step) n c.in_ok-step.ensures)

pub returns-then-at-end : goal.returns-then-at-end
returns-then-at-end c =
    let t : c.args.end ≤ℤ c.args.at = grind (arith, ints) in
    for_ended (context_of c.args.code.now c.args.columns.now) c.args.self.now c.args.body c.args.at c.args.end c.args.left c.requires t
