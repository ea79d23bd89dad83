use Rattle.std.proofs.Common.{◌≡◌, ℕ, ◌+◌, ◌-◌, ◌%◌, ◌^◌, ◌≤◌, List, Option, length, eqb, sym, ap, ◌∙◌, subst, arith}
use Rattle.atomic_table.specs.Table.{Allows, Me}
use Rattle.atomic_table.specs.Seated.{TableId}
use Rattle.spd_words.specs.Words.{node_of}
use Rattle.spd_state.specs.Steps.{sub_after}
use Rattle.spd_state.specs.declared.view.View.{View}
use Rattle.spd_words.specs.Plan.{node_place}
use Rattle.spd_rule.specs.Held.{StepUnderRule}
use Rattle.spd_rule.specs.Kept.{Kept}
use Rattle.spd_rule.specs.Rest.{due, at_rest}
use Rattle.spd_rule.proofs.Settled.{mirrors_rest, told_rest, sub_due}
use Rattle.spd_rule.specs.Beside.{Mirrors}
use Rattle.spd_rule.specs.Idle.{DepartsFrom}
use Rattle.spd_rule.proofs.Mirrors.{unit_stands, mirrors_depart}
use Rattle.spd_rule.proofs.Found.{root_holds, over_at_last}
use Rattle.spd_rule.proofs.Roots.{subs_root}
use Rattle.spd_rule.proofs.steps.sub_root.Goals as goal

pub sub-old-requires-clause-allows : goal.sub-old-requires-clause-allows
sub-old-requires-clause-allows g c κs within = let share = c.args.share.now in let me = share.seat.me in let plan = c.args.field.now.plan in
    let slots : ℕ = c.args.field.now.table.shared.table_id.slots in
    subst (λ (i : ℕ). Allows (Kept g.B.Body.view plan) slots share.seat.id me i (λ n. (n + (2 ^ 64 - 2)) % 2 ^ 64)
    (λ n m'. (m' ≡ at_rest (sub_after c.args.d (node_of n) me.0, me.1)) × (length m'.0.told ≤ plan.moves))) (sym c.node_place-word.ensures.place)
    (subs_root g.B.Body.view plan slots share.seat.id me c.args.d c.requires.root c.args.field.now.deep c.requires.may.lone c.requires.may.paid c.requires.may.unit share.mirrors.slots share.holds)

pub depart-requires-clause-unit : goal.depart-requires-clause-unit
depart-requires-clause-unit g c = let share = c.args.share.now in
    unit_stands share.seat.table_id share.seat.me share.beside share.mirrors c.args.d c.requires.may.unit

pub depart-requires-clause-few : goal.depart-requires-clause-few
depart-requires-clause-few g c = let share = c.args.share.now in let f = share.mirrors.few in let deep = c.args.field.now.deep in
    let most = c.args.field.now.lawful.moves.most in
    let e : share.seat.table_id.slots ≡ c.args.field.now.table.shared.table_id.slots = ap (λ (z : TableId). z.slots) c.requires.of in omega arith

pub invariant_of-share : goal.invariant_of-share
invariant_of-share g c = let share = c.args.share.now in let me = share.seat.me in let d : ℕ = c.args.d in let old : ℕ = c.sub-old.result in
    let plan = c.args.field.now.plan in
    let after : Me (Option g.row.B.Denot) View = (sub_after d (node_of old) me.0, me.1) in let deep = c.args.field.now.deep in
    let tells = c.sub-old.ensures.tells in
    let e : share.seat.table_id.slots ≡ c.args.field.now.table.shared.table_id.slots = ap (λ (z : TableId). z.slots) c.requires.of in
    let few : length after.0.told ≤ plan.moves = subst (λ (l : List ℕ). length l ≤ plan.moves)
    (ap (λ (m : Me (Option g.row.B.Denot) View). m.0.told) tells.0 ∙ told_rest after) tells.1 in
    let k : DepartsFrom d (eqb (node_of old).twice 2) share.beside c.depart.new.self = subst
    (λ (t : ℕ). DepartsFrom d (eqb t 2) share.beside c.depart.new.self) c.twice.ensures c.depart.ensures in record {
      mirrors = subst (λ (t : TableId). Mirrors t c.sub-old.new.seat.me c.depart.new.self) (sym c.sub-old.ensures.same.table)
          (subst (λ (m : Me (Option g.row.B.Denot) View). Mirrors share.seat.table_id m c.depart.new.self) (sym tells.0)
          (mirrors_rest share.seat.table_id after c.depart.new.self (mirrors_depart share.seat.table_id me share.beside c.depart.new.self share.mirrors d
          (node_of old) c.requires.may.unit k (omega arith))));
      holds = subst (λ (m : Me (Option g.row.B.Denot) View). m.0.slots ≡ due m.0.flight m.0.running) (sym tells.0) (sub_due d (node_of old) me share.holds);
    }

pub returns-clause-unit : goal.returns-clause-unit
returns-clause-unit g c = let share = c.args.share.now in let p = c.args.field.now.plan in let n : ℕ = c.sub-old.result in
    root_holds p share.seat.me c.sub-old.new.seat.me n ((n + (2 ^ 64 - 2)) % 2 ^ 64) c.args.d c.requires.root
    (subst (λ (i : ℕ). StepUnderRule p i n ((n + (2 ^ 64 - 2)) % 2 ^ 64) share.seat.me c.sub-old.new.seat.me) c.node_place-word.ensures.place
    c.sub-old.ensures.rule)
    c.requires.may.unit

pub returns-clause-over : goal.returns-clause-over
returns-clause-over g c two = let share = c.args.share.now in let p = c.args.field.now.plan in let n : ℕ = c.sub-old.result in
    let step : StepUnderRule p (node_place p c.args.d) n ((n + (2 ^ 64 - 2)) % 2 ^ 64) share.seat.me c.sub-old.new.seat.me =
    subst (λ (i : ℕ). StepUnderRule p i n ((n + (2 ^ 64 - 2)) % 2 ^ 64) share.seat.me c.sub-old.new.seat.me) c.node_place-word.ensures.place
    c.sub-old.ensures.rule in
    (step, over_at_last p share.seat.me c.sub-old.new.seat.me c.args.d n c.requires.root two step)
