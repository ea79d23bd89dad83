use Rattle.std.proofs.Common.{◌≡◌, ◌≢◌, ℕ, ◌+◌, ◌*◌, ◌==◌, sym, ap, ◌∙◌, subst}
use prog.Atomic.{either}
use Rattle.atomic_table.specs.Table.{Allows}
use Rattle.atomic_table.specs.Seated.{TableId}
use Rattle.spd_words.specs.Plan.{plan_words}
use Rattle.spd_words.specs.Meaning.{Meaning}
use Rattle.spd_rule.specs.Kept.{StartsFit, Kept}
use Rattle.spd_rule.specs.Steps.{StartsVertex, LateStart}
use Rattle.spd_rule.specs.Beside.{Mirrors}
use Rattle.spd_rule.proofs.Started.{mirrors_idle, idle_due, mirrors_start, start_due}
use Rattle.spd_rule.proofs.Starts.{starts}
use Rattle.spd_rule.proofs.steps.start_vertex.Goals as goal

pub exchange-found-requires-clause-allows : goal.exchange-found-requires-clause-allows
exchange-found-requires-clause-allows g c κs within = let share = c.args.share.now in let me = share.seat.me in let plan = c.args.field.now.plan in
    let slots : ℕ = c.args.field.now.table.shared.table_id.slots in let seen : ℕ = c.args.seen in
    subst (λ (i : ℕ). Allows (Kept g.B.Body.view plan) slots share.seat.id me i (λ n. either (n == seen) (seen + 1) n)
    (λ n m'. (n ≡ seen → StartsVertex (λ b. (g.B.Body.view b).means) plan c.args.v seen me m') × (n ≢ seen → LateStart c.args.v seen n me m') × (n ≡ seen → StartsFit g.B.Body.view c.args.v me m')))
    (sym c.vertex_place-word.ensures.place)
    (starts g.B.Body.view plan slots share.seat.id me c.args.v seen c.args.field.now.deep c.requires.vertex c.requires.may share.mirrors.seated)

pub invariant_of-share : goal.invariant_of-share
invariant_of-share g c = let share = c.args.share.now in let field = c.args.field.now in let z : TableId = share.seat.table_id in
    let after = c.exchange-found.new.seat.me in let means : g.row.B.Denot → Meaning = λ b. (g.B.Body.view b).means in
    let hit = c.exchange-found.ensures.tells.0 c.if-found-seen.true in
    let deep : z.slots ≡ 2 * field.plan.moves = ap (λ (t : TableId). t.slots) c.requires.of ∙ field.deep in
    let wide : z.words ≡ plan_words field.plan = ap (λ (t : TableId). t.words) c.requires.of ∙ field.wide in record {
      mirrors = subst (λ (t : TableId). Mirrors t after c.start.new.self) (sym c.exchange-found.ensures.same.table)
          (mirrors_start z share.seat.me after share.beside share.mirrors share.holds means field.plan field.lawful deep wide c.args.v c.args.seen hit c.start.new.self
          c.start.ensures);
      holds = start_due z share.seat.me after share.beside share.mirrors share.holds means field.plan field.lawful deep wide c.args.v c.args.seen hit
          c.requires.may.running c.requires.may.flight;
    }

pub invariant_of-share-else-found-seen : goal.invariant_of-share-else-found-seen
invariant_of-share-else-found-seen g c = let share = c.args.share.now in let z : TableId = share.seat.table_id in
    let after = c.exchange-found.new.seat.me in let miss = c.exchange-found.ensures.tells.1 c.if-found-seen.false in record {
      mirrors = subst (λ (t : TableId). Mirrors t after share.beside) (sym c.exchange-found.ensures.same.table)
          (mirrors_idle z share.seat.me after share.beside share.mirrors share.holds miss.known);
      holds = idle_due z share.seat.me after share.beside share.mirrors share.holds miss.known;
    }

pub returns-then-found-seen-clause-fit : goal.returns-then-found-seen-clause-fit
returns-then-found-seen-clause-fit g c = c.exchange-found.ensures.tells.2 c.if-found-seen.true
