-- What a step under the rule tells of the word that it found: a root that counts, a handle that is left; and of the root that it left at 0.
use Rattle.std.proofs.Common.{◌≡◌, ℕ, ◌+◌, ◌-◌, ◌%◌, ◌^◌, ◌<◌, ◌≤◌, List, length, get_or, sym, ap, ◌∙◌, subst, arith, Option, Some, get_or-set_same}
use Rattle.atomic_table.specs.Table.{Me}
use Rattle.spd_words.specs.Plan.{PlanView, node_place, pair_place}
use Rattle.spd_words.specs.Words.{Node, Pair, node_of, pair_of, pack_node}
use Rattle.spd_words.proofs.Reading.{pair_read}
use Rattle.spd_state.specs.Sums.{count}
use Rattle.spd_state.specs.Dag.{Dag, tree_right, claimed_at}
use Rattle.spd_state.specs.declared.view.Running.{Running}
use Rattle.spd_state.specs.declared.view.View.{View}
use Rattle.spd_state.proofs.Add.{right_counts_there}
use Rattle.spd_state.proofs.Rights.{unclaimed}
use Rattle.spd_state.proofs.Settle.{unit_there}
use Rattle.spd_rule.specs.Consequences.{IsFinished}
use Rattle.spd_rule.specs.Held.{StepUnderRule}
use Rattle.spd_rule.specs.Shares.{FindsHandle}
use Rattle.spd_rule.proofs.Follows.{node_reads, is_over}

module _ {B : Type 0} (p : PlanView) (me me' : Me (Option B) View) (found left : ℕ) where
  module _ (d : ℕ) (low : d < p.moves) (step : StepUnderRule {B = B} p (node_place p d) found left me me') where
    was : (step.held.dag.nodes d) ≡ node_of found
    was = sym (node_reads p step.held.dag step.before.words step.held.written d low) ∙ ap node_of step.was

    -- a root where the share has a right counts 1 at least
    pub root_live : 0 < tree_right d me.0 → 2 ≤ (node_of found).twice
    root_live right = let a : Dag = step.held.dag in let c = step.held.kept.counts.count d low in
        let u = right_counts_there p a step.before.homes step.before.views step.held.kept step.seat me.0 step.knew d right in
        subst (λ (n : Node). 2 ≤ n.twice) was (omega arith)

    -- and one where it has a unit
    pub root_holds : 0 < count d me.0.held + claimed_at me.0.lifted d me.0.claimed → 2 ≤ (node_of found).twice
    root_holds unit = let a : Dag = step.held.dag in let c = step.held.kept.counts.count d low in
        let u = unit_there p a step.before.homes step.before.views step.held.kept step.seat me.0 step.knew d low unit in
        subst (λ (n : Node). 2 ≤ n.twice) was (omega arith)

  -- a pair at which the share has its right has a handle left
  pub handle_found : (r : Running) → me.0.running ≡ Some r → r.right ≡ 1 → r.pair < p.moves → StepUnderRule {B = B} p (pair_place p r.pair) found left me me'
      → FindsHandle (pair_of found)
  handle_found r is mine low step = let a : Dag = step.held.dag in let w = step.held.written in let q : Pair = a.pairs r.pair in
      let reads : q ≡ pair_of found = sym (ap pair_of (w.pairs r.pair low) ∙ pair_read q (w.pairs_fit r.pair low)) ∙ ap pair_of step.was in
      subst FindsHandle reads
      (unclaimed p a step.before.homes step.before.views step.held.kept step.seat me.0 step.knew r is mine, step.held.kept.balances.most r.pair low)

-- where a departure finds the count 1, it leaves 0, and the finish is over
pub over_at_last : {B : Type 0} (p : PlanView) (me me' : Me (Option B) View) (d found : ℕ) → d < p.moves → (node_of found).twice ≡ 2
    → (step : StepUnderRule {B = B} p (node_place p d) found ((found + (2 ^ 64 - 2)) % 2 ^ 64) me me') → IsFinished p step.kept.dag step.after.views d
over_at_last p me me' d found low two step = is_over p step.kept.dag step.after.homes step.after.views step.kept.kept d low root
  where
    left : ℕ
    left = (found + (2 ^ 64 - 2)) % 2 ^ 64

    less : (node_of ((found + (2 ^ 64 - 2)) % 2 ^ 64)).twice ≡ 0
    less = let w = step.held.written in let n : Node = step.held.dag.nodes d in let fit = w.nodes_fit d (omega arith) in
        let e : found ≡ pack_node n = sym step.was ∙ w.nodes d (omega arith) in let t = fit.twice in let u = fit.version in omega arith

    there : get_or step.after.words (node_place p d) 0 ≡ (found + (2 ^ 64 - 2)) % 2 ^ 64
    there = let long = step.held.written.long in let low' : node_place p d < length step.before.words = omega arith in
        ap (λ (ws : List ℕ). get_or ws (node_place p d) 0) step.words ∙ get_or-set_same step.before.words (node_place p d) ((found + (2 ^ 64 - 2)) % 2 ^ 64) 0 low'

    root : (step.kept.dag.nodes d).twice ≡ 0
    root = sym (ap (λ (n : Node). n.twice) (node_reads p step.kept.dag step.after.words step.kept.written d low))
        ∙ (ap (λ (x : ℕ). (node_of x).twice) there ∙ less)
