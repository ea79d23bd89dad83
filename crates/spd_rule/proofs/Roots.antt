-- The table allows the steps on the counts of roots.
use Rattle.std.proofs.Common.{◌≡◌, ℕ, ◌+◌, ◌-◌, ◌*◌, ◌%◌, ◌^◌, ◌<◌, ◌≤◌, length, set, map, refl, sym, ap, ◌∙◌, arith, Option, None, inl}
use Rattle.atomic_table.specs.Table.{Me, keeps, Allows, homes_after}
use Rattle.spd_words.specs.Plan.{PlanView, node_place}
use Rattle.spd_words.specs.Words.{Node, node_of}
use Rattle.spd_words.proofs.Reading.{node_read}
use Rattle.spd_state.specs.Sums.{count, put}
use Rattle.spd_state.specs.Dag.{Dag, load_of, tree_right, claimed_at}
use Rattle.spd_state.specs.Steps.{add_node, add_view, sub_node, sub_after}
use Rattle.spd_state.specs.declared.view.View.{View}
use Rattle.spd_state.proofs.Add.{add_fits, add_keeps}
use Rattle.spd_state.proofs.Settle.{sub_all, unit_there, there_set}
use Rattle.spd_words.specs.Meaning.{BodyView}
use Rattle.spd_debts.proofs.Bookkeeping.{add_stands, sub_stands}
use Rattle.spd_rule.specs.Steps.{HasPaid}
use Rattle.spd_rule.specs.Kept.{means_of, Kept}
use Rattle.spd_rule.specs.Rest.{due, at_rest}
use Rattle.spd_rule.proofs.Resting.{fit_alike, rests, bound_by, running_started}
use Rattle.spd_rule.proofs.Settled.{sub_slots, sub_flight, sub_shown, shown_rest}
use Rattle.spd_rule.proofs.Glue.{allow_node, unseen}
use Rattle.spd_state.proofs.Bounds.{told_few}

module _ {B : Type 0} (told_of : B → BodyView) (p : PlanView) (slots id : ℕ) (me : Me (Option B) View) where
  pub adds_root : (d : ℕ) → d < p.moves → 0 < tree_right d me.0 → load_of me.0 < 64
      → Allows (Kept told_of p) slots id me (node_place p d) (λ n. (n + 2) % 2 ^ 64) (λ n m'. m' ≡ (add_view d me.0, me.1))
  adds_root d low right room = allow_node told_of p slots id me d (omega arith) (λ n. (n + 2) % 2 ^ 64) (λ n m'. m' ≡ (add_view d me.0, me.1))
      (λ a homes vs from fit fits. let new = add_fits p a homes vs from.rule id me.0 from.at d low right room fit in let t = new.twice in let u = new.version in
      inl record {
        new = add_node (a.nodes d);
        fits = new;
        packs = omega arith;
        expects = a.expects;
        region = a.region;
        tame = a.tame;
        move = record {
          view = add_view d me.0;
          act = keeps;
          valid = tt;
          kept = add_keeps p a homes vs from.rule id me.0 from.at d low right room;
          shown = unseen told_of p slots id me a homes vs from (add_view d me.0) refl;
          books = add_stands (means_of told_of) p a homes vs from.rule from.books id me.0 from.at d (put a.nodes d (add_node (a.nodes d)));
          fit = from.fit;
          tells = refl;
        };
      })

  pub subs_root : (d : ℕ) → d < p.moves → slots ≡ 2 * p.moves → (count d me.0.held ≡ 0 → me.0.flight ≡ None) → (count d me.0.held ≡ 0 → HasPaid me.0)
      → 0 < count d me.0.held + claimed_at me.0.lifted d me.0.claimed
      → me.0.slots ≡ map (λ x. x.0) me.1 → me.0.slots ≡ due me.0.flight me.0.running
      → Allows (Kept told_of p) slots id me (node_place p d) (λ n. (n + (2 ^ 64 - 2)) % 2 ^ 64)
      (λ n m'. (m' ≡ at_rest (sub_after d (node_of n) me.0, me.1)) × (length m'.0.told ≤ p.moves))
  subs_root d low size lone paid unit holds is_due = allow_node told_of p slots id me d (omega arith) (λ n. (n + (2 ^ 64 - 2)) % 2 ^ 64)
      (λ n m'. (m' ≡ at_rest (sub_after d (node_of n) me.0, me.1)) × (length m'.0.told ≤ p.moves))
      (λ a homes vs from fit fits. let x : Node = a.nodes d in let t = fit.twice in let u = fit.version in
      let lives = unit_there p a homes vs from.rule id me.0 from.at d low unit in let counted = from.rule.counts.count d low in
      let w : View = sub_after d x me.0 in let b : Dag = record a { nodes = put a.nodes d (sub_node x) } in
      let kept = sub_all p a homes vs from.rule id me.0 from.at d low lone unit in
      let r = rests told_of p b homes vs id me.0 from.at w me.1 kept
      (sub_stands (means_of told_of) p a homes vs from.rule from.books id me.0 from.at d low unit lone paid) (from.deep ∙ size) (sub_slots d x me.0 ∙ holds)
      (λ none free. bound_by p.moves a.vertices me.1 me.0.running (sym holds ∙ is_due ∙ (λ i. due ((sym (sub_flight d x me.0) ∙ free) i) me.0.running))
      (running_started p a homes vs from.rule id me.0 from.at)) in
      let v : View = (at_rest (w, me.1)).0 in inl record {
        new = sub_node x;
        fits = record { twice = omega arith; version = fit.version };
        packs = omega arith;
        expects = a.expects;
        region = a.region;
        tame = a.tame;
        move = record {
          view = v;
          act = r.act;
          valid = r.valid;
          kept = r.kept;
          shown = unseen told_of p slots id me a homes vs from v (shown_rest (w, me.1) ∙ sub_shown d x me.0);
          books = r.books;
          fit = fit_alike told_of p.moves a.vertices homes (homes_after homes me.1 r.act) from.fit r.alike;
          tells = (
            (λ i. (v, sym r.carried i)) ∙ ap (λ (y : Node). at_rest (sub_after d y me.0, me.1)) (sym (node_read x fit)),
            told_few p b (homes_after homes me.1 r.act) (set vs id v) r.kept id v (there_set vs id me.0 v from.at),
          );
        };
      })
