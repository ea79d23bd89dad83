-- The table allows a claim.
use Rattle.std.proofs.Common.{◌≡◌, ℕ, ◌+◌, ◌%◌, ◌^◌, ◌<◌, set, refl, inl, sym, ap, ◌∙◌, subst, arith, Option, Some}
use Rattle.atomic_table.specs.Table.{Me, keeps, Allows}
use Rattle.spd_words.specs.Plan.{PlanView, pair_place}
use Rattle.spd_words.specs.Words.{Pair, pair_of, pack_pair}
use Rattle.spd_words.proofs.Reading.{pair_read}
use Rattle.spd_state.specs.Sums.{put}
use Rattle.spd_state.specs.Dag.{load_of}
use Rattle.spd_state.specs.Parts.{Rule}
use Rattle.spd_state.specs.Steps.{claim_pair, claim_view, claim_after, lose_right}
use Rattle.spd_state.specs.declared.view.Running.{Running}
use Rattle.spd_state.specs.declared.view.View.{View}
use Rattle.spd_state.proofs.Claim.{claim_keeps}
use Rattle.spd_state.proofs.Rights.{unclaimed}
use Rattle.spd_words.specs.Meaning.{BodyView}
use Rattle.spd_debts.specs.BookRule.{BookRule}
use Rattle.spd_debts.proofs.Bookkeeping.{claim_stands}
use Rattle.spd_rule.specs.Steps.{IsFree}
use Rattle.spd_rule.specs.Kept.{means_of, Kept}
use Rattle.spd_rule.proofs.Glue.{allow_pair, unseen}

module _ {B : Type 0} (told_of : B → BodyView) (p : PlanView) (slots id : ℕ) (me : Me (Option B) View) where
  pub claims : (r : Running) → me.0.running ≡ Some r → r.right ≡ 1 → load_of me.0 < 66 → r.pair < p.moves → IsFree me.0
      → Allows (Kept told_of p) slots id me (pair_place p r.pair) (λ n. (n + 1) % 2 ^ 64) (λ n m'. m' ≡ (claim_after (pair_of n) me.0, me.1))
  claims r is mine room low free = allow_pair told_of p slots id me r.pair low (λ n. (n + 1) % 2 ^ 64) (λ n m'. m' ≡ (claim_after (pair_of n) me.0, me.1))
      (λ a homes vs from fit fits. let q : Pair = a.pairs r.pair in let v : View = me.0 in let read : pair_of (pack_pair q) ≡ q = pair_read q fit in
      let more = unclaimed p a homes vs from.rule id v from.at r is mine in let most = from.rule.balances.most r.pair low in let c = fit.claims in
      let t = fit.total in let k = fit.kind in let f = fit.first in let g = fit.second in
      let same : claim_after (pair_of (pack_pair q)) v ≡ claim_view r q v = (λ i. claim_after (read i) v)
      ∙ ap (λ (o : Option Running). let y : View = record (claim_after q v) { running = lose_right o } in y) is in inl record {
        new = claim_pair q;
        fits = record { claims = omega arith; total = fit.total; kind = fit.kind; first = fit.first; second = fit.second };
        packs = omega arith;
        expects = a.expects;
        region = a.region;
        tame = a.tame;
        move = record {
          view = claim_after (pair_of (pack_pair q)) v;
          act = keeps;
          valid = tt;
          kept = subst (λ (w : View). Rule p (record a { pairs = put a.pairs r.pair (claim_pair q) }) homes (set vs id w)) (sym same)
              (claim_keeps p a homes vs from.rule id v from.at r is mine room);
          shown = unseen told_of p slots id me a homes vs from (claim_after (pair_of (pack_pair q)) v) refl;
          books = subst (λ (x : Pair). BookRule (means_of told_of) p (record a { pairs = put a.pairs r.pair (claim_pair q) }) homes (set vs id (claim_after x v))) (sym read)
              (claim_stands (means_of told_of) p a homes vs from.rule from.books id v from.at r is mine free q (put a.pairs r.pair (claim_pair q)));
          fit = from.fit;
          tells = refl;
        };
      })
