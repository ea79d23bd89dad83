use Rattle.std.proofs.Common.{◌≡◌, ℕ, ℤ, ◌+◌, ◌%◌, ◌^◌, max, sym, subst, ap, ◌∙◌, FitsSigned}
use Rattle.std.specs.Int.{w64, cast_unsigned}
use Rattle.std.proofs.lemmas.Int.{to_z-of_z}
use Rattle.spd_words.specs.Gift.{join, identity}
use Rattle.spd_words.specs.declared.finish_kind.FinishKind.{FinishKind}
use Rattle.spd_state.specs.Stages.{finish_in}
use Rattle.spd_debts.specs.Worth.{gift_of}
use Rattle.spd_debts.proofs.Values.{gift_added}
use Rattle.spd_rule.specs.Held.{StepUnderRule}
use Rattle.spd_rule.specs.Shares.{offer_place}
use Rattle.spd_book.proofs.Takes.{best_counts, is_best}
use Rattle.spd_book.proofs.offering.offer.Goals as goal

pub returns-in-Sum-clause-step : goal.returns-in-Sum-clause-step
returns-in-Sum-clause-step g c = let share = c.args.share.now in let field = c.args.field.now in let n : ℕ = c.add_sum.result in
    let left : ℕ = (n + cast_unsigned w64 c.args.value) % 2 ^ 64 in let is = sym c.runs.ensures ∙ c.in-Some.is in
    let fits : FitsSigned w64 c.args.value = c.ranges.value in record {
      found = n;
      left = left;
      step = subst (λ (f : ℕ). StepUnderRule field.plan (offer_place field f) n left share.seat.me c.add_sum.new.share.seat.me) (sym (ap finish_in is))
          (subst (λ (x : ℤ). StepUnderRule field.plan (offer_place field c.in-Some.running.finish) n ((n + cast_unsigned w64 x) % 2 ^ 64) share.seat.me
          c.add_sum.new.share.seat.me) (to_z-of_z w64 c.args.value fits) c.add_sum.ensures.rule);
      counts = subst (λ (k : FinishKind). gift_of k left ≡ join k (gift_of k n) c.args.value) (sym c.in-Sum.is)
          (gift_added n c.args.value c.add_sum.type_inv fits);
    }

pub returns-in-Plain-clause-step : goal.returns-in-Plain-clause-step
returns-in-Plain-clause-step g c = let share = c.args.share.now in let field = c.args.field.now in let n : ℕ = c.raise_best.result in
    let y : ℕ = c.best_word.result in let left : ℕ = max n y in let is = sym c.runs.ensures ∙ c.in-Some.is in
    let fits : FitsSigned w64 c.args.value = c.ranges.value in let best = is_best c.args.kind c.in-Plain.is in record {
      found = n;
      left = left;
      step = subst (λ (f : ℕ). StepUnderRule field.plan (offer_place field f) n left share.seat.me c.raise_best.new.share.seat.me) (sym (ap finish_in is))
          c.raise_best.ensures.rule;
      counts = best_counts share.seat.me.0 c.args.kind c.args.value g.P.Told.told c.requires.may best fits y n
          (subst (λ (x : ℤ). gift_of c.args.kind y ≡ join c.args.kind x (identity c.args.kind)) (to_z-of_z w64 c.args.value fits) (c.best_word.ensures best));
    }
