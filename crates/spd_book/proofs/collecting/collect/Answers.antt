use Rattle.std.proofs.Common.{ℕ, ◌∙◌, rules, FitsSigned}
use Rattle.std.specs.Int.{w64}
use Rattle.std.proofs.lemmas.Int.{to_z-of_z}
use Rattle.spd_book.proofs.Finds.{collected_once, rest_runs, gives_of}
use Rattle.spd_book.proofs.collecting.collect.Goals as goal

pub returns-clause-looks : goal.returns-clause-looks
returns-clause-looks g c = let share = c.args.share.now in let d : ℕ = c.args.finish in let n : ℕ = c.see_sum-word.result in
    let fits : FitsSigned w64 c.gift_in-gift.result = search rules in record {
      word = n;
      between = c.see_sum-word.new.share.seat.me;
      saw_gift = c.see_sum-word.ensures.rule;
      saw_fault = c.see_fault-fault.ensures.rule;
      gift = to_z-of_z w64 c.gift_in-gift.result fits ∙ c.gift_in-gift.ensures;
      known = collected_once d n c.see_fault-fault.result share.seat.me c.see_sum-word.new.share.seat.me c.see_fault-fault.new.share.seat.me
          (rest_runs d share.seat.me.0 c.args.kind c.requires.may) c.see_sum-word.ensures.view c.see_fault-fault.ensures.view;
    }

pub returns-clause-gives : goal.returns-clause-gives
returns-clause-gives g c pure w knows = let share = c.args.share.now in let fits : FitsSigned w64 c.gift_in-gift.result = search rules in
    gives_of c.args.finish c.see_sum-word.result c.see_fault-fault.result c.args.kind share.seat.me c.see_sum-word.new.share.seat.me
    c.requires.may c.see_sum-word.ensures.view c.see_fault-fault.ensures.finds pure w knows _
    (to_z-of_z w64 c.gift_in-gift.result fits ∙ c.gift_in-gift.ensures)
