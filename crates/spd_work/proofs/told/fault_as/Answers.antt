use Rattle.std.proofs.Common.{ap, ◌∙◌}
use Rattle.spd_words.specs.Meaning.{Meaning}
use Rattle.spd_debts.specs.Payments.{lower_view}
use Rattle.spd_rule.specs.Shares.{share_view}
use Rattle.spd_work.proofs.Pays.{may_fault, lowered}
use Rattle.spd_work.proofs.told.fault_as.Goals as goal

pub fault-requires-clause-may : goal.fault-requires-clause-may
fault-requires-clause-may g c κs bound = may_fault _ c.requires.runs.0 _ _ _ c.requires.told c.requires.runs.1

pub returns-clause-view : goal.returns-clause-view
returns-clause-view g c =
    let v = share_view c.args.share.now in
    ap (λ m. m.0) c.fault.ensures.view ∙ ap (λ (t : Meaning). lower_view c.args.code t.promise.fault v) c.requires.told
    ∙ lowered c.args.code _ v c.requires.runs.1.carries.0
