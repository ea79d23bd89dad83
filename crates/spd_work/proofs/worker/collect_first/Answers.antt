use Rattle.std.proofs.Common.{refl, sym, ap, ◌∙◌, subst}
use Rattle.spd_state.specs.declared.view.View.{View}
use Rattle.spd_rule.specs.Shares.{share_view}
use Rattle.spd_work.specs.Runs.{RunsOn, Lasts}
use Rattle.spd_work.proofs.Firsts.{first_may, first_resumes}
use Rattle.spd_work.proofs.News.{collected_on, collected_lasts, has_collected}
use Rattle.spd_work.proofs.worker.collect_first.Goals as goal

pub collect-requires-clause-may : goal.collect-requires-clause-may
collect-requires-clause-may g c κs within = first_may _ c.requires.begins.0 _ _ _ c.requires.begins.1 c.requires.waits

pub returns-clause-lasts : goal.returns-clause-lasts
returns-clause-lasts g c =
    let v = share_view c.args.share.now in
    let looks = c.collect.ensures.looks in
    subst (Lasts v) (sym (ap (λ k. k.0) looks.known)) (collected_lasts v.awaited c.collect.result.fault looks.word v).0

pub returns-clause-ready : goal.returns-clause-ready
returns-clause-ready g c =
    let v = share_view c.args.share.now in
    let looks = c.collect.ensures.looks in
    ap (λ k. k.0.ready) looks.known ∙ (collected_lasts v.awaited c.collect.result.fault looks.word v).1

pub returns-clause-on : goal.returns-clause-on
returns-clause-on g c =
    let v = share_view c.args.share.now in
    let looks = c.collect.ensures.looks in
    let r = c.requires.begins.0 in (
      r,
      subst (λ (u : View). RunsOn u r) (sym (ap (λ k. k.0) looks.known))
          (collected_on v.awaited c.collect.result.fault looks.word v r c.requires.begins.1.on),
    )

pub returns-clause-collected : goal.returns-clause-collected
returns-clause-collected g c =
    let v = share_view c.args.share.now in
    let looks = c.collect.ensures.looks in
    ap (λ k. k.0.awaited) looks.known ∙ has_collected v.awaited c.collect.result.fault looks.word v refl

pub returns-clause-resumes : goal.returns-clause-resumes
returns-clause-resumes g c =
    let v = share_view c.args.share.now in
    let looks = c.collect.ensures.looks in
    first_resumes v (share_view c.collect.new.share) c.requires.begins.0 c.args.vertex _ c.args.kind c.requires.keeps.0 looks.word _
    c.collect.result c.requires.begins.1 c.requires.waits c.requires.keeps.1 c.collect.ensures.gives (ap (λ k. k.0) looks.known)
