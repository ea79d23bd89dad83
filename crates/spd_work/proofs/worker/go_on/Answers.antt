use Rattle.std.proofs.Common.{rules, subst, ℤ}
use Rattle.std.specs.Int.{w64}
use Rattle.std.specs.Prelude.{FitsSigned}
use Rattle.std.proofs.lemmas.Int.{to_z-of_z}
use Rattle.spd_words.specs.BodyCalls.{Resumes}
use Rattle.spd_work.proofs.worker.go_on.Goals as goal

pub run_events-requires-2-clause-runs : goal.run_events-requires-2-clause-runs
run_events-requires-2-clause-runs g c κs within =
    let view = g.B.Body.view in
    let got = c.collect_first-collected.result in
    let fits : FitsSigned w64 got.gift = search rules in
    let from_there = λ (x : ℤ). g.B.Body.resumed c.args.body x got.fault in
    c.collect_first-collected.ensures.resumes c.if-collected-eq0.false (view c.resume.new.self) (from_there got.gift)
    (subst (λ (x : ℤ). Resumes (view c.args.body) (view c.resume.new.self) (from_there x) x got.fault) (to_z-of_z w64 got.gift fits) c.resume.ensures)
