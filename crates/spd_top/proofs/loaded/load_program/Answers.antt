-- The columns that were loaded are those of the program, or why there are none was told.
use Rattle.std.proofs.Common.{◌≡◌, refl, subst, Err, Ok}
use Rattle.spd_syntax.specs.declared.tree.Program.{Program}
use Rattle.spd_cols.specs.Loading.{declarations, reached, IsLoad, IsNoFileOf}
use Rattle.spd_top.specs.declared.words.SerialCommand.TheVariants.{Elide}
use Rattle.spd_top.specs.Told.{Bytes}
use Rattle.spd_top.specs.Serving.{RefusesData}
use Rattle.spd_top.specs.Early.{AnswersEarly}
use Rattle.spd_top.proofs.Early.{has_columns, ends_without_columns}
use Rattle.spd_top.proofs.loaded.load_program.Goals as goal

pub returns-in-Ok-clause-loaded : goal.returns-in-Ok-clause-loaded
returns-in-Ok-clause-loaded g c = λ counts.
    let now = g.F.Shelf.state c.code_of.new.shelf in
    let new = g.F.Shelf.state c.load.new.shelf in
    has_columns counts c.args.name.now c.in_ok-code.code (g.F.Shelf.state c.args.shelf.now) now new c.in_ok-code.ensures.code (Ok c.in-Ok.columns) (rw c.program.ensures.program at c.in-Ok.ensures.answer)
    (subst (λ (p : Program). (other : Bytes) → IsNoFileOf other (reached (declarations p.items) (Ok c.in-Ok.columns)) → new.faults other ≡ now.faults other) c.program.ensures.program c.in-Ok.ensures.others)
    c.in-Ok.columns refl

pub returns-in-Err-clause-told : goal.returns-in-Err-clause-told
returns-in-Err-clause-told g c = λ counts.
    let old = g.F.Shelf.state c.args.shelf.now in
    let now = g.F.Shelf.state c.code_of.new.shelf in
    let new = g.F.Shelf.state c.load.new.shelf in
    subst (λ e. AnswersEarly counts Elide c.args.name.now old new (g.E.Sink.state e) (g.E.Sink.state c.refuse_data.new.err) c.refuse_data.result) c.in_ok-code.ensures.untold
    (ends_without_columns counts c.args.name.now c.in_ok-code.code old now new c.in_ok-code.ensures.code (Err c.in-Err.fault) (subst (λ (p : Program). IsLoad now new (declarations p.items) (Err c.in-Err.fault)) c.program.ensures.program c.in-Err.ensures.answer)
    (subst (λ (p : Program). (other : Bytes) → IsNoFileOf other (reached (declarations p.items) (Err c.in-Err.fault)) → new.faults other ≡ now.faults other) c.program.ensures.program c.in-Err.ensures.others)
    (g.E.Sink.state c.code_of.new.err) (g.E.Sink.state c.refuse_data.new.err) c.refuse_data.result c.in-Err.fault refl
    (subst (λ (p : Program). RefusesData p c.in-Err.fault (g.E.Sink.state c.code_of.new.err) (g.E.Sink.state c.refuse_data.new.err) c.refuse_data.result) c.program-in-Err.ensures.program c.refuse_data.ensures))
