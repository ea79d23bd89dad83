-- The text that was read is that of a program, or what it is was told.
use Rattle.std.proofs.Common.{subst}
use Rattle.spd_top.specs.Told.{Bytes}
use Rattle.spd_top.specs.Built.{IsRefused, ComesTo, passes}
use Rattle.spd_top.proofs.Early.{ends_too_long, ends_unread, ends_wanted, ends_refused}
use Rattle.spd_top.proofs.loaded.code_of.Goals as goal

pub returns-in-Err-TooLong-clause-told : goal.returns-in-Err-TooLong-clause-told
returns-in-Err-TooLong-clause-told g c counts command =
    ends_too_long counts command c.args.name.now (g.F.Shelf.state c.args.shelf.now) (g.F.Shelf.state c.read.new.self) c.in-Err-TooLong.ensures.others (g.E.Sink.state c.args.err.now) (g.E.Sink.state c.refuse_program.new.err)
    c.refuse_program.result (c.in-Err-TooLong.ensures.too_long (cc)) c.refuse_program.ensures

pub returns-in-Err-Failed-clause-told : goal.returns-in-Err-Failed-clause-told
returns-in-Err-Failed-clause-told g c counts command =
    ends_unread counts command c.args.name.now (g.F.Shelf.state c.args.shelf.now) (g.F.Shelf.state c.read.new.self) c.in-Err-Failed.ensures.others (g.E.Sink.state c.args.err.now) (g.E.Sink.state c.fail_read.new.err)
    c.fail_read.result (c.in-Err-Failed.ensures.failed (cc)) c.fail_read.ensures

pub returns-in-Err-NoMemory-clause-told : goal.returns-in-Err-NoMemory-clause-told
returns-in-Err-NoMemory-clause-told g c counts command =
    ends_wanted counts command c.args.name.now (g.F.Shelf.state c.args.shelf.now) (g.F.Shelf.state c.read.new.self) c.in-Err-NoMemory.ensures.others (g.E.Sink.state c.args.err.now) (g.E.Sink.state c.out_of_memory.new.err)
    c.out_of_memory.result c.out_of_memory.ensures

pub returns-in-Ok-build-clause-code : goal.returns-in-Ok-build-clause-code
returns-in-Ok-build-clause-code g c = record {
  text = c.in-Ok.text.items;
  may = c.in-Ok.ensures.whole;
  within = c.in-Ok.ensures.within;
  comes = subst (λ (bytes : Bytes). ComesTo bytes (passes c.in-Ok-build.code)) c.deref.ensures.value c.in-Ok-build.ensures.built;
  files = c.in-Ok.ensures.files;
  counts = c.in-Ok.ensures.counts;
  others = c.in-Ok.ensures.others;
}

pub returns-clause-told : goal.returns-clause-told
returns-clause-told g c counts command =
    let found : IsRefused c.in-Ok.text.items c.in-Err.error = rw c.deref.ensures.value at c.in-Err.ensures.refused in
    ends_refused counts command c.args.name.now (g.F.Shelf.state c.args.shelf.now) (g.F.Shelf.state c.read.new.self) c.in-Ok.ensures.others (g.E.Sink.state c.args.err.now) (g.E.Sink.state c.refuse_text.new.err)
    c.refuse_text.result c.in-Ok.text.items c.in-Err.error c.in-Ok.ensures.whole c.in-Ok.ensures.within found c.refuse_text.ensures
