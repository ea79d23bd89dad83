-- What is told of a stub.
use Rattle.std.specs.Prelude.{Option, Some, None, true, pos}
use Rattle.spd_words.specs.Gift.{no_fault}
use Rattle.spd_words.specs.Meaning.{Awaited, Stage, Going, Spent, Ended, BodyView, empty}
use Rattle.spd_words.specs.declared.finish_kind.FinishKind.{FinishKind}
use Rattle.spd_words.specs.declared.finish_kind.FinishKind.TheVariants.{Plain}
use Rattle.spd_rule_tests.specs.declared.stub.Stub.{Stub}
use Rattle.spd_rule_tests.specs.declared.stub.StubStage.{StubStage}
use Rattle.spd_rule_tests.specs.declared.stub.StubStage.TheVariants as stub

abbrev pub stub_awaits : StubStage → Option Awaited
stub_awaits (stub.Waits kind) = Some (record { kind = kind; gift = pos 0; fault = no_fault })
stub_awaits _ = None

-- the kind of finish that it waits for
abbrev pub stub_waits_for : StubStage → FinishKind
stub_waits_for (stub.Waits kind) = kind
stub_waits_for _ = Plain

abbrev pub stub_stage : StubStage → Stage
stub_stage stub.Going = Going
stub_stage (stub.Waits kind) = Going
stub_stage stub.Spent = Spent
stub_stage stub.Ended = Ended

-- It is wild, so that no debts are kept of it.
abbrev pub stub_view : Stub → BodyView
stub_view s = record {
  means = record { kind = Plain; wild = true; awaited = stub_awaits s.stage; promise = empty Plain };
  stage = stub_stage s.stage;
  size = 0;
}
