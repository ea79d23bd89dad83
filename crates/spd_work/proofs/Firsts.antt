-- A new vertex has collected: what its share then knows, and how its body may be resumed.
use Rattle.std.proofs.Common.{◌≡◌, ℕ, ◌/◌, refl, sym, ap, ◌∙◌, subst, Option, None, Some}
use Rattle.spd_words.specs.Meaning.{Awaited, BodyView, kind_of_awaited}
use Rattle.spd_words.specs.declared.finish_kind.FinishKind.{FinishKind}
use Rattle.spd_state.specs.Promises.{expected_in, expected_of}
use Rattle.spd_state.specs.declared.promise.Expected.{Expected}
use Rattle.spd_state.specs.declared.promise.Whole.{Whole}
use Rattle.spd_state.specs.declared.view.Running.{Running}
use Rattle.spd_state.specs.declared.view.View.{View}
use Rattle.spd_debts.specs.Payments.{shown_view}
use Rattle.spd_rule.specs.Payments.{KnowsBooks, collected_view}
use Rattle.spd_book.specs.Collects.{MayCollect, GivesExpected}
use Rattle.spd_book.specs.declared.collecting.Collected.{Collected}
use Rattle.spd_work.specs.Runs.{RunsBody, RunsNew}
use Rattle.spd_work.specs.Workers.{MayResume}
use Rattle.spd_work.proofs.News.{may_collect, resumed_body}

-- what a body waits for that waits for a finish of this kind
awaited_some : (o : Option Awaited) (k : FinishKind) → kind_of_awaited o ≡ Some k → (x : Awaited) × (o ≡ Some x) × (x.kind ≡ k)
awaited_some None k e = absurd (cc)
awaited_some (Some x) k e = (x, refl, ap (λ z. the_kind z) e)
  where
    the_kind : Option FinishKind → FinishKind
    the_kind None = x.kind
    the_kind (Some z) = z

pub first_may : (v : View) (r : Running) (vertex : ℕ) (b : BodyView) (k : FinishKind) → RunsNew v r vertex b →
    kind_of_awaited b.means.awaited ≡ Some k → MayCollect v (vertex / 2) k
first_may v r vertex b k runs waits =
    let a = awaited_some b.means.awaited k waits in may_collect v r vertex b a.0 k runs a.1 a.2

pub first_resumes : (v v' : View) (r : Running) (vertex : ℕ) (b : BodyView) (k : FinishKind) (w : Whole) (word finish : ℕ) (c : Collected) →
    RunsNew v r vertex b → kind_of_awaited b.means.awaited ≡ Some k → KnowsBooks v w → GivesExpected v finish c →
    v' ≡ collected_view v.awaited c.fault (shown_view word v) → MayResume v' b c
first_resumes v v' r vertex b k w word finish c runs waits knows gives is some after from_there step =
    let a = awaited_some b.means.awaited k waits in
    let x : Awaited = a.0 in
    let expects : v.awaited ≡ Some (expected_of x) = runs.expects ∙ ap expected_in a.1 in
    let got = (gives some w knows).awaited (expected_of x) expects in
    let now : v' ≡ collected_view (Some (expected_of x)) c.fault (shown_view word v) =
    is ∙ ap (λ (o : Option Expected). collected_view o c.fault (shown_view word v)) expects in (
      r,
      subst (λ (u : View). RunsBody u r after) (sym now)
          (resumed_body v r vertex b after x c.fault word c.gift from_there runs a.1 some got.0 got.1 step),
    )
