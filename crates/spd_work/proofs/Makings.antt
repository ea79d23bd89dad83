-- The share of a new field makes the region, and what it has then.
use Rattle.std.proofs.Common.{arith, ◌≡◌, ◌≢◌, ℕ, refl, sym, ap, ◌∙◌, subst, Bool}
use Rattle.std.proofs.Common.{true, false, ◌==◌, ◌||◌, cond, true≢false, Option, Some, None, []}
use Rattle.spd_words.specs.Meaning.{BodyView, Meaning, IsTame}
use Rattle.spd_words.specs.BodyCalls.{IsReady}
use Rattle.spd_words.specs.declared.finish_kind.FinishKind.{FinishKind}
use Rattle.spd_state.specs.Promises.{whole_of}
use Rattle.spd_state.specs.Seats.{first_view}
use Rattle.spd_state.specs.declared.promise.Whole.{Whole}
use Rattle.spd_state.specs.declared.view.View.{View}
use Rattle.spd_rule.specs.Kept.{IsFit}
use Rattle.spd_rule.specs.Shares.{share_known, share_view}
use Rattle.spd_rule.specs.declared.field.Field.{Field}
use Rattle.spd_rule.specs.declared.field.Share.{Share}
use Rattle.spd_dag.specs.Acts.{MayMake}
use Rattle.spd_dag.specs.Makes.{MakesRegion, made_view}
use Rattle.spd_work.specs.Crew.{HasMade}
use Rattle.spd_work.specs.Workers.{HasKind}

pub ready_fit : (kind : FinishKind) (b : BodyView) → IsReady kind b → IsTame b.means → IsFit b
ready_fit kind b ready tame = record { goes = ready.stage; tame = λ _. tame }

first_makes : (kind : FinishKind) (b : BodyView) → IsReady kind b → IsTame b.means → MayMake first_view kind b.means
first_makes kind b ready tame = record {
  fresh = omega arith;
  running = refl;
  flight = refl;
  unmarked = refl;
  free = refl;
  room = omega arith;
  kinds = ready.kind;
  awaited = ready.awaited;
  lawful = tame.promise;
}

pub new_makes : {B : Type 0} (s : Share B) (kind : FinishKind) (b : BodyView) → share_known s ≡ (first_view, []) → IsReady kind b →
    IsTame b.means → MayMake (share_view s) kind b.means
new_makes s kind b new ready tame =
    subst (λ (v : View). MayMake v kind b.means) (sym (ap (λ k. k.0) new)) (first_makes kind b ready tame)

-- a make whose body is tame keeps books
pub made_tame : (m : Meaning) → IsTame m → (whole_of m).wild ≡ 0
made_tame m tame = ap (λ (b : Bool). cond b 1 0) tame.tame

module _ {B : Type 0} (f : Field B) (m : Meaning) (s t : Share B) (new : share_known s ≡ (first_view, [])) (made : MakesRegion f m s t) where
  made_is : share_view t ≡ made_view m first_view (share_view t)
  made_is = made.view ∙ ap (λ (v : View). made_view m v (share_view t)) (ap (λ k. k.0) new)

  -- It carries what the body means, and so does each share that is split from it.
  pub made_carries : (share_view t).whole ≡ Some (whole_of m)
  made_carries = ap (λ (v : View). v.whole) made_is

  pub has_made : IsTame m → HasMade 0 (share_view t)
  has_made tame = record {
    made = whole_of m;
    carries = made_carries;
    keeps = made_tame m tame;
    rests = record {
      running = ap (λ (v : View). v.running) made_is;
      slots = ap (λ (v : View). v.slots) made_is;
      nothing = record {
        flight = ap (λ (v : View). v.flight) made_is;
        held = ap (λ (v : View). v.held) made_is;
        claimed = ap (λ (v : View). v.claimed) made_is;
        rooted = ap (λ (v : View). v.rooted) made_is;
        above = ap (λ (v : View). v.above) made_is;
        halves = ap (λ (v : View). v.halves) made_is;
        sprout = ap (λ (v : View). v.sprout) made_is;
        told = ap (λ (v : View). v.told) made_is;
      };
      clear = record { collected = ap (λ (v : View). v.awaited) made_is; well = ap (λ (v : View). v.hurt) made_is };
    };
    seats = ap (λ (v : View). v.seats) made_is;
    spare = let e : (share_view t).spare ≡ 63 = ap (λ (v : View). v.spare) made_is in omega arith;
    ready = ap (λ (v : View). v.ready) made_is;
  }

some_inj : (a b : Whole) → Some a ≡ Some b → a ≡ b
some_inj a b e = ap (λ o. or_that o) e
  where
    or_that : Option Whole → Whole
    or_that None = a
    or_that (Some z) = z

-- whoever carries it knows the kind
pub kind_of_whole : (v : View) (m : Meaning) (kind : FinishKind) → m.kind ≡ kind → v.whole ≡ Some (whole_of m) → HasKind v kind
kind_of_whole v m kind k is w knows = ap (λ (x : Whole). x.kind) (some_inj w (whole_of m) (sym knows ∙ is)) ∙ k

or_true : (b : Bool) → (b || true) ≡ true
or_true true = refl
or_true false = refl

-- neither of two codes is 0
pub no_lack : (fault code : ℕ) (lacks : Bool) → lacks ≡ ((fault == 0) || (code == 0)) → lacks ≡ false → (fault ≢ 0) × (code ≢ 0)
no_lack fault code lacks is false_is = (
  λ e. true≢false (sym (is ∙ ap (λ (x : ℕ). (x == 0) || (code == 0)) e) ∙ false_is),
  λ e. true≢false (sym (is ∙ ap (λ (x : ℕ). (fault == 0) || (x == 0)) e ∙ or_true (fault == 0)) ∙ false_is),
)
