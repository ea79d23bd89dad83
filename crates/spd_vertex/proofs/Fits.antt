-- The body that comes out of the slot of a started vertex is the one of which the start tells that it is fit.
use Rattle.std.proofs.Common.{◌≡◌, ℕ, List, [], ◌∷◌, eqb, refl, sym, ap, ◌∙◌, Option, Some, None, Bool, true, false, cond}
use Rattle.atomic_table.specs.Table.{Me}
use Rattle.spd_words.specs.Meaning.{BodyView}
use Rattle.spd_words.specs.Words.{Vertex, vertex_of}
use Rattle.spd_state.specs.Shown.{note_ready}
use Rattle.spd_state.specs.Steps.{stepped}
use Rattle.spd_state.specs.declared.view.View.{View}
use Rattle.spd_rule.specs.Kept.{StartsFit}
use Rattle.spd_rule.specs.Steps.{see_known}
use Rattle.spd_rule.specs.declared.field.Share.{Share}
use Rattle.spd_vertex.specs.Starting.{GivesFit, start_of_slot}

-- a look at a vertex leaves what the share carries of the make
see_whole : (i : ℕ) (x : Vertex) (v : View) (b : Bool) → (cond b (note_ready i x v) (stepped v)).whole ≡ v.whole
see_whole i x v true = refl
see_whole i x v false = refl

abbrev head_slot : {S : Type 0} → S → List (ℕ × S) → S
head_slot y [] = y
head_slot y (x ∷ xs) = x.1

module _ {B : Type 0} (view : B → BodyView) (i found : ℕ) (s : Share B) (seen after : Me (Option B) View) (saw : seen ≡ see_known i found s.seat.me)
    (fits : StartsFit view i seen after) (body : Option B) (is : after.1 ≡ (i, body) ∷ seen.1) where
  same_whole : seen.0.whole ≡ s.seat.me.0.whole
  same_whole = ap (λ (m : Me (Option B) View). m.0.whole) saw
      ∙ see_whole i (vertex_of found) s.seat.me.0 (eqb (vertex_of found).state 2)

  pub fit_out : (slot : ℕ) (got : Option B) (l : List (ℕ × Option B)) → after.1 ≡ (slot, got) ∷ l → GivesFit view i s (start_of_slot got)
  fit_out slot None l at = tt
  fit_out slot (Some b) l at = let k : body ≡ Some b = ap (head_slot body) (sym is ∙ at) in
      let f = fits b (is ∙ ap (λ (o : Option B). let c : List (ℕ × Option B) = (i, o) ∷ seen.1 in c) k) in record {
        fit = f.fit;
        tame = λ w knows. f.tame w (same_whole ∙ knows.0, knows.1);
        waits = λ w knows. f.waits w (same_whole ∙ knows.0, knows.1);
      }
