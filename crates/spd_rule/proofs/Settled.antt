-- A view that settles, and a share that comes to rest.
use Rattle.std.proofs.Common.{◌≡◌, ◌⊎◌, ℕ, List, [], ◌∷◌, refl, sym, ◌∙◌, Option, Some, None, Bool, true, false, not, cond, inl, inr, eqb, map, ◌&&◌, ⊎_elim}
use lib.Dec.{ltb}
use Rattle.atomic_table.specs.Table.{Me, rest}
use Rattle.atomic_table.specs.Seated.{TableId}
use Rattle.spd_words.specs.Words.{Node}
use Rattle.spd_state.specs.Sums.{count, without}
use Rattle.spd_state.specs.Steps.{lose_view, lose_right, tell_if, keep_if, is_over, settle_view, sub_after}
use Rattle.spd_state.specs.declared.view.Running.{Running}
use Rattle.spd_state.specs.declared.view.Flight.{Flight}
use Rattle.spd_state.specs.declared.view.View.{View}
use Rattle.spd_rule.specs.Rest.{due, rested, at_rest}
use Rattle.spd_rule.specs.Beside.{Mirrors}
use Rattle.spd_rule.specs.declared.beside.Beside.{Beside}

-- the view that `sub_after` settles, by whether another unit than the claimed one is there
abbrev pub lowered : Bool → ℕ → Node → View → View
lowered other d n v = cond other (lose_view (without d v.held) v.claimed (tell_if (eqb n.twice 2) d v.told) v)
    (lose_view v.held (without d v.claimed) (tell_if (eqb n.twice 2) d v.told) v)

lowered_slots : (other : Bool) (d : ℕ) (n : Node) (v : View) → (settle_view (lowered other d n v)).slots ≡ v.slots
lowered_slots true d n v = refl
lowered_slots false d n v = refl

lowered_flight : (other : Bool) (d : ℕ) (n : Node) (v : View) → (settle_view (lowered other d n v)).flight ≡ v.flight
lowered_flight true d n v = refl
lowered_flight false d n v = refl

pub sub_slots : (d : ℕ) (n : Node) (v : View) → (sub_after d n v).slots ≡ v.slots
sub_slots d n v = lowered_slots (ltb 0 (count d v.held)) d n v

pub sub_flight : (d : ℕ) (n : Node) (v : View) → (sub_after d n v).flight ≡ v.flight
sub_flight d n v = lowered_flight (ltb 0 (count d v.held)) d n v

lowered_shown : (other : Bool) (d : ℕ) (n : Node) (v : View) → (settle_view (lowered other d n v)).shown ≡ v.shown
lowered_shown true d n v = refl
lowered_shown false d n v = refl

pub sub_shown : (d : ℕ) (n : Node) (v : View) → (sub_after d n v).shown ≡ v.shown
sub_shown d n v = lowered_shown (ltb 0 (count d v.held)) d n v

-- the running vertex stays, or it is over and no move is in flight
keeps_or_none : (over : Bool) (o : Option Running) (f : Option Flight) → f ≡ None → (keep_if (not over) o ≡ o) ⊎ (keep_if (not over) o ≡ None) × (f ≡ None)
keeps_or_none true o f e = inr (refl, e)
keeps_or_none false o f e = inl refl

pub settles : (o : Option Running) (f : Option Flight) (c t : List ℕ) → (keep_if (not (is_over o f c t)) o ≡ o) ⊎ (keep_if (not (is_over o f c t)) o ≡ None)
    × (f ≡ None)
settles None f c t = inl refl
settles (Some r) (Some f) c t = inl refl
settles (Some r) None (x ∷ xs) t = inl refl
settles (Some r) None [] (x ∷ xs) = inl refl
settles (Some r) None [] [] = keeps_or_none ((not (eqb r.vertex 1)) && (eqb r.right 0)) (Some r) None refl

lowered_runs : (other : Bool) (d : ℕ) (n : Node) (v : View) → ((settle_view (lowered other d n v)).running ≡ v.running)
    ⊎ ((settle_view (lowered other d n v)).running ≡ None) × (v.flight ≡ None)
lowered_runs true d n v = settles v.running v.flight v.claimed (tell_if (eqb n.twice 2) d v.told)
lowered_runs false d n v = settles v.running v.flight (without d v.claimed) (tell_if (eqb n.twice 2) d v.told)

module _ {B : Type 0} (w : View) (c : List (ℕ × Option B)) where
  rested_due : (o : Option Running) (f : Option Flight) → w.running ≡ o → w.flight ≡ f → w.slots ≡ due f o ⊎ (o ≡ None) × (f ≡ None)
      → (rested o f (w, c)).0.slots ≡ due (rested o f (w, c)).0.flight (rested o f (w, c)).0.running
  rested_due None None e g h = sym (λ i. due (g i) (e i))
  rested_due (Some r) f e g h = ⊎_elim (λ (s : w.slots ≡ due f (Some r)). s ∙ sym (λ i. due (g i) (e i)))
      (λ (n : ((let x : Option Running = Some r in x) ≡ None) × (f ≡ None)). let n₀ = n.0 in absurd (cc)) h
  rested_due None (Some f) e g h = ⊎_elim (λ (s : w.slots ≡ due (Some f) None). s ∙ sym (λ i. due (g i) (e i)))
      (λ (n : ((let x : Option Running = None in x) ≡ None) × ((let x : Option Flight = Some f in x) ≡ None)). let n₁ = n.1 in absurd (cc)) h

  -- what the share holds is what it is to hold
  pub rest_due : w.slots ≡ due w.flight w.running ⊎ (w.running ≡ None) × (w.flight ≡ None)
      → (at_rest (w, c)).0.slots ≡ due (at_rest (w, c)).0.flight (at_rest (w, c)).0.running
  rest_due h = rested_due w.running w.flight refl refl h

pub sub_due : {B : Type 0} (d : ℕ) (n : Node) (me : Me (Option B) View) → me.0.slots ≡ due me.0.flight me.0.running
    → (at_rest (sub_after d n me.0, me.1)).0.slots ≡ due (at_rest (sub_after d n me.0, me.1)).0.flight (at_rest (sub_after d n me.0, me.1)).0.running
sub_due d n me h = rest_due (sub_after d n me.0) me.1 (⊎_elim
    (λ (e : (sub_after d n me.0).running ≡ me.0.running). inl (sub_slots d n me.0 ∙ h ∙ sym (λ i. due (sub_flight d n me.0 i) (e i))))
    (λ (e : ((sub_after d n me.0).running ≡ None) × (me.0.flight ≡ None)). inr (e.0, sub_flight d n me.0 ∙ e.1))
    (lowered_runs (ltb 0 (count d me.0.held)) d n me.0))

mirrors_rested : {B : Type 0} (z : TableId) (me : Me (Option B) View) (b : Beside) (o : Option Running) (f : Option Flight) → Mirrors z me b
    → Mirrors z (rested o f me) b
mirrors_rested z me b (Some r) f h = h
mirrors_rested z me b None (Some f) h = h
mirrors_rested z me b None None h = record {
  running = h.running;
  flight = h.flight;
  units = h.units;
  claimed = h.claimed;
  told = h.told;
  spare = h.spare;
  marked = h.marked;
  starts = h.starts;
  begun = h.begun;
  inside = h.inside;
  flies = h.flies;
  few = h.few;
  seated = h.seated;
  slots = refl;
}

pub mirrors_rest : {B : Type 0} (z : TableId) (me : Me (Option B) View) (b : Beside) → Mirrors z me b → Mirrors z (at_rest me) b
mirrors_rest z me b h = mirrors_rested z me b me.0.running me.0.flight h

told_rested : {B : Type 0} (me : Me (Option B) View) (o : Option Running) (f : Option Flight) → (rested o f me).0.told ≡ me.0.told
told_rested me (Some r) f = refl
told_rested me None (Some f) = refl
told_rested me None None = refl

shown_rested : {B : Type 0} (me : Me (Option B) View) (o : Option Running) (f : Option Flight) → (rested o f me).0.shown ≡ me.0.shown
shown_rested me (Some r) f = refl
shown_rested me None (Some f) = refl
shown_rested me None None = refl

pub shown_rest : {B : Type 0} (me : Me (Option B) View) → (at_rest me).0.shown ≡ me.0.shown
shown_rest me = shown_rested me me.0.running me.0.flight

ready_rested : {B : Type 0} (me : Me (Option B) View) (o : Option Running) (f : Option Flight) → (rested o f me).0.ready ≡ me.0.ready
ready_rested me (Some r) f = refl
ready_rested me None (Some f) = refl
ready_rested me None None = refl

pub ready_rest : {B : Type 0} (me : Me (Option B) View) → (at_rest me).0.ready ≡ me.0.ready
ready_rest me = ready_rested me me.0.running me.0.flight

pub told_rest : {B : Type 0} (me : Me (Option B) View) → (at_rest me).0.told ≡ me.0.told
told_rest me = told_rested me me.0.running me.0.flight

-- the right of the running vertex is no part of what is held
pub due_lost : (f : Option Flight) (o : Option Running) → due f o ≡ due f (lose_right o)
due_lost f None = refl
due_lost f (Some r) = refl

-- a share to which no slot is due holds none
pub none_there : {S : Type 0} (l : List (ℕ × S)) → map (λ x. x.0) l ≡ [] → l ≡ []
none_there [] e = refl
none_there (x ∷ xs) e = absurd (cc)

-- the slot that is due first was taken last
pub first_there : {S : Type 0} (l : List (ℕ × S)) (s : ℕ) (xs : List ℕ) → map (λ x. x.0) l ≡ s ∷ xs → (y : S) × (l ≡ (s, y) ∷ rest l)
first_there [] s xs e = absurd (cc)
first_there (x ∷ ys) s xs e = let i : x.0 ≡ s = cc in (x.1, λ j. (i j, x.1) ∷ ys)
