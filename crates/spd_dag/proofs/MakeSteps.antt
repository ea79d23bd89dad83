-- That the share which makes may take each of the five steps, and what it knows after each.
use Rattle.std.proofs.Common.{◌≡◌, ℕ, ◌*◌, ◌<◌, ◌≤◌, [], ◌∷◌, Bool, true, false, cond, Option, Some, None, refl, sym, ap, ◌∙◌, subst, arith, inl}
use Rattle.atomic_table.specs.Table.{Me, rest}
use Rattle.spd_words.specs.Plan.{PlanView, moves_place}
use Rattle.spd_words.specs.Words.{pair_with}
use Rattle.spd_words.specs.Meaning.{Meaning}
use Rattle.spd_words.specs.declared.finish_kind.FinishKind.{FinishKind}
use Rattle.spd_state.specs.Stages.{drawn_view, end_vertex, body_vertex}
use Rattle.spd_state.specs.declared.view.Draw.TheVariants.{Make, Spawn}
use Rattle.spd_state.specs.declared.view.View.{View}
use Rattle.spd_state.proofs.Sums.{total_has}
use Rattle.spd_rule.specs.Held.{StepUnderRule}
use Rattle.spd_rule.specs.Nobody.{nobody}
use Rattle.spd_rule.specs.Rest.{at_rest}
use Rattle.spd_rule.specs.Steps.{MayDrawMove, DrawsMove, drawn_known}
use Rattle.spd_rule.specs.Moves.{MaySetRoot, MaySetPair, MaySetVertex, the_end, the_body, fresh_pair, pair_kind, vertex_set, pair_set, root_set}
use Rattle.spd_dag.specs.Acts.{MayMake}
use Rattle.spd_dag.specs.Makes.{IsMade, made_view}

-- until the make has begun, no move is drawn
pub first_shown : {B : Type 0} (p : PlanView) (found left : ℕ) (me me' : Me (Option B) View) → StepUnderRule p moves_place found left me me' → 0 < me.0.fresh
    → found ≡ 0
first_shown p found left me me' s fresh = let t = total_has (λ (v : View). v.fresh) s.before.views s.seat me.0 s.knew in
    let none = s.held.kept.history.unmade.none (omega arith) in sym s.was ∙ (s.held.written.drawn ∙ none)

make_is_no_spawn : {A : Type 0} → Make ≡ Spawn → A
make_is_no_spawn e = cc

not_wild : (b : Bool) → ◌≡◌ {A = ℕ} (cond b 1 0) 0 → b ≡ false
not_wild true e = absurd (omega arith)
not_wild false e = refl

module _ {B : Type 0} (means : B → Meaning) (known : Me (Option B) View) (kind : FinishKind) (body : B) (may : MayMake known.0 kind (means body)) where
  pub make_may_draw : MayDrawMove Make (means body) known.0
  make_may_draw = record {
    flight = may.flight;
    unmarked = may.unmarked;
    maker = (may.fresh, may.running);
    free = may.free;
    pays = may.lawful;
  }

  abbrev pub drawn : Me (Option B) View
  drawn = (record (drawn_view Make 0 (means body) known.0) { running = None }, (1, None) ∷ (0, None) ∷ known.1)

  pub make_draws : drawn_known Make 0 (means body) known ≡ drawn
  make_draws = λ i. (record (drawn_view Make 0 (means body) known.0) { running = may.running i }, (1, None) ∷ (0, None) ∷ known.1)

  -- the draw finds that no move was drawn
  pub make_drawn : (p : PlanView) (n left : ℕ) (m : Me (Option B) View) → DrawsMove p Make (means body) n known m
      → StepUnderRule p moves_place n left known m → m ≡ drawn
  make_drawn p n left m k s = let none = first_shown p n left known m s may.fresh in let some = s.held.kept.plan.moves.some in
      k.drawn (omega arith) ∙ (ap (λ (x : ℕ). drawn_known Make x (means body) known) none ∙ make_draws)

  abbrev pub opened : Me (Option B) View
  opened = (root_set 0 nobody drawn.0, drawn.1)

  abbrev pub handed : Me (Option B) View
  handed = (pair_set opened.0.flight 0 nobody nobody opened.0, opened.1)

  abbrev pub waiting : Me (Option B) View
  waiting = at_rest (vertex_set handed)

  abbrev pub made : Option B → Me (Option B) View
  made x = at_rest (vertex_set (waiting.0, (0, x) ∷ rest waiting.1))

  -- what the steps before leave
  pub make_opened : (m m' : Me (Option B) View) → m ≡ drawn → m' ≡ (root_set 0 nobody m.0, m.1) → m' ≡ opened
  make_opened m m' e f = f ∙ ap (λ (k : Me (Option B) View). (root_set 0 nobody k.0, k.1)) e

  pub make_handed : (m m' : Me (Option B) View) → m ≡ opened → m' ≡ (pair_set m.0.flight 0 nobody nobody m.0, m.1) → m' ≡ handed
  make_handed m m' e f = f ∙ ap (λ (k : Me (Option B) View). (pair_set k.0.flight 0 nobody nobody k.0, k.1)) e

  pub make_waits : (m m' : Me (Option B) View) → m ≡ handed → m' ≡ at_rest (vertex_set m) → m' ≡ waiting
  make_waits m m' e f = f ∙ ap (λ (k : Me (Option B) View). at_rest (vertex_set k)) e

  pub make_may_root : MaySetRoot 0 nobody drawn.0
  make_may_root = record {
    draw = Make;
    opens = λ e. make_is_no_spawn e;
    flies = refl;
    room = let l = may.room in omega arith;
    tells = tt;
  }

  pub make_may_pair : MaySetPair 0 (fresh_pair 1 (pair_kind kind) 0 0) nobody nobody opened.0
  make_may_pair = inl record {
    draw = Make;
    opens = λ e. make_is_no_spawn e;
    flies = refl;
    pair = ap (λ (k : FinishKind). pair_with 0 1 (pair_kind k) 0 0) (sym may.kinds);
  }

  pub make_may_end : MaySetVertex means 1 end_vertex handed
  make_may_end = the_end record { flies = refl; vertex = refl; word = refl; slot = refl }

  pub make_may_body : MaySetVertex means 0 (body_vertex 0) (waiting.0, (0, Some body) ∷ rest waiting.1)
  make_may_body = the_body record {
    draw = Make;
    opens = λ e. make_is_no_spawn e;
    number = 0;
    flies = refl;
    vertex = refl;
    word = refl;
    body = body;
    slot = refl;
    lies = λ w. record { tame = not_wild (means body).wild w; kinds = refl; promise = refl; waits = may.awaited };
  }

  pub make_over : (p : PlanView) → known.0.rooted ≡ [] → (m : Me (Option B) View) (x : Option B) → m ≡ made x → m.0.ready ≤ 2 * p.moves
      → IsMade p (means body) known.0 m
  make_over p rooted m x e most = record {
    view = subst (λ (v : View). v ≡ made_view (means body) known.0 v) (ap (λ (k : Me (Option B) View). k.0) (sym e))
        (λ i. record (made x).0 { running = sym may.running i; flight = sym may.flight i; rooted = sym rooted i });
    slots = ap (λ (k : Me (Option B) View). k.1) e;
    most = most;
    steps = ap (λ (k : Me (Option B) View). k.0.steps) e ∙ omega arith;
  }
