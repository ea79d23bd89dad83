-- What the rule shows of a running vertex at a step, and what a trade leaves.
use Rattle.std.proofs.Common.{[], None, ◌≡◌, ◌≢◌, ℕ, ◌*◌, ◌<◌, ◌≤◌, List, ◌∷◌, Option, Some, refl, sym, ap, ◌∙◌, subst, arith}
use Rattle.std.proofs.Common.{true, false, eqb, ⊎_elim}
use Rattle.std.proofs.lemmas.Bool.Decides.{eqb_tells}
use Rattle.atomic_table.specs.Table.{Me, rest}
use Rattle.spd_words.specs.Plan.{PlanView, IsPlan, grown_nodes, pair_place}
use Rattle.spd_words.specs.Words.{Pair, Vertex, pair_of}
use Rattle.spd_words.proofs.Reading.{pair_read}
use Rattle.spd_words.specs.declared.scheme.Scheme.{Scheme}
use Rattle.spd_words.specs.declared.scheme.Scheme.TheVariants.{Flat}
use Rattle.spd_state.specs.Tree.{Trees, Under, Forest}
use Rattle.spd_state.specs.Dag.{next_handle}
use Rattle.spd_state.specs.Parts.{RunsOk, RunOk, ClaimsOk, RootedOk, IsInside}
use Rattle.spd_state.specs.declared.view.Running.{Running}
use Rattle.spd_state.specs.declared.view.Flight.{Flight}
use Rattle.spd_state.specs.declared.view.View.{View}
use Rattle.spd_words.specs.Meaning.{BodyView}
use Rattle.spd_rule.specs.Kept.{IsFit, SlotFits}
use Rattle.spd_rule.specs.Held.{StepUnderRule}
use Rattle.spd_dag.specs.Taken.{TakesStep}
use Rattle.spd_state.proofs.Rights.{pair_inside, unclaimed, handle_under, running_ok}
use Rattle.spd_state.proofs.Bounds.{ready_few}
use Rattle.spd_dag.specs.Origins.{HasDrawn}
use Rattle.spd_dag.specs.Signals.{HasClaimed}
use Rattle.spd_dag.specs.Spawns.{DrewSpawn}

-- what a share tells of itself is one thing
pub same_some : {A : Type 0} (a b : A) (x : Option A) → x ≡ Some a → x ≡ Some b → a ≡ b
same_some a b x e f = let s : Some a ≡ Some b = sym e ∙ f in cc

-- the slot in front
slot_in : {B : Type 0} → List (ℕ × Option B) → ℕ
slot_in [] = 0
slot_in (x ∷ xs) = x.0

slot_front : {B : Type 0} (x : ℕ × Option B) (xs : List (ℕ × Option B)) → slot_in (x ∷ xs) ≡ x.0
unfolding slot_in
slot_front x xs = refl

-- after a trade the slot in front has what was put there
pub traded_known : {B : Type 0} (m m' : Me (Option B) View) (i slot : ℕ) (x got put : Option B) (tail : List (ℕ × Option B))
    → m.1 ≡ (i, x) ∷ tail → m.1 ≡ (slot, got) ∷ rest m.1 → m' ≡ (m.0, (slot, put) ∷ rest m.1) → m' ≡ (m.0, (i, put) ∷ tail)
traded_known m m' i slot x got put tail a b e = let at : slot ≡ i = sym (slot_front (slot, got) (rest m.1)) ∙ (ap slot_in (sym b ∙ a) ∙ slot_front (i, x) tail) in
    let back : rest m.1 ≡ tail = ap rest a in e ∙ (λ k. (m.0, (at k, put) ∷ back k))

pub plain_step : {B : Type 0} {p : PlanView} {place found left : ℕ} {m m' : Me (Option B) View} → StepUnderRule p place found left m m' → TakesStep p place found left m m'
plain_step {m = m} s = record { slots = m.1; step = s }

-- a step behind a trade, which changes slots alone
pub step_of : {B : Type 0} (p : PlanView) (place found left : ℕ) (n m m' : Me (Option B) View) → n.0 ≡ m.0 → StepUnderRule p place found left m m'
    → TakesStep p place found left n m'
step_of p place found left n m m' e s = record { slots = m.1; step = subst (λ (v : View). StepUnderRule p place found left (v, m.1) m') (sym e) s }

module _ {B : Type 0} (p : PlanView) (place found left : ℕ) (me me' : Me (Option B) View) (s : StepUnderRule p place found left me me') where
  runs_ok : (r : Running) → me.0.running ≡ Some r → RunOk p s.held.dag.trees s.held.dag.pairs s.held.dag.vertices r
  runs_ok r is = let a = s.held.dag in subst (RunsOk p a.trees a.pairs a.vertices) is (s.held.kept.running s.seat me.0 s.knew)

  -- the plan is lawful
  pub plan_shown : IsPlan p
  plan_shown = s.held.kept.plan

  -- the numbers of the running vertex are within the plan
  pub inside_shown : (r : Running) → me.0.running ≡ Some r → IsInside p r
  inside_shown r is = let k = runs_ok r is in let rule = s.held.kept in let a = s.held.dag in let w = k.word in let l = k.vertex in
      let there : 0 < (a.vertices r.vertex).state = subst (λ (x : Vertex). 0 < x.state) (sym w) (omega arith) in (
        l,
        subst (λ (x : Vertex). x.pair < p.moves) w (rule.balances.pair r.vertex l there),
        subst (λ (x : Vertex). x.finish < p.moves) w (rule.live.finish r.vertex l there).0,
        (subst (λ (x : Vertex). Under p a.trees x.finish x.inc) w (rule.live.inc r.vertex l there)).low,
      )

  -- few vertices are ready
  pub ready_shown : me.0.ready ≤ 2 * p.moves
  ready_shown = ready_few p s.held.dag s.before.homes s.before.views s.held.kept s.seat me.0 s.knew

  -- with its right it has claimed nothing
  pub unclaimed_shown : (r : Running) → me.0.running ≡ Some r → r.right ≡ 1 → me.0.claimed ≡ []
  unclaimed_shown r is mine = let a = s.held.dag in let o = s.held.kept.own s.seat me.0 s.knew in
      (subst (λ (q : Option Running). ClaimsOk p a.trees q me.0.claimed) is o.claims).0 mine

  -- with no move in flight it has set no root
  pub unrooted_shown : me.0.flight ≡ None → me.0.rooted ≡ []
  unrooted_shown none = let o = s.held.kept.own s.seat me.0 s.knew in subst (λ (q : Option Flight). RootedOk q me.0.rooted) none o.rooted

  pub has_drawn : (d : ℕ) (r : Running) → d < p.moves → me.0.running ≡ Some r → r.right ≡ 1 → me.0.flight ≡ None → HasDrawn p d r me.0
  has_drawn d r low is mine none = record {
    plan = plan_shown;
    low = low;
    inside = inside_shown r is;
    claimed = unclaimed_shown r is mine;
    rooted = unrooted_shown none;
  }

-- a list with something in front isn't empty
pub nothing_taken : {A : Type 0} (l : List A) (x : A) (xs : List A) → l ≡ x ∷ xs → l ≢ []
nothing_taken l x xs e n = let k : x ∷ xs ≡ [] = sym e ∙ n in cc

-- the same by what the share was known to know
pub traded_at : {B : Type 0} (k m m' : Me (Option B) View) (i slot : ℕ) (x got put : Option B) (tail : List (ℕ × Option B)) → m ≡ k
    → k.1 ≡ (i, x) ∷ tail → m.1 ≡ (slot, got) ∷ rest m.1 → m' ≡ (m.0, (slot, put) ∷ rest m.1) → m' ≡ (k.0, (i, put) ∷ tail)
traded_at k m m' i slot x got put tail e a b f = traded_known m m' i slot x got put tail (ap (λ (n : Me (Option _) View). n.1) e ∙ a) b f
    ∙ (λ j. ((e j).0, (i, put) ∷ tail))

-- a flat plan has no grown nodes
pub flat_grown : (p : PlanView) → IsPlan p → p.scheme ≡ Flat → p.grown ≡ 0
flat_grown p plan flat = sym plan.scheme ∙ ap (λ (s : Scheme). grown_nodes s p.moves p.grown) flat

-- in a flat plan a node under a finish is its root
pub flat_root : (p : PlanView) (t : Trees) (f n : ℕ) → Forest p t → p.grown ≡ 0 → Under p t f n → (n < p.moves) × (n ≡ f)
flat_root p t f n forest none under = let l = under.low in let low : n < p.moves = omega arith in (low, same_some n f (t.tops n) (forest.root n low) under.top)

module _ {B : Type 0} (p : PlanView) (found left : ℕ) (r : Running) (me me' : Me (Option B) View) (s : StepUnderRule p (pair_place p r.pair) found left me me')
    (is : me.0.running ≡ Some r) (mine : r.right ≡ 1) where
  -- the word that a claim finds is that of the running vertex's pair
  pair_found : pair_of found ≡ s.held.dag.pairs r.pair
  pair_found = let a = s.held.dag in let rule = s.held.kept in let l = pair_inside p a s.before.homes s.before.views rule s.seat me.0 s.knew r is in
      ap pair_of (sym s.was ∙ s.held.written.pairs r.pair l) ∙ pair_read (a.pairs r.pair) (s.held.written.pairs_fit r.pair l)

  pub claims_few : (pair_of found).claims < 2
  claims_few = let a = s.held.dag in let rule = s.held.kept in let l = pair_inside p a s.before.homes s.before.views rule s.seat me.0 s.knew r is in
      let u = unclaimed p a s.before.homes s.before.views rule s.seat me.0 s.knew r is mine in let m = rule.balances.most r.pair l in
      let e : (pair_of found).claims ≡ (a.pairs r.pair).claims = ap (λ (q : Pair). q.claims) pair_found in omega arith

  -- the handle that it takes is the root of the running vertex's finish
  pub has_claimed : p.scheme ≡ Flat → HasClaimed p (next_handle (pair_of found)) r me.0
  has_claimed flat = let a = s.held.dag in let rule = s.held.kept in
      let u = handle_under p a s.before.homes s.before.views rule s.seat me.0 s.knew r is mine in
      let k = flat_root p a.trees r.finish (next_handle (a.pairs r.pair)) rule.forest (flat_grown p rule.plan flat) u in
      let e : next_handle (pair_of found) ≡ next_handle (a.pairs r.pair) = ap next_handle pair_found in record {
        plan = rule.plan;
        low = subst (λ (n : ℕ). n < p.moves) (sym e) k.0;
        root = e ∙ k.1;
        other = (running_ok p a s.before.homes s.before.views rule s.seat me.0 s.knew r is).other mine;
        claimed = unclaimed_shown p (pair_place p r.pair) found left me me' s r is mine;
      }

-- numbers that differ are not equal by the test
pub differ_eqb : (a b : ℕ) → a ≢ b → eqb a b ≡ false
differ_eqb a b other = ⊎_elim (λ (h : (eqb a b ≡ true) × (a ≡ b)). absurd (other h.1)) (λ (h : (eqb a b ≡ false) × (a ≢ b)). h.0) (eqb_tells a b)

-- in a flat plan a running vertex increments at the root of its finish
pub inc_shown : {B : Type 0} (p : PlanView) (place found left : ℕ) (me me' : Me (Option B) View) → StepUnderRule p place found left me me' → (r : Running)
    → me.0.running ≡ Some r → p.scheme ≡ Flat → r.inc ≡ r.finish
inc_shown p place found left me me' s r is flat = let a = s.held.dag in let rule = s.held.kept in
    let k = running_ok p a s.before.homes s.before.views rule s.seat me.0 s.knew r is in let w = k.word in
    let there : 0 < (a.vertices r.vertex).state = subst (λ (x : Vertex). 0 < x.state) (sym w) (omega arith) in
    let under : Under p a.trees r.finish r.inc = subst (λ (x : Vertex). Under p a.trees x.finish x.inc) w (rule.live.inc r.vertex k.vertex there) in
    (flat_root p a.trees r.finish r.inc rule.forest (flat_grown p rule.plan flat) under).1

pub drew_spawn : (p : PlanView) (d : ℕ) (r : Running) (v : View) → p.scheme ≡ Flat → HasDrawn p d r v → r.inc ≡ r.finish → DrewSpawn p d r v
drew_spawn p d r v flat h root = record { drawn = h; flat = let i = h.inside.2 in omega arith; root = root }

-- ---- what lies in the slot that was taken last

abbrev head_body : {B : Type 0} → List (ℕ × Option B) → Option B
head_body [] = None
head_body (x ∷ xs) = x.1

module _ {B : Type 0} (view : B → BodyView) (m : Me (Option B) View) where
  -- a fit body
  pub slot_fits : (i : ℕ) (b : B) (l : List (ℕ × Option B)) → m.1 ≡ (i, Some b) ∷ l → IsFit (view b) → SlotFits view m
  slot_fits i b l is fit j c at = let e : Some b ≡ Some c = ap head_body (sym is ∙ at) in let k : b ≡ c = cc in subst (λ (x : B). IsFit (view x)) k fit

  -- or none
  pub slot_empty : (i : ℕ) (l : List (ℕ × Option B)) → m.1 ≡ (i, None) ∷ l → SlotFits view m
  slot_empty i l is j c at = let e : None ≡ Some c = ap head_body (sym is ∙ at) in absurd (cc)
