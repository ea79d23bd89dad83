-- What a view with a move in flight says of its maker, after each kind of step.
use Rattle.std.proofs.Common.{◌≡◌, ◌≢◌, ℕ, ◌+◌, ◌<◌, [], length, refl, sym, ap, subst, ◌∙◌, arith, Option, Some, None}
use Rattle.spd_words.specs.Words.{Pair}
use Rattle.spd_state.specs.Dag.{busy, right_in}
use Rattle.spd_state.specs.History.{MakerOk, working_of}
use Rattle.spd_state.specs.Steps.{claim_view}
use Rattle.spd_state.specs.declared.view.Running.{Running}
use Rattle.spd_state.specs.declared.view.Flight.{Flight}
use Rattle.spd_state.specs.declared.view.Draw.{Draw}
use Rattle.spd_state.specs.declared.view.Draw.TheVariants.{Make, Chain, Spawn}
use Rattle.spd_state.specs.declared.view.View.{View}

-- no move in flight
pub maker_none : (w : View) → w.flight ≡ None → MakerOk w
maker_none w free = record {
  above = λ g y e. let k = sym free ∙ e in absurd (cc);
  of = λ g y e. let k = sym free ∙ e in absurd (cc);
  alive = λ g e. let k = sym free ∙ e in absurd (cc);
  used = λ g e. let k = sym free ∙ e in absurd (cc);
  free = λ g e. let k = sym free ∙ e in absurd (cc);
  first = λ g e. let k = sym free ∙ e in absurd (cc);
}

-- a share that has to collect or is hurt has none
pub waits_none : (v : View) → MakerOk v → 0 < busy v.awaited + v.hurt → v.flight ≡ None
waits_none v m h = by v.flight refl
  where
    by : (o : Option Flight) → v.flight ≡ o → o ≡ None
    by None e = refl
    by (Some g) e = let f = m.free g e in absurd (omega arith)

-- the same move, running vertex and claimed unit: loads, units, offers
pub maker_alike : (v w : View) → w.flight ≡ v.flight → w.running ≡ v.running → w.claimed ≡ v.claimed
    → (busy v.awaited + v.hurt ≡ 0 → busy w.awaited + w.hurt ≡ 0) → MakerOk v → MakerOk w
maker_alike v w flies runs claims still m = record {
  above = λ g y e i c. m.above g y (sym flies ∙ e) (sym runs ∙ i) c;
  of = λ g y e i c. m.of g y (sym flies ∙ e) (sym runs ∙ i) c;
  alive = λ g e c. let a = m.alive g (sym flies ∙ e) c in let a₂ = a.2 in let q : length w.claimed ≡ length v.claimed = ap length claims in
      (a.0, runs ∙ a.1, omega arith);
  used = λ g e c. let u = m.used g (sym flies ∙ e) c in (ap right_in runs ∙ u.0, claims ∙ u.1);
  free = λ g e. still (m.free g (sym flies ∙ e));
  first = λ g e c. m.first g (sym flies ∙ e) c;
}

-- `claim` may come in the midst of a spawn, and of a chain too
pub maker_claims : (v : View) (r : Running) → v.running ≡ Some r → r.right ≡ 1 → (q : Pair) → MakerOk v → MakerOk (claim_view r q v)
maker_claims v r is mine q m =
    let other : (y : Running) → (let x : Option Running = Some (record r { right = 0 }) in x) ≡ Some y → r.finish ≡ y.finish = λ y i.
    let s : record r { right = 0 } ≡ y = cc in ap (λ (y : Running). y.finish) s in record {
      above = λ g y e i c. let f = other y i in let l = m.above g r e is c in omega arith;
      of = λ g y e i c. m.of g r e is c ∙ other y i;
      alive = λ g e c. (record r { right = 0 }, refl, (let z : 0 < 0 + 1 = omega arith in z));
      used = λ g e c. let u = (m.used g e c).0 in let z : right_in v.running ≡ 1 = ap right_in is ∙ mine in absurd (omega arith);
      free = m.free;
      first = m.first;
    }

-- a move that was just drawn: by a share that runs a vertex of a smaller finish with its right, or by one that runs nothing and makes move 0
pub maker_drawn : (w : View) (x : Draw) (d f : ℕ) → w.flight ≡ Some record { draw = x; number = d; finish = f; stage = 0 }
    → busy w.awaited + w.hurt ≡ 0
    → (x ≢ Make → (r : Running) × (w.running ≡ Some r) × (r.right ≡ 1) × (r.finish < d) × (x ≡ Spawn → f ≡ r.finish))
    → (x ≡ Make → (w.running ≡ None) × (w.claimed ≡ []) × (d ≡ 0)) → MakerOk w
maker_drawn w x d f flies still runs makes =
    let g₀ : Flight = record { draw = x; number = d; finish = f; stage = 0 } in
    let at : (g : Flight) → w.flight ≡ Some g → g₀ ≡ g = λ g e. let k = sym flies ∙ e in cc in record {
      above = λ g y e i c. let k = at g e in let n : d ≡ g.number = ap (λ (g : Flight). g.number) k in
          let h = runs (not_make (ap (λ (g : Flight). g.draw) k ∙ c)) in let h₃ = h.3 in let s = sym h.1 ∙ i in let s : h.0 ≡ y = cc in
          let z : h.0.finish ≡ y.finish = ap (λ (y : Running). y.finish) s in omega arith;
      of = λ g y e i c. let k = at g e in let q : x ≡ Spawn = ap (λ (g : Flight). g.draw) k ∙ c in let h = runs (spawn_not q) in
          let s = sym h.1 ∙ i in let s : h.0 ≡ y = cc in
          ap (λ (g : Flight). g.finish) (sym k) ∙ h.4 q ∙ ap (λ (y : Running). y.finish) s;
      alive = λ g e c. let k = at g e in works x refl (subst (λ (g : Flight). 0 < working_of g.draw g.stage) (sym k) c);
      used = λ g e c. let k = at g e in idle x refl (ap (λ (g : Flight). working_of g.draw g.stage) k ∙ c);
      free = λ g e. still;
      first = λ g e c. let k = at g e in ap (λ (g : Flight). g.number) (sym k) ∙ (makes (ap (λ (g : Flight). g.draw) k ∙ c)).2;
    }
  where
    not_make : x ≡ Chain → x ≢ Make
    not_make q e = let k = sym q ∙ e in absurd (cc)

    spawn_not : x ≡ Spawn → x ≢ Make
    spawn_not q e = let k = sym q ∙ e in absurd (cc)

    works : (y : Draw) → x ≡ y → 0 < working_of y 0 → (r : Running) × (w.running ≡ Some r) × (0 < r.right + length w.claimed)
    works Make q z = absurd (omega arith)
    works Chain q z = let h = runs (not_make q) in let h₂ = h.2 in (h.0, h.1, omega arith)
    works Spawn q z = let h = runs (spawn_not q) in let h₂ = h.2 in (h.0, h.1, omega arith)

    idle : (y : Draw) → x ≡ y → working_of y 0 ≡ 0 → (right_in w.running ≡ 0) × (w.claimed ≡ [])
    idle Make q z = let h = makes q in (ap right_in h.0, h.1)
    idle Chain q z = absurd (omega arith)
    idle Spawn q z = absurd (omega arith)

-- the move goes on to the stage n, and the rest of what is named here stays: `set_root`, `set_pair` of a make or a chain, `set_vertex` of vertex 1
pub maker_stage : (v w : View) (x : Draw) (d f s n : ℕ) → v.flight ≡ Some record { draw = x; number = d; finish = f; stage = s }
    → w.flight ≡ Some record { draw = x; number = d; finish = f; stage = n } → w.running ≡ v.running → w.claimed ≡ v.claimed
    → (busy v.awaited + v.hurt ≡ 0 → busy w.awaited + w.hurt ≡ 0) → working_of x n ≡ working_of x s → MakerOk v → MakerOk w
maker_stage v w x d f s n is now runs claims still same m =
    let g₀ : Flight = record { draw = x; number = d; finish = f; stage = s } in
    let g₁ : Flight = record { draw = x; number = d; finish = f; stage = n } in
    let at : (g : Flight) → w.flight ≡ Some g → g₁ ≡ g = λ g e. let k = sym now ∙ e in cc in record {
      above = λ g y e i c. let k = at g e in let l = m.above g₀ y is (sym runs ∙ i) (ap (λ (g : Flight). g.draw) k ∙ c) in
          let z : d ≡ g.number = ap (λ (g : Flight). g.number) k in omega arith;
      of = λ g y e i c. let k = at g e in ap (λ (g : Flight). g.finish) (sym k) ∙ m.of g₀ y is (sym runs ∙ i) (ap (λ (g : Flight). g.draw) k ∙ c);
      alive = λ g e c. let k = at g e in let a = m.alive g₀ is (subst
          (λ j. 0 < j) same (subst (λ (g : Flight). 0 < working_of g.draw g.stage) (sym k) c)) in
          let a₂ = a.2 in let q : length w.claimed ≡ length v.claimed = ap length claims in (a.0, runs ∙ a.1, omega arith);
      used = λ g e c. let k = at g e in let u = m.used g₀ is (sym same ∙ (ap (λ (g : Flight). working_of g.draw g.stage) k ∙ c)) in
          (ap right_in runs ∙ u.0, claims ∙ u.1);
      free = λ g e. still (m.free g₀ is);
      first = λ g e c. let k = at g e in ap (λ (g : Flight). g.number) (sym k) ∙ m.first g₀ is (ap (λ (g : Flight). g.draw) k ∙ c);
    }

-- the maker gives its place away: `set_pair` of a spawn, `set_vertex` of 2d + 1 of a chain and of 2d of a spawn
pub maker_used : (v w : View) (x : Draw) (d f s n : ℕ) → v.flight ≡ Some record { draw = x; number = d; finish = f; stage = s }
    → w.flight ≡ Some record { draw = x; number = d; finish = f; stage = n } → x ≢ Make → working_of x n ≡ 0
    → ((y : Running) → w.running ≡ Some y → (r : Running) × (v.running ≡ Some r) × (r.finish ≡ y.finish)) → right_in w.running ≡ 0 → w.claimed ≡ []
    → (busy v.awaited + v.hurt ≡ 0 → busy w.awaited + w.hurt ≡ 0) → MakerOk v → MakerOk w
maker_used v w x d f s n is now not_make over like no_right no_claim still m =
    let g₀ : Flight = record { draw = x; number = d; finish = f; stage = s } in
    let g₁ : Flight = record { draw = x; number = d; finish = f; stage = n } in
    let at : (g : Flight) → w.flight ≡ Some g → g₁ ≡ g = λ g e. let k = sym now ∙ e in cc in record {
      above = λ g y e i c. let k = at g e in let r = like y i in let r₂ = r.2 in let l = m.above g₀ r.0 is r.1 (ap (λ (g : Flight). g.draw) k ∙ c) in
          let z : d ≡ g.number = ap (λ (g : Flight). g.number) k in omega arith;
      of = λ g y e i c. let k = at g e in let r = like y i in
          ap (λ (g : Flight). g.finish) (sym k) ∙ m.of g₀ r.0 is r.1 (ap (λ (g : Flight). g.draw) k ∙ c) ∙ r.2;
      alive = λ g e c. let k = at g e in let z : working_of x n ≡ working_of g.draw g.stage = ap (λ (g : Flight). working_of g.draw g.stage) k in
          absurd (omega arith);
      used = λ g e c. (no_right, no_claim);
      free = λ g e. still (m.free g₀ is);
      first = λ g e c. let k = at g e in absurd (not_make (ap (λ (g : Flight). g.draw) k ∙ c));
    }
