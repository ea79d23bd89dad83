-- What a claim's step shows of the pair: the handle that it takes is the root of the running vertex's finish.
use Rattle.std.proofs.Common.{◌≡◌, ℕ, ◌<◌, [], ◌∷◌, get_or, Option, refl, sym, ap, ◌∙◌, subst, arith, Some, cond, eqb}
use Prim.Native.Nat.{zero, suc}
use Rattle.atomic_table.specs.Table.{Me}
use Rattle.spd_words.specs.Plan.{PlanView, IsPlan, pair_place, grown_nodes}
use Rattle.spd_words.specs.Words.{Pair, Vertex, pair_of}
use Rattle.spd_words.specs.declared.scheme.Scheme.{Scheme}
use Rattle.spd_words.specs.declared.scheme.Scheme.TheVariants.{Flat}
use Rattle.spd_words.proofs.Reading.{pair_read}
use Rattle.spd_state.specs.Dag.{Dag, next_handle}
use Rattle.spd_state.specs.Tree.{Trees, Under}
use Rattle.spd_state.specs.Parts.{RunOk}
use Rattle.spd_state.specs.declared.view.Running.{Running}
use Rattle.spd_state.specs.declared.view.View.{View}
use Rattle.spd_state.proofs.Rights.{running_ok, pair_inside, unclaimed, handle_under}
use Rattle.spd_rule.specs.Held.{StepUnderRule}
use Rattle.spd_counter.specs.Claiming.{pair_handle}

-- the code's choice between two handles
handle_next : (f s c : ℕ) → c < 2 → cond (eqb c 0) f s ≡ get_or (f ∷ s ∷ []) c 0
handle_next f s zero low = refl
handle_next f s (suc zero) low = refl
handle_next f s (suc (suc c)) low = absurd (omega arith)

some_is : (a b : ℕ) → Some a ≡ Some b → a ≡ b
some_is a b e = cc

module _ (p : PlanView) (plan : IsPlan p) (flat : p.scheme ≡ Flat) where
  -- with flat counters there are no grown nodes
  none_grown : p.grown ≡ 0
  none_grown = sym plan.scheme ∙ ap (λ (s : Scheme). grown_nodes s p.moves p.grown) flat

  -- and what lies under a finish is its root
  under_root : (t : Trees) (f n : ℕ) → ((k : ℕ) → k < p.moves → t.tops k ≡ Some k) → Under p t f n → (n < p.moves) × (n ≡ f)
  under_root t f n roots under = let g = none_grown in let l = under.low in let low : n < p.moves = omega arith in
      (low, some_is n f (sym (roots n low) ∙ under.top))

  module _ {B : Type 0} (place found left : ℕ) (me me' : Me (Option B) View) (step : StepUnderRule p place found left me me') (r : Running)
      (is : me.0.running ≡ Some r) where
    abbrev a : Dag
    a = step.held.dag

    ok : RunOk p a.trees a.pairs a.vertices r
    ok = running_ok p a step.before.homes step.before.views step.held.kept step.seat me.0 step.knew r is

    -- the running vertex increments at its finish's root
    pub inc_is : (r.inc < p.moves) × (r.inc ≡ r.finish)
    inc_is = let k = ok in let w : Vertex = a.vertices r.vertex in let s : w.state ≡ 3 = ap (λ (x : Vertex). x.state) k.word in
        let under : Under p a.trees w.finish w.inc = step.held.kept.live.inc r.vertex k.vertex (omega arith) in
        under_root a.trees r.finish r.inc (λ n l. step.held.kept.forest.root n l)
        (subst (λ (x : Vertex). Under p a.trees x.finish x.inc) k.word under)

    module _ (right : r.right ≡ 1) (at : place ≡ pair_place p r.pair) where
      abbrev q : Pair
      q = a.pairs r.pair

      pair_low : r.pair < p.moves
      pair_low = pair_inside p a step.before.homes step.before.views step.held.kept step.seat me.0 step.knew r is

      -- the word is the pair's
      found_is : pair_of found ≡ q
      found_is = ap pair_of (sym step.was ∙ (ap (λ (i : ℕ). get_or step.before.words i 0) at ∙ step.held.written.pairs r.pair pair_low))
          ∙ pair_read q (step.held.written.pairs_fit r.pair pair_low)

      few : q.claims < 2
      few = let m = step.held.kept.balances.most r.pair pair_low in
          let u = unclaimed p a step.before.homes step.before.views step.held.kept step.seat me.0 step.knew r is right in omega arith

      -- the code takes the handle that is next
      pub next_is : pair_handle found ≡ next_handle (pair_of found)
      next_is = subst (λ (x : Pair). cond (eqb x.claims 0) x.first x.second ≡ next_handle x) (sym found_is) (handle_next q.first q.second q.claims few)

      -- and that is the finish's root
      pub claimed_is : (next_handle (pair_of found) < p.moves) × (next_handle (pair_of found) ≡ r.finish)
      claimed_is = subst (λ (x : Pair). (next_handle x < p.moves) × (next_handle x ≡ r.finish)) (sym found_is)
          (under_root a.trees r.finish (next_handle q) (λ n l. step.held.kept.forest.root n l)
          (handle_under p a step.before.homes step.before.views step.held.kept step.seat me.0 step.knew r is right))
