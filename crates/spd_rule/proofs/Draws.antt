-- The table allows a draw of a move.
use Rattle.std.proofs.Common.{◌≤◌, ap, ◌∙◌, ◌≢◌, ◌≡◌, ℕ, ◌+◌, ◌*◌, ◌%◌, ◌^◌, ◌<◌, List, set, refl, arith, Option, None, inl}
use mathlib.Core.Option.{some, none}
use mathlib.Core.Option as maybe
use mathlib.Core.Logic.{dite}
use native.Mathlib.Decide.{dec_lt}
use lib.ListN.{get_elem?}
use Rattle.atomic_table.specs.Table.{Me, keeps, takes, chain, Allows}
use Rattle.atomic_table.proofs.Lists.{set_else}
use Rattle.spd_words.specs.Plan.{PlanView, moves_place}
use Rattle.spd_words.specs.Meaning.{BodyView, Meaning}
use Rattle.spd_state.specs.Stages.{drawn_view, full_view, first_slot, second_slot}
use Rattle.spd_state.specs.declared.view.Draw.{Draw}
use Rattle.spd_state.specs.declared.view.Draw.TheVariants.{Make, Chain, Spawn}
use Rattle.spd_state.specs.declared.view.View.{View}
use Rattle.spd_state.proofs.Full.{full_keeps}
use Rattle.spd_state.proofs.Moved.{draw_keeps}
use Rattle.spd_state.proofs.Bounds.{drawn_few}
use Rattle.spd_words.specs.Meaning.{Awaited}
use Rattle.spd_words.specs.Words.{Vertex}
use Rattle.spd_state.specs.Sums.{put}
use Rattle.spd_state.specs.Dag.{Dag}
use Rattle.spd_state.specs.Stages.{MayDraw}
use Rattle.spd_state.proofs.Sums.{total_has}
use Rattle.spd_debts.specs.BookRule.{BookRule}
use Rattle.spd_debts.proofs.Draws.{chain_quiet, spawn_quiet}
use Rattle.spd_debts.proofs.Drawing.{given, tame_of, make_stands, cut_stands, full_stands}
use Rattle.spd_rule.specs.Steps.{MayPay}
use Rattle.spd_rule.proofs.Resting.{fit_alike}
use Rattle.spd_rule.proofs.Glue.{From, marked, marked_rule}
use Rattle.spd_rule.specs.Kept.{means_of, Kept}
use Rattle.spd_rule.specs.Steps.{MayDrawMove, DrawsMove}
use Rattle.spd_rule.proofs.Glue.{allow_moves, unseen}

-- what finishes are to give, the region's number and whether books are kept, once a move is drawn: a make begins them
abbrev expects_by : Draw → Meaning → (ℕ → Awaited) → ℕ → Awaited
expects_by Make told e = put e 0 (given told)
expects_by Chain told e = e
expects_by Spawn told e = e

abbrev region_by : Draw → Meaning → ℕ → ℕ
region_by Make told n = told.promise.moves + 1
region_by Chain told n = n
region_by Spawn told n = n

abbrev tame_by : Draw → Meaning → ℕ → ℕ
tame_by Make told n = tame_of told
tame_by Chain told n = n
tame_by Spawn told n = n

module _ {B : Type 0} (told_of : B → BodyView) (p : PlanView) (slots id : ℕ) (me : Me (Option B) View) where
  pub draws : (draw : Draw) (told : Meaning) → slots ≡ 2 * p.moves → MayDrawMove draw told me.0 → 0 < me.0.seats
      → Allows (Kept told_of p) slots id me moves_place (λ n. (n + 1) % 2 ^ 64) (λ n m'. DrawsMove p draw told n me m')
  draws draw told size may seated = allow_moves told_of p slots id me (λ n. (n + 1) % 2 ^ 64) (λ n m'. DrawsMove p draw told n me m')
      (λ a homes vs from fits. let rule = from.rule in let m₁ = rule.plan.moves.most in let most = drawn_few p a homes vs rule in
      dite (dec_lt a.drawn p.moves)
      (λ room. let fresh = rule.slots.fresh a.drawn room (omega arith) in inl record {
        new = a.drawn + 1;
        fits = tt;
        packs = omega arith;
        expects = expects_by draw told a.expects;
        region = region_by draw told a.region;
        tame = tame_by draw told a.tame;
        move = record {
          view = drawn_view draw a.drawn told me.0;
          act = chain (takes (second_slot draw a.drawn) None) (takes (first_slot draw a.drawn) None);
          valid = slots_there draw a.drawn homes fresh.0 fresh.1;
          kept = marked_rule p (record a { drawn = a.drawn + 1 }) (set (set homes (second_slot draw a.drawn) none) (first_slot draw a.drawn) none) (set vs id (drawn_view draw a.drawn told me.0))
              (expects_by draw told a.expects) (region_by draw told a.region) (tame_by draw told a.tame)
              (draw_keeps p a homes vs rule id me.0 from.at seated (from.deep ∙ size) may.flight draw told may.maker may.free room);
          shown = unseen told_of p slots id me a homes vs from (drawn_view draw a.drawn told me.0) refl;
          books = drawn_stands draw may.maker may.pays may.flight a homes vs from room;
          fit = fit_alike told_of p.moves a.vertices homes (set (set homes (second_slot draw a.drawn) none) (first_slot draw a.drawn) none) from.fit
              (alike draw a homes vs from room);
          tells = record { drawn = λ _. refl; full = λ k. absurd (omega arith); few = most };
        };
      })
      (λ none. inl record {
        new = a.drawn + 1;
        fits = tt;
        packs = omega arith;
        expects = a.expects;
        region = a.region;
        tame = a.tame;
        move = record {
          view = full_view me.0;
          act = keeps;
          valid = tt;
          kept = full_keeps p a homes vs rule id me.0 from.at seated may.unmarked (omega arith);
          shown = unseen told_of p slots id me a homes vs from (full_view me.0) refl;
          books = none_stands draw may.maker may.pays a homes vs from (omega arith);
          fit = from.fit;
          tells = record { drawn = λ k. absurd (omega arith); full = λ _. refl; few = most };
        };
      }))
    where
      -- the two slots are of vertices that aren't stored
      alike : (x : Draw) (a : Dag) (homes : List (maybe.Option (Option B))) (vs : List View) → From told_of p slots id me a homes vs → a.drawn < p.moves
          → (i : ℕ) → i < 2 * p.moves → 0 < (a.vertices i).state → (a.vertices i).state < 3
          → get_elem? (set (set homes (second_slot x a.drawn) none) (first_slot x a.drawn) none) i ≡ get_elem? homes i
      alike x a homes vs from room i low s t = set_else (set homes (second_slot x a.drawn) none) (first_slot x a.drawn) i none (λ e. is_apart x e)
          ∙ set_else homes (second_slot x a.drawn) i none (λ e. is_apart₂ x e)
        where
          body : i ≢ 2 * a.drawn
          body e = let z : (a.vertices i).state ≡ 0 = ap (λ k. (a.vertices k).state) e
              ∙ ap (λ (y : Vertex). y.state) (from.rule.moves.blank_body a.drawn room (omega arith)) in absurd (omega arith)

          rest : i ≢ 2 * a.drawn + 1
          rest e = let z : (a.vertices i).state ≡ 0 = ap (λ k. (a.vertices k).state) e
              ∙ ap (λ (y : Vertex). y.state) (from.rule.moves.blank_rest a.drawn room (omega arith)) in absurd (omega arith)

          is_apart : (x : Draw) → i ≢ first_slot x a.drawn
          is_apart Make = rest
          is_apart Chain = rest
          is_apart Spawn = body

          is_apart₂ : (x : Draw) → i ≢ second_slot x a.drawn
          is_apart₂ Make = body
          is_apart₂ Chain = body
          is_apart₂ Spawn = rest

      drawn_stands : (x : Draw) → MayDraw x me.0 → MayPay x told me.0 → me.0.flight ≡ None
          → (a : Dag) (homes : List (maybe.Option (Option B))) (vs : List View) → From told_of p slots id me a homes vs → a.drawn < p.moves
          → BookRule (means_of told_of) p (marked (record a { drawn = a.drawn + 1 }) (expects_by x told a.expects) (region_by x told a.region) (tame_by x told a.tame))
          (set (set homes (second_slot x a.drawn) none) (first_slot x a.drawn) none) (set vs id (drawn_view x a.drawn told me.0))
      drawn_stands Make maker pays free a homes vs from room =
          make_stands (means_of told_of) p a homes vs from.rule from.books id me.0 from.at (set (set homes (second_slot Make a.drawn) none) (first_slot Make a.drawn) none) told maker.0 pays
      drawn_stands Chain maker pays free a homes vs from room = cut_stands (means_of told_of) p a homes vs from.rule from.books id me.0 from.at maker.0 maker.1 maker.2 pays
          (set (set homes (second_slot Chain a.drawn) none) (first_slot Chain a.drawn) none) (alike Chain a homes vs from room) free Chain chain_quiet told
      drawn_stands Spawn maker pays free a homes vs from room = cut_stands (means_of told_of) p a homes vs from.rule from.books id me.0 from.at maker.0 maker.1 maker.2 pays
          (set (set homes (second_slot Spawn a.drawn) none) (first_slot Spawn a.drawn) none) (alike Spawn a homes vs from room) free Spawn spawn_quiet told

      none_stands : (x : Draw) → MayDraw x me.0 → MayPay x told me.0
          → (a : Dag) (homes : List (maybe.Option (Option B))) (vs : List View) → From told_of p slots id me a homes vs → p.moves ≤ a.drawn
          → BookRule (means_of told_of) p (record a { drawn = a.drawn + 1 }) homes (set vs id (full_view me.0))
      none_stands Make maker pays a homes vs from full = let t = total_has (λ (u : View). u.fresh) vs id me.0 from.at in let f = maker.0 in
          let z = from.rule.history.unmade.none (omega arith) in let m = from.rule.plan.moves.some in absurd (omega arith)
      none_stands Chain maker pays a homes vs from full = full_stands (means_of told_of) p a homes vs from.rule from.books id me.0 from.at maker.0 maker.1 maker.2 pays
      none_stands Spawn maker pays a homes vs from full = full_stands (means_of told_of) p a homes vs from.rule from.books id me.0 from.at maker.0 maker.1 maker.2 pays

      slots_there : (x : Draw) (d : ℕ) (homes : List (maybe.Option (Option B))) → get_elem? homes (2 * d) ≡ some (some None)
          → get_elem? homes (2 * d + 1) ≡ some (some None)
          → (get_elem? homes (second_slot x d) ≡ some (some None)) × (get_elem? (set homes (second_slot x d) none) (first_slot x d) ≡ some (some None))
      slots_there Make d homes e f = (e, set_else homes (2 * d) (2 * d + 1) none (λ z. omega arith) ∙ f)
      slots_there Chain d homes e f = (e, set_else homes (2 * d) (2 * d + 1) none (λ z. omega arith) ∙ f)
      slots_there Spawn d homes e f = (f, set_else homes (2 * d + 1) (2 * d) none (λ z. omega arith) ∙ e)
