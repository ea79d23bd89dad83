-- The table allows a vertex of a move in flight to be stored, and the slots of a share that is at rest to go home with it.
use Rattle.std.proofs.Common.{◌≡◌, ◌≢◌, ℕ, ◌+◌, ◌*◌, ◌<◌, ◌≤◌, List, ◌∷◌, length, set, map, refl, sym, ap, ◌∙◌, subst, arith, Option, Some, None, inl}
use mathlib.Core.Option.{some}
use mathlib.Core.Option as maybe
use lib.ListN.{length-set}
use Rattle.atomic_table.specs.Table.{Me, Act, gives, chain, Allows, Valid, homes_after, carried_after, rest}
use Rattle.spd_words.specs.Plan.{PlanView, vertex_place}
use Rattle.spd_words.specs.Meaning.{BodyView, Meaning}
use Rattle.spd_words.specs.Words.{Vertex, VertexFits, pack_vertex}
use Rattle.spd_state.specs.Sums.{put}
use Rattle.spd_state.specs.Dag.{Dag}
use Rattle.spd_state.specs.Shown.{AllShown}
use Rattle.spd_state.specs.Parts.{Rule, FlightsOk, FlightOk, no_vertex}
use Rattle.spd_state.specs.Stages.{end_view, chain_rest_view, spawn_left_view, last_view, end_vertex, chain_rest_vertex, body_vertex, spawn_vertex}
use Rattle.spd_state.specs.declared.view.Draw.{Draw}
use Rattle.spd_state.specs.declared.view.Draw.TheVariants.{Make, Chain, Spawn}
use Rattle.spd_state.specs.declared.view.Running.{Running}
use Rattle.spd_state.specs.declared.view.Flight.{Flight}
use Rattle.spd_state.specs.declared.view.View.{View}
use Rattle.spd_state.proofs.Sums.{put_else}
use Rattle.spd_state.proofs.Settle.{there_set}
use Rattle.spd_state.proofs.Bounds.{ready_few}
use Rattle.spd_state.proofs.Lookup.{known_under}
use Rattle.spd_state.proofs.EndVertex.{end_keeps}
use Rattle.spd_state.proofs.ChainRest.{chain_rest_keeps}
use Rattle.spd_state.proofs.LastBody.{Closing, make_closing, chain_closing, last_body_keeps}
use Rattle.spd_state.proofs.SpawnLeft.{spawn_left_keeps}
use Rattle.spd_state.proofs.SpawnRight.{spawn_right_keeps}
use Rattle.spd_words.specs.declared.finish_kind.FinishKind.{FinishKind}
use Rattle.spd_words.specs.Meaning.{Awaited}
use Rattle.spd_state.specs.Promises.{promised}
use Rattle.spd_state.specs.declared.promise.Owed.{Owed}
use Rattle.spd_state.specs.declared.promise.Whole.{Whole}
use Rattle.spd_debts.specs.BookRule.{BookRule}
use Rattle.spd_debts.proofs.SetVertex.{Ending, make_ending, chain_ending}
use Rattle.spd_debts.proofs.StoreKinds.{Told}
use Rattle.spd_debts.proofs.Storing.{end_vertex_stands, chain_vertex_stands, body_vertex_stands, left_vertex_stands, right_vertex_stands}
use Rattle.spd_rule.specs.Moves.{BodyLies, is_wild}
use Rattle.spd_rule.specs.Kept.{means_of, Kept}
use Rattle.spd_rule.specs.Rest.{due, at_rest}
use Rattle.spd_rule.specs.Moves.{MaySetVertex, the_end, the_rest, the_body, the_left, the_right, StoresEnd, StoresRest, StoresBody, StoresLeft, StoresRight}
use Rattle.spd_rule.specs.Moves.{flight_with, vertex_set, stored_in, less_first}
use Rattle.spd_state.proofs.Showing.{shown_beside}
use Rattle.spd_rule.proofs.Glue.{From, allow_vertex, unseen_by}
use Rattle.spd_rule.proofs.Settled.{shown_rest}
use Rattle.atomic_table.proofs.Lists.{set_else, set_here}
use Rattle.spd_rule.specs.Kept.{FitHomes, SlotFits}
use Rattle.spd_rule.proofs.Resting.{fit_alike, fit_put, HomeBound, bound_by, running_started, rests}

closing_of : (draw : Draw) → draw ≢ Spawn → Closing draw
closing_of Make other = make_closing
closing_of Chain other = chain_closing
closing_of Spawn other = absurd (other refl)

ending_of : (draw : Draw) → draw ≢ Spawn → Ending draw
ending_of Make other = make_ending
ending_of Chain other = chain_ending
ending_of Spawn other = absurd (other refl)

module _ {B : Type 0} (told_of : B → BodyView) (p : PlanView) (slots id : ℕ) (me : Me (Option B) View) (size : slots ≡ 2 * p.moves)
    (holds : me.0.slots ≡ map (λ x. x.0) me.1) (is_due : me.0.slots ≡ due me.0.flight me.0.running) (slot_fits : SlotFits told_of me) where
  -- the slots that stay, by number
  abbrev left : List ℕ
  left = map (λ x. x.0) (rest me.1)

  in_front : (i : ℕ) (y : Option B) → me.1 ≡ (i, y) ∷ rest me.1 → me.0.slots ≡ i ∷ left
  in_front i y e = holds ∙ ap (map (λ x. x.0)) e

  less : (i : ℕ) (y : Option B) → me.1 ≡ (i, y) ∷ rest me.1 → less_first me.0.slots ≡ left
  less i y e = ap less_first (in_front i y e)

  abbrev Said : Me (Option B) View → Type 0
  Said m' = (m' ≡ at_rest (vertex_set me)) × (m'.0.ready ≤ 2 * p.moves)

  module _ (i : ℕ) (x : Vertex) (a : Dag) (homes : List (maybe.Option (Option B))) (vs : List View) (from : From told_of p slots id me a homes vs) where
    abbrev b : Dag
    b = record a { vertices = put a.vertices i x }

    -- what a step of any kind comes to
    pub record Ends : Type 0 where
      pub view : View
      pub act : Act (Option B)
      pub valid : Valid homes me.1 act
      pub kept : Rule p b (homes_after homes me.1 act) (set vs id view)
      pub shown : AllShown p.moves b.vertices (set vs id view)
      pub books : BookRule (means_of told_of) p b (homes_after homes me.1 act) (set vs id view)
      pub fit : FitHomes told_of p.moves b.vertices (homes_after homes me.1 act)
      pub tells : Said (view, carried_after me.1 act)

    ends : (y : Option B) (w : View) → me.1 ≡ (i, y) ∷ rest me.1 → Rule p b (set homes i (some y)) (set vs id w)
        → BookRule (means_of told_of) p b (set homes i (some y)) (set vs id w) → w ≡ (vertex_set me).0 → w.slots ≡ left
        → w.shown ≡ me.0.shown → a.vertices i ≡ no_vertex
        → (w.running ≡ None → w.flight ≡ None → HomeBound p.moves b.vertices (rest me.1)) → Ends
    ends y w slot kept stands is lasts seen blank bound =
        let homes' : List (maybe.Option (Option B)) = homes_after homes me.1 gives in
        let put_home : homes' ≡ set homes i (some y) = ap (λ l. homes_after homes l gives) slot in
        let deep : length homes' ≡ 2 * p.moves = ap length put_home ∙ (length-set homes i (some y) ∙ (from.deep ∙ size)) in
        let r = rests told_of p b homes' vs id me.0 from.at w (rest me.1) (subst (λ (h : List (maybe.Option (Option B))). Rule p b h (set vs id w))
        (sym put_home) kept) (subst (λ (h : List (maybe.Option (Option B))). BookRule (means_of told_of) p b h (set vs id w)) (sym put_home) stands) deep lasts bound in
        let v : View = (at_rest (w, rest me.1)).0 in let all : r.act ≡ r.act = refl in record {
          view = v;
          act = chain gives r.act;
          valid = (tt, r.valid);
          kept = r.kept;
          shown = unseen_by told_of p slots id me a homes vs from i x (shown_beside p.moves a.vertices i x
              (let z : (a.vertices i).state ≡ 0 = ap (λ (u : Vertex). u.state) blank in omega arith)) v (shown_rest (w, rest me.1) ∙ seen);
          books = r.books;
          fit = fit_alike told_of p.moves b.vertices homes' (homes_after homes' (rest me.1) r.act)
              (subst (FitHomes told_of p.moves b.vertices) (sym put_home)
              (fit_put told_of p.moves a.vertices homes (set homes i (some y)) i x (λ k n. set_else homes i k (some y) n)
              (λ c l s t e. let z : some (some y) ≡ some (some (Some c)) = sym (set_here homes i (some y) (subst (λ (n : ℕ). i < n) (sym (from.deep ∙ size)) l)) ∙ e in
              let h : y ≡ Some c = cc in slot_fits i c (slot ∙ ap (λ (o : Option B). (i, o) ∷ rest me.1) h)) from.fit)) r.alike;
          tells = (
            (λ j. (v, sym r.carried j)) ∙ (λ j. at_rest (is j, rest me.1)),
            ready_few p b (homes_after homes' (rest me.1) r.act)
                (set vs id v) r.kept id v (there_set vs id me.0 v from.at),
          );
        }

    -- where a move has come to its last vertex, what the running vertex holds is left
    last_bound : (draw : Draw) (d f : ℕ) (y : Option B) → me.1 ≡ (i, y) ∷ rest me.1 → me.0.flight ≡ Some (flight_with draw d f 3) → a.vertices i ≡ no_vertex
        → HomeBound p.moves b.vertices (rest me.1)
    last_bound draw d f y slot flies blank = bound_by p.moves b.vertices (rest me.1) me.0.running
        (sym (less i y slot) ∙ ap less_first (is_due ∙ (λ j. due (flies j) me.0.running)))
        (λ r e. let s = running_started p a homes vs from.rule id me.0 from.at r e in let st = s.started in
        let apart : r.vertex ≢ i = λ k. let z : (a.vertices r.vertex).state ≡ 0 = ap (λ n. (a.vertices n).state) k ∙ ap (λ (v : Vertex). v.state) blank in
        omega arith in
        record { low = s.low; started = subst (λ (v : Vertex). 3 ≤ v.state) (sym (put_else a.vertices i x r.vertex apart)) s.started })

    flight_ok : (f : Flight) → me.0.flight ≡ Some f → FlightOk p a.trees a.drawn a.nodes a.pairs a.vertices f
    flight_ok f e = subst (FlightsOk p a.trees a.drawn a.nodes a.pairs a.vertices) e (from.rule.flying id me.0 from.at)

  module _ (a : Dag) (homes : List (maybe.Option (Option B))) (vs : List View) (from : From told_of p slots id me a homes vs) where
    deep : length homes ≡ 2 * p.moves
    deep = from.deep ∙ size

    slot_at : (i j : ℕ) (y : Option B) → i ≡ j → me.1 ≡ (i, y) ∷ rest me.1 → me.1 ≡ (j, y) ∷ rest me.1
    slot_at i j y e s = subst (λ (k : ℕ). me.1 ≡ (k, y) ∷ rest me.1) e s

    -- in a field that keeps books neither the running vertex nor the make is wild
    is_tame : (draw : Draw) → draw ≢ Spawn → a.tame ≡ 1 → is_wild draw me.0 ≡ 0
    is_tame Make o t = by me.0.whole refl
      where
        by : (w : Option Whole) → me.0.whole ≡ w → is_wild Make me.0 ≡ 0
        by None e = ap (λ (w : Option Whole). is_wild Make (record me.0 { whole = w })) e
        by (Some w) e = ap (λ (w : Option Whole). is_wild Make (record me.0 { whole = w })) e ∙ (from.books.carries id me.0 from.at).only w e t
    is_tame Chain o t = ((from.books.kept t).views id me.0 from.at).tame
    is_tame Spawn o t = absurd (o refl)

    told : {kind : FinishKind} {owed : Owed} {awaited : Option Awaited} {m : Meaning} → BodyLies kind owed awaited m → Told m kind (promised owed)
    told l = record { tame = l.tame; kind = l.kinds; promise = l.promise }

    -- what is left at the last stage
    last_is : (draw : Draw) (d f : ℕ) (o : Option Running) (l : List ℕ) → last_view l me.0 ≡ stored_in (Some (flight_with draw d f 3)) o l me.0
    last_is Make d f o l = refl
    last_is Chain d f o l = refl
    last_is Spawn d f o l = refl

    module _ (i : ℕ) (x : Vertex) where
      end_kind : StoresEnd (means_of told_of) i x me → Ends i x a homes vs from
      end_kind h = let s = slot_at i 1 None h.vertex h.slot in
          subst (λ (j : ℕ). Ends j x a homes vs from) (sym h.vertex) (subst (λ (z : Vertex). Ends 1 z a homes vs from) (sym h.word)
          (ends 1 end_vertex a homes vs from None (end_view left me.0) s (end_keeps p a homes vs from.rule id me.0 from.at h.flies left
          (in_front 1 None s) deep)
          (end_vertex_stands (means_of told_of) p a homes vs from.rule from.books id me.0 from.at h.flies left)
          (sym (λ j. stored_in (h.flies j) me.0.running (less 1 None s j) me.0)) refl refl
          ((flight_ok 1 end_vertex a homes vs from (flight_with Make 0 0 2) h.flies).rest (omega arith)) (λ none free. absurd (cc))))

      rest_kind : StoresRest (means_of told_of) i x me → Ends i x a homes vs from
      rest_kind h = let k : ℕ = 2 * h.number + 1 in let y : Option B = Some h.body in let s = slot_at i k y h.vertex h.slot in
          subst (λ (j : ℕ). Ends j x a homes vs from) (sym h.vertex) (subst (λ (z : Vertex). Ends k z a homes vs from) (sym h.word)
          (ends k (chain_rest_vertex h.runs) a homes vs from y (chain_rest_view h.runs h.number left me.0) s
          (chain_rest_keeps p a homes vs from.rule id me.0 from.at h.runs h.running h.right h.number h.flies left (in_front k y s) h.body deep)
          (chain_vertex_stands (means_of told_of) p a homes vs from.rule from.books id me.0 from.at deep h.body h.runs h.running h.right h.number h.flies left
          (λ z. let l = h.lies z in (told l, l.waits)))
          (sym (λ j. stored_in (h.flies j) (h.running j) (less k y s j) me.0)) refl refl
          ((flight_ok k (chain_rest_vertex h.runs) a homes vs from (flight_with Chain h.number h.number 2) h.flies).rest (omega arith)) (λ none free. absurd (cc))))

      body_kind : StoresBody (means_of told_of) i x me → Ends i x a homes vs from
      body_kind h = let d : ℕ = h.number in let k : ℕ = 2 * d in let y : Option B = Some h.body in let s = slot_at i k y h.vertex h.slot in
          let kind : Closing h.draw = closing_of h.draw h.opens in
          subst (λ (j : ℕ). Ends j x a homes vs from) (sym h.vertex) (subst (λ (z : Vertex). Ends k z a homes vs from) (sym h.word)
          (ends k (body_vertex d) a homes vs from y (last_view left me.0) s
          (last_body_keeps p a homes vs from.rule id me.0 from.at h.draw kind d h.flies left (in_front k y s) h.body deep)
          (body_vertex_stands (means_of told_of) p a homes vs from.rule from.books id me.0 from.at deep h.body h.draw (ending_of h.draw h.opens) d h.flies left
          (λ t. let l = h.lies (is_tame h.draw h.opens t) in (told l, l.waits)))
          (last_is h.draw d d me.0.running left ∙ sym (λ j. stored_in (h.flies j) me.0.running (less k y s j) me.0)) refl refl
          ((flight_ok k (body_vertex d) a homes vs from (flight_with h.draw d d 3) h.flies).body (let z = kind.body in omega arith))
          (λ none free. last_bound k (body_vertex d) a homes vs from h.draw d d y s h.flies
          ((flight_ok k (body_vertex d) a homes vs from (flight_with h.draw d d 3) h.flies).body (let z = kind.body in omega arith)))))

      left_kind : StoresLeft (means_of told_of) i x me → Ends i x a homes vs from
      left_kind h = let d : ℕ = h.number in let k : ℕ = 2 * d in let y : Option B = Some h.body in let s = slot_at i k y h.vertex h.slot in
          subst (λ (j : ℕ). Ends j x a homes vs from) (sym h.vertex) (subst (λ (z : Vertex). Ends k z a homes vs from) (sym h.word)
          (ends k (spawn_vertex d h.finish 0 h.inc) a homes vs from y (spawn_left_view d h.finish left me.0) s
          (spawn_left_keeps p a homes vs from.rule id me.0 from.at d h.finish h.inc h.flies
          (known_under p a homes vs from.rule id me.0 from.at h.inc h.finish h.known) left (in_front k y s) h.body deep)
          (left_vertex_stands (means_of told_of) p a homes vs from.rule from.books id me.0 from.at deep h.body d h.finish h.inc h.flies left
          (λ z. let l = h.lies z in (told l, l.waits)))
          (sym (λ j. stored_in (h.flies j) me.0.running (less k y s j) me.0)) refl refl
          ((flight_ok k (spawn_vertex d h.finish 0 h.inc) a homes vs from (flight_with Spawn d h.finish 2) h.flies).body (omega arith)) (λ none free. absurd (cc))))

      right_kind : StoresRight (means_of told_of) i x me → Ends i x a homes vs from
      right_kind h = let d : ℕ = h.number in let k : ℕ = 2 * d + 1 in let y : Option B = Some h.body in let s = slot_at i k y h.vertex h.slot in
          subst (λ (j : ℕ). Ends j x a homes vs from) (sym h.vertex) (subst (λ (z : Vertex). Ends k z a homes vs from) (sym h.word)
          (ends k (spawn_vertex d h.finish 1 h.inc) a homes vs from y (last_view left me.0) s
          (spawn_right_keeps p a homes vs from.rule id me.0 from.at d h.finish h.inc h.flies
          (known_under p a homes vs from.rule id me.0 from.at h.inc h.finish h.known) left (in_front k y s) h.body deep)
          (right_vertex_stands (means_of told_of) p a homes vs from.rule from.books id me.0 from.at deep h.body d h.finish h.inc h.flies left
          (λ z. let l = h.lies z in (told l, l.waits)))
          (last_is Spawn d h.finish me.0.running left ∙ sym (λ j. stored_in (h.flies j) me.0.running (less k y s j) me.0)) refl refl
          ((flight_ok k (spawn_vertex d h.finish 1 h.inc) a homes vs from (flight_with Spawn d h.finish 3) h.flies).rest (omega arith))
          (λ none free. last_bound k (spawn_vertex d h.finish 1 h.inc) a homes vs from Spawn d h.finish y s h.flies
          ((flight_ok k (spawn_vertex d h.finish 1 h.inc) a homes vs from (flight_with Spawn d h.finish 3) h.flies).rest (omega arith)))))

      pub kinds : MaySetVertex (means_of told_of) i x me → Ends i x a homes vs from
      kinds (the_end h) = end_kind h
      kinds (the_rest h) = rest_kind h
      kinds (the_body h) = body_kind h
      kinds (the_left h) = left_kind h
      kinds (the_right h) = right_kind h

  pub sets_vertex : (i : ℕ) (x : Vertex) → i < 2 * p.moves → VertexFits x → MaySetVertex (means_of told_of) i x me
      → Allows (Kept told_of p) slots id me (vertex_place p i) (λ _. pack_vertex x) (λ _ m'. (m' ≡ at_rest (vertex_set me)) × (m'.0.ready ≤ 2 * p.moves))
  sets_vertex i x low fit may = allow_vertex told_of p slots id me i low (λ _. pack_vertex x) (λ _ m'. (m' ≡ at_rest (vertex_set me)) × (m'.0.ready ≤ 2 * p.moves))
      (λ a homes vs from _ fits. let e = kinds a homes vs from i x may in
      inl record {
        new = x;
        fits = fit;
        packs = refl;
        expects = a.expects;
        region = a.region;
        tame = a.tame;
        move = record { view = e.view; act = e.act; valid = e.valid; kept = e.kept; shown = e.shown; books = e.books; fit = e.fit; tells = e.tells };
      })
