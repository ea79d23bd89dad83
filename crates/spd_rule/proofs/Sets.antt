-- The table allows the words of a move in flight to be set.
use Rattle.std.proofs.Common.{true, ◌∙◌, ◌≡◌, ◌≢◌, ℕ, ◌<◌, List, set, refl, sym, ap, subst, arith, Option, Some, None, inl, ⊎_elim}
use mathlib.Core.Option.{some}
use mathlib.Core.Option as maybe
use Rattle.atomic_table.specs.Table.{Me, keeps, Allows}
use Rattle.spd_words.specs.Plan.{PlanView, IsPlan, node_place, pair_place}
use Rattle.spd_words.specs.Meaning.{BodyView, Meaning}
use Rattle.spd_words.specs.Words.{Pair, pair_with, PairFits, pack_pair}
use Rattle.spd_words.specs.declared.finish_kind.FinishKind.{FinishKind}
use Rattle.spd_words.specs.declared.finish_kind.FinishKind.TheVariants.{Plain, Sum, Least, Greatest}
use Rattle.spd_state.specs.Sums.{put}
use Rattle.spd_state.specs.Dag.{Dag}
use Rattle.spd_state.specs.Parts.{Rule}
use Rattle.spd_state.specs.Stages.{root_node, rooted_view, handed_view}
use Rattle.spd_state.specs.declared.view.Draw.{Draw}
use Rattle.spd_state.specs.declared.view.Draw.TheVariants.{Make, Chain, Spawn}
use Rattle.spd_state.specs.declared.view.Flight.{Flight}
use Rattle.spd_state.specs.declared.view.View.{View}
use Rattle.spd_state.proofs.Rooted.{Opens, make_opens, chain_opens, root_keeps}
use Rattle.spd_state.proofs.Handed.{Hands, make_hands, chain_hands, handed_keeps}
use Rattle.spd_state.proofs.Lookup.{known_under}
use Rattle.spd_state.proofs.Paired.{paired_keeps}
use Rattle.spd_words.specs.Meaning.{Awaited}
use Rattle.spd_debts.specs.BookRule.{BookRule}
use Rattle.spd_debts.proofs.Handed.{Handing, make_handing, chain_handing}
use Rattle.spd_debts.proofs.Drawing.{given, make_root_stands, chain_root_stands, handed_stands, fork_stands}
use Rattle.spd_rule.specs.Moves.{Flies, ChainTold, flight_with}
use Rattle.spd_rule.proofs.Glue.{marked_rule}
use Rattle.atomic_table.specs.Seated.{TableId}
use Rattle.spd_state.specs.Sums.{count}
use Rattle.spd_rule.specs.Beside.{Mirrors}
use Rattle.spd_rule.specs.Idle.{is_spawn, flies_spawn}
use Rattle.spd_rule.specs.declared.beside.Beside.{Beside}
use Rattle.spd_rule.specs.Kept.{means_of, Kept}
use Rattle.spd_rule.specs.Moves.{MaySetRoot, MaySetPair, HandsRoot, HandsTwo, root_set, pair_set, flight_pair_set, draw_in, pair_kind, IsPairOf}
use Rattle.spd_rule.proofs.Glue.{From, allow_node, allow_pair, unseen}

opens_of : (draw : Draw) → draw ≢ Spawn → Opens draw
opens_of Make other = make_opens
opens_of Chain other = chain_opens
opens_of Spawn other = absurd (other refl)

hands_of : (draw : Draw) → draw ≢ Spawn → Hands draw
hands_of Make other = make_hands
hands_of Chain other = chain_hands
hands_of Spawn other = absurd (other refl)

handing_of : (draw : Draw) → draw ≢ Spawn → Handing draw
handing_of Make other = make_handing
handing_of Chain other = chain_handing
handing_of Spawn other = absurd (other refl)

-- a chain's finish is to give what its body promises
abbrev root_expects : Draw → ℕ → Meaning → (ℕ → Awaited) → ℕ → Awaited
root_expects Make d told e = e
root_expects Chain d told e = put e d (given told)
root_expects Spawn d told e = e

-- setting a pair shows nothing
flight_shown : (draw : Draw) (f : Flight) (second : ℕ) (left right : Meaning) (v : View) → (flight_pair_set draw f second left right v).shown ≡ v.shown
flight_shown Make f second left right v = refl
flight_shown Chain f second left right v = refl
flight_shown Spawn f second left right v = refl

pair_shown : (o : Option Flight) (second : ℕ) (left right : Meaning) (v : View) → (pair_set o second left right v).shown ≡ v.shown
pair_shown None second left right v = refl
pair_shown (Some f) second left right v = flight_shown f.draw f second left right v

module _ {B : Type 0} (told_of : B → BodyView) (p : PlanView) (slots id : ℕ) (me : Me (Option B) View) where
  pub sets_root : (d : ℕ) (told : Meaning) → d < p.moves → MaySetRoot d told me.0
      → Allows (Kept told_of p) slots id me (node_place p d) (λ _. 2) (λ _ m'. m' ≡ (root_set d told me.0, me.1))
  sets_root d told low may = allow_node told_of p slots id me d (omega arith) (λ _. 2) (λ _ m'. m' ≡ (root_set d told me.0, me.1))
      (λ a homes vs from fit fits. let draw : Draw = may.draw in let is : draw_in me.0.flight ≡ draw = ap draw_in may.flies in inl record {
        new = root_node;
        fits = record { twice = omega arith; version = omega arith };
        packs = refl;
        expects = root_expects draw d told a.expects;
        region = a.region;
        tame = a.tame;
        move = record {
          view = root_set d told me.0;
          act = keeps;
          valid = tt;
          kept = marked_rule p (record a { nodes = put a.nodes d root_node }) homes (set vs id (root_set d told me.0))
              (root_expects draw d told a.expects) a.region a.tame
              (subst (λ (x : Draw). Rule p (record a { nodes = put a.nodes d root_node }) homes (set vs id (rooted_view x d told me.0))) (sym is)
              (root_keeps p a homes vs from.rule id me.0 from.at draw (opens_of draw may.opens) told d may.flies may.room));
          shown = unseen told_of p slots id me a homes vs from (root_set d told me.0) refl;
          books = subst (λ (x : Draw). BookRule (means_of told_of) p (record a { nodes = put a.nodes d root_node; expects = root_expects draw d told a.expects }) homes
              (set vs id (rooted_view x d told me.0))) (sym is) (root_stands a homes vs from draw may.opens may.flies may.tells);
          fit = from.fit;
          tells = refl;
        };
      })
    where
      root_stands : (a : Dag) (homes : List (maybe.Option (Option B))) (vs : List View) (from : From told_of p slots id me a homes vs) (x : Draw) → x ≢ Spawn
          → Flies x d d 0 me.0 → ChainTold x told me.0
          → BookRule (means_of told_of) p (record a { nodes = put a.nodes d root_node; expects = root_expects x d told a.expects }) homes (set vs id (rooted_view x d told me.0))
      root_stands a homes vs from Make o flies tells =
          let first : d ≡ 0 = (from.rule.history.makers id me.0 from.at).first (flight_with Make d d 0) flies refl in
          subst (λ (n : ℕ). BookRule (means_of told_of) p (record a { nodes = put a.nodes n root_node }) homes (set vs id (rooted_view Make n told me.0))) (sym first)
          (make_root_stands (means_of told_of) p a homes vs from.rule from.books id me.0 from.at told
          (flies ∙ ap (λ (n : ℕ). Some (flight_with Make n n 0)) first) may.room (put a.nodes 0 root_node))
      root_stands a homes vs from Chain o flies tells = chain_root_stands (means_of told_of) p a homes vs from.rule from.books id me.0 from.at told d flies may.room
          (λ z. let t = tells z in (t.0.lawful, t.1)) (put a.nodes d root_node)
      root_stands a homes vs from Spawn o flies tells = absurd (o refl)

  pub sets_pair : (d : ℕ) (q : Pair) (left right : Meaning) → d < p.moves → PairFits q → MaySetPair d q left right me.0
      → Allows (Kept told_of p) slots id me (pair_place p d) (λ _. pack_pair q) (λ _ m'. m' ≡ (pair_set me.0.flight q.second left right me.0, me.1))
  sets_pair d q left right low fit may = allow_pair told_of p slots id me d low (λ _. pack_pair q) (λ _ m'. m' ≡ (pair_set me.0.flight q.second left right me.0, me.1))
      (λ a homes vs from _ fits. inl record {
        new = q;
        fits = fit;
        packs = refl;
        expects = a.expects;
        region = a.region;
        tame = a.tame;
        move = record {
          view = pair_set me.0.flight q.second left right me.0;
          act = keeps;
          valid = tt;
          kept = ⊎_elim (root a homes vs from)
              (two a homes vs from) may;
          shown = unseen told_of p slots id me a homes vs from (pair_set me.0.flight q.second left right me.0) (pair_shown me.0.flight q.second left right me.0);
          books = ⊎_elim (root_books a homes vs from) (two_books a homes vs from) may;
          fit = from.fit;
          tells = refl;
        };
      })
    where
      root_books : (a : Dag) (homes : List (maybe.Option (Option B))) (vs : List View) → From told_of p slots id me a homes vs → HandsRoot d q me.0
          → BookRule (means_of told_of) p (record a { pairs = put a.pairs d q }) homes (set vs id (pair_set me.0.flight q.second left right me.0))
      root_books a homes vs from h = let draw : Draw = h.draw in
          subst (λ (o : Option Flight). BookRule (means_of told_of) p (record a { pairs = put a.pairs d q }) homes (set vs id (pair_set o q.second left right me.0)))
          (sym h.flies) (by draw h.opens (handed_stands (means_of told_of) p a homes vs from.rule from.books id me.0 from.at draw (handing_of draw h.opens) d h.flies
          (put a.pairs d q)))
        where
          by : (x : Draw) → x ≢ Spawn → BookRule (means_of told_of) p (record a { pairs = put a.pairs d q }) homes (set vs id (handed_view x d me.0))
              → BookRule (means_of told_of) p (record a { pairs = put a.pairs d q }) homes
              (set vs id (pair_set (Some record { draw = x; number = d; finish = d; stage = 1 }) q.second left right me.0))
          by Make o k = k
          by Chain o k = k
          by Spawn o k = absurd (o refl)

      two_books : (a : Dag) (homes : List (maybe.Option (Option B))) (vs : List View) → From told_of p slots id me a homes vs → HandsTwo d q left right me.0
          → BookRule (means_of told_of) p (record a { pairs = put a.pairs d q }) homes (set vs id (pair_set me.0.flight q.second left right me.0))
      two_books a homes vs from h =
          subst (λ (o : Option Flight). BookRule (means_of told_of) p (record a { pairs = put a.pairs d q }) homes (set vs id (pair_set o q.second left right me.0)))
          (sym h.flies) (fork_stands (means_of told_of) p a homes vs from.rule from.books id me.0 from.at d h.finish q.first q.second h.flies h.claimed left.promise right.promise
          (λ z. (h.tells z).owed) (put a.pairs d q))

      root : (a : Dag) (homes : List (maybe.Option (Option B))) (vs : List View) → From told_of p slots id me a homes vs → HandsRoot d q me.0
          → Rule p (record a { pairs = put a.pairs d q }) homes (set vs id (pair_set me.0.flight q.second left right me.0))
      root a homes vs from h = let draw : Draw = h.draw in let kept = handed_keeps p a homes vs from.rule id me.0 from.at draw (hands_of draw h.opens) d
          (pair_kind me.0.gives) h.flies in
          subst (λ (x : Pair). Rule p (record a { pairs = put a.pairs d x }) homes (set vs id (pair_set me.0.flight q.second left right me.0))) (sym h.pair)
          (subst (λ (o : Option Flight). Rule p (record a { pairs = put a.pairs d (pair_with 0 1 (pair_kind me.0.gives) d 0) }) homes
          (set vs id (pair_set o q.second left right me.0))) (sym h.flies) (by draw h.opens kept))
        where
          by : (x : Draw) → x ≢ Spawn → Rule p (record a { pairs = put a.pairs d (pair_with 0 1 (pair_kind me.0.gives) d 0) }) homes
              (set vs id (handed_view x d me.0)) → Rule p (record a { pairs = put a.pairs d (pair_with 0 1 (pair_kind me.0.gives) d 0) }) homes
              (set vs id (pair_set (Some record { draw = x; number = d; finish = d; stage = 1 }) q.second left right me.0))
          by Make o k = k
          by Chain o k = k
          by Spawn o k = absurd (o refl)

      two : (a : Dag) (homes : List (maybe.Option (Option B))) (vs : List View) → From told_of p slots id me a homes vs → HandsTwo d q left right me.0
          → Rule p (record a { pairs = put a.pairs d q }) homes (set vs id (pair_set me.0.flight q.second left right me.0))
      two a homes vs from h = let kept = paired_keeps p a homes vs from.rule id me.0 from.at d h.finish q.first q.second h.flies h.claimed h.held h.lifted
          (known_under p a homes vs from.rule id me.0 from.at q.second h.finish h.known) left.promise right.promise in
          subst (λ (x : Pair). Rule p (record a { pairs = put a.pairs d x }) homes (set vs id (pair_set me.0.flight q.second left right me.0))) (sym h.pair)
          (subst (λ (o : Option Flight). Rule p (record a { pairs = put a.pairs d (pair_with 0 2 0 q.first q.second) }) homes
          (set vs id (pair_set o q.second left right me.0))) (sym h.flies) kept)

code_few : (k : FinishKind) → pair_kind k < 4
code_few Plain = omega arith
code_few Sum = omega arith
code_few Least = omega arith
code_few Greatest = omega arith

-- the numbers of a pair fit their fields
pub pair_fits : (p : PlanView) → IsPlan p → (d : ℕ) (q : Pair) → IsPairOf p d q → (v : View) (left right : Meaning) → MaySetPair d q left right v → PairFits q
pair_fits p plan d q of v left right may = let m = plan.moves.most in let g = plan.grown in let f = of.first in let s = of.second in ⊎_elim
    (λ (h : HandsRoot d q v). let k = code_few v.gives in let c : q.claims ≡ 0 = ap (λ (x : Pair). x.claims) h.pair in
    let t : q.total ≡ 1 = ap (λ (x : Pair). x.total) h.pair in let n : q.kind ≡ pair_kind v.gives = ap (λ (x : Pair). x.kind) h.pair in
    record { claims = omega arith; total = omega arith; kind = omega arith; first = omega arith; second = omega arith })
    (λ (h : HandsTwo d q left right v). let c : q.claims ≡ 0 = ap (λ (x : Pair). x.claims) h.pair in let t : q.total ≡ 2 = ap (λ (x : Pair). x.total) h.pair in
    let n : q.kind ≡ 0 = ap (λ (x : Pair). x.kind) h.pair in
    record { claims = omega arith; total = omega arith; kind = omega arith; first = omega arith; second = omega arith })
    may

-- a spawn that may set its pair holds the other unit beside its seat too
spawn_is : (x : Draw) → is_spawn x ≡ true → x ≡ Spawn
spawn_is Make e = absurd (cc)
spawn_is Chain e = absurd (cc)
spawn_is Spawn e = refl

pub pair_has : {B : Type 0} (z : TableId) (me : Me (Option B) View) (b : Beside) → Mirrors z me b → (d : ℕ) (q : Pair) (left right : Meaning)
    → MaySetPair d q left right me.0 → flies_spawn b.flight ≡ true → 0 < count q.second b.units.items
pair_has z me b m d q left right may e = ⊎_elim
    (λ (h : HandsRoot d q me.0). absurd (h.opens (spawn_is h.draw (sym (ap flies_spawn (m.flight ∙ h.flies)) ∙ e))))
    (λ (h : HandsTwo d q left right me.0). let u = m.units q.second in let k = h.held in omega arith) may
