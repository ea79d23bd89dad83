-- A part is kept where nothing changes that it names.
use Rattle.std.proofs.Common.{◌≡◌, ℕ, ◌+◌, ◌<◌, ◌≤◌, List, set, refl, ◌*◌, ⊎_elim, inl, inr, Some, None, sym, ap, ◌∙◌, subst, arith, Option}
use mathlib.Core.Option.{some}
use mathlib.Core.Option as maybe
use lib.ListN.{get_elem?}
use Rattle.spd_words.specs.Words.{Node, Pair, Vertex}
use Rattle.spd_state.specs.declared.view.View.{View}
use Rattle.spd_words.specs.Plan.{PlanView}
use Rattle.spd_state.specs.Sums.{total, put}
use Rattle.spd_state.specs.Tree.{Trees, lives, live_under, NodeRule, Bare, GrowthRule}
use Rattle.spd_state.specs.Dag.{nursed, nurses, started}
use Rattle.spd_state.specs.Parts.{MoveRule, MarkRule, StartRule, RunRule, LiveRule, PairRule, FinishRule, SlotRule, home}
use Rattle.spd_state.proofs.Sums.{total_kept, total_set, sum_put, each_kept, positive_back}

-- two functions with the same values
abbrev pub Alike : (ℕ → ℕ) → (ℕ → ℕ) → Type 0
Alike f g = (n : ℕ) → f n ≡ g n

pub moves_kept : (m drawn : ℕ) (nodes : ℕ → Node) (pairs : ℕ → Pair) (vertices : ℕ → Vertex) (f g : ℕ → ℕ) → Alike g f
    → MoveRule m drawn nodes pairs vertices f → MoveRule m drawn nodes pairs vertices g
moves_kept m drawn nodes pairs vertices f g e h = record {
  blank_root = h.blank_root;
  blank_pair = h.blank_pair;
  blank_body = h.blank_body;
  blank_rest = h.blank_rest;
  grounded = λ d l b. e d ∙ h.grounded d l b;
  alone = λ d l. let a = e d in let b = h.alone d l in omega arith;
  body_there = λ d l b z. h.body_there d l b (sym (e d) ∙ z);
  rest_there = λ d l b z. h.rest_there d l b (sym (e d) ∙ z);
}

pub runs_kept : (m : ℕ) (vertices : ℕ → Vertex) (f g : ℕ → ℕ) → Alike g f → RunRule m vertices f → RunRule m vertices g
runs_kept m vertices f g e h = record { one = λ v l. let a = e v in let b = h.one v l in omega arith }

-- whether a node is live is told by the open finishes
pub lives_alike : (t : Trees) (o o' : ℕ → ℕ) → Alike o' o → (n : ℕ) → lives t o' n ≡ lives t o n
lives_alike t o o' e n = by (t.tops n)
  where
    by : (x : Option ℕ) → live_under o' x ≡ live_under o x
    by None = refl
    by (Some f) = e f

pub lives_on : (t : Trees) (o o' : ℕ → ℕ) → ((f : ℕ) → o' f ≡ 0 → o f ≡ 0) → (n : ℕ) → lives t o' n ≡ 0 → lives t o n ≡ 0
lives_on t o o' e n = by (t.tops n)
  where
    by : (x : Option ℕ) → live_under o' x ≡ 0 → live_under o x ≡ 0
    by None z = refl
    by (Some f) z = e f z

pub live_kept : (p : PlanView) (t : Trees) (o o' u u' : ℕ → ℕ) (vertices : ℕ → Vertex) → Alike o' o → Alike u' u → LiveRule p t o u vertices
    → LiveRule p t o' u' vertices
live_kept p t o o' u u' vertices eo eu h = record {
  shut = λ n l z. eu n ∙ h.shut n l (sym (lives_alike t o o' eo n) ∙ z);
  finish = λ v l s. let t = h.finish v l s in (t.0, subst (λ k. 0 < k) (sym (eo (vertices v).finish)) t.1);
  inc = h.inc;
}

pub counts_kept : (m g : ℕ) (nodes : ℕ → Node) (u u' h h' : ℕ → ℕ) → Alike u' u → Alike h' h → NodeRule m g nodes u h → NodeRule m g nodes u' h'
counts_kept m g nodes u u' h h' eu eh r = record {
  count = λ n l. let a = eu n in let b = r.count n l in omega arith;
  plain = r.plain;
  no_half = λ n l. eh n ∙ r.no_half n l;
  one_half = λ n l. let a = eh n in let b = r.one_half n l in omega arith;
  grown = λ n k l. let a = eu n in let b = eh n in ⊎_elim (λ (t : (nodes n).twice ≡ 2 * u n + 2 * h n). inl (omega arith))
      (λ (t : ((nodes n).twice ≡ 1) × (u n ≡ 0) × (h n ≡ 1)). inr (t.0, a ∙ t.1, b ∙ t.2)) (r.grown n k l);
}

pub bare_kept : (p : PlanView) (t : Trees) (o o' : ℕ → ℕ) (nodes : ℕ → Node) (h h' b b' : ℕ → ℕ) → ((f : ℕ) → o' f ≡ 0 → o f ≡ 0) → Alike h' h
    → Alike b' b → Bare p t o nodes h b → Bare p t o' nodes h' b'
bare_kept p t o o' nodes h h' b b' eo eh eb r = record {
  word = λ n k l z. r.word n k l (lives_on t o o' eo n z);
  half = λ n k l z. eh n ∙ r.half n k l (lives_on t o o' eo n z);
  above = λ n l z. eb n ∙ r.above n l (lives_on t o o' eo n z);
}

pub balances_kept : (p : PlanView) (t : Trees) (pairs : ℕ → Pair) (vertices : ℕ → Vertex) (r r' : ℕ → ℕ) → Alike r' r → PairRule p t pairs vertices r
    → PairRule p t pairs vertices r'
balances_kept p t pairs vertices r r' e h = record {
  balance = λ d l. let a = e d in let b = h.balance d l in
      omega arith;
  most = h.most;
  pair = h.pair;
  tops = h.tops;
}

pub growth_kept : (p : PlanView) (t : Trees) (bred d d' f f' : ℕ) (n n' : ℕ → ℕ) → d' ≡ d → f' ≡ f → Alike n' n → GrowthRule p t bred d f n
    → GrowthRule p t bred d' f' n'
growth_kept p t bred d d' f f' n n' ed ef en g = let w = g.word in let m = g.most in record {
  word = omega arith;
  most = omega arith;
  fresh = g.fresh;
  alone = λ l. let a = en l in let b = g.alone l in omega arith;
  later = λ l k. en l ∙ g.later l k;
}

-- a view with the same draws of nodes and the same pair of them
pub growth_view : (p : PlanView) (t : Trees) (bred : ℕ) (vs : List View) (id : ℕ) (v w : View) → get_elem? vs id ≡ some v
    → w.grow_draws ≡ v.grow_draws → w.full_grows ≡ v.full_grows → w.sprout ≡ v.sprout
    → GrowthRule p t bred (total (λ (u : View). u.grow_draws) vs) (total (λ (u : View). u.full_grows) vs) (nursed vs)
    → GrowthRule p t bred (total (λ (u : View). u.grow_draws) (set vs id w)) (total (λ (u : View). u.full_grows) (set vs id w))
    (nursed (set vs id w))
growth_view p t bred vs id v w at draws fulls sprout g = growth_kept p t bred (total (λ (u : View). u.grow_draws) vs)
    (total (λ (u : View). u.grow_draws) (set vs id w)) (total (λ (u : View). u.full_grows) vs) (total (λ (u : View). u.full_grows) (set vs id w))
    (nursed vs) (nursed (set vs id w))
    (total_kept (λ (u : View). u.grow_draws) vs id v w at draws) (total_kept (λ (u : View). u.full_grows) vs id v w at fulls)
    (λ l. total_kept (λ (u : View). nurses l u.sprout) vs id v w at (ap (nurses l) sprout)) g

-- of units it reads only where they are none
pub finishes_kept : (m : ℕ) (vertices : ℕ → Vertex) (o o' u u' t t' y y' : ℕ → ℕ) → Alike o' o
    → ((f : ℕ) → f < m → (u' f ≡ 0 → u f ≡ 0) × (u f ≡ 0 → u' f ≡ 0)) → Alike t' t → Alike y' y
    → FinishRule m vertices o u t y → FinishRule m vertices o' u' t' y'
finishes_kept m vertices o o' u u' t t' y y' eo eu et ey h =
    let op : (f : ℕ) → 0 < o' f → 0 < o f = λ f z. let a = eo f in omega arith in record {
      untold = λ f l z. et f ∙ h.untold f l (sym (eo f) ∙ z);
      going = λ f l z g. let k = h.going f l (op f z) (positive_back (u f) (u' f) (eu f l).1 g) in (k.0, et f ∙ k.1);
      coming = λ f l z g. ey f ∙ h.coming f l (op f z) g;
      over = λ f l z g. h.over f l (op f z) ((eu f l).0 g);
      tell = λ f l z g w. et f ∙ h.tell f l (op f z) ((eu f l).0 g) w;
      woken = λ f l z g w. et f ∙ h.woken f l (op f z) ((eu f l).0 g) w;
    }

pub slots_kept : {B : Type 0} (m drawn : ℕ) (vertices : ℕ → Vertex) (k k' : ℕ → ℕ) (homes : List (maybe.Option (Option B))) → Alike k' k
    → SlotRule m drawn vertices k homes → SlotRule m drawn vertices k' homes
slots_kept {B} m drawn vertices k k' homes e h = record {
  one = λ v l. ap (λ (z : ℕ). home (get_elem? homes v) + z) (e v)
      ∙ h.one v l;
  body = h.body;
  end = h.end;
  fresh = h.fresh;
}

-- a vertex is written: where it comes to be started, the share has one start more
pub starts_put : (m : ℕ) (vertices : ℕ → Vertex) (vs : List View) (id : ℕ) (v w : View) → get_elem? vs id ≡ some v → (i : ℕ) (x : Vertex) → i < 2 * m
    → w.starts + started (vertices i).state ≡ v.starts + started x.state → (w.seats ≡ 0 → w.starts ≡ 0) → StartRule m vertices vs
    → StartRule m (put vertices i x) (set vs id w)
starts_put m vertices vs id v w at i x low more none h = let a = h.all in let t = total_set (λ (u : View). u.starts) vs id v w at in
    let s = sum_put (2 * m) (λ (_ : ℕ) (y : Vertex). started y.state) vertices i x low in record {
      all = omega arith;
      spent = each_kept (λ (u : View). u.seats ≡ 0 → u.starts ≡ 0) vs id w none h.spent;
    }

-- no vertex is written, and the share's starts stay
pub starts_kept : (m : ℕ) (vertices : ℕ → Vertex) (vs : List View) (id : ℕ) (v w : View) → get_elem? vs id ≡ some v → w.starts ≡ v.starts
    → w.seats ≡ v.seats → StartRule m vertices vs → StartRule m vertices (set vs id w)
starts_kept m vertices vs id v w at starts seats h = record {
  all = total_kept (λ (u : View). u.starts) vs id v w at starts ∙ h.all;
  spent = each_kept (λ (u : View). u.seats ≡ 0 → u.starts ≡ 0) vs id w (λ z. starts ∙ h.spent id v at (sym seats ∙ z)) h.spent;
}

-- a view whose draws, seats and spare stay
pub marks_kept : (m drawn : ℕ) (vs : List View) (id : ℕ) (v w : View) → get_elem? vs id ≡ some v → w.full_draws ≡ v.full_draws → w.seats ≡ v.seats
    → w.spare ≡ v.spare → MarkRule m drawn vs → MarkRule m drawn (set vs id w)
marks_kept m drawn vs id v w at full seats spare h =
    let a = total_kept (λ (x : View). x.full_draws) vs id v w at full in
    let b = total_kept (λ (x : View). x.seats + x.spare) vs id v w at (λ i. seats i + spare i) in
    let passed = h.passed id v at in let by = h.by_seats id v at in let most = h.most in let seats_most = h.seats in record {
      most = omega arith;
      passed = each_kept (λ (x : View). 0 < x.full_draws → m < drawn) vs id w (λ z. passed (omega arith)) h.passed;
      by_seats = each_kept (λ (x : View). x.full_draws ≤ x.seats) vs id w (omega arith) h.by_seats;
      seats = omega arith;
    }
