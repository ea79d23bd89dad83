-- The rule holds at the start.
use Rattle.std.proofs.Common.{inl, inr, ◌⊎◌, ◌-◌, ◌/◌, cond, ◌≡◌, ℕ, ◌+◌, ◌*◌, ◌<◌, ◌≤◌, [], ◌∷◌, Some, ◌∙◌, map, replicate, refl, sym, ap, subst}
use Rattle.std.proofs.Common.{arith, Option, None}
use Prim.Native.Nat.{zero, suc}
use mathlib.Core.Option.{some, some-injective, some-ne-none}
use lib.ListN.{get_elem?}
use Rattle.spd_words.specs.Plan.{PlanView, IsPlan, grown_nodes}
use Rattle.spd_state.specs.Sums.{gate, count, Each}
use Rattle.spd_state.specs.Dag.{Dag, not_end, stands, handles, units, started}
use Rattle.spd_state.specs.Parts.{RunsOk, FlightsOk, OwnOk, Rule, no_pair, no_vertex, home}
use Rattle.std.proofs.lemmas.Bool.{lt-ltb, le-ltb}
use lib.Dec.{ltb}
use mathlib.Core.Logic.{dite}
use native.Mathlib.Decide.{dec_lt, ℕ_discrete}
use Rattle.spd_words.specs.declared.scheme.Scheme.{Scheme}
use Rattle.spd_words.specs.declared.scheme.Scheme.TheVariants.{Flat, Level, Grow}
use Rattle.spd_state.specs.Sums.{same}
use Rattle.spd_state.specs.Tree.{first_trees, start_of, names}
use Rattle.spd_state.proofs.Sums.{same_self}
use Rattle.spd_state.proofs.Upwards.{some_is}
use Rattle.spd_state.proofs.Seats.{nothing}
use Rattle.spd_state.proofs.Makers.{maker_none}
use Rattle.spd_state.specs.History.{MakerOk, woken}
use Rattle.spd_state.proofs.Sums.{same_else}
use Rattle.spd_state.specs.declared.view.View.{View}
use Rattle.spd_state.specs.Seats.{first_view}
use Rattle.spd_words.specs.declared.finish_kind.FinishKind.TheVariants.{Plain}
use Rattle.std.specs.Prelude.{pos}
use Rattle.spd_words.specs.Gift.{no_fault}
use Rattle.spd_state.proofs.Sums.{sum_none}
use Rattle.spd_state.specs.Tree.{Forest, TreeOk, whole, no_node}
use Rattle.spd_state.specs.Parts.{GrowsOk}

abbrev pub blank : PlanView → Dag
blank p = record {
  drawn = 0;
  bred = 0;
  trees = first_trees p;
  nodes = λ _. no_node;
  pairs = λ _. no_pair;
  vertices = λ _. no_vertex;
  gifts = λ _. 0;
  faults = λ _. no_fault;
  done = 0;
  expects = λ _. record { kind = Plain; gift = pos 0; fault = no_fault };
  region = 0;
  tame = 0;
}

pub vacant_at : {A : Type 0} (n i : ℕ) (a : A) → i < n → get_elem? (map some (replicate n a)) i ≡ some (some a)
vacant_at zero i a h = absurd (omega arith)
vacant_at (suc n) zero a h = refl
vacant_at (suc n) (suc i) a h = vacant_at n i a (omega arith)

alone : (P : View → Type 0) → P first_view → Each P (first_view ∷ [])
alone P h zero v e = subst P (some-injective first_view v e) h
alone P h (suc j) v e = absurd (some-ne-none v (sym e))

flat_forest : (p : PlanView) → Forest p (record { children = λ _. 0; parents = λ _. 0; tops = λ n. cond (ltb n p.moves) (Some n) None })
flat_forest p = record {
  root = λ n l. ap (λ b. cond b (Some n) None) (lt-ltb n p.moves l);
  top = λ n f l e. dite (dec_lt n p.moves) (λ z. let k = some_is n f (sym (ap (λ b. cond b (Some n) None) (lt-ltb n p.moves z)) ∙ e) in omega arith)
      (λ z. absurd (none_some f (sym (ap (λ b. cond b (Some n) None) (le-ltb n p.moves (omega arith))) ∙ e)));
  up = λ n f k l e. absurd (none_some f (sym (ap (λ b. cond b (Some n) None) (le-ltb n p.moves k)) ∙ e));
  down = λ n l e. absurd (e refl);
}
  where
    none_some : (f : ℕ) → (let x : Option ℕ = None in x) ≡ Some f → ⊥
    none_some f e = cc

level_forest : (p : PlanView) → IsPlan p → p.grown ≡ 2 * p.moves
    → Forest p (record {
      children = λ n. cond (ltb n p.moves) (p.moves + 2 * n + 1) 0;
      parents = λ n. (n - p.moves) / 2;
      tops = λ n. cond
          (ltb n p.moves) (Some n) (Some ((n - p.moves) / 2));
    })
level_forest p plan size = let m₀ = plan.moves.some in record {
  root = λ n l. low n l;
  top = λ n f l e. dite (dec_lt n p.moves) (λ z. let k = some_is n f (sym (low n z) ∙ e) in omega arith)
      (λ z. let k = some_is ((n - p.moves) / 2) f (sym (high n (omega arith)) ∙ e) in omega arith);
  up = λ n f k l e. let q = some_is ((n - p.moves) / 2) f (sym (high n k) ∙ e) in record {
    smaller = omega arith;
    earlier = omega arith;
    top = low ((n - p.moves) / 2) (omega arith) ∙ ap (λ x. let y : Option ℕ = Some x in y) q;
    child = let c : cond (ltb ((n - p.moves) / 2) p.moves) (p.moves + 2 * ((n - p.moves) / 2) + 1) 0 ≡ p.moves + 2 * ((n - p.moves) / 2) + 1 = ap
        (λ b. cond b (p.moves + 2 * ((n - p.moves) / 2) + 1) 0) (lt-ltb ((n - p.moves) / 2) p.moves (omega arith)) in
        named n (cond (ltb ((n - p.moves) / 2) p.moves) (p.moves + 2 * ((n - p.moves) / 2) + 1) 0)
        (dite (ℕ_discrete (p.moves + 2 * ((n - p.moves) / 2)) n) (λ z. inl (omega arith)) (λ z. inr (omega arith)));
  };
  down = λ n l e. dite (dec_lt n p.moves) (λ z. (
    n,
    p.moves + 2 * n,
    record {
      word = ap (λ b. cond b (p.moves + 2 * n + 1) 0) (lt-ltb n p.moves z);
      grown = omega arith;
      low = omega arith;
      later = omega arith;
      left = omega arith;
      right = omega arith;
      top = low n z;
      top_left = high (p.moves + 2 * n) (omega arith) ∙ ap (λ x. let y : Option ℕ = Some x in y)
          (let q : (p.moves + 2 * n - p.moves) / 2 ≡ n = omega arith in q);
      top_right = high (p.moves + 2 * n + 1) (omega arith) ∙ ap (λ x. let y : Option ℕ = Some x in y)
          (let q : (p.moves + 2 * n + 1 - p.moves) / 2 ≡ n = omega arith in q);
    },
  )) (λ z. absurd (e (ap (λ b. cond b (p.moves + 2 * n + 1) 0) (le-ltb n p.moves (omega arith)))));
}
  where
    low : (n : ℕ) → n < p.moves → cond (ltb n p.moves) (Some n) (Some ((n - p.moves) / 2)) ≡ Some n
    low n z = ap (λ b. cond b (Some n) (Some ((n - p.moves) / 2))) (lt-ltb n p.moves z)

    high : (n : ℕ) → p.moves ≤ n → cond (ltb n p.moves) (Some n) (Some ((n - p.moves) / 2)) ≡ Some ((n - p.moves) / 2)
    high n z = ap (λ b. cond b (Some n) (Some ((n - p.moves) / 2))) (le-ltb n p.moves z)

    named : (n c : ℕ) → (c ≡ n + 1) ⊎ (c ≡ n) → 0 < names c n
    named n c (inl e) = let s = same_self c (n + 1) e in omega arith
    named n c (inr e) = let s = same_self c n e in omega arith

pub first_forest : (p : PlanView) → IsPlan p → Forest p (first_trees p)
first_forest p plan = by p.scheme refl
  where
    by : (s : Scheme) → p.scheme ≡ s → Forest p (start_of s p.moves)
    by Flat e = flat_forest p
    by Level e = level_forest p plan (sym (sym (ap (λ s. grown_nodes s p.moves p.grown) e) ∙ plan.scheme))
    by Grow e = flat_forest p

-- under `Grow` no grown node stands in a tree at the start
pub first_none : (p : PlanView) → p.scheme ≡ Grow → (n : ℕ) → p.moves ≤ n → n < p.moves + p.grown → (first_trees p).tops n ≡ None
first_none p g n k l = subst (λ s. (start_of s p.moves).tops n ≡ None) (sym g) (ap (λ b. cond b (Some n) None) (le-ltb n p.moves k))

pub opens : {B : Type 0} (p : PlanView) → IsPlan p → Rule p (blank p) (map some (replicate (2 * p.moves) (let x : Option B = None in x)))
    (first_view ∷ [])
opens {B} p plan = let m₀ = plan.moves.some in let m₁ = plan.moves.most in record {
  own = alone (OwnOk p (first_trees p)) record {
    claims = refl;
    rooted = refl;
    there = λ n (z : 0 < 0). absurd (omega arith);
    lifts = λ n
        (z : 0 < 0). absurd (omega arith);
    single = omega arith;
    tells = λ n (z : 0 < 0). absurd (omega arith);
    spent = λ (z : 1 ≡ 0). absurd
        (omega arith);
    few = omega arith;
    seated = omega arith;
    sitting = omega arith;
  };
  running = alone (λ (u : View). RunsOk p (first_trees p) (λ _. no_pair) (λ _. no_vertex) u.running) tt;
  flying = alone (λ (u : View). FlightsOk p (first_trees p) 0 (λ _. no_node) (λ _. no_pair) (λ _. no_vertex) u.flight) tt;
  moves = record {
    blank_root = λ d l b. refl;
    blank_pair = λ d l b. refl;
    blank_body = λ d l b. refl;
    blank_rest = λ d l b. refl;
    grounded = λ d l b. refl;
    alone = λ d l. omega arith;
    body_there = λ d l b. absurd (omega arith);
    rest_there = λ d l b. absurd (omega arith);
  };
  marks = record {
    most = omega arith;
    passed = alone (λ (u : View). 0 < u.full_draws → p.moves < 0) (λ (z : 0 < 0). absurd (omega arith));
    by_seats = alone (λ (u : View). u.full_draws ≤ u.seats) (omega arith);
    seats = omega arith;
  };
  starts = record {
    all = sym (sum_none (2 * p.moves) (λ v. started (no_vertex).state) (λ k l. refl));
    spent = alone (λ (u : View). u.seats ≡ 0 → u.starts ≡ 0) (λ _. refl);
  };
  runs = record { one = λ v l. omega arith };
  live = record { shut = λ n l z. no_units n; finish = λ v l (z : 0 < 0). absurd (omega arith); inc = λ v l (z : 0 < 0). absurd (omega arith) };
  counts = record {
    count = λ n l. let u = no_units n in omega arith;
    plain = λ n l. refl;
    no_half = λ n l. refl;
    one_half = λ n l. omega arith;
    grown = λ n k l. inl
        (let u = no_units n in omega arith);
  };
  balances = record {
    balance = λ d l. let s = sum_none (2 * p.moves) (λ v. stands d v no_vertex) (λ k l. gate_none (not_end k)) in omega arith;
    most = λ d l. omega arith;
    pair = λ v l (z : 0 < 0). absurd (omega arith);
    tops = λ v l (z : 0 < 0). absurd (omega arith);
  };
  finishes = record {
    untold = λ f l z. refl;
    going = λ f l (z : 0 < 0). absurd (omega arith);
    coming = λ f l (z : 0 < 0). absurd (omega arith);
    over = λ f l (z : 0 < 0). absurd (omega arith);
    tell = λ f l (z : 0 < 0). absurd (omega arith);
    woken = λ f l (z : 0 < 0). absurd (omega arith);
  };
  slots = record {
    one = λ v l. ap (λ k. home k + 0) (vacant_at (2 * p.moves) v None l);
    body = λ v l (z : 0 < 0). absurd (omega arith);
    end = λ (z : 0 < 0). absurd (omega arith);
    fresh = λ d l b. (vacant_at (2 * p.moves) (2 * d) None (omega arith), vacant_at (2 * p.moves) (2 * d + 1) None (omega arith));
  };
  plan = plan;
  history = record {
    makers = alone MakerOk (maker_none first_view refl);
    below = record {
      rest = λ d l z (s : 0 < 0). absurd (omega arith);
      body = λ d l (s : 0 < 0). absurd (omega arith);
      end = λ (s : 0 < 0). absurd
          (omega arith);
    };
    unmade = record { alone = omega arith; none = λ _. refl };
    shut = record { gift = λ f l z. refl; fault = λ f l z. refl };
    ended = record { one = omega arith; mark = refl; over = λ (z : 0 ≡ 1). absurd (omega arith) };
    tallied = record {
      ready = sym (sum_none (2 * p.moves) (λ v. woken (no_vertex).state) (λ k l. refl));
      spawns = let s = sum_none p.moves (λ d. same 2 no_pair.total) (λ k l. same_else 2 0 (λ e. absurd (omega arith))) in omega arith;
    };
  };
  forest = first_forest p plan;
  bare = record { word = λ n k l z. refl; half = λ n k l z. refl; above = λ n l z. refl };
  trees = alone (λ (u : View). TreeOk p (first_trees p) (λ _. no_node) u.known u.links u.halves u.sprout) (nothing p (first_trees p) (λ _. no_node));
  growth = record {
    word = refl;
    most = omega arith;
    fresh = λ g n k l. first_none p g n (omega arith) l;
    alone = λ l. omega arith;
    later = λ l k. refl;
  };
  grows = alone (λ (u : View). GrowsOk p 0 u.grow_draws u.full_grows u.spawns u.seats) record {
    paid = omega arith;
    passed = λ (z : 0 < 0). absurd
        (omega arith);
    by_seats = omega arith;
  };
}
  where
    gate_none : (k : ℕ) → gate k 0 ≡ 0
    gate_none zero = refl
    gate_none (suc k) = refl

    no_units : (n : ℕ) → units p (blank p) (first_view ∷ []) n ≡ 0
    no_units n = let s = sum_none p.moves (λ (d : ℕ). count n (handles no_pair)) (λ k l. refl) in
        let t = sum_none p.grown (λ c. gate (whole 0) (same n ((first_trees p).parents (p.moves + c)))) (λ k l. refl) in omega arith
