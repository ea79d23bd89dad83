-- What a step on the word of a root leaves of the trees, and what a unit at a grown node says of its word.
use Rattle.std.proofs.Common.{◌≡◌, ◌≢◌, ◌⊎◌, ℕ, ◌+◌, ◌*◌, ◌<◌, ◌≤◌, List, Option, refl, sym, ap, ◌∙◌, subst, arith, ⊎_elim, inl, inr}
use Prim.Native.Nat.{zero, suc}
use Rattle.spd_words.specs.Words.{Node}
use Rattle.spd_state.specs.Sums.{same, gate, put}
use Rattle.spd_words.specs.Plan.{PlanView}
use Rattle.spd_state.specs.declared.trees.Half.{Half}
use Rattle.spd_state.specs.declared.trees.Known.{Known}
use Rattle.spd_state.specs.declared.trees.Link.{Link}
use Rattle.spd_state.specs.declared.trees.Sprout.{Sprout}
use Rattle.spd_state.specs.Tree.{Trees, Bare, TreeOk, whole, tree_units, NodeRule}
use Rattle.spd_state.proofs.Sums.{put_else, put_case, sum_alike}

-- a unit at a grown node makes its count at least 1, which is a unit of its parent
pub unit_rises : (m g : ℕ) (nodes : ℕ → Node) (u h : ℕ → ℕ) → NodeRule m g nodes u h → (i : ℕ) → m ≤ i → i < m + g → 0 < u i
    → whole (nodes i).twice ≡ 1
unit_rises m g nodes u h rule i grown low has = ⊎_elim (λ (t : (nodes i).twice ≡ 2 * u i + 2 * h i). at_two (nodes i).twice (omega arith))
    (λ (t : ((nodes i).twice ≡ 1) × (u i ≡ 0) × (h i ≡ 1)). let t₁ = t.1 in absurd (omega arith)) (rule.grown i grown low)
  where
    at_two : (t : ℕ) → 2 ≤ t → whole t ≡ 1
    at_two zero l = absurd (omega arith)
    at_two (suc zero) l = absurd (omega arith)
    at_two (suc (suc t)) l = refl

-- what changes where only words of roots do
pub tree_roots : (m g : ℕ) (parents : ℕ → ℕ) (nodes nodes' : ℕ → Node) → ((n : ℕ) → m ≤ n → nodes' n ≡ nodes n) → (n : ℕ)
    → tree_units m g parents nodes' n ≡ tree_units m g parents nodes n
tree_roots m g parents nodes nodes' e n = sum_alike g (λ c. gate (whole (nodes' (m + c)).twice) (same n (parents (m + c))))
    (λ c. gate (whole (nodes (m + c)).twice) (same n (parents (m + c))))
    (λ c l. ap (λ (x : Node). gate (whole x.twice) (same n (parents (m + c)))) (e (m + c) (omega arith)))

pub root_else : {A : Type 0} (m : ℕ) (f : ℕ → A) (d : ℕ) (x : A) → d < m → (n : ℕ) → m ≤ n → put f d x n ≡ f n
root_else {A} m f d x l n k = put_else f d x n (λ e. omega arith)

pub counts_root : (m g : ℕ) (nodes : ℕ → Node) (u u' h h' : ℕ → ℕ) (d : ℕ) (x : Node) → d < m → x.twice ≡ 2 * u' d → x.version ≡ 0
    → ((n : ℕ) → n ≢ d → u' n ≡ u n)
    → ((n : ℕ) → h' n ≡ h n) → NodeRule m g nodes u h → NodeRule m g (put nodes d x) u' h'
counts_root m g nodes u u' h h' d x low here plain eu eh r = record {
  plain = λ n l. put_case (λ (y : Node). y.version ≡ 0) nodes d x n (λ _. plain) (λ _. r.plain n l);
  count = λ n l. put_case (λ (y : Node). y.twice ≡ 2 * u' n) nodes d x n (λ e. here ∙ ap (λ j. 2 * u' j) (sym e))
      (λ e. let a = eu n e in let b = r.count n l in omega arith);
  no_half = λ n l. eh n ∙ r.no_half n l;
  one_half = λ n l. let a = eh n in let b = r.one_half n l in omega arith;
  grown = λ n k l. let a = eu n (λ e. omega arith) in let b = eh n in
      subst (λ (y : Node). (y.twice ≡ 2 * u' n + 2 * h' n) ⊎ (y.twice ≡ 1) × (u' n ≡ 0) × (h' n ≡ 1)) (sym (root_else m nodes d x low n k))
      (⊎_elim (λ (t : (nodes n).twice ≡ 2 * u n + 2 * h n). inl (omega arith))
      (λ (t : ((nodes n).twice ≡ 1) × (u n ≡ 0) × (h n ≡ 1)). inr (t.0, a ∙ t.1, b ∙ t.2)) (r.grown n k l));
}

pub bare_root : (p : PlanView) (t : Trees) (o : ℕ → ℕ) (nodes : ℕ → Node) (h b : ℕ → ℕ) (d : ℕ) (x : Node) → d < p.moves → Bare p t o nodes h b
    → Bare p t o (put nodes d x) h b
bare_root p t o nodes h b d x low r = record {
  word = λ n k l z. root_else p.moves nodes d x low n k ∙ r.word n k l z;
  half = r.half;
  above = r.above;
}

pub trees_root : (p : PlanView) (t : Trees) (nodes : ℕ → Node) (d : ℕ) (x : Node) → d < p.moves
    → (known : List Known) (links : List Link) (halves : List Half) (sprout : Option Sprout) → TreeOk p t nodes known links halves sprout
    → TreeOk p t (put nodes d x) known links halves sprout
trees_root p t nodes d x low known links halves sprout r = record {
  knows = r.knows;
  linked = r.linked;
  sprouts = r.sprouts;
  halved = λ j h e. let k = r.halved j h e in record {
    grown = k.grown;
    low = k.low;
    version = ap
        (λ (y : Node). y.version) (root_else p.moves nodes d x low h.node k.grown) ∙ k.version;
  };
}
