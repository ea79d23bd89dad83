-- Trees of nodes: where a grown node stands, the node rule, and what a share knows of both.
use Rattle.std.specs.Prelude.{[], ◌∷◌, ◌==◌, ◌≡◌, ◌≢◌, ◌⊎◌, ℕ, ◌+◌, ◌*◌, ◌<◌, ◌≤◌, ◌-◌, ◌/◌, ◌%◌, cond, List, Option, Some, None}
use Prim.Native.Nat.{zero, suc}
use lib.Dec.{ltb}
use Rattle.spd_words.specs.Plan.{PlanView}
use Rattle.spd_words.specs.declared.scheme.Scheme.{Scheme}
use Rattle.spd_words.specs.declared.scheme.Scheme.TheVariants.{Level, Grow}
use Rattle.spd_words.specs.Words.{Node}
use Rattle.spd_state.specs.Sums.{same, gate, sum_below, Each}
use Rattle.spd_state.specs.declared.trees.Half.{Half}
use Rattle.spd_state.specs.declared.trees.Known.{Known}
use Rattle.spd_state.specs.declared.trees.Link.{Link}
use Rattle.spd_state.specs.declared.trees.Sprout.{Sprout}

-- the child words and the parent words, and, in no word, the root above each node that stands in a tree
pub record Trees : Type 0 where
  pub children : ℕ → ℕ
  pub parents : ℕ → ℕ
  pub tops : ℕ → Option ℕ

-- how often a child word names the node n
abbrev pub names : ℕ → ℕ → ℕ
names c n = same c (n + 1) + same c n

-- The node n lies under the root f.
pub record Under (p : PlanView) (t : Trees) (f n : ℕ) : Type 0 where
  pub low : n < p.moves + p.grown
  pub top : t.tops n ≡ Some f

-- Of a grown node under f: its parent lies under f before the node's pair, and its child word names the node.
pub record Grew (p : PlanView) (t : Trees) (f n : ℕ) : Type 0 where
  pub smaller : t.parents n < n
  pub earlier : t.parents n + (n - p.moves) % 2 < n
  pub top : t.tops (t.parents n) ≡ Some f
  pub child : 0 < names (t.children (t.parents n)) n

-- The nodes l and l + 1 are the children of the node n under f.
pub record Twins (p : PlanView) (t : Trees) (n f l : ℕ) : Type 0 where
  pub word : t.children n ≡ l + 1
  pub grown : p.moves ≤ l
  pub low : l + 1 < p.moves + p.grown
  pub later : n < l
  pub left : t.parents l ≡ n
  pub right : t.parents (l + 1) ≡ n
  pub top : t.tops n ≡ Some f
  pub top_left : t.tops l ≡ Some f
  pub top_right : t.tops (l + 1) ≡ Some f

-- Each root lies under itself. The grown nodes under a root are exactly those that their parents' child words name, up to it.
pub record Forest (p : PlanView) (t : Trees) : Type 0 where
  pub root : (n : ℕ) → n < p.moves → t.tops n ≡ Some n
  pub top : (n f : ℕ) → n < p.moves + p.grown → t.tops n ≡ Some f → f < p.moves
  pub up : (n f : ℕ) → p.moves ≤ n → n < p.moves + p.grown → t.tops n ≡ Some f → Grew p t f n
  pub down : (n : ℕ) → n < p.moves + p.grown → t.children n ≢ 0 → (f : ℕ) × (l : ℕ) × Twins p t n f l

-- how often the root above a node is opened: a node is live where this isn't 0
abbrev pub live_under : (ℕ → ℕ) → Option ℕ → ℕ
live_under opens None = 0
live_under opens (Some f) = opens f

-- the same of a node, by the root above it
abbrev pub lives : Trees → (ℕ → ℕ) → ℕ → ℕ
lives t opens n = live_under opens (t.tops n)

-- 1 from a count of 1 on
abbrev pub whole : ℕ → ℕ
whole zero = 0
whole (suc zero) = 0
whole (suc (suc t)) = 1

-- the grown nodes with the parent n whose count is at least 1
abbrev pub tree_units : ℕ → ℕ → (ℕ → ℕ) → (ℕ → Node) → ℕ → ℕ
tree_units m g parents nodes n = sum_below g (λ c. gate (whole (nodes (m + c)).twice) (same n (parents (m + c))))

-- At a root the count is its units. At a grown node units and halves are the count rounded up, with one half at most, and none but it at
-- 1/2.
pub record NodeRule (m g : ℕ) (nodes : ℕ → Node) (units halves : ℕ → ℕ) : Type 0 where
  pub count : (n : ℕ) → n < m → (nodes n).twice ≡ 2 * units n
  pub plain : (n : ℕ) → n < m → (nodes n).version ≡ 0
  pub no_half : (n : ℕ) → n < m → halves n ≡ 0
  pub one_half : (n : ℕ) → n < m + g → halves n ≤ 1
  pub grown : (n : ℕ) → m ≤ n → n < m + g → ((nodes n).twice ≡ 2 * units n + 2 * halves n) ⊎ ((nodes n).twice ≡ 1) × (units n ≡ 0)
      × (halves n ≡ 1)

-- the word of a node as at the start
abbrev pub no_node : Node
no_node = record { twice = 0; version = 0 }

-- A grown node that isn't live has nothing.
pub record Bare (p : PlanView) (t : Trees) (opens : ℕ → ℕ) (nodes : ℕ → Node) (halves aboves : ℕ → ℕ) : Type 0 where
  pub word : (n : ℕ) → p.moves ≤ n → n < p.moves + p.grown → lives t opens n ≡ 0 → nodes n ≡ no_node
  pub half : (n : ℕ) → p.moves ≤ n → n < p.moves + p.grown → lives t opens n ≡ 0 → halves n ≡ 0
  pub above : (n : ℕ) → n < p.moves + p.grown → lives t opens n ≡ 0 → aboves n ≡ 0

-- A half that a view owns is at a grown node, and has the word's version.
pub record HalfOk (p : PlanView) (nodes : ℕ → Node) (h : Half) : Type 0 where
  pub grown : p.moves ≤ h.node
  pub low : h.node < p.moves + p.grown
  pub version : (nodes h.node).version ≡ h.version

-- A link that a view has is the parent word of a grown node in a tree.
pub record LinkOk (p : PlanView) (t : Trees) (l : Link) : Type 0 where
  pub grown : p.moves ≤ l.node
  pub low : l.node < p.moves + p.grown
  pub parent : t.parents l.node ≡ l.parent
  pub top : (f : ℕ) × (t.tops l.node ≡ Some f)

-- The parent x that a view notes for its drawn node n is in the word, smaller, and in a tree.
pub record SetOk (t : Trees) (n x : ℕ) : Type 0 where
  pub word : t.parents n ≡ x
  pub smaller : x < n
  pub top : (f : ℕ) × (t.tops x ≡ Some f)

-- A pair that a share has drawn and not published: its nodes are in no tree, and its parents those that were set.
pub record SproutOk (p : PlanView) (t : Trees) (q : Sprout) : Type 0 where
  pub scheme : p.scheme ≡ Grow
  pub even : (k : ℕ) × (q.left ≡ p.moves + 2 * k)
  pub low : q.left + 1 < p.moves + p.grown
  pub left : t.tops q.left ≡ None
  pub right : t.tops (q.left + 1) ≡ None
  pub first : (x : ℕ) → q.first ≡ Some x → SetOk t q.left x
  pub second : (x : ℕ) → q.second ≡ Some x → SetOk t (q.left + 1) x

-- What a view knows of nodes stands.
pub record TreeOk (p : PlanView) (t : Trees) (nodes : ℕ → Node) (known : List Known) (links : List Link) (halves : List Half)
    (sprout : Option Sprout) : Type 0 where
  pub knows : Each (λ k. Under p t k.top k.node) known
  pub linked : Each (LinkOk p t) links
  pub halved : Each (HalfOk p nodes) halves
  pub sprouts : (q : Sprout) → sprout ≡ Some q → SproutOk p t q

-- what a view's lists tell of a node: the root above it
abbrev pub top_in : ℕ → List Known → Option ℕ
top_in n [] = None
top_in n (k ∷ ks) = cond (n == k.node) (Some k.top) (top_in n ks)

-- the parent of a node
abbrev pub parent_in : ℕ → List Link → Option ℕ
parent_in n [] = None
parent_in n (l ∷ ls) = cond (n == l.node) (Some l.parent) (parent_in n ls)

-- Word 1 is twice the draws of nodes. Nodes that weren't drawn are in no tree, and no two shares have one unpublished pair.
pub record GrowthRule (p : PlanView) (t : Trees) (bred draws fulls : ℕ) (nursed : ℕ → ℕ) : Type 0 where
  pub word : bred ≡ 2 * draws
  pub most : bred ≤ p.grown + 2 * fulls
  pub fresh : p.scheme ≡ Grow → (n : ℕ) → p.moves + bred ≤ n → n < p.moves + p.grown → t.tops n ≡ None
  pub alone : (l : ℕ) → nursed l ≤ 1
  pub later : (l : ℕ) → p.moves + bred ≤ l → nursed l ≡ 0

-- the trees at the start: under `Level` each root has two children
abbrev pub start_of : Scheme → ℕ → Trees
start_of Level m = record {
  children = λ n. cond (ltb n m) (m + 2 * n + 1) 0;
  parents = λ n. (n - m) / 2;
  tops = λ n. cond (ltb n m) (Some n)
      (Some ((n - m) / 2));
}
start_of _ m = record { children = λ _. 0; parents = λ _. 0; tops = λ n. cond (ltb n m) (Some n) None }

-- the trees of a plan at the start
abbrev pub first_trees : PlanView → Trees
first_trees p = start_of p.scheme p.moves
