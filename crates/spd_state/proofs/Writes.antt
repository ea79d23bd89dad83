-- A write of one word is a change of one typed word.
use Rattle.std.proofs.Common.{◌≡◌, ℕ, ◌+◌, ◌*◌, ◌<◌, ◌≤◌, Option, List, get_or, set, ◌∙◌, arith, length-set, get_or-set_other, get_or-set_same}
use Rattle.spd_words.specs.Plan.{PlanView, moves_place, grown_place, done_place, child_place, parent_place, node_place}
use Rattle.spd_words.specs.Plan.{pair_place, vertex_place, gift_place, fault_place}
use Rattle.spd_words.specs.Words.{Node, Pair, Vertex, NodeFits, PairFits, VertexFits, pack_node, pack_pair, pack_vertex}
use Rattle.spd_state.specs.Sums.{put}
use Rattle.spd_state.specs.Dag.{Dag, IsWritten}
use Rattle.spd_state.proofs.Sums.{put_all}

pub write_moves : (p : PlanView) (a : Dag) (ws : List ℕ) (x : ℕ) → IsWritten p a ws → IsWritten p (record a { drawn = x }) (set ws moves_place x)
write_moves p a ws x h = let long = h.long in let at : ℕ = moves_place in let y : ℕ = x in record {
  long = length-set ws at y ∙ h.long;
  drawn = get_or-set_same ws at y 0 (omega arith);
  bred = get_or-set_other ws at grown_place y 0 (λ e. omega arith) ∙ h.bred;
  done = get_or-set_other ws at done_place y 0 (λ e. omega arith) ∙ h.done;
  children = λ n l. get_or-set_other ws at (child_place p n) y 0 (λ e. omega arith) ∙ h.children n l;
  parents = λ n k l. get_or-set_other ws at (parent_place p n) y 0 (λ e. omega arith) ∙ h.parents n k l;
  nodes = λ n l. get_or-set_other ws at (node_place p n) y 0 (λ e. omega arith) ∙ h.nodes n l;
  pairs = λ d l. get_or-set_other ws at (pair_place p d) y 0 (λ e. omega arith) ∙ h.pairs d l;
  vertices = λ v l. get_or-set_other ws at (vertex_place p v) y 0 (λ e. omega arith) ∙ h.vertices v l;
  gifts = λ d l. get_or-set_other ws at (gift_place p d) y 0 (λ e. omega arith) ∙ h.gifts d l;
  faults = λ d l. get_or-set_other ws at (fault_place p d) y 0 (λ e. omega arith) ∙ h.faults d l;
  nodes_fit = h.nodes_fit;
  pairs_fit = h.pairs_fit;
  vertices_fit = h.vertices_fit;
  gifts_fit = h.gifts_fit;
  faults_fit = h.faults_fit;
}

pub write_grown : (p : PlanView) (a : Dag) (ws : List ℕ) (x : ℕ) → IsWritten p a ws → IsWritten p (record a { bred = x }) (set ws grown_place x)
write_grown p a ws x h = let long = h.long in let at : ℕ = grown_place in let y : ℕ = x in record {
  long = length-set ws at y ∙ h.long;
  drawn = get_or-set_other ws at moves_place y 0 (λ e. omega arith) ∙ h.drawn;
  bred = get_or-set_same ws at y 0 (omega arith);
  done = get_or-set_other ws at done_place y 0 (λ e. omega arith) ∙ h.done;
  children = λ n l. get_or-set_other ws at (child_place p n) y 0 (λ e. omega arith) ∙ h.children n l;
  parents = λ n k l. get_or-set_other ws at (parent_place p n) y 0 (λ e. omega arith) ∙ h.parents n k l;
  nodes = λ n l. get_or-set_other ws at (node_place p n) y 0 (λ e. omega arith) ∙ h.nodes n l;
  pairs = λ d l. get_or-set_other ws at (pair_place p d) y 0 (λ e. omega arith) ∙ h.pairs d l;
  vertices = λ v l. get_or-set_other ws at (vertex_place p v) y 0 (λ e. omega arith) ∙ h.vertices v l;
  gifts = λ d l. get_or-set_other ws at (gift_place p d) y 0 (λ e. omega arith) ∙ h.gifts d l;
  faults = λ d l. get_or-set_other ws at (fault_place p d) y 0 (λ e. omega arith) ∙ h.faults d l;
  nodes_fit = h.nodes_fit;
  pairs_fit = h.pairs_fit;
  vertices_fit = h.vertices_fit;
  gifts_fit = h.gifts_fit;
  faults_fit = h.faults_fit;
}

pub write_done : (p : PlanView) (a : Dag) (ws : List ℕ) (x : ℕ) → IsWritten p a ws → IsWritten p (record a { done = x }) (set ws done_place x)
write_done p a ws x h = let long = h.long in let at : ℕ = done_place in let y : ℕ = x in record {
  long = length-set ws at y ∙ h.long;
  drawn = get_or-set_other ws at moves_place y 0 (λ e. omega arith) ∙ h.drawn;
  bred = get_or-set_other ws at grown_place y 0 (λ e. omega arith) ∙ h.bred;
  done = get_or-set_same ws at y 0 (omega arith);
  children = λ n l. get_or-set_other ws at (child_place p n) y 0 (λ e. omega arith) ∙ h.children n l;
  parents = λ n k l. get_or-set_other ws at (parent_place p n) y 0 (λ e. omega arith) ∙ h.parents n k l;
  nodes = λ n l. get_or-set_other ws at (node_place p n) y 0 (λ e. omega arith) ∙ h.nodes n l;
  pairs = λ d l. get_or-set_other ws at (pair_place p d) y 0 (λ e. omega arith) ∙ h.pairs d l;
  vertices = λ v l. get_or-set_other ws at (vertex_place p v) y 0 (λ e. omega arith) ∙ h.vertices v l;
  gifts = λ d l. get_or-set_other ws at (gift_place p d) y 0 (λ e. omega arith) ∙ h.gifts d l;
  faults = λ d l. get_or-set_other ws at (fault_place p d) y 0 (λ e. omega arith) ∙ h.faults d l;
  nodes_fit = h.nodes_fit;
  pairs_fit = h.pairs_fit;
  vertices_fit = h.vertices_fit;
  gifts_fit = h.gifts_fit;
  faults_fit = h.faults_fit;
}

-- the roots above nodes stand in no word, so they may change with it
pub write_child : (p : PlanView) (a : Dag) (ws : List ℕ) (i x : ℕ) (tops : ℕ → Option ℕ) → i < p.moves + p.grown → IsWritten p a ws
    → IsWritten p (record a { trees = record a.trees { children = put a.trees.children i x; tops = tops } }) (set ws (child_place p i) x)
write_child p a ws i x tops inside h = let long = h.long in let at : ℕ = (child_place p i) in let y : ℕ = x in record {
  long = length-set ws at y ∙ h.long;
  drawn = get_or-set_other ws at moves_place y 0 (λ e. omega arith) ∙ h.drawn;
  bred = get_or-set_other ws at grown_place y 0 (λ e. omega arith) ∙ h.bred;
  done = get_or-set_other ws at done_place y 0 (λ e. omega arith) ∙ h.done;
  children = λ n l. put_all (λ j z. get_or (set ws at y) (child_place p j) 0 ≡ z) a.trees.children i x n (get_or-set_same ws at y 0 (omega arith))
      (λ other. get_or-set_other ws at (child_place p n) y 0 (λ e. other (omega arith)) ∙ h.children n l);
  parents = λ n k l. get_or-set_other ws at (parent_place p n) y 0 (λ e. omega arith) ∙ h.parents n k l;
  nodes = λ n l. get_or-set_other ws at (node_place p n) y 0 (λ e. omega arith) ∙ h.nodes n l;
  pairs = λ d l. get_or-set_other ws at (pair_place p d) y 0 (λ e. omega arith) ∙ h.pairs d l;
  vertices = λ v l. get_or-set_other ws at (vertex_place p v) y 0 (λ e. omega arith) ∙ h.vertices v l;
  gifts = λ d l. get_or-set_other ws at (gift_place p d) y 0 (λ e. omega arith) ∙ h.gifts d l;
  faults = λ d l. get_or-set_other ws at (fault_place p d) y 0 (λ e. omega arith) ∙ h.faults d l;
  nodes_fit = h.nodes_fit;
  pairs_fit = h.pairs_fit;
  vertices_fit = h.vertices_fit;
  gifts_fit = h.gifts_fit;
  faults_fit = h.faults_fit;
}

pub write_parent : (p : PlanView) (a : Dag) (ws : List ℕ) (i x : ℕ) → p.moves ≤ i → i < p.moves + p.grown → IsWritten p a ws
    → IsWritten p (record a { trees = record a.trees { parents = put a.trees.parents i x } }) (set ws (parent_place p i) x)
write_parent p a ws i x grown inside h = let long = h.long in let at : ℕ = (parent_place p i) in let y : ℕ = x in record {
  long = length-set ws at y ∙ h.long;
  drawn = get_or-set_other ws at moves_place y 0 (λ e. omega arith) ∙ h.drawn;
  bred = get_or-set_other ws at grown_place y 0 (λ e. omega arith) ∙ h.bred;
  done = get_or-set_other ws at done_place y 0 (λ e. omega arith) ∙ h.done;
  children = λ n l. get_or-set_other ws at (child_place p n) y 0 (λ e. omega arith) ∙ h.children n l;
  parents = λ n k l. put_all (λ j z. get_or (set ws at y) (parent_place p j) 0 ≡ z) a.trees.parents i x n (get_or-set_same ws at y 0 (omega arith))
      (λ other. get_or-set_other ws at (parent_place p n) y 0 (λ e. other (omega arith)) ∙ h.parents n k l);
  nodes = λ n l. get_or-set_other ws at (node_place p n) y 0 (λ e. omega arith) ∙ h.nodes n l;
  pairs = λ d l. get_or-set_other ws at (pair_place p d) y 0 (λ e. omega arith) ∙ h.pairs d l;
  vertices = λ v l. get_or-set_other ws at (vertex_place p v) y 0 (λ e. omega arith) ∙ h.vertices v l;
  gifts = λ d l. get_or-set_other ws at (gift_place p d) y 0 (λ e. omega arith) ∙ h.gifts d l;
  faults = λ d l. get_or-set_other ws at (fault_place p d) y 0 (λ e. omega arith) ∙ h.faults d l;
  nodes_fit = h.nodes_fit;
  pairs_fit = h.pairs_fit;
  vertices_fit = h.vertices_fit;
  gifts_fit = h.gifts_fit;
  faults_fit = h.faults_fit;
}

pub write_node : (p : PlanView) (a : Dag) (ws : List ℕ) (i : ℕ) (x : Node) → i < p.moves + p.grown → NodeFits x → IsWritten p a ws
    → IsWritten p (record a { nodes = put a.nodes i x }) (set ws (node_place p i) (pack_node x))
write_node p a ws i x inside fits h = let long = h.long in let at : ℕ = (node_place p i) in let y : ℕ = (pack_node x) in record {
  long = length-set ws at y ∙ h.long;
  drawn = get_or-set_other ws at moves_place y 0 (λ e. omega arith) ∙ h.drawn;
  bred = get_or-set_other ws at grown_place y 0 (λ e. omega arith) ∙ h.bred;
  done = get_or-set_other ws at done_place y 0 (λ e. omega arith) ∙ h.done;
  children = λ n l. get_or-set_other ws at (child_place p n) y 0 (λ e. omega arith) ∙ h.children n l;
  parents = λ n k l. get_or-set_other ws at (parent_place p n) y 0 (λ e. omega arith) ∙ h.parents n k l;
  nodes = λ n l. put_all (λ j z. get_or (set ws at y) (node_place p j) 0 ≡ pack_node z) a.nodes i x n (get_or-set_same ws at y 0 (omega arith))
      (λ other. get_or-set_other ws at (node_place p n) y 0 (λ e. other (omega arith)) ∙ h.nodes n l);
  pairs = λ d l. get_or-set_other ws at (pair_place p d) y 0 (λ e. omega arith) ∙ h.pairs d l;
  vertices = λ v l. get_or-set_other ws at (vertex_place p v) y 0 (λ e. omega arith) ∙ h.vertices v l;
  gifts = λ d l. get_or-set_other ws at (gift_place p d) y 0 (λ e. omega arith) ∙ h.gifts d l;
  faults = λ d l. get_or-set_other ws at (fault_place p d) y 0 (λ e. omega arith) ∙ h.faults d l;
  nodes_fit = λ n l. put_all (λ _. NodeFits) a.nodes i x n fits (λ _. h.nodes_fit n l);
  pairs_fit = h.pairs_fit;
  vertices_fit = h.vertices_fit;
  gifts_fit = h.gifts_fit;
  faults_fit = h.faults_fit;
}

pub write_pair : (p : PlanView) (a : Dag) (ws : List ℕ) (i : ℕ) (x : Pair) → i < p.moves → PairFits x → IsWritten p a ws
    → IsWritten p (record a { pairs = put a.pairs i x }) (set ws (pair_place p i) (pack_pair x))
write_pair p a ws i x inside fits h = let long = h.long in let at : ℕ = (pair_place p i) in let y : ℕ = (pack_pair x) in record {
  long = length-set ws at y ∙ h.long;
  drawn = get_or-set_other ws at moves_place y 0 (λ e. omega arith) ∙ h.drawn;
  bred = get_or-set_other ws at grown_place y 0 (λ e. omega arith) ∙ h.bred;
  done = get_or-set_other ws at done_place y 0 (λ e. omega arith) ∙ h.done;
  children = λ n l. get_or-set_other ws at (child_place p n) y 0 (λ e. omega arith) ∙ h.children n l;
  parents = λ n k l. get_or-set_other ws at (parent_place p n) y 0 (λ e. omega arith) ∙ h.parents n k l;
  nodes = λ n l. get_or-set_other ws at (node_place p n) y 0 (λ e. omega arith) ∙ h.nodes n l;
  pairs = λ d l. put_all (λ j z. get_or (set ws at y) (pair_place p j) 0 ≡ pack_pair z) a.pairs i x d (get_or-set_same ws at y 0 (omega arith))
      (λ other. get_or-set_other ws at (pair_place p d) y 0 (λ e. other (omega arith)) ∙ h.pairs d l);
  vertices = λ v l. get_or-set_other ws at (vertex_place p v) y 0 (λ e. omega arith) ∙ h.vertices v l;
  gifts = λ d l. get_or-set_other ws at (gift_place p d) y 0 (λ e. omega arith) ∙ h.gifts d l;
  faults = λ d l. get_or-set_other ws at (fault_place p d) y 0 (λ e. omega arith) ∙ h.faults d l;
  nodes_fit = h.nodes_fit;
  pairs_fit = λ d l. put_all (λ _. PairFits) a.pairs i x d fits (λ _. h.pairs_fit d l);
  vertices_fit = h.vertices_fit;
  gifts_fit = h.gifts_fit;
  faults_fit = h.faults_fit;
}

pub write_vertex : (p : PlanView) (a : Dag) (ws : List ℕ) (i : ℕ) (x : Vertex) → i < 2 * p.moves → VertexFits x → IsWritten p a ws
    → IsWritten p (record a { vertices = put a.vertices i x }) (set ws (vertex_place p i) (pack_vertex x))
write_vertex p a ws i x inside fits h = let long = h.long in let at : ℕ = (vertex_place p i) in let y : ℕ = (pack_vertex x) in record {
  long = length-set ws at y ∙ h.long;
  drawn = get_or-set_other ws at moves_place y 0 (λ e. omega arith) ∙ h.drawn;
  bred = get_or-set_other ws at grown_place y 0 (λ e. omega arith) ∙ h.bred;
  done = get_or-set_other ws at done_place y 0 (λ e. omega arith) ∙ h.done;
  children = λ n l. get_or-set_other ws at (child_place p n) y 0 (λ e. omega arith) ∙ h.children n l;
  parents = λ n k l. get_or-set_other ws at (parent_place p n) y 0 (λ e. omega arith) ∙ h.parents n k l;
  nodes = λ n l. get_or-set_other ws at (node_place p n) y 0 (λ e. omega arith) ∙ h.nodes n l;
  pairs = λ d l. get_or-set_other ws at (pair_place p d) y 0 (λ e. omega arith) ∙ h.pairs d l;
  vertices = λ v l. put_all (λ j z. get_or (set ws at y) (vertex_place p j) 0 ≡ pack_vertex z) a.vertices i x v
      (get_or-set_same ws at y 0 (omega arith))
      (λ other. get_or-set_other ws at (vertex_place p v) y 0 (λ e. other (omega arith)) ∙ h.vertices v l);
  gifts = λ d l. get_or-set_other ws at (gift_place p d) y 0 (λ e. omega arith) ∙ h.gifts d l;
  faults = λ d l. get_or-set_other ws at (fault_place p d) y 0 (λ e. omega arith) ∙ h.faults d l;
  nodes_fit = h.nodes_fit;
  pairs_fit = h.pairs_fit;
  vertices_fit = λ v l. put_all (λ _. VertexFits) a.vertices i x v fits (λ _. h.vertices_fit v l);
  gifts_fit = h.gifts_fit;
  faults_fit = h.faults_fit;
}

pub write_gift : (p : PlanView) (a : Dag) (ws : List ℕ) (i x : ℕ) → i < p.moves → x < 18446744073709551616 → IsWritten p a ws
    → IsWritten p (record a { gifts = put a.gifts i x }) (set ws (gift_place p i) x)
write_gift p a ws i x inside fits h = let long = h.long in let at : ℕ = (gift_place p i) in let y : ℕ = x in record {
  long = length-set ws at y ∙ h.long;
  drawn = get_or-set_other ws at moves_place y 0 (λ e. omega arith) ∙ h.drawn;
  bred = get_or-set_other ws at grown_place y 0 (λ e. omega arith) ∙ h.bred;
  done = get_or-set_other ws at done_place y 0 (λ e. omega arith) ∙ h.done;
  children = λ n l. get_or-set_other ws at (child_place p n) y 0 (λ e. omega arith) ∙ h.children n l;
  parents = λ n k l. get_or-set_other ws at (parent_place p n) y 0 (λ e. omega arith) ∙ h.parents n k l;
  nodes = λ n l. get_or-set_other ws at (node_place p n) y 0 (λ e. omega arith) ∙ h.nodes n l;
  pairs = λ d l. get_or-set_other ws at (pair_place p d) y 0 (λ e. omega arith) ∙ h.pairs d l;
  vertices = λ v l. get_or-set_other ws at (vertex_place p v) y 0 (λ e. omega arith) ∙ h.vertices v l;
  gifts = λ d l. put_all (λ j z. get_or (set ws at y) (gift_place p j) 0 ≡ z) a.gifts i x d (get_or-set_same ws at y 0 (omega arith))
      (λ other. get_or-set_other ws at (gift_place p d) y 0 (λ e. other (omega arith)) ∙ h.gifts d l);
  faults = λ d l. get_or-set_other ws at (fault_place p d) y 0 (λ e. omega arith) ∙ h.faults d l;
  nodes_fit = h.nodes_fit;
  pairs_fit = h.pairs_fit;
  vertices_fit = h.vertices_fit;
  gifts_fit = λ d l. put_all (λ _ y. y < 18446744073709551616) a.gifts i x d fits (λ _. h.gifts_fit d l);
  faults_fit = h.faults_fit;
}

pub write_fault : (p : PlanView) (a : Dag) (ws : List ℕ) (i x : ℕ) → i < p.moves → x < 18446744073709551616 → IsWritten p a ws
    → IsWritten p (record a { faults = put a.faults i x }) (set ws (fault_place p i) x)
write_fault p a ws i x inside fits h = let long = h.long in let at : ℕ = (fault_place p i) in let y : ℕ = x in record {
  long = length-set ws at y ∙ h.long;
  drawn = get_or-set_other ws at moves_place y 0 (λ e. omega arith) ∙ h.drawn;
  bred = get_or-set_other ws at grown_place y 0 (λ e. omega arith) ∙ h.bred;
  done = get_or-set_other ws at done_place y 0 (λ e. omega arith) ∙ h.done;
  children = λ n l. get_or-set_other ws at (child_place p n) y 0 (λ e. omega arith) ∙ h.children n l;
  parents = λ n k l. get_or-set_other ws at (parent_place p n) y 0 (λ e. omega arith) ∙ h.parents n k l;
  nodes = λ n l. get_or-set_other ws at (node_place p n) y 0 (λ e. omega arith) ∙ h.nodes n l;
  pairs = λ d l. get_or-set_other ws at (pair_place p d) y 0 (λ e. omega arith) ∙ h.pairs d l;
  vertices = λ v l. get_or-set_other ws at (vertex_place p v) y 0 (λ e. omega arith) ∙ h.vertices v l;
  gifts = λ d l. get_or-set_other ws at (gift_place p d) y 0 (λ e. omega arith) ∙ h.gifts d l;
  faults = λ d l. put_all (λ j z. get_or (set ws at y) (fault_place p j) 0 ≡ z) a.faults i x d (get_or-set_same ws at y 0 (omega arith))
      (λ other. get_or-set_other ws at (fault_place p d) y 0 (λ e. other (omega arith)) ∙ h.faults d l);
  nodes_fit = h.nodes_fit;
  pairs_fit = h.pairs_fit;
  vertices_fit = h.vertices_fit;
  gifts_fit = h.gifts_fit;
  faults_fit = λ d l. put_all (λ _ y. y < 18446744073709551616) a.faults i x d fits (λ _. h.faults_fit d l);
}
