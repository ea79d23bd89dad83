-- The words of a table as records of their fields.
use Rattle.std.specs.Prelude.{ℕ, ◌+◌, ◌*◌, ◌/◌, ◌%◌, ◌<◌}

-- ---- nodes: bits 0 to 31 twice the count, bits 32 to 63 the version

pub record Node : Type 0 where
  pub twice : ℕ
  pub version : ℕ

pub record NodeFits (n : Node) : Type 0 where
  pub twice : n.twice < 4294967296
  pub version : n.version < 4294967296

abbrev pub pack_node : Node → ℕ
pack_node n = n.twice + 4294967296 * n.version

abbrev pub node_of : ℕ → Node
node_of word = record { twice = word % 4294967296; version = word / 4294967296 }

-- ---- pairs: bits 0 and 1 the claims, 2 and 3 the total, 4 and 5 the kind, 6 to 25 the first handle, 26 to 45 the second

pub record Pair : Type 0 where
  pub claims : ℕ
  pub total : ℕ
  pub kind : ℕ
  pub first : ℕ
  pub second : ℕ

abbrev pub pair_with : ℕ → ℕ → ℕ → ℕ → ℕ → Pair
pair_with claims total kind first second =
    record { claims = claims; total = total; kind = kind; first = first; second = second }

-- Each number fits its field.
pub record PairFits (p : Pair) : Type 0 where
  pub claims : p.claims < 4
  pub total : p.total < 4
  pub kind : p.kind < 4
  pub first : p.first < 1048576
  pub second : p.second < 1048576

abbrev pub pack_pair : Pair → ℕ
pack_pair p = p.claims + 4 * p.total + 16 * p.kind + 64 * p.first + 67108864 * p.second

abbrev pub pair_of : ℕ → Pair
pair_of word = record {
  claims = word % 4;
  total = word / 4 % 4;
  kind = word / 16 % 4;
  first = word / 64 % 1048576;
  second = word / 67108864 % 1048576;
}

-- ---- vertices: bits 0 and 1 the state, 2 the side, 3 to 20 the pair, 21 to 38 the finish, 39 to 58 the node to increment at

pub record Vertex : Type 0 where
  pub state : ℕ
  pub side : ℕ
  pub pair : ℕ
  pub finish : ℕ
  pub inc : ℕ

abbrev pub vertex_with : ℕ → ℕ → ℕ → ℕ → ℕ → Vertex
vertex_with state side pair finish inc =
    record { state = state; side = side; pair = pair; finish = finish; inc = inc }

pub record VertexFits (v : Vertex) : Type 0 where
  pub state : v.state < 4
  pub side : v.side < 2
  pub pair : v.pair < 262144
  pub finish : v.finish < 262144
  pub inc : v.inc < 1048576

abbrev pub pack_vertex : Vertex → ℕ
pack_vertex v = v.state + 4 * v.side + 8 * v.pair + 2097152 * v.finish + 549755813888 * v.inc

abbrev pub vertex_of : ℕ → Vertex
vertex_of word = record {
  state = word % 4;
  side = word / 4 % 2;
  pair = word / 8 % 262144;
  finish = word / 2097152 % 262144;
  inc = word / 549755813888 % 1048576;
}
