-- What is read off a packed word is what was packed.
use Rattle.std.proofs.Common.{◌≡◌, ℕ, ◌+◌, ◌*◌, ◌/◌, ◌%◌, ap, ◌∙◌, arith}
use Rattle.spd_words.specs.Words.{Node, Pair, Vertex, NodeFits, PairFits, VertexFits}
use Rattle.spd_words.specs.Words.{pack_node, node_of, pack_pair, pair_of, pack_vertex, vertex_of}

pub node_read : (n : Node) → NodeFits n → node_of (pack_node n) ≡ n
node_read n h = let x = n.twice in let y = n.version in let a = h.twice in let a : (x + 4294967296 * y) % 4294967296 ≡ x = omega arith in let b : (x + 4294967296 * y) / 4294967296 ≡ y = omega arith in λ i. record { twice = a i; version = b i }

pub pair_read : (p : Pair) → PairFits p → pair_of (pack_pair p) ≡ p
pair_read p h = let c = p.claims in let t = p.total in let k = p.kind in let f = p.first in let s = p.second in let w : ℕ = c + 4 * t + 16 * k + 64 * f + 67108864 * s in
    let hc = h.claims in let ht = h.total in let hk = h.kind in let hf = h.first in let hs = h.second in
    let a₁ : w % 4 ≡ c = omega arith in
    let q₁ : w / 4 ≡ t + 4 * (k + 4 * (f + 1048576 * s)) = omega arith in
    let a₂ : w / 4 % 4 ≡ t = ap (λ (z : ℕ). z % 4) q₁ ∙ omega arith in
    let q₂ : w / 16 ≡ k + 4 * (f + 1048576 * s) = omega arith in
    let a₃ : w / 16 % 4 ≡ k = ap (λ (z : ℕ). z % 4) q₂ ∙ omega arith in
    let q₃ : w / 64 ≡ f + 1048576 * s = omega arith in
    let a₄ : w / 64 % 1048576 ≡ f = ap (λ (z : ℕ). z % 1048576) q₃ ∙ omega arith in
    let q₄ : w / 67108864 ≡ s = omega arith in
    let a₅ : w / 67108864 % 1048576 ≡ s = ap (λ (z : ℕ). z % 1048576) q₄ ∙ omega arith in
    λ i. record { claims = a₁ i; total = a₂ i; kind = a₃ i; first = a₄ i; second = a₅ i }

pub vertex_read : (v : Vertex) → VertexFits v → vertex_of (pack_vertex v) ≡ v
vertex_read v h = let s = v.state in let d = v.side in let p = v.pair in let f = v.finish in let n = v.inc in let w : ℕ = s + 4 * d + 8 * p + 2097152 * f + 549755813888 * n in
    let hs = h.state in let hd = h.side in let hp = h.pair in let hf = h.finish in let hn = h.inc in
    let a₁ : w % 4 ≡ s = omega arith in
    let q₁ : w / 4 ≡ d + 2 * (p + 262144 * (f + 262144 * n)) = omega arith in
    let a₂ : w / 4 % 2 ≡ d = ap (λ (z : ℕ). z % 2) q₁ ∙ omega arith in
    let q₂ : w / 8 ≡ p + 262144 * (f + 262144 * n) = omega arith in
    let a₃ : w / 8 % 262144 ≡ p = ap (λ (z : ℕ). z % 262144) q₂ ∙ omega arith in
    let q₃ : w / 2097152 ≡ f + 262144 * n = omega arith in
    let a₄ : w / 2097152 % 262144 ≡ f = ap (λ (z : ℕ). z % 262144) q₃ ∙ omega arith in
    let q₄ : w / 549755813888 ≡ n = omega arith in
    let a₅ : w / 549755813888 % 1048576 ≡ n = ap (λ (z : ℕ). z % 1048576) q₄ ∙ omega arith in
    λ i. record { state = a₁ i; side = a₂ i; pair = a₃ i; finish = a₄ i; inc = a₅ i }
