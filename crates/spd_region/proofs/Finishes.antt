-- What a finish will have, where its newest vertex changes.
use Rattle.std.proofs.Common.{◌≡◌, ℕ, ◌+◌, ◌-◌, ◌<◌, ◌≤◌, List, [], ◌∷◌, ◌++◌, length, sym, ◌∙◌, ap, arith, ℤ, min, length-append}
use Rattle.spd_words.specs.Gift.{no_fault, identity, join}
use Rattle.spd_words.specs.Total.{Total}
use Rattle.spd_words.specs.Meaning.{BodyView}
use Rattle.spd_words.specs.Gather.{gather, gifts, faults, moves}
use Rattle.spd_words.proofs.Joins.{join_comm, join_assoc}
use Rattle.spd_words.proofs.Gather.{gather-snoc, gather-append, moves_join}
use Rattle.spd_words.specs.declared.finish_kind.FinishKind.{FinishKind}
use Rattle.spd_region.specs.declared.finish.Finish.{Finish}
use Rattle.spd_region.specs.Dag.{MayRun, AllMayRun, promise_of, sizes, FinishWillHave}

-- ---- one vertex more at the end of a list

pub gifts-snoc : (k : FinishKind) (g : ℤ) (vs : List BodyView) (v : BodyView) →
    gifts promise_of k g (vs ++ v ∷ []) ≡ gifts promise_of k (join k v.means.promise.gift g) vs
gifts-snoc k g vs v = gather-snoc (join k) g (λ (u : BodyView). u.means.promise.gift) vs v

pub faults-snoc : (f : ℕ) (vs : List BodyView) (v : BodyView) →
    faults promise_of f (vs ++ v ∷ []) ≡ faults promise_of (min v.means.promise.fault f) vs
faults-snoc f vs v = gather-snoc min f (λ (u : BodyView). u.means.promise.fault) vs v

sum-snoc : (worth : BodyView → ℕ) (vs : List BodyView) (v : BodyView) →
    gather (λ m n. m + n) 0 worth (vs ++ v ∷ []) ≡ gather (λ m n. m + n) 0 worth vs + worth v
sum-snoc worth vs v = let h = gather-append (λ m n. m + n) 0 moves_join worth vs (v ∷ []) in omega arith

pub sizes-snoc : (vs : List BodyView) (v : BodyView) → sizes (vs ++ v ∷ []) ≡ sizes vs + (v.size + 1)
sizes-snoc vs v = sum-snoc (λ (u : BodyView). u.size + 1) vs v

pub moves-snoc : (vs : List BodyView) (v : BodyView) →
    moves promise_of (vs ++ v ∷ []) ≡ moves promise_of vs + v.means.promise.moves
moves-snoc vs v = sum-snoc (λ (u : BodyView). u.means.promise.moves) vs v

pub length-snoc : (vs : List BodyView) (v : BodyView) → length (vs ++ v ∷ []) ≡ length vs + 1
length-snoc vs v = length-append vs (v ∷ [])

pub may-snoc : (k : FinishKind) (vs : List BodyView) (v : BodyView) →
    AllMayRun k vs → MayRun k v → AllMayRun k (vs ++ v ∷ [])
may-snoc k [] v h m = (m, tt)
may-snoc k (u ∷ vs) v h m = (h.0, may-snoc k vs v h.1 m)

pub may-front : (k : FinishKind) (vs : List BodyView) (v : BodyView) → AllMayRun k (vs ++ v ∷ []) → AllMayRun k vs
may-front k [] v h = tt
may-front k (u ∷ vs) v h = (h.0, may-front k vs v h.1)

pub may-last : (k : FinishKind) (vs : List BodyView) (v : BodyView) → AllMayRun k (vs ++ v ∷ []) → MayRun k v
may-last k [] v h = h.0
may-last k (u ∷ vs) v h = may-last k vs v h.1

-- ---- another newest vertex

-- an offer counts the same before and after it is made
pub offer_counts : (k : FinishKind) (x a g : ℤ) → join k (join k x a) g ≡ join k a (join k g x)
offer_counts k x a g = join_assoc k x a g ∙ join_comm k x (join k a g) ∙ join_assoc k a g x

-- a child counts the same before and after it is its own vertex
child_counts : (k : FinishKind) (x a g : ℤ) → join k (join k x a) g ≡ join k a (join k x g)
child_counts k x a g = ap (λ z. join k z g) (join_comm k x a) ∙ join_assoc k a x g

-- another newest vertex and another collection, which make the same together
pub changed : (f : Finish) (g : ℤ) (c : ℕ) (own : List BodyView) (v u : BodyView) (end : Total) →
    join f.tally.kind (identity f.tally.kind) g ≡ g → c ≤ no_fault →
    join f.tally.kind v.means.promise.gift f.tally.gift ≡ join f.tally.kind u.means.promise.gift g →
    min v.means.promise.fault f.tally.fault ≡ min u.means.promise.fault c →
    FinishWillHave f (own ++ v ∷ []) end →
    FinishWillHave (record f { tally = record f.tally { gift = g; fault = c } }) (own ++ u ∷ []) end
changed f g c own v u end l b e m h = record {
  counted = h.counted ∙ length-snoc own v ∙ sym (length-snoc own u);
  lawful = l;
  bound = b;
  gift = gifts-snoc f.tally.kind g own u ∙ ap (λ z. gifts promise_of f.tally.kind z own) (sym e)
      ∙ sym (gifts-snoc f.tally.kind f.tally.gift own v) ∙ h.gift;
  fault = faults-snoc c own u ∙ ap (λ z. faults promise_of z own) (sym m) ∙ sym (faults-snoc f.tally.fault own v) ∙ h.fault;
}

-- another newest vertex that promises the same
pub replaced : (f : Finish) (own : List BodyView) (v u : BodyView) (end : Total) →
    u.means.promise.gift ≡ v.means.promise.gift → u.means.promise.fault ≡ v.means.promise.fault →
    FinishWillHave f (own ++ v ∷ []) end → FinishWillHave f (own ++ u ∷ []) end
replaced f own v u end e m h =
    changed f f.tally.gift f.tally.fault own v u end h.lawful h.bound
    (ap (λ z. join f.tally.kind z f.tally.gift) (sym e)) (ap (λ z. min z f.tally.fault) (sym m)) h

-- ---- one vertex less, and one more

-- a finish of whose vertices one has ended
abbrev pub left : Finish → Finish
left f = record f { in_counter = f.in_counter - 1 }

-- a vertex has ended that promised nothing
pub departed : (f : Finish) (own : List BodyView) (v : BodyView) (end : Total) → 0 < f.in_counter →
    v.means.promise.gift ≡ identity f.tally.kind → v.means.promise.fault ≡ no_fault →
    FinishWillHave f (own ++ v ∷ []) end → FinishWillHave (left f) own end
departed f own v end l e m h =
    let b : min v.means.promise.fault f.tally.fault ≡ f.tally.fault = let z = h.bound in omega arith in
    record {
      counted = let z = h.counted in omega (arith, length-snoc own v);
      lawful = h.lawful;
      bound = h.bound;
      gift = ap (λ z. gifts promise_of f.tally.kind z own) (sym (ap (λ z. join f.tally.kind z f.tally.gift) e ∙ h.lawful))
          ∙ sym (gifts-snoc f.tally.kind f.tally.gift own v) ∙ h.gift;
      fault = ap (λ z. faults promise_of z own) (sym b) ∙ sym (faults-snoc f.tally.fault own v) ∙ h.fault;
    }

-- one vertex more, whose promise is a part of what the newest promised
pub arrived : (f : Finish) (own : List BodyView) (v u w : BodyView) (end : Total) →
    v.means.promise.gift ≡ join f.tally.kind w.means.promise.gift u.means.promise.gift →
    v.means.promise.fault ≡ min w.means.promise.fault u.means.promise.fault →
    FinishWillHave f (own ++ v ∷ []) end →
    FinishWillHave (record f { in_counter = f.in_counter + 1 }) ((own ++ u ∷ []) ++ w ∷ []) end
arrived f own v u w end e m h =
    let k = f.tally.kind in
    let g = f.tally.gift in
    let x = w.means.promise.gift in
    let a = u.means.promise.gift in
    let c : join k v.means.promise.gift g ≡ join k a (join k x g) = ap (λ z. join k z g) e ∙ child_counts k x a g in
    let b : min u.means.promise.fault (min w.means.promise.fault f.tally.fault) ≡ min v.means.promise.fault f.tally.fault = omega arith in
    record {
      counted = let z = h.counted in omega (arith, length-snoc own v, length-snoc own u, length-snoc (own ++ u ∷ []) w);
      lawful = h.lawful;
      bound = h.bound;
      gift = gifts-snoc k g (own ++ u ∷ []) w ∙ gifts-snoc k (join k x g) own u
          ∙ ap (λ z. gifts promise_of k z own) (sym c) ∙ sym (gifts-snoc k g own v) ∙ h.gift;
      fault = faults-snoc f.tally.fault (own ++ u ∷ []) w ∙ faults-snoc (min w.means.promise.fault f.tally.fault) own u
          ∙ ap (λ z. faults promise_of z own) b ∙ sym (faults-snoc f.tally.fault own v) ∙ h.fault;
    }
