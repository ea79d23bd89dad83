-- What is gathered of lists that are put together, and the joins of gifts, of codes and of moves.
use Rattle.std.proofs.Common.{◌≡◌, ◌+◌, List, [], ◌∷◌, ◌++◌, refl, sym, ◌∙◌, ap, arith, min}
use Rattle.spd_words.specs.Gift.{no_fault, identity, join}
use Rattle.spd_words.specs.Gather.{gather, IsJoin}
use Rattle.spd_words.specs.declared.finish_kind.FinishKind.{FinishKind}
use Rattle.spd_words.proofs.Joins.{join_comm, join_assoc, identity_join}

-- ---- whatever the join

-- the last of a list first
pub gather-snoc : {A C : Type 0} (op : C → C → C) (e : C) (worth : A → C) (xs : List A) (x : A) →
    gather op e worth (xs ++ x ∷ []) ≡ gather op (op (worth x) e) worth xs
gather-snoc op e worth [] x = refl
gather-snoc op e worth (y ∷ ys) x = ap (op (worth y)) (gather-snoc op e worth ys x)

module _ {C : Type 0} (op : C → C → C) (e : C) (law : IsJoin op e) where
  pub swap : (x y z : C) → op x (op y z) ≡ op y (op x z)
  swap x y z = sym (law.assoc x y z) ∙ ap (λ t. op t z) (law.comm x y) ∙ law.assoc y x z

  pub interchange : (a b c d : C) → op (op a b) (op c d) ≡ op (op a c) (op b d)
  interchange a b c d = law.assoc a b (op c d) ∙ ap (op a) (swap b c d) ∙ sym (law.assoc a c (op b d))

  module _ {A : Type 0} (worth : A → C) where
    -- what is gathered on nothing holds nothing already
    pub gather_is : (xs : List A) → op e (gather op e worth xs) ≡ gather op e worth xs
    gather_is [] = law.unit
    gather_is (x ∷ xs) = swap e (worth x) (gather op e worth xs) ∙ ap (op (worth x)) (gather_is xs)

    pub gather-append : (xs ys : List A) →
        gather op e worth (xs ++ ys) ≡ op (gather op e worth xs) (gather op e worth ys)
    gather-append [] ys = sym (gather_is ys)
    gather-append (x ∷ xs) ys =
        ap (op (worth x)) (gather-append xs ys)
        ∙ sym (law.assoc (worth x) (gather op e worth xs) (gather op e worth ys))

-- ---- the three joins

pub gifts_join : (kind : FinishKind) → IsJoin (join kind) (identity kind)
gifts_join kind = record { comm = join_comm kind; assoc = join_assoc kind; unit = identity_join kind }

pub faults_join : IsJoin min no_fault
faults_join = record { comm = λ x y. omega arith; assoc = λ x y z. omega arith; unit = omega arith }

pub moves_join : IsJoin (λ m n. m + n) 0
moves_join = record { comm = λ x y. omega arith; assoc = λ x y z. omega arith; unit = omega arith }
