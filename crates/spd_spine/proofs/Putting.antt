-- Bytes that a sink gets one piece after another.
use Rattle.std.proofs.Common.{◌≡◌, ◌≢◌, ℕ, List, [], ◌++◌, take, drop, Option, Some, None, IfSome, Ok, Err, refl, sym, ap, ◌∙◌, append_assoc, arith}
use Rattle.std.proofs.lemmas.List.{append-nil, take-append-drop}
use Rattle.spd_io.specs.Sink.{SinkState, Gets, GetsFront, Failed, SinkKeepsFaults}
use Rattle.spd_spine.specs.declared.turn.RunError.{RunError}
use Rattle.spd_machine.specs.declared.job.Job.{Job}
use Rattle.spd_spine.specs.declared.turn.SpineTurn.TheVariants as turn

pub gets_then : (a b c : SinkState) (x y : List ℕ) → Gets a b x → Gets b c y → Gets a c (x ++ y)
gets_then a b c x y p q = by_told a.got p
  where
    by_told : (told : Option (List ℕ)) → IfSome told (λ before. b.got ≡ Some (before ++ x)) → IfSome told (λ before. c.got ≡ Some (before ++ (x ++ y)))
    by_told None p = tt
    by_told (Some before) p = (rw p at q) ∙ ap (λ (z : List ℕ). Some z) (append_assoc before x y)

pub gets_nothing : (a : SinkState) → Gets a a []
gets_nothing a = by_told a.got refl
  where
    by_told : (told : Option (List ℕ)) → a.got ≡ told → IfSome told (λ before. a.got ≡ Some (before ++ []))
    by_told None e = tt
    by_told (Some before) e = e ∙ ap (λ (z : List ℕ). Some z) (sym (append-nil before))

-- a front of the bytes by its length
pub front_of : (a b : SinkState) (x : List ℕ) (n : ℕ) → Gets a b (take n x) → GetsFront a b x
front_of a b x n p = (take n x, drop n x, sym (take-append-drop n x), p)

pub front_of_none : (a : SinkState) (x : List ℕ) → GetsFront a a x
front_of_none a x = ([], x, refl, gets_nothing a)

pub front_longer : (a b : SinkState) (x y : List ℕ) → GetsFront a b x → GetsFront a b (x ++ y)
front_longer a b x y p = (p.0, p.1 ++ y, ap (λ (z : List ℕ). z ++ y) p.2 ∙ append_assoc p.0 p.1 y, p.3)

-- a front of the second piece behind the whole first one
pub front_then : (a b c : SinkState) (x y : List ℕ) → Gets a b x → GetsFront b c y → GetsFront a c (x ++ y)
front_then a b c x y p q = (x ++ q.0, q.1, ap (λ (z : List ℕ). x ++ z) q.2 ∙ sym (append_assoc x q.0 q.1), gets_then a b c x q.0 p q.3)

pub failed_later : (a b c : SinkState) → SinkKeepsFaults a b → Failed b c → Failed a c
failed_later a b c le h = omega (arith, le, h)

-- ends that aren't those of a sink that failed
pub goes_well : {A : Type 0} (x : A) (e : RunError) → Ok x ≢ Err e
goes_well x e h = cc

pub region_goes_well : (job : Job) → turn.Region job ≢ turn.Stopped
region_goes_well job h = cc
