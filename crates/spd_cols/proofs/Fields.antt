-- Fields of a record by their places.
use Rattle.std.proofs.Common.{◌≡◌, ◌∙◌, sym, refl, ap, ℕ, zero, suc, ◌+◌, ◌<◌, Bool, true, false, List, [], ◌∷◌, length, drop, Option, None, Some, slice_get, Bor, add-one}
use Rattle.std.specs.List.{position_from}
use Rattle.std.specs.Option.{option_map, unwrap_or}
use Rattle.csv.specs.Records.{field_at}
use Rattle.csv.proofs.RecordFacts.{field-there}

pub field_is : (fields : List (List ℕ)) (place : ℕ) → field_at fields place ≡ slice_get fields place
unfolding field_at
field_is [] place = refl
field_is (x ∷ fields) zero = refl
field_is (x ∷ fields) (suc place) = field_is fields place

some_same : (a b : List ℕ) → ◌≡◌ {A = Option (List ℕ)} (Some a) (Some b) → a ≡ b
some_same a b e = cc

none_some : (a : List ℕ) → ◌≡◌ {A = Option (List ℕ)} None (Some a) → ⊥
none_some a e = cc

-- the fields from a place on begin with the one there
from_place : (fields : List (List ℕ)) (place : ℕ) (name : List ℕ) → Some name ≡ field_at fields place → drop place fields ≡ name ∷ drop (suc place) fields
unfolding field_at
from_place [] place name e = absurd (none_some name (sym e))
from_place (x ∷ fields) zero name e = ap (λ (z : List ℕ). z ∷ fields) (some_same x name (sym e))
from_place (x ∷ fields) (suc place) name e = from_place fields place name e

pub found_there : (test : List ℕ → Bool) (fields : List (List ℕ)) (place : ℕ) (name : List ℕ) → Some name ≡ field_at fields place → test name ≡ true
    → position_from test place (drop place fields) ≡ Some place
found_there test fields place name e is = rw (from_place fields place name e, is) refl

pub not_there : (test : List ℕ → Bool) (fields : List (List ℕ)) (place : ℕ) (name : List ℕ) → Some name ≡ field_at fields place → test name ≡ false
    → position_from test place (drop place fields) ≡ position_from test (place + 1) (drop (place + 1) fields)
not_there test fields place name e is = rw (from_place fields place name e, is, add-one) refl

-- the field at a place that is there
pub field_given : (found : Option (Bor (List ℕ))) (otherwise : Bor (List ℕ)) (fields : List (List ℕ)) (place : ℕ)
    → option_map (λ s. s.now) found ≡ field_at fields place → place < length fields → slice_get fields place ≡ Some (unwrap_or found otherwise).now
field_given (Some field) otherwise fields place e within = sym (e ∙ field_is fields place)
field_given None otherwise fields place e within = absurd (field-there fields place within (sym e))
