-- Names with values, and values at places.
use Rattle.std.proofs.Common.{◌≡◌, ℕ, zero, suc, List, [], ◌∷◌, ◌++◌, length, take, refl, ap, subst, ℤ, pos, true, false, if◌then◌else◌}
use Rattle.std.specs.Prelude.{map}
use Rattle.std.specs.Str.{bytes_eq}
use Rattle.std.proofs.lemmas.List.{map-append}
use Rattle.std.proofs.Math.Seq.{take-append_seam}
use Rattle.spd_meaning.specs.Names.{Name, Names, Entry, Env, bind, look_up, assign, enter}
use Rattle.spd_code.specs.Places.{place_of, value_at, put_at, fitted}
use Rattle.spd_code.specs.Alike.{names_of, values_of}

pub looked : (env : Env) (name : Name) → look_up env name ≡ value_at (values_of env) (place_of (names_of env) name)
looked [] name = refl
looked (entry ∷ env) name =
    elim (bytes_eq entry.name name) as (λ t. (if t then entry.value else look_up env name) ≡ value_at (values_of (entry ∷ env))
    (if t then 0 else suc (place_of (names_of env) name)))
    [ true ↦ refl | false ↦ looked env name ]

pub assigned : (env : Env) (name : Name) (v : ℤ) → values_of (assign env name v) ≡ put_at (values_of env) (place_of (names_of env) name) v
assigned [] name v = refl
assigned (entry ∷ env) name v =
    elim (bytes_eq entry.name name) as (λ t. values_of (if t then record entry { value = v } ∷ env else entry ∷ assign env name v)
    ≡ put_at (values_of (entry ∷ env)) (if t then 0 else suc (place_of (names_of env) name)) v)
    [ true ↦ refl | false ↦ ap (λ (vs : List ℤ). entry.value ∷ vs) (assigned env name v) ]

pub assigned_names : (env : Env) (name : Name) (v : ℤ) → names_of (assign env name v) ≡ names_of env
assigned_names [] name v = refl
assigned_names (entry ∷ env) name v =
    elim (bytes_eq entry.name name) as (λ t. names_of (if t then record entry { value = v } ∷ env else entry ∷ assign env name v) ≡ names_of (entry ∷ env))
    [ true ↦ refl | false ↦ ap (λ (ns : Names). entry.name ∷ ns) (assigned_names env name v) ]

pub entered_names : (names : Names) (args : List ℤ) → names_of (enter names args) ≡ names
entered_names [] args = refl
entered_names (name ∷ names) [] = ap (λ (ns : Names). name ∷ ns) (entered_names names [])
entered_names (name ∷ names) (arg ∷ args) = ap (λ (ns : Names). name ∷ ns) (entered_names names args)

pub entered : (names : Names) (args : List ℤ) → values_of (enter names args) ≡ fitted (length names) args
entered [] args = refl
entered (name ∷ names) [] = ap (λ (vs : List ℤ). pos 0 ∷ vs) (entered names [])
entered (name ∷ names) (arg ∷ args) = ap (λ (vs : List ℤ). arg ∷ vs) (entered names args)

pub bound : (env : Env) (name : Name) (v : ℤ) → values_of (bind env name v) ≡ values_of env ++ v ∷ []
bound env name v = map-append (λ (entry : Entry). entry.value) env (record { name = name; value = v } ∷ [])

pub bound_names : (env : Env) (name : Name) (v : ℤ) → names_of (bind env name v) ≡ names_of env ++ name ∷ []
bound_names env name v = map-append (λ (entry : Entry). entry.name) env (record { name = name; value = v } ∷ [])

take_map : {A B : Type 0} (f : A → B) (n : ℕ) (xs : List A) → map f (take n xs) ≡ take n (map f xs)
take_map f zero xs = refl
take_map f (suc n) [] = refl
take_map f (suc n) (x ∷ xs) = ap (λ r. f x ∷ r) (take_map f n xs)

pub taken : (n : ℕ) (env : Env) → values_of (take n env) ≡ take n (values_of env)
taken n env = take_map (λ (entry : Entry). entry.value) n env

pub taken_names : (n : ℕ) (env : Env) → names_of (take n env) ≡ take n (names_of env)
taken_names n env = take_map (λ (entry : Entry). entry.name) n env

length_map : {A B : Type 0} (f : A → B) (xs : List A) → length (map f xs) ≡ length xs
length_map f [] = refl
length_map f (x ∷ xs) = ap suc (length_map f xs)

pub as_many : (env : Env) → length (values_of env) ≡ length env
as_many env = length_map (λ (entry : Entry). entry.value) env

-- what is left of names where those that came behind them are dropped
pub cut_back : (env : Env) (more : Names) → take (length env) (names_of env ++ more) ≡ names_of env
cut_back env more = subst (λ n. take n (names_of env ++ more) ≡ names_of env) (length_map (λ (entry : Entry). entry.name) env)
    (take-append_seam (names_of env) more)
