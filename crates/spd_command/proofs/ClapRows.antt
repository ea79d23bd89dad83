-- The rows that `clap` holds are the arguments that were given so far.
use Rattle.std.proofs.Common.{◌≡◌, ◌∙◌, ◌&&◌, ◌||◌, ◌⊎◌, ⊎_elim, ℕ, Bool, true, false, not, cond, if◌then◌else◌, refl, sym, ap, ap₂, List, [], ◌∷◌, ◌++◌, Option, Some, None, map, option_map, find, option_and_then, slice_get, true≢false}
use Rattle.std.specs.Str.{bytes_eq}
use Rattle.std.proofs.lemmas.List.{append-nil, map-append}
use Rattle.std.specs.Option.{option_map_or}
use Rattle.clap.specs.Facts.{explicit_source}
use Rattle.clap.specs.Walk.{more_values, Held, Row, Rule, Text, at_row, without, with_values, has_row, used_by_id, used, reacted, settled, arg_by_id, first_of}
use Rattle.clap.specs.Takes.{react_passes, settle_passes, use_passes, is_given}
use Rattle.clap.specs.declared.parser.matches.ValueSource.TheVariants.{CommandLine}
use Rattle.clap.specs.declared.builder.value_parser.Reading.TheVariants.{AsWritten}
use Rattle.spd_command.specs.declared.argument.Argument.{Argument}
use Rattle.spd_command.specs.Table.{argument_name}
use Rattle.spd_command.specs.Values.{flag_value}
use Rattle.spd_command.specs.Lines.{Passed, passes, value_in}
use Rattle.spd_command.proofs.ClapWalk.{built_as, operand_built, begun}

-- ---- rows

abbrev pub given_row : Passed → Row
given_row p = record { id = argument_name p.argument; values = p.value ∷ []; count = None; source = Some CommandLine; reading = AsWritten }

abbrev pub given_rows : List Passed → List Row
given_rows all = map given_row all

either_false : (a b : Bool) → (a || b) ≡ false → (a ≡ false) × (b ≡ false)
either_false true b e = absurd (true≢false e)
either_false false b e = (refl, e)

-- where no row has the id, it comes to the end
pub at_end : (id : Text) (change : Row → List Row) (missing rows : List Row) → has_row id rows ≡ false → at_row id change missing rows ≡ rows ++ missing
at_end id change missing [] e = refl
at_end id change missing (r ∷ rs) e =
    let (here, later) = either_false (bytes_eq r.id id) _ e in
    ap (λ t. if t then change r ++ rs else r ∷ at_row id change missing rs) here ∙ ap (λ z. r ∷ z) (at_end id change missing rs later)

pub untouched : (id : Text) (rows : List Row) → has_row id rows ≡ false → without id rows ≡ rows
untouched id rows e = at_end id (λ _. []) [] rows e ∙ append-nil rows

-- ---- an argument that is used

-- `clap` finds the argument by its name, and it has a value
abbrev pub IsKnown : List Rule → Argument → Type 0
IsKnown rules a = (arg_by_id rules (argument_name a) ≡ Some (built_as false a)) ⊎ ((i : ℕ) × (arg_by_id rules (argument_name a) ≡ Some (operand_built i a)))

abbrev pub is_new : Argument → List Passed → Bool
is_new a done = not (has_row (argument_name a) (given_rows done))

no_row : (a : Argument) (done : List Passed) → is_new a done ≡ true → has_row (argument_name a) (given_rows done) ≡ false
no_row a done e = go (has_row (argument_name a) (given_rows done)) e
  where
    go : (t : Bool) → not t ≡ true → t ≡ false
    go true e = absurd (true≢false (sym e))
    go false e = refl

-- a new argument's row comes to the end
put_row : (p : Passed) (done : List Passed) → is_new p.argument done ≡ true
    → with_values (argument_name p.argument) AsWritten CommandLine (p.value ∷ []) (without (argument_name p.argument) (given_rows done))
    ≡ given_rows (done ++ p ∷ [])
put_row p done new =
    let none = no_row p.argument done new in
    ap (λ z. with_values (argument_name p.argument) AsWritten CommandLine (p.value ∷ []) z) (untouched (argument_name p.argument) (given_rows done) none)
    ∙ at_end (argument_name p.argument) (more_values CommandLine (p.value ∷ [])) (given_row p ∷ []) (given_rows done) none
    ∙ sym (map-append given_row done (p ∷ []))

pub used_rows : (rules : List Rule) (p : Passed) (done : List Passed) → IsKnown rules p.argument → is_new p.argument done ≡ true
    → used_by_id (arg_by_id rules (argument_name p.argument)) (p.value ∷ []) (given_rows done) ≡ given_rows (done ++ p ∷ [])
used_rows rules p done known new =
    let all = put_row p done new in
    ⊎_elim (λ is. ap (λ o. used_by_id o (p.value ∷ []) (given_rows done)) is ∙ all)
    (λ is. ap (λ o. used_by_id o (p.value ∷ []) (given_rows done)) is.1 ∙ all) known

-- ---- what is held

abbrev pub listed : Option Passed → List Passed
listed None = []
listed (Some p) = p ∷ []

-- the rows of what was given, of which the last may be pending
abbrev pub holding : List Passed → Option Passed → Held
holding done last = record { rows = given_rows done; pending = option_map (λ p. (argument_name p.argument, p.value ∷ [])) last; skip = 0 }

-- what is pending is known, and has no row
abbrev pub MayBeUsed : List Rule → List Passed → Option Passed → Type 0
MayBeUsed rules done None = Unit {0}
MayBeUsed rules done (Some p) = IsKnown rules p.argument × (is_new p.argument done ≡ true)

pub settled_is : (rules : List Rule) (done : List Passed) (last : Option Passed) → MayBeUsed rules done last → settled rules (holding done last) ≡ holding (done ++ listed last) None
settled_is rules done None may = ap (λ z. holding z None) (sym (append-nil done))
settled_is rules done (Some p) may = ap (λ rows. record (holding done None) { rows = rows }) (used_rows rules p done may.0 may.1)

pub settles : (rules : List Rule) (done : List Passed) (last : Option Passed) → MayBeUsed rules done last → settle_passes rules false (holding done last) ≡ true
settles rules done None may = refl
settles rules done (Some p) may =
    let none = no_row p.argument done may.1 in
    ⊎_elim (λ is. rw is (rw none refl)) (λ is. rw is.1 (rw none refl)) may.0

pub begins : (rules : List Rule) (done : List Passed) (last : Option Passed) (p : Passed) → MayBeUsed rules done last
    → begun rules p.argument (p.value ∷ []) (holding done last) ≡ holding (done ++ listed last) (Some p)
begins rules done last p may = ap (λ (h : Held). record h { pending = Some (argument_name p.argument, p.value ∷ []) }) (settled_is rules done last may)

-- ---- a flag

abbrev pub flag_given : Argument → Passed
flag_given a = record { argument = a; value = flag_value }

flag_passes : (a : Argument) (done : List Passed) → is_new a done ≡ true → use_passes false (built_as true a) [] (given_rows done) ≡ true
flag_passes a done new = rw (no_row a done new) refl

pub flag_settles : (rules : List Rule) (done : List Passed) (last : Option Passed) (a : Argument) → MayBeUsed rules done last
    → is_new a (done ++ listed last) ≡ true → react_passes rules false (built_as true a) [] (holding done last) ≡ true
flag_settles rules done last a may new =
    ap₂ (λ t (h : Held). t && use_passes false (built_as true a) [] h.rows) (settles rules done last may) (settled_is rules done last may)
    ∙ flag_passes a (done ++ listed last) new

-- it has its row at once
pub flag_reacts : (rules : List Rule) (done : List Passed) (last : Option Passed) (a : Argument) → MayBeUsed rules done last
    → is_new a (done ++ listed last) ≡ true → reacted rules (built_as true a) [] (holding done last) ≡ holding ((done ++ listed last) ++ flag_given a ∷ []) None
flag_reacts rules done last a may new =
    ap (λ (h : Held). record (holding done None) { rows = used (built_as true a) [] h.rows }) (settled_is rules done last may)
    ∙ ap (λ rows. record (holding done None) { rows = rows }) (put_row (flag_given a) (done ++ listed last) new)

-- ---- reading the rows

pub first_is : (a : Argument) (all : List Passed) → first_of (argument_name a) (given_rows all) ≡ value_in a all
first_is a [] = refl
first_is a (p ∷ all) = go (passes a p) (first_is a all)
  where
    go : (t : Bool) → first_of (argument_name a) (given_rows all) ≡ value_in a all
        → option_and_then (λ (r : Row). slice_get r.values 0) (cond t (Some (given_row p)) (find (λ (r : Row). bytes_eq r.id (argument_name a)) (given_rows all)))
        ≡ option_map (λ (q : Passed). q.value) (cond t (Some p) (find (passes a) all))
    go true e = refl
    go false e = e

pub given_first : (a : Argument) (p : Passed) (all : List Passed) → is_given (argument_name a) (given_rows (p ∷ all)) ≡ (passes a p || is_given (argument_name a) (given_rows all))
given_first a p all = go (passes a p)
  where
    go : (t : Bool) → option_map_or (λ (r : Row). explicit_source r.source) (cond t (Some (given_row p)) (find (λ (r : Row). bytes_eq r.id (argument_name a)) (given_rows all))) false
        ≡ (t || is_given (argument_name a) (given_rows all))
    go true = refl
    go false = refl
