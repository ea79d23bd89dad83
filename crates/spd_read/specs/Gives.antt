-- What a function answers, by a reading.
use Rattle.std.specs.Prelude.{◌≡◌, ℕ, zero, suc, List, Result, Ok, Err}
use denote.Ref.{Bor}
use Rattle.spd_syntax.specs.declared.token.Token.{Token}
use Rattle.spd_syntax.specs.Symbols.{all_seen}
use Rattle.spd_read.specs.declared.reading.ReadError.{ReadError}
use Rattle.spd_read.specs.declared.reading.ReadError.TheVariants as errors
use Rattle.spd_read.specs.declared.reading.StopKind.TheVariants.{TooDeep}
use Rattle.spd_read.specs.Reading.{Stop, Read}

abbrev pub Fails : {Y : Type 0} → List ℕ → ReadError → Result Y Stop → Type 0
Fails text errors.NoMemory read = Unit {0}
Fails text (errors.Fault kind rest) read = read ≡ Err (kind, all_seen text rest.now)

-- What a function returned is what reading gives, unless memory ran out.
abbrev pub Gives : {A : Type 0} → List ℕ → Result (A × Bor (List Token)) ReadError → Read A → Type 0
Gives text (Ok x) read = read ≡ Ok (x.0, all_seen text x.1.now)
Gives text (Err e) read = Fails text e read

-- one bracket less, or a bracket too many
abbrev pub Deeper : List Token → ℕ → Result ℕ ReadError → Type 0
Deeper here depth (Ok less) = depth ≡ suc less
Deeper here depth (Err errors.NoMemory) = ⊥
Deeper here depth (Err (errors.Fault kind rest)) = (depth ≡ zero) × (kind ≡ TooDeep) × (rest.now ≡ here)
