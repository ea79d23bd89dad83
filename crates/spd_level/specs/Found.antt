-- Values and texts that are found from left to right, up to the first fault.
use Rattle.std.specs.Prelude.{◌≡◌, ℕ, List, ◌++◌, ℤ, Result, Ok, Err, Option, Some, None}
use Rattle.std.specs.Global.{Vec}
use Rattle.std.specs.Borrow.{Bor}

-- values as a list
abbrev pub value_list : Result (Vec ℤ) ℕ → Result (List ℤ) ℕ
value_list (Ok values) = Ok values.items
value_list (Err code) = Err code

-- values that stand before others
abbrev pub onto : List ℤ → Result (List ℤ) ℕ → Result (List ℤ) ℕ
onto found (Ok values) = Ok (found ++ values)
onto found (Err code) = Err code

-- a text as a list of bytes
abbrev pub text_list : Result (Vec ℕ) ℕ → Result (List ℕ) ℕ
text_list (Ok text) = Ok text.items
text_list (Err code) = Err code

-- a text that stands before another
abbrev pub text_onto : List ℕ → Result (List ℕ) ℕ → Result (List ℕ) ℕ
text_onto text (Ok more) = Ok (text ++ more)
text_onto text (Err code) = Err code

-- A text was put behind another, or a fault was found in its place.
abbrev pub IsPut : List ℕ → List ℕ → Result (Unit {0}) ℕ → Result (List ℕ) ℕ → Type 0
IsPut old new (Ok _) part = (text : List ℕ) × (part ≡ Ok text) × (new ≡ old ++ text)
IsPut old new (Err code) part = part ≡ Err code

-- the bytes of an entry that was found
abbrev pub text_seen : Option (Bor (List ℕ)) → Option (List ℕ)
text_seen (Some bytes) = Some bytes.now
text_seen None = None
