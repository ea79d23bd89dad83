-- The words of a program's arguments.
use Rattle.std.specs.Prelude.{List, [], ◌∷◌, Result, IfOk}
use Rattle.std.specs.List.{All}
use Rattle.std.specs.Str.{IsUtf8}
use Rattle.spd_top.specs.Told.{Bytes}

-- the arguments behind the first, which is the program's own name
abbrev pub words_of : List Bytes → List Bytes
words_of [] = []
words_of (name ∷ words) = words

-- Each of them is UTF-8.
abbrev pub AreText : List Bytes → Type 0
AreText words = All IsUtf8 words

-- A claim about the words, where the arguments could be had and the words are UTF-8.
abbrev pub OfWords : {E : Type 0} → Result (List Bytes) E → (List Bytes → Type 0) → Type 0
OfWords arguments claim = IfOk arguments (λ all. AreText (words_of all) → claim (words_of all))

-- A claim where the arguments could be had and some word isn't UTF-8.
abbrev pub WhereNotText : {E : Type 0} → Result (List Bytes) E → Type 0 → Type 0
WhereNotText arguments claim = IfOk arguments (λ all. ¬ (AreText (words_of all)) → claim)
