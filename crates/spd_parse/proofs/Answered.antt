-- What the parser answers.
use Rattle.std.proofs.Common.{◌≡◌, ◌≢◌, ℕ, suc, ◌+◌, ◌-◌, ◌<◌, ◌≤◌, true, false, List, [], ◌∷◌, ◌++◌, length, take, drop, Option, Some, None, Result, Ok, Err, IfOk, IfErr, refl, sym, ◌∙◌, ap, subst, inl, inr, ◌⊎◌, append_assoc, length-append, get_or, arith}
use Rattle.std.proofs.lemmas.List.{append-nil, take_at, drop_at, take-map, length-map}
use Rattle.spd_syntax.specs.declared.fault.ParseKind.{ParseKind}
use Rattle.spd_syntax.specs.declared.fault.ParseKind.TheVariants as fault
use Rattle.spd_syntax.specs.declared.fault.ParseFault.{ParseFault}
use Rattle.spd_syntax.specs.declared.token.Token.{Token}
use Rattle.spd_syntax.specs.declared.tree.Program.{Program}
use Rattle.spd_syntax.specs.Tokens.{Seen, seen, tokens_of}
use Rattle.spd_syntax.specs.Symbols.{all_seen}
use Rattle.spd_syntax.specs.Shape.{Shape}
use Rattle.spd_syntax.specs.Grammar.{program}
use Rattle.spd_syntax.specs.Limits.{Keeps, KeepsLimits, KeepsCounts, no_counts, IsOneTooMany}
use Rattle.spd_syntax.specs.Faults.{IsSpelled, Begins, IsFault, IsFirstFault, line_at, line_behind}
use Rattle.spd_read.specs.declared.reading.StopKind.{StopKind}
use Rattle.spd_read.specs.declared.reading.StopKind.TheVariants.{Expected, Literal, TooDeep}
use Rattle.spd_parse.specs.Counting.{first_over}
use Rattle.spd_parse.specs.Stops.{fault_kind, IsByGrammar, IsFirstStop}
use Rattle.spd_syntax.proofs.OneToken.{program_ahead}
use Rattle.spd_syntax.proofs.Fitting.{by_grammar, by_lawful}
use Rattle.spd_syntax.proofs.Lexed.{lexed, kept_lawful}
use Rattle.spd_parse.specs.Gives.{IsOrWants, IsFirstOrWants}
use Rattle.spd_parse.proofs.First.{no_fault, unbroken}
use Rattle.spd_parse.proofs.Once.{once}
use Rattle.spd_parse.proofs.TooMany.{Split, Whole, split, front_keeps, not_over, of_stop, of_too_many, line_same}

-- No token is one too many.
pub whole_of : (ts : List Seen) → length ts ≤ first_over no_counts ts → KeepsCounts ts
whole_of ts e = by_split (split no_counts ts)
  where
    by_split : Split no_counts ts ⊎ Whole no_counts ts → KeepsCounts ts
    by_split (inl h) = absurd (omega (arith, e, h.place, ap length h.parts, length-append h.before (h.token ∷ h.after)))
    by_split (inr h) = record { counts = h.counts; counted = h.counted }

-- One is.
pub split_of : (ts : List Seen) (place : ℕ) → place ≡ first_over no_counts ts → place < length ts → Split no_counts ts
split_of ts place e less = by_split (split no_counts ts)
  where
    by_split : Split no_counts ts ⊎ Whole no_counts ts → Split no_counts ts
    by_split (inl h) = h
    by_split (inr h) = absurd (omega (arith, e, less, h.place))

-- ---- faults of more tokens

-- A fault hangs on the next token alone.
wider : {A : Type 0} (p : Shape A) (depth : ℕ) (kind : ParseKind) (before : List Seen) (t : Seen) (r s : List Seen) → IsFault p depth kind before (t ∷ r)
    → IsFault p depth kind before (t ∷ s)
wider p depth fault.Expected before t r s h = h
wider p depth fault.Literal before t r s h = h
wider p depth fault.TooDeep before t r s h = h
wider p depth fault.TooMany before t r s h = h
wider p depth fault.NoMemory before t r s h = h

-- of two fronts of a list the shorter one begins the longer one
prefix : (a b : List Seen) (t : Seen) (r : List Seen) (u : Seen) (s : List Seen) → a ++ t ∷ r ≡ b ++ u ∷ s → length a ≤ length b
    → (z : List Seen) × (b ≡ a ++ z)
prefix [] b t r u s e le = (b, refl)
prefix (x ∷ a) [] t r u s e le = absurd (omega (arith, le))
prefix (x ∷ a) (y ∷ b) t r u s e le =
    let tails : a ++ t ∷ r ≡ b ++ u ∷ s = cc in
    let heads : x ≡ y = cc in
    let more = prefix a b t r u s tails (omega (arith, le)) in
    (more.0, rw heads (ap (λ (z : List Seen). y ∷ z) more.1))

-- ---- the tokens up to the first that is one too many

module _ (ts shown : List Seen) (cut : Split no_counts ts) (is_shown : shown ≡ cut.before ++ cut.token ∷ []) where
  whole : ts ≡ shown ++ cut.after
  whole = cut.parts ∙ sym (append_assoc cut.before (cut.token ∷ []) cut.after) ∙ ap (λ (z : List Seen). z ++ cut.after) (sym is_shown)

  over : IsOneTooMany cut.before cut.token.0
  over = record { kept = record { counts = cut.counts; counted = cut.counted }; over = cut.over }

  -- where reading stops at one of them, it does so at the same of all
  abbrev wider_stop : (kind : StopKind) (t : Seen) (r : List Seen) → IsFirstStop program 32 shown kind (t ∷ r)
      → IsFirstStop program 32 ts kind (t ∷ (r ++ cut.after))
  wider_stop kind t r h = record {
    before = h.before;
    parts = whole ∙ ap (λ (z : List Seen). z ++ cut.after) h.parts ∙ append_assoc h.before (t ∷ r) cut.after;
    is = wider program 32 (fault_kind kind) h.before t r (r ++ cut.after) h.is;
    none_before = λ other us u vs e f. h.none_before other us u vs e (wider program 32 (fault_kind other) us u (vs ++ t ∷ (r ++ cut.after)) (vs ++ t ∷ r) f);
    expected_first = λ f. h.expected_first (wider program 32 fault.Expected h.before t (r ++ cut.after) r f);
  }

  pub shown_stop : (kind : StopKind) (t : Seen) (r : List Seen) → IsFirstStop program 32 shown kind (t ∷ r) → (f : ParseFault) → f.kind ≡ fault_kind kind
      → f.line ≡ t.1 → IsFirstFault ts f
  shown_stop kind t r h f is line =
      let front = prefix h.before cut.before t r cut.token [] (sym h.parts ∙ is_shown)
      (omega (arith, ap length h.parts, ap length is_shown, length-append h.before (t ∷ r), length-append cut.before (cut.token ∷ []))) in
      let kept : KeepsCounts h.before = front_keeps h.before front.0 (subst (λ (z : List Seen). KeepsCounts z) front.1 over.kept) in
      of_stop ts kind (t ∷ (r ++ cut.after)) (wider_stop kind t r h) kept f is line

  -- They begin something, and nothing is wrong among them.
  begun : Begins program shown → ((other : StopKind) (us : List Seen) (u : Seen) (vs : List Seen) → shown ≡ us ++ u ∷ vs
      → IsFault program 32 (fault_kind other) us (u ∷ vs) → ⊥) → (f : ParseFault) → f.kind ≡ fault.TooMany → f.line ≡ cut.token.1 → IsFirstFault ts f
  begun begins none f is line =
      of_too_many ts cut.before cut.token cut.after cut.parts over (subst (λ (z : List Seen). Begins program z) is_shown begins)
      (λ other us u vs e g. none other us u (vs ++ cut.token ∷ []) (is_shown ∙ ap (λ (z : List Seen). z ++ cut.token ∷ []) e
      ∙ append_assoc us (u ∷ vs) (cut.token ∷ [])) (wider program 32 (fault_kind other) us u (vs ++ cut.token ∷ cut.after) (vs ++ cut.token ∷ []) g)) f
      is line

  pub shown_read : (x : Program) → IsByGrammar program x shown → Keeps 32 0 shown → (f : ParseFault) → f.kind ≡ fault.TooMany → f.line ≡ cut.token.1
      → IsFirstFault ts f
  shown_read x s k f is line = begun begins (λ other us u vs e g. no_fault program 32 shown [] k begins other us u vs e
      (wider program 32 (fault_kind other) us u vs (vs ++ []) g)) f is line
    where
      begins : Begins program shown
      begins = record { value = x; more = []; is = subst (λ (z : List Seen). IsByGrammar program x z) (sym (append-nil shown)) s }

  pub shown_ends : (kind : StopKind) → IsFirstStop program 32 shown kind [] → (f : ParseFault) → f.kind ≡ fault.TooMany → f.line ≡ cut.token.1
      → IsFirstFault ts f
  shown_ends Literal h f is line = absurd h.is
  shown_ends TooDeep h f is line = absurd h.is
  shown_ends Expected h f is line =
      let e : h.before ≡ shown = sym (h.parts ∙ append-nil h.before) in
      begun (subst (λ (z : List Seen). Begins program z) e h.is.0) (λ other us u vs g k. h.none_before other us u vs (e ∙ g)
      (wider program 32 (fault_kind other) us u vs (vs ++ []) k)) f is line

-- ---- the other answers

-- Reading stops, and no token is one too many.
pub all_stop : (ts : List Seen) (kind : StopKind) (rest : List Seen) → KeepsCounts ts → IsFirstStop program 32 ts kind rest → (f : ParseFault)
    → f.kind ≡ fault_kind kind → f.line ≡ line_at ts rest → IsFirstFault ts f
all_stop ts kind rest k h f is line = of_stop ts kind rest h (front_keeps h.before rest (subst (λ (z : List Seen). KeepsCounts z) h.parts k)) f is
    (line ∙ line_same ts h.before rest h.parts)

-- What is spelled within the limits has no fault.
no_place : (x : Program) (ts : List Seen) → IsSpelled program x ts → KeepsLimits ts → (kind : ParseKind) (before rest : List Seen) → ts ≡ before ++ rest
    → IsFault program 32 kind before rest → ⊥
no_place x ts s k fault.Expected before [] e f = f.1 x (subst (λ (z : List Seen). IsByGrammar program x z) (e ∙ append-nil before) (by_grammar program x ts s))
no_place x ts s k fault.Expected before (t ∷ r) e f = f.1 (record {
  value = x;
  more = r;
  is =
      subst (λ (z : List Seen). IsByGrammar program x z) (e ∙ sym (append_assoc before (t ∷ []) r)) (by_grammar program x ts s);
})
no_place x ts s k fault.Literal before [] e f = f
no_place x ts s k fault.TooDeep before [] e f = f
no_place x ts s k fault.TooMany before [] e f = f
no_place x ts s k fault.Literal before (t ∷ r) e f = let none = unbroken 32 0 before t r (subst (λ (z : List Seen). Keeps 32 0 z) e k.each) in absurd cc
no_place x ts s k fault.TooDeep before (t ∷ r) e f = let none = unbroken 32 0 before t r (subst (λ (z : List Seen). Keeps 32 0 z) e k.each) in absurd cc
no_place x ts s k fault.TooMany before (t ∷ r) e f = not_over ts before t r k.counts e f
no_place x ts s k fault.NoMemory before r e f = f

module _ (text : List ℕ) (tokens : List Token) (of_text : tokens_of text ≡ Ok tokens) where
  abbrev Tokens : List Seen
  Tokens = all_seen text tokens

  lawfully : (x : Program) → IsByGrammar program x Tokens → KeepsLimits Tokens → IsSpelled program x Tokens
  lawfully x s k = by_lawful program x Tokens s (kept_lawful 32 0 Tokens (lexed text tokens of_text) k.each)

  pub spelled_found : (o : Result Program ParseFault) → IfOk o (λ x. IsByGrammar program x Tokens) → IfOk o (λ x. KeepsLimits Tokens)
      → IfOk o (λ x. IsSpelled program x Tokens)
  spelled_found (Ok x) s k = lawfully x s k
  spelled_found (Err f) s k = tt

  pub spelled_only : (o : Result Program ParseFault) → IfOk o (λ x. IsByGrammar program x Tokens) → IfOk o (λ x. KeepsLimits Tokens)
      → IfErr o (IsFirstOrWants Tokens) → (x : Program) → IsSpelled program x Tokens → KeepsLimits Tokens → IsOrWants x o
  spelled_only (Ok y) s k h x t keep = once program program_ahead Tokens y x (lawfully y s k) t
  spelled_only (Err f) s k (inl h) x t keep = h
  spelled_only (Err f) s k (inr h) x t keep = absurd (no_place x Tokens t keep f.kind h.before h.rest h.parts h.is)

-- ---- tokens and what is seen of them

module _ (text : List ℕ) (ts : List Token) (place : ℕ) (cut : Split no_counts (all_seen text ts)) (at : place ≡ first_over no_counts (all_seen text ts)) where
  pub shown_tokens : all_seen text (take (place + 1) ts) ≡ cut.before ++ cut.token ∷ []
  shown_tokens =
      let all : all_seen text ts ≡ (cut.before ++ cut.token ∷ []) ++ cut.after = cut.parts ∙ sym (append_assoc cut.before (cut.token ∷ []) cut.after) in
      let size : length (cut.before ++ cut.token ∷ []) ≡ place + 1 = omega (arith, at, cut.place, length-append cut.before (cut.token ∷ [])) in
      sym (take-map (seen text) (place + 1) ts) ∙ ap (take (place + 1)) all ∙ take_at (cut.before ++ cut.token ∷ []) cut.after (place + 1) size

  -- its line
  pub line_there : (d : Token) → place < length ts → (get_or ts place d).line ≡ cut.token.1
  line_there d less = by_drop ts place (cut.before) less (sym (omega (arith, at, cut.place))) cut.parts
    where
      by_drop : (ts : List Token) (i : ℕ) (us : List Seen) → i < length ts → length us ≡ i → all_seen text ts ≡ us ++ cut.token ∷ cut.after
          → (get_or ts i d).line ≡ cut.token.1
      by_drop [] i us less e whole = absurd (omega (arith, less))
      by_drop (x ∷ xs) i [] less e whole = let head : seen text x ≡ cut.token = cc in let zero : i ≡ 0 = sym e in rw zero (ap (λ (t : Seen). t.1) head)
      by_drop (x ∷ xs) i (u ∷ us) less e whole =
          let tails : all_seen text xs ≡ us ++ cut.token ∷ cut.after = cc in
          let k : i ≡ suc (length us) = sym e in
          rw k (by_drop xs (length us) us (omega (arith, less, k)) refl tails)

last_line : (text : List ℕ) (ts : List Token) (l : ℕ) (d : Token) → 1 ≤ length ts → (get_or ts (length ts - 1) d).line ≡ line_behind l (all_seen text ts)
last_line text [] l d some = absurd (omega (arith, some))
last_line text (x ∷ []) l d some = refl
last_line text (x ∷ y ∷ r) l d some =
    let k : length (x ∷ y ∷ r) - 1 ≡ suc (length (y ∷ r) - 1) = omega arith in
    rw k (last_line text (y ∷ r) x.line d (omega arith))

-- the line of the end
pub line_end : (text : List ℕ) (ts rest : List Token) (d : Token) → length rest < 1 → 1 ≤ length ts
    → (get_or ts (length ts - 1) d).line ≡ line_at (all_seen text ts) (all_seen text rest)
line_end text ts [] d none some = last_line text ts 1 d some
line_end text ts (y ∷ ys) d none some = absurd (omega (arith, none))

pub nothing_seen : (text : List ℕ) (rest : List Token) → length rest < 1 → all_seen text rest ≡ []
nothing_seen text [] none = refl
nothing_seen text (y ∷ ys) none = absurd (omega (arith, none))

-- the first of the tokens that are left
pub first_seen : (text : List ℕ) (rest : List Token) (d : Token) → 1 ≤ length rest
    → (t : Seen) × (r : List Seen) × (all_seen text rest ≡ t ∷ r) × ((get_or rest 0 d).line ≡ t.1)
first_seen text [] d some = absurd (omega (arith, some))
first_seen text (y ∷ ys) d some = (seen text y, all_seen text ys, refl, refl)
