-- A text comes to one outcome, and a command line over files that are told has one.
use Rattle.std.proofs.Common.{◌≡◌, ◌≢◌, ◌∙◌, ℕ, ◌≤◌, List, [], length, Ok, Err, Result, Some, None, Option, refl, sym, ap, subst, arith}
use Rattle.spd_io.specs.Shelf.{FileTold, Untold, Missing, Holds, MayBe, MayExceed}
use Rattle.spd_syntax.specs.declared.lexing.LexFault.{LexFault}
use Rattle.spd_syntax.specs.declared.fault.ParseFault.{ParseFault}
use Rattle.spd_syntax.specs.declared.token.Token.{Token}
use Rattle.spd_syntax.specs.declared.tree.Program.{Program}
use Rattle.spd_syntax.specs.Tokens.{Seen, tokens_of}
use Rattle.spd_syntax.specs.Symbols.{all_seen}
use Rattle.spd_syntax.specs.Grammar.{program}
use Rattle.spd_syntax.specs.Limits.{max_text}
use Rattle.spd_syntax.specs.Faults.{IsSpelled, IsFirstFault}
use Rattle.spd_syntax.proofs.OneToken.{program_ahead}
use Rattle.spd_parse.proofs.Once.{once}
use Rattle.spd_check.specs.declared.faults.CheckFault.{CheckFault}
use Rattle.spd_check.specs.Faults.{first_fault}
use Rattle.spd_check.specs.Checks.{faults_of}
use Rattle.spd_cols.specs.Loading.{declarations}
use Rattle.spd_top.specs.declared.words.SerialCommand.{SerialCommand}
use Rattle.spd_top.specs.declared.words.SerialCommand.TheVariants.{Elide, Check}
use Rattle.spd_cols.specs.Made.{made_csv}
use Rattle.spd_top.specs.Requests.{Request, made_file, command_asked, program_asked, counts_asked}
use Rattle.spd_top.specs.Built.{IsProgram, IsFaulty, TextOutcome, lex_fault, parse_fault, check_fault, passes, ComesTo}
use Rattle.spd_top.specs.DataFiles.{DataOutcome}
use Rattle.spd_top.specs.Told.{Bytes, of_file, Told, told_of}
use Rattle.spd_top.specs.Serving.{ReadsText, ReadsData, Outcome, refused, made, missing, too_long, of_text, SameAnswer, AreAllTold, HasOneOutcome}
use Rattle.spd_top.proofs.Loads.{one_text, data_comes_to_one}
use Rattle.spd_top.proofs.OneFault.{one_first_fault, spelled_has_no_fault}

-- ---- one outcome of a text

same_tokens : (text : List ℕ) (a b : List Token) → tokens_of text ≡ Ok a → tokens_of text ≡ Ok b → all_seen text a ≡ all_seen text b
same_tokens text a b e d =
    let same : ◌≡◌ {A = Result (List Token) LexFault} (Ok a) (Ok b) = sym e ∙ d in
    let found : a ≡ b = cc in
    ap (all_seen text) found

module _ (text : List ℕ) where
  not_cut : (tokens : List Token) (fault : LexFault) → tokens_of text ≡ Ok tokens → tokens_of text ≡ Err fault → ⊥
  not_cut tokens fault e d = let same : ◌≡◌ {A = Result (List Token) LexFault} (Ok tokens) (Err fault) = sym e ∙ d in cc

  one_fault : (f g : ParseFault) → IsFaulty text f → IsFaulty text g → f ≡ g
  one_fault f g a b =
      one_first_fault (all_seen text a.tokens) f g a.first (subst (λ (ts : List Seen). IsFirstFault ts g) (same_tokens text b.tokens a.tokens b.cut a.cut) b.first)

  no_fault : (tree : Program) (fault : ParseFault) → IsProgram text tree → IsFaulty text fault → ⊥
  no_fault tree fault a b =
      spelled_has_no_fault (all_seen text a.tokens) tree fault a.spelled a.limits (subst (λ (ts : List Seen). IsFirstFault ts fault) (same_tokens text b.tokens a.tokens b.cut a.cut) b.first)

  one_program : (s t : Program) → IsProgram text s → IsProgram text t → s ≡ t
  one_program s t a b =
      once program program_ahead (all_seen text a.tokens) s t a.spelled (subst (λ (ts : List Seen). IsSpelled program t ts) (same_tokens text b.tokens a.tokens b.cut a.cut) b.spelled)

  one_check_fault : (f g : CheckFault) (s t : Program) → IsProgram text s → IsProgram text t → first_fault (faults_of s) ≡ Some f → first_fault (faults_of t) ≡ Some g → f ≡ g
  one_check_fault f g s t a b x y =
      let same : ◌≡◌ {A = Option CheckFault} (Some f) (Some g) = sym x ∙ (ap (λ (u : Program). first_fault (faults_of u)) (one_program s t a b) ∙ y) in
      cc

  no_check_fault : (f : CheckFault) (s t : Program) → IsProgram text s → IsProgram text t → first_fault (faults_of s) ≡ Some f → faults_of t ≡ [] → ⊥
  no_check_fault f s t a b x y =
      let none : first_fault (faults_of s) ≡ first_fault [] = ap (λ (u : Program). first_fault (faults_of u)) (one_program s t a b) ∙ ap first_fault y in
      let same : ◌≡◌ {A = Option CheckFault} (Some f) (first_fault []) = sym x ∙ none in
      cc

  pub comes_to_one : (a b : TextOutcome) → ComesTo text a → ComesTo text b → a ≡ b
  comes_to_one (lex_fault f) (lex_fault g) x y = let same : ◌≡◌ {A = Result (List Token) LexFault} (Err f) (Err g) = sym x ∙ y in cc
  comes_to_one (lex_fault f) (parse_fault g) x y = absurd (not_cut y.tokens f y.cut x)
  comes_to_one (lex_fault f) (check_fault g) x y = absurd (not_cut y.1.tokens f y.1.cut x)
  comes_to_one (lex_fault f) (passes t) x y = absurd (not_cut y.0.tokens f y.0.cut x)
  comes_to_one (parse_fault f) (lex_fault g) x y = absurd (not_cut x.tokens g x.cut y)
  comes_to_one (parse_fault f) (parse_fault g) x y = ap parse_fault (one_fault f g x y)
  comes_to_one (parse_fault f) (check_fault g) x y = absurd (no_fault y.0 f y.1 x)
  comes_to_one (parse_fault f) (passes t) x y = absurd (no_fault t f y.0 x)
  comes_to_one (check_fault f) (lex_fault g) x y = absurd (not_cut x.1.tokens g x.1.cut y)
  comes_to_one (check_fault f) (parse_fault g) x y = absurd (no_fault x.0 g x.1 y)
  comes_to_one (check_fault f) (check_fault g) x y = ap check_fault (one_check_fault f g x.0 y.0 x.1 y.1 x.2 y.2)
  comes_to_one (check_fault f) (passes t) x y = absurd (no_check_fault f x.0 t x.1 y.0 x.2 y.1)
  comes_to_one (passes s) (lex_fault g) x y = absurd (not_cut x.0.tokens g x.0.cut y)
  comes_to_one (passes s) (parse_fault g) x y = absurd (no_fault s g x.0 y)
  comes_to_one (passes s) (check_fault g) x y = absurd (no_check_fault g y.0 s y.1 x.0 y.2 x.1)
  comes_to_one (passes s) (passes t) x y = ap passes (one_program s t x.0 y.0)

-- ---- one outcome of a command line

same_told : (t u : Told) (s s' : ℕ) (z z' l l' : Bytes) → t ≡ u → t ≡ record { status = s; bytes = z; line = l } → u ≡ record { status = s'; bytes = z'; line = l' } → SameAnswer s s' z z' l l'
same_told t u s s' z z' l l' e d d' =
    let same : ◌≡◌ {A = Told} (record { status = s; bytes = z; line = l }) (record { status = s'; bytes = z'; line = l' }) = sym d ∙ (e ∙ d') in
    (ap (λ (x : Told). x.status) same, ap (λ (x : Told). x.bytes) same, ap (λ (x : Told). x.line) same)

not_both : (file : FileTold) (text : Bytes) → file ≢ Untold → MayExceed file max_text → MayBe file text → length text ≤ max_text → ⊥
not_both Untold text told a b h = told refl
not_both Missing text told a b h = a
not_both (Holds held) text told a b h = let same : length held ≡ length text = ap length b in omega arith

not_missing : (file : FileTold) (text : Bytes) → file ≡ Missing → MayBe file text → ⊥
not_missing file text e b = subst (λ f. MayBe f text) e b

not_exceeding : (file : FileTold) → file ≡ Missing → MayExceed file max_text → ⊥
not_exceeding file e b = subst (λ f. MayExceed f max_text) e b

-- two data outcomes of the same text
module _ (request : Option Request) (file : Bytes → FileTold) (told : AreAllTold request file) where
  same_data : (k : SerialCommand) (n : Bytes) (o : TextOutcome) (d d' : DataOutcome) → ReadsText request file k n o → ReadsData file k o d → ReadsData file k o d' → d ≡ d'
  same_data Elide n (passes tree) d d' reads x y = data_comes_to_one file (declarations tree.items) (told.columns n tree reads) d d' x y
  same_data Elide n (lex_fault f) d d' reads x y = x ∙ sym y
  same_data Elide n (parse_fault f) d d' reads x y = x ∙ sym y
  same_data Elide n (check_fault f) d d' reads x y = x ∙ sym y
  same_data Check n o d d' reads x y = x ∙ sym y

  same_name : (n n' : Bytes) → program_asked request ≡ Some n → program_asked request ≡ Some n' → n ≡ n'
  same_name n n' e d = let same : ◌≡◌ {A = Option Bytes} (Some n) (Some n') = sym e ∙ d in cc

  same_command : (k k' : SerialCommand) → command_asked request ≡ Some k → command_asked request ≡ Some k' → k ≡ k'
  same_command k k' e d = let same : ◌≡◌ {A = Option SerialCommand} (Some k) (Some k') = sym e ∙ d in cc

  not_refused : (n : Bytes) → request ≡ None → program_asked request ≡ Some n → ⊥
  not_refused n e d = let wrong : ◌≡◌ {A = Option Bytes} None (Some n) = sym (ap program_asked e) ∙ d in cc

  -- A made file is asked for by no name.
  not_made : (n : Bytes) (rows seed : ℕ) → request ≡ Some (made_file rows seed) → program_asked request ≡ Some n → ⊥
  not_made n rows seed e d = let wrong : ◌≡◌ {A = Option Bytes} None (Some n) = sym (ap program_asked e) ∙ d in cc

  made_not_refused : (rows seed : ℕ) → request ≡ None → request ≡ Some (made_file rows seed) → ⊥
  made_not_refused rows seed e d = let wrong : ◌≡◌ {A = Option Request} None (Some (made_file rows seed)) = sym e ∙ d in cc

  same_made : (rows rows' seed seed' : ℕ) → request ≡ Some (made_file rows seed) → request ≡ Some (made_file rows' seed') → made_csv rows seed ≡ made_csv rows' seed'
  same_made rows rows' seed seed' e d =
      let same : ◌≡◌ {A = Option Request} (Some (made_file rows seed)) (Some (made_file rows' seed')) = sym e ∙ d in
      let (x, y) : (rows ≡ rows') × (seed ≡ seed') = (cc, cc) in
      rw (x, y) refl

  missing_no_text : (n n' : Bytes) (k : SerialCommand) (o : TextOutcome) → program_asked request ≡ Some n → file n ≡ Missing → ReadsText request file k n' o → ⊥
  missing_no_text n n' k o e m reads =
      not_missing (file n') reads.text (ap file (sym (same_name n n' e reads.program_is)) ∙ m) reads.may

  long_no_text : (n n' : Bytes) (k : SerialCommand) (o : TextOutcome) → program_asked request ≡ Some n → MayExceed (file n) max_text → ReadsText request file k n' o → ⊥
  long_no_text n n' k o e m reads =
      not_both (file n') reads.text (told.operand n' reads.program_is) (subst (λ (y : Bytes). MayExceed (file y) max_text) (same_name n n' e reads.program_is) m) reads.may reads.within

  missing_not_long : (n n' : Bytes) → program_asked request ≡ Some n → program_asked request ≡ Some n' → file n ≡ Missing → MayExceed (file n') max_text → ⊥
  missing_not_long n n' e d m x = not_exceeding (file n') (ap file (sym (same_name n n' e d)) ∙ m) x

  same_line : (n n' what : Bytes) → program_asked request ≡ Some n → program_asked request ≡ Some n' → of_file n what ≡ of_file n' what
  same_line n n' what e d = ap (λ (y : Bytes). of_file y what) (same_name n n' e d)

  pub one_outcome : (s s' : ℕ) (z z' l l' : Bytes) → Outcome request file s z l → Outcome request file s' z' l' → SameAnswer s s' z z' l l'
  one_outcome s s' z z' l l' (refused e) (refused d) = (refl, refl, refl)
  one_outcome s s' z z' l l' (refused e) (made a b d) = absurd (made_not_refused a b e d)
  one_outcome s s' z z' l l' (refused e) (missing n d m) = absurd (not_refused n e d)
  one_outcome s s' z z' l l' (refused e) (too_long n d m) = absurd (not_refused n e d)
  one_outcome s s' z z' l l' (refused e) (of_text k n o came s2 z2 l2 r d t) = absurd (not_refused n e r.program_is)
  one_outcome s s' z z' l l' (made a b d) (refused e) = absurd (made_not_refused a b e d)
  one_outcome s s' z z' l l' (made a b d) (made a' b' d') = (refl, same_made a a' b b' d d', refl)
  one_outcome s s' z z' l l' (made a b e) (missing n d m) = absurd (not_made n a b e d)
  one_outcome s s' z z' l l' (made a b e) (too_long n d m) = absurd (not_made n a b e d)
  one_outcome s s' z z' l l' (made a b e) (of_text k n o came s2 z2 l2 r d t) = absurd (not_made n a b e r.program_is)
  one_outcome s s' z z' l l' (missing n d m) (made a b e) = absurd (not_made n a b e d)
  one_outcome s s' z z' l l' (missing n d m) (refused e) = absurd (not_refused n e d)
  one_outcome s s' z z' l l' (missing n d m) (missing n' d' m') = (refl, refl, same_line n n' _ d d')
  one_outcome s s' z z' l l' (missing n d m) (too_long n' d' m') = absurd (missing_not_long n n' d d' m m')
  one_outcome s s' z z' l l' (missing n d m) (of_text k n' o came s2 z2 l2 r d' t) = absurd (missing_no_text n n' k o d m r)
  one_outcome s s' z z' l l' (too_long n d m) (made a b e) = absurd (not_made n a b e d)
  one_outcome s s' z z' l l' (too_long n d m) (refused e) = absurd (not_refused n e d)
  one_outcome s s' z z' l l' (too_long n d m) (missing n' d' m') = absurd (missing_not_long n' n d' d m' m)
  one_outcome s s' z z' l l' (too_long n d m) (too_long n' d' m') = (refl, refl, same_line n n' _ d d')
  one_outcome s s' z z' l l' (too_long n d m) (of_text k n' o came s2 z2 l2 r d' t) = absurd (long_no_text n n' k o d m r)
  one_outcome s s' z z' l l' (of_text k n o came s2 z2 l2 r d t) (made a b e) = absurd (not_made n a b e r.program_is)
  one_outcome s s' z z' l l' (of_text k n o came s2 z2 l2 r d t) (refused e) = absurd (not_refused n e r.program_is)
  one_outcome s s' z z' l l' (of_text k n o came s2 z2 l2 r d t) (missing n' d' m') = absurd (missing_no_text n' n k o d' m' r)
  one_outcome s s' z z' l l' (of_text k n o came s2 z2 l2 r d t) (too_long n' d' m') = absurd (long_no_text n' n k o d' m' r)
  one_outcome s s' z z' l l' (of_text k n o came s2 z2 l2 r d t) (of_text k' n' o' came' s3 z3 l3 r' d' t') =
      let names : n ≡ n' = same_name n n' r.program_is r'.program_is in
      let commands : k ≡ k' = same_command k k' r.command_is r'.command_is in
      let texts : r.text ≡ r'.text = one_text (file n) r.text r'.text (told.operand n r.program_is) r.may (subst (λ (y : Bytes). MayBe (file y) r'.text) (sym names) r'.may) in
      let one : o ≡ o' = comes_to_one r.text o o' r.comes (subst (λ (y : Bytes). ComesTo y o') (sym texts) r'.comes) in
      let read' : ReadsData file k o came' = subst (λ (w : TextOutcome). ReadsData file k w came') (sym one) (subst (λ (w : SerialCommand). ReadsData file w o' came') (sym commands) d') in
      let datas : came ≡ came' = same_data k n o came came' r d read' in
      same_told (told_of (counts_asked request) k n o came) (told_of (counts_asked request) k' n' o' came') s2 s3 z2 z3 l2 l3 (rw (commands, names, one, datas) refl) t t'

pub has_one_outcome : (request : Option Request) (file : Bytes → FileTold) → HasOneOutcome request file
has_one_outcome request file told = one_outcome request file told
