-- What a function gives says nothing to a finish around it, so a job that is a call has the value that came back.
use Rattle.std.proofs.Common.{◌≡◌, ℕ, List, [], ◌∷◌, ◌++◌, refl, ◌∙◌, ap, arith, append_assoc, ℤ, true}
use Rattle.std.specs.Prelude.{min, pos}
use Rattle.std.specs.Int.{w64, int_wrap}
use Rattle.std.proofs.lemmas.Int.{ints, int_wrap-add_right}
use Rattle.std.proofs.lemmas.Grind.{flat_map-append}
use Rattle.spd_words.specs.Gift.{no_fault}
use Rattle.spd_words.specs.Total.{nothing, collect, settle}
use Rattle.spd_words.specs.declared.finish_kind.FinishKind.{FinishKind}
use Rattle.spd_words.specs.declared.finish_kind.FinishKind.TheVariants as kind
use Rattle.spd_words.proofs.Joins.{identity_join}
use Rattle.spd_code.specs.declared.stmt.CodeBlock.{CodeBlock}
use Rattle.spd_meaning.specs.Acts.{Acts, Over, Tick, passed, offers_of, codes_of, lines_of, offer_in, code_in, line_in}
use Rattle.spd_meaning.specs.Eval.{End, Fell, Back, Fault, Eval, Returned, go_on, end_codes, finish_of, collected, call_of, call_end, value_back, offer_back, back_offered, job_total}
use Rattle.spd_meaning.specs.Values.{Around}
use Rattle.spd_meaning.specs.Meaning.{collecting}
use Rattle.spd_meaning.specs.Jobs.{total_back}
use Rattle.spd_meaning.proofs.Hearing.{passed_offers, passed_codes, passed_lines}
use Rattle.spd_code.specs.Coded.{Context, CodeRun, eval_block, calls_of, item_at}
use Rattle.spd_code.specs.Silent.{silent_step, silent_block}
use Rattle.spd_code.proofs.Lists.{true_both}
use Rattle.spd_code.proofs.Laws.{Law, CallsLaw, guarded_block, any_line, block_law, calls_law, AnyCode, any_faults}

pub record Silent (given : Acts) : Type 0 where
  pub offers : offers_of given ≡ []
  pub codes : codes_of given ≡ []
  pub lines : lines_of given ≡ []

none : Silent []
none = record { offers = refl; codes = refl; lines = refl }

both : (p q : Acts) → Silent p → Silent q → Silent (p ++ q)
both p q h g = record {
  offers = flat_map-append offer_in p q ∙ ap (λ (xs : List ℤ). xs ++ offers_of q) h.offers ∙ g.offers;
  codes = flat_map-append code_in p q ∙ ap (λ (xs : List ℕ). xs ++ codes_of q) h.codes ∙ g.codes;
  lines = flat_map-append line_in p q ∙ ap (λ (xs : List (List ℕ)). xs ++ lines_of q) h.lines ∙ g.lines;
}

over : Silent (Over ∷ [])
over = record { offers = refl; codes = refl; lines = refl }

go_on_silent : (e : End ℤ) (p : Acts) (next : CodeRun) → Silent p → ((vars : List ℤ) → Silent (next vars).given) → Silent (go_on e p next).given
go_on_silent (Fell vars) p next h k = both p (next vars).given h (k vars)
go_on_silent (Back v) p next h k = h
go_on_silent (Fault c) p next h k = h

tick_silent : (g : Acts) → Silent g → Silent (Tick ∷ g)
tick_silent g h = record { offers = h.offers; codes = h.codes; lines = h.lines }

finish_silent : (kind : FinishKind) (line : ℕ) (b : ℤ → List ℤ) (a : Eval ℤ) → Silent (finish_of kind line b a).given
finish_silent kind line b a =
    let h = both (passed a.given) (Over ∷ []) (record { offers = passed_offers a.given; codes = passed_codes a.given; lines = passed_lines a.given }) over in
    record { offers = h.offers; codes = h.codes; lines = h.lines }

call_silent : (b : ℤ → List ℤ) (r : Returned) → Silent r.given → Silent (call_of b r).given
call_silent b r h = let g = both r.given (Over ∷ []) h over in record { offers = g.offers; codes = g.codes; lines = g.lines }

abbrev SilentEval : Eval ℤ → Type 0
SilentEval a = Silent a.given

abbrev SilentReturned : Returned → Type 0
SilentReturned r = Silent r.given

silent_law : Law silent_step any_line AnyCode SilentEval SilentReturned
silent_law = record {
  fell = λ vars. none;
  back = λ value. none;
  fault = λ code f. none;
  counts = λ a h. tick_silent a.given h;
  goes_on = λ a next h k. go_on_silent a.end a.given next h k;
  cuts = λ n a h. h;
  branches = λ test x y q. true_both _ _ q;
  loops = λ from to b q. q;
  async = λ b vars a q h. absurd (cc);
  finish = λ b line f a q h. finish_silent kind.Plain line f a;
  let_finish = λ of b line f a q h. finish_silent (collecting of) line f a;
  call = λ f r h. call_silent f r h;
  returns = λ a h. h;
  offer = λ e value vars q. absurd (cc);
  print = λ parts text vars q. absurd (cc);
}

pub block_silent : (around : Around ℕ) → ((f : ℕ) (args : List ℤ) (line : ℕ) → Silent (around.calls.function f args line).given) → (b : CodeBlock) →
    silent_block b ≡ true →
    (vars : List ℤ) → Silent (eval_block around b vars).given
unfolding silent_block guarded_block
block_silent around h b q vars =
    let calls : CallsLaw silent_step any_line SilentReturned around.calls =
    record { function = λ f args line l. h f args line; task = λ t es args line z l. absurd (cc) } in
    block_law silent_step any_line AnyCode SilentEval SilentReturned silent_law any_faults around calls b q vars

-- A function says nothing, whose block and all other functions' do not.
pub functions_silent : (context : Context) → ((f : ℕ) → silent_block (item_at context.code.functions f).body ≡ true) → (left f : ℕ) (args : List ℤ) (line : ℕ) →
    Silent ((calls_of context left).function f args line).given
unfolding silent_block guarded_block
functions_silent context s left f args line =
    (calls_law silent_step any_line AnyCode SilentEval SilentReturned silent_law any_faults context s (λ t es q. absurd (cc)) left).function f args line refl

-- The job that is a call has what main binds bind_if the call.
collected_behind : (g x : Acts) → Silent g → collected kind.Sum (nothing kind.Sum) (g ++ x) ≡ collected kind.Sum (nothing kind.Sum) x
collected_behind g x h =
    ap (λ os. collect kind.Sum (nothing kind.Sum) os (codes_of (g ++ x))) (flat_map-append offer_in g x ∙ ap (λ (xs : List ℤ). xs ++ offers_of x) h.offers)
    ∙ ap (λ cs. collect kind.Sum (nothing kind.Sum) (offers_of x) cs) (flat_map-append code_in g x ∙ ap (λ (xs : List ℕ). xs ++ codes_of x) h.codes)

back_total : (e : End ℤ) → collected kind.Sum (nothing kind.Sum) (offer_back (value_back e) ++ end_codes (call_end {A = ℤ} (λ v. []) (value_back e)))
    ≡ total_back (value_back e)
back_total (Fell vars) = ap (λ (n : ℤ). record { gift = n; fault = no_fault }) (identity_join kind.Sum)
back_total (Back v) = ap (λ (n : ℤ). record { gift = n; fault = no_fault }) (int_wrap-add_right w64 (pos 0) v ∙ ap (int_wrap w64) (omega (arith, ints)))
back_total (Fault c) = let l : min no_fault (min c no_fault) ≡ min c no_fault = omega arith in ap (λ (n : ℕ). record { gift = pos 0; fault = n }) l

pub call_total : (a : Eval ℤ) → Silent a.given → job_total kind.Sum (back_offered a) ≡ settle (total_back (value_back a.end))
call_total a h =
    let x = offer_back (value_back a.end) in
    let y = end_codes (call_end {A = ℤ} (λ v. []) (value_back a.end)) in
    ap (λ (g : Acts). settle (collected kind.Sum (nothing kind.Sum) g)) (append_assoc a.given x y)
    ∙ ap settle (collected_behind a.given (x ++ y) h ∙ back_total a.end)
