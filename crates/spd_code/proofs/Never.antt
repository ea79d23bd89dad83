-- No code that an evaluation gives is want of memory.
use Rattle.std.proofs.Common.{◌≡◌, ◌≢◌, ℕ, List, [], ◌∷◌, ◌++◌, sym, ◌∙◌, ap, subst, arith, ℤ, Result, Ok, Err, true, false, if◌then◌else◌}
use Rattle.std.specs.Prelude.{min, ◌==◌}
use Rattle.std.proofs.lemmas.Grind.{flat_map-append}
use Rattle.spd_words.specs.Gift.{least, no_fault}
use Rattle.spd_words.specs.Total.{nothing, at_line}
use Rattle.spd_words.specs.declared.finish_kind.FinishKind.{FinishKind}
use Rattle.spd_words.specs.declared.finish_kind.FinishKind.TheVariants as kind
use Rattle.spd_words.proofs.Joins.{least-append}
use Rattle.spd_code.specs.declared.stmt.CodeBlock.{CodeBlock}
use Rattle.spd_meaning.specs.Acts.{Acts, Over, code_in, codes_of, passed}
use Rattle.spd_meaning.specs.Eval.{End, Fell, Back, Fault, Eval, Returned, quiet, go_on, cut, cut_end, end_codes, for_finish, async_of, collected, finish_of, call_of, call_end, value_back, returned, offer_back, back_offered}
use Rattle.spd_meaning.specs.Values.{Around}
use Rattle.spd_meaning.specs.Meaning.{collecting}
use Rattle.spd_meaning.proofs.Hearing.{passed_codes}
use Rattle.spd_code.specs.Coded.{Context, CodeRun, eval_block, around_of, calls_of}
use Rattle.spd_code.proofs.Faulting.{OnFault}
use Rattle.spd_code.proofs.Laws.{Law, FaultsLaw, CallsLaw, anything, any_line, any_block, block_law, calls_law}

-- ---- ends

abbrev NoZero : ℕ → Type 0
NoZero code = code ≢ 0

abbrev pub EndsWell : {A : Type 0} → End A → Type 0
EndsWell (Fell vars) = Unit {0}
EndsWell (Back v) = Unit {0}
EndsWell (Fault c) = c ≢ 0

pub record Never (a : Eval ℤ) : Type 0 where
  pub codes : least (codes_of a.given) ≢ 0
  pub end : EndsWell a.end

codes_both : (p q : Acts) → least (codes_of p) ≢ 0 → least (codes_of q) ≢ 0 → least (codes_of (p ++ q)) ≢ 0
codes_both p q h g =
    let e : least (codes_of (p ++ q)) ≡ min (least (codes_of p)) (least (codes_of q)) = ap least (flat_map-append code_in p q)
    ∙ least-append (codes_of p) (codes_of q) in
    λ z. least_two (least (codes_of p)) (least (codes_of q)) h g (sym e ∙ z)
  where
    least_two : (m n : ℕ) → m ≢ 0 → n ≢ 0 → min m n ≢ 0
    least_two m n h g = omega (arith, h, g)

none : least [] ≢ 0
none = omega arith

quiet_never : (e : End ℤ) → EndsWell e → Never (quiet e)
quiet_never e h = record { codes = none; end = h }

go_on_never : (e : End ℤ) (p : Acts) (next : CodeRun) → least (codes_of p) ≢ 0 → EndsWell e → ((vars : List ℤ) → Never (next vars)) → Never (go_on e p next)
go_on_never (Fell vars) p next h w k = record { codes = codes_both p (next vars).given h (k vars).codes; end = (k vars).end }
go_on_never (Back v) p next h w k = record { codes = h; end = tt }
go_on_never (Fault c) p next h w k = record { codes = h; end = w }

cut_never : (n : ℕ) (a : Eval ℤ) → Never a → Never (cut n a)
cut_never n a h = record { codes = h.codes; end = cut_well n a.end h.end }
  where
    cut_well : (n : ℕ) (e : End ℤ) → EndsWell e → EndsWell (cut_end n e)
    cut_well n (Fell vars) h = tt
    cut_well n (Back v) h = tt
    cut_well n (Fault c) h = h

end_never : (e : End ℤ) → EndsWell e → least (codes_of (end_codes e)) ≢ 0
end_never (Fell vars) h = none
end_never (Back v) h = none
end_never (Fault c) h = omega (arith, h)

pub finish_never : (a : Eval ℤ) → Never a → least (codes_of (for_finish a)) ≢ 0
finish_never a h = codes_both a.given (end_codes a.end) h.codes (end_never a.end h.end)

async_never : (vars : List ℤ) (a : Eval ℤ) → Never a → Never (async_of vars a)
async_never vars a h =
    record {
      codes = codes_both a.given (end_codes a.end ++ Over ∷ []) h.codes (codes_both (end_codes a.end) (Over ∷ []) (end_never a.end h.end) none);
      end = tt;
    }

finish_of_never : (k : FinishKind) (line : ℕ) (h : ℤ → List ℤ) (a : Eval ℤ) → Never a → Never (finish_of k line h a)
finish_of_never k line h a n =
    let t = collected k (nothing k) (for_finish a) in
    let z : t.fault ≢ 0 = omega (arith, finish_never a n) in
    record {
      codes = codes_both (passed a.given) (Over ∷ []) (subst (λ (cs : List ℕ). least cs ≢ 0) (sym (passed_codes a.given)) none) none;
      end = elim (t.fault == no_fault) as (λ x. EndsWell (if x then Fell (h t.gift) else Fault (at_line line t.fault))) [ true ↦ tt | false ↦ z ];
    }

pub record ReturnsWell (r : Returned) : Type 0 where
  pub codes : least (codes_of r.given) ≢ 0
  pub value : OnFault NoZero r.value

returned_never : (a : Eval ℤ) → Never a → ReturnsWell (returned a)
returned_never a h = record { codes = h.codes; value = back a.end h.end }
  where
    back : (e : End ℤ) → EndsWell e → OnFault NoZero (value_back e)
    back (Fell vars) h = tt
    back (Back v) h = tt
    back (Fault c) h = h

call_never : (h : ℤ → List ℤ) (r : Returned) → ReturnsWell r → Never (call_of h r)
call_never h r w = record { codes = codes_both r.given (Over ∷ []) w.codes none; end = called_well h r.value w.value }
  where
    called_well : (h : ℤ → List ℤ) (v : Result ℤ ℕ) → OnFault NoZero v → EndsWell (call_end h v)
    called_well h (Ok v) n = tt
    called_well h (Err c) n = n

-- ---- the law

never_law : Law anything any_line NoZero Never ReturnsWell
never_law = record {
  fell = λ vars. quiet_never (Fell vars) tt;
  back = λ value. quiet_never (Back value) tt;
  fault = λ code f. quiet_never (Fault code) f;
  counts = λ a h. record { codes = h.codes; end = h.end };
  goes_on = λ a next h k. go_on_never a.end a.given next h.codes h.end k;
  cuts = λ n a h. cut_never n a h;
  branches = λ test x y q. (any_block x, any_block y);
  loops = λ from to b q. any_block b;
  async = λ b vars a q h. async_never vars a (h (any_block b));
  finish = λ b line f a q h. finish_of_never kind.Plain line f a (h (any_block b));
  let_finish = λ of b line f a q h. finish_of_never (collecting of) line f a (h (any_block b));
  call = λ f r h. call_never f r h;
  returns = λ a h. returned_never a h;
  offer = λ e value vars q. record { codes = none; end = tt };
  print = λ parts text vars q. record { codes = none; end = tt };
}

never_faults : FaultsLaw any_line NoZero
never_faults = record { by_zero = λ line l. omega arith; beyond = λ line l. omega arith; deep = λ line l. omega arith }

pub block_never : (around : Around ℕ) → CallsLaw anything any_line ReturnsWell around.calls → (b : CodeBlock) (vars : List ℤ) → Never (eval_block around b vars)
block_never around h b vars = block_law anything any_line NoZero Never ReturnsWell never_law never_faults around h b (any_block b) vars

pub around_never : (context : Context) (left : ℕ) → CallsLaw anything any_line ReturnsWell (calls_of context left)
around_never context left =
    calls_law anything any_line NoZero Never ReturnsWell never_law never_faults context (λ f. any_block _) (λ t es q. any_block _) left

-- at every depth
pub never : (context : Context) (left : ℕ) (b : CodeBlock) (vars : List ℤ) → least (codes_of (for_finish (eval_block (around_of context left) b vars))) ≢ 0
never context left b vars =
    finish_never (eval_block (around_of context left) b vars) (block_never (around_of context left) (around_never context left) b vars)

-- a job that is a call
pub back_never : (a : Eval ℤ) → Never a → least (codes_of (for_finish (back_offered a))) ≢ 0
back_never a h = codes_both (a.given ++ offer_back (value_back a.end)) (end_codes (call_end {A = ℤ} (λ v. []) (value_back a.end)))
    (codes_both a.given (offer_back (value_back a.end)) h.codes (given_none (value_back a.end))) (back_well a.end h.end)
  where
    given_none : (r : Result ℤ ℕ) → least (codes_of (offer_back r)) ≢ 0
    given_none (Ok v) = none
    given_none (Err c) = none

    back_well : (e : End ℤ) → EndsWell e → least (codes_of (end_codes (call_end {A = ℤ} (λ v. []) (value_back e)))) ≢ 0
    back_well (Fell vars) h = none
    back_well (Back v) h = none
    back_well (Fault c) h = omega (arith, h)
