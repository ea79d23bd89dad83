-- The fault of a call is below the code that stands for none, where the lines are of 32 bits.
use Rattle.std.proofs.Common.{◌≡◌, ◌≢◌, ℕ, ◌+◌, ◌*◌, ◌<◌, ◌≤◌, List, sym, subst, arith, ℤ, Result, Ok, Err, true, false, if◌then◌else◌, Bool, inl, inr}
use Rattle.std.specs.Prelude.{◌⊎◌}
use Rattle.std.proofs.lemmas.Bool.Decides.{eqb_tells}
use Rattle.std.proofs.Math.Dec.{eqb}
use Rattle.std.proofs.lemmas.Bool.{ltb-true}
use Rattle.spd_words.specs.Gift.{no_fault}
use Rattle.spd_words.specs.Total.{Total, nothing, settle, at_line}
use Rattle.spd_words.specs.declared.finish_kind.FinishKind.{FinishKind}
use Rattle.spd_words.specs.declared.finish_kind.FinishKind.TheVariants as kind
use Rattle.spd_meaning.specs.Acts.{Acts}
use Rattle.spd_meaning.specs.Eval.{End, Fell, Back, Fault, Eval, Returned, go_on, cut_end, for_finish, collected, finish_end, finish_of, call_end, value_back}
use Rattle.spd_meaning.specs.Meaning.{collecting}
use Rattle.spd_code.specs.Places.{fitted}
use Rattle.spd_code.specs.Coded.{Context, CodeRun, eval_block, around_of, item_at}
use Rattle.spd_code.specs.Lined.{fits_line, lined_step, lined_block}
use Rattle.spd_code.proofs.Lists.{true_both}
use Rattle.spd_code.proofs.Faulting.{OnFault}
use Rattle.spd_code.proofs.Laws.{Law, FaultsLaw, guarded_block, block_law, calls_law}

-- ---- ends

abbrev IsFaultCode : ℕ → Type 0
IsFaultCode code = code < no_fault

abbrev EndsBelow : {A : Type 0} → End A → Type 0
EndsBelow (Fell vars) = Unit {0}
EndsBelow (Back v) = Unit {0}
EndsBelow (Fault c) = c < no_fault

abbrev Below : Eval ℤ → Type 0
Below a = EndsBelow a.end

go_on_below : (e : End ℤ) (p : Acts) (next : CodeRun) → EndsBelow e → ((vars : List ℤ) → Below (next vars)) → Below (go_on e p next)
go_on_below (Fell vars) p next w k = k vars
go_on_below (Back v) p next w k = tt
go_on_below (Fault c) p next w k = w

cut_below : (n : ℕ) (e : End ℤ) → EndsBelow e → EndsBelow (cut_end n e)
cut_below n (Fell vars) h = tt
cut_below n (Back v) h = tt
cut_below n (Fault c) h = h

-- Whatever a finish collected, its own fault is below.
finish_below : (line : ℕ) (h : ℤ → List ℤ) (t : Total) → t.fault ≤ no_fault → EndsBelow (finish_end line h t)
finish_below line h t l = told (eqb_tells t.fault no_fault)
  where
    told : ((eqb t.fault no_fault ≡ true) × (t.fault ≡ no_fault)) ⊎ ((eqb t.fault no_fault ≡ false) × (t.fault ≢ no_fault)) → EndsBelow (finish_end line h t)
    told (inl e) = subst (λ (x : Bool). EndsBelow (if x then Fell (h t.gift) else Fault (at_line line t.fault))) (sym e.0) tt
    told (inr e) = let n = e.1 in subst (λ (x : Bool). EndsBelow (if x then Fell (h t.gift) else Fault (at_line line t.fault))) (sym e.0) (omega (arith, n))

finish_of_below : (k : FinishKind) (line : ℕ) (h : ℤ → List ℤ) (a : Eval ℤ) → Below (finish_of k line h a)
finish_of_below k line h a = finish_below line h (settle (collected k (nothing k) (for_finish a))) (omega arith)

back_below : (e : End ℤ) → EndsBelow e → OnFault IsFaultCode (value_back e)
back_below (Fell vars) h = tt
back_below (Back v) h = tt
back_below (Fault c) h = h

called_below : (h : ℤ → List ℤ) (v : Result ℤ ℕ) → OnFault IsFaultCode v → EndsBelow (call_end h v)
called_below h (Ok v) n = tt
called_below h (Err c) n = n

fits_so : (line : ℕ) → fits_line line ≡ true → line < 4294967296
fits_so line e = ltb-true line 4294967296 e

abbrev ReturnsBelow : Returned → Type 0
ReturnsBelow r = OnFault IsFaultCode r.value

-- ---- the law

below_law : Law lined_step fits_line IsFaultCode Below ReturnsBelow
below_law = record {
  fell = λ vars. tt;
  back = λ value. tt;
  fault = λ code f. f;
  counts = λ a h. h;
  goes_on = λ a next h k. go_on_below a.end a.given next h k;
  cuts = λ n a h. cut_below n a.end h;
  branches = λ test x y q. true_both _ _ q;
  loops = λ from to b q. q;
  async = λ b vars a q h. tt;
  finish = λ b line f a q h. finish_of_below kind.Plain line f a;
  let_finish = λ of b line f a q h. finish_of_below (collecting of) line f a;
  call = λ f r h. called_below f r.value h;
  returns = λ a h. back_below a.end h;
  offer = λ e value vars q. tt;
  print = λ parts text vars q. tt;
}

line_codes : (line kind : ℕ) → fits_line line ≡ true → kind < 8 → line * 8 + kind < no_fault
line_codes line kind l k = let n = fits_so line l in omega (arith, n, k)

below_faults : FaultsLaw fits_line IsFaultCode
below_faults = record {
  by_zero = λ line l. line_codes line 1 l (omega arith);
  beyond = λ line l. line_codes line 2 l (omega arith);
  deep = λ line l. line_codes line 3 l (omega arith);
}

fits_err : {A : Type 0} (r : Result A ℕ) (c : ℕ) → r ≡ Err c → OnFault IsFaultCode r → c < no_fault
fits_err (Ok v) c e h = absurd (cc)
fits_err (Err d) c e h = let z : d ≡ c = cc in omega (arith, h, z)

-- at every depth
pub function_below : (context : Context) → ((f : ℕ) → lined_block (item_at context.code.functions f).body ≡ true) →
    ((t : ℕ) → lined_block (item_at context.code.tasks t).body ≡ true) →
    (f left : ℕ) (args : List ℤ) (c : ℕ) →
    value_back (eval_block (around_of context left) (item_at context.code.functions f).body (fitted (item_at context.code.functions f).params args)).end
    ≡ Err c → c < no_fault
unfolding lined_block guarded_block
function_below context fs ts f left args c e =
    let i = item_at context.code.functions f in
    let a = eval_block (around_of context left) i.body (fitted i.params args) in
    let calls = calls_law lined_step fits_line IsFaultCode Below ReturnsBelow below_law below_faults context fs (λ t es q. ts t) left in
    fits_err (value_back a.end) c e (back_below a.end
    (block_law lined_step fits_line IsFaultCode Below ReturnsBelow below_law below_faults (around_of context left) calls i.body (fs f) (fitted i.params args)))
