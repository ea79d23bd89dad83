-- What a program means is what its code means.
use Rattle.std.proofs.Common.{◌≡◌, ℕ, zero, suc, List, [], ◌∷◌, ◌++◌, length, take, refl, sym, ◌∙◌, ap, subst, ℤ, true, false, if◌then◌else◌}
use Rattle.std.specs.Prelude.{◌==◌, Result, Ok, Err}
use Rattle.spd_words.specs.declared.finish_kind.FinishKind.{FinishKind}
use Rattle.spd_words.specs.Total.{Total, at_line, nothing, settle}
use Rattle.spd_words.specs.Gift.{no_fault}
use Rattle.spd_meaning.specs.Names.{Names, Entry, Env}
use Rattle.spd_meaning.specs.Acts.{Acts, Async, Call, Finish, Begin, Over, Tick, passed}
use Rattle.spd_meaning.specs.Eval.{End, Fell, Back, Fault, Eval, Returned, quiet, before, go_on, then_do, counted, cut, cut_end, turns, end_codes, with_value, with_values, with_line, async_of, finish_of, finish_end, for_finish, collected, returned, value_back, call_of, call_end}
use Rattle.spd_code.specs.Alike.{names_of, values_of, valued_end, valued, EndsWith, Alike}
use Rattle.spd_code.proofs.Places.{taken, taken_names, as_many, cut_back}

-- ---- sequence

alike_fell : (env : Env) → Alike (names_of env) (quiet (Fell env)) (quiet (Fell (values_of env)))
alike_fell env = record { same = refl; behind = refl }

alike_go_on : (names more : Names) (e : End Entry) (p : Acts) (f : Env → Eval Entry) (g : List ℤ → Eval ℤ) → EndsWith names e →
    ((env : Env) → names_of env ≡ names → Alike more (f env) (g (values_of env))) → Alike more (go_on e p f) (go_on (valued_end e) p g)
alike_go_on names more (Fell env) p f g s h = let k = h env s in record { same = ap (before p) k.same; behind = k.behind }
alike_go_on names more (Back v) p f g s h = record { same = refl; behind = tt }
alike_go_on names more (Fault c) p f g s h = record { same = refl; behind = tt }

pub alike_then : (names more : Names) (a : Eval Entry) (b : Eval ℤ) (f : Env → Eval Entry) (g : List ℤ → Eval ℤ) → Alike names a b →
    ((env : Env) → names_of env ≡ names → Alike more (f env) (g (values_of env))) → Alike more (then_do a f) (then_do b g)
alike_then names more a b f g h k =
    subst (λ (x : Eval ℤ). Alike more (then_do a f) (then_do x g)) (sym h.same) (alike_go_on names more a.end a.given f g h.behind k)

pub alike_before : (names : Names) (p : Acts) (a : Eval Entry) (b : Eval ℤ) → Alike names a b → Alike names (before p a) (before p b)
alike_before names p a b h = record { same = ap (before p) h.same; behind = h.behind }

-- ---- ends of blocks, and loops

cut_ends_with : (n : ℕ) (names all : Names) (e : End Entry) → take n all ≡ names → EndsWith all e → EndsWith names (cut_end n e)
cut_ends_with n names all (Fell env) t s = taken_names n env ∙ ap (take n) s ∙ t
cut_ends_with n names all (Back v) t s = tt
cut_ends_with n names all (Fault c) t s = tt

cut_valued : (n : ℕ) (e : End Entry) → cut_end n (valued_end e) ≡ valued_end (cut_end n e)
cut_valued n (Fell env) = ap Fell (sym (taken n env))
cut_valued n (Back v) = refl
cut_valued n (Fault c) = refl

pub alike_cut : (env : Env) (more : Names) (a : Eval Entry) (b : Eval ℤ) → Alike (names_of env ++ more) a b →
    Alike (names_of env) (cut (length env) a) (cut (length (values_of env)) b)
alike_cut env more a b h = record {
  same = ap (λ n. cut n b) (as_many env) ∙ ap (cut (length env)) h.same
      ∙ ap (λ (e : End ℤ). record { end = e; given = a.given }) (cut_valued (length env) a.end);
  behind = cut_ends_with (length env) (names_of env) (names_of env ++ more) a.end (cut_back env more) h.behind;
}

pub alike_turns : (names more : Names) (n : ℕ) (at : ℤ) (f : ℤ → Env → Eval Entry) (g : ℤ → List ℤ → Eval ℤ) →
    ((at : ℤ) (env : Env) → names_of env ≡ names → Alike (names_of env ++ more) (f at env) (g at (values_of env))) →
    (env : Env) → names_of env ≡ names → Alike names (turns n at f env) (turns n at g (values_of env))
alike_turns names more zero at f g h env e = rw (← e) (alike_fell env)
alike_turns names more (suc n) at f g h env e =
    alike_then (names_of env) names (counted (cut (length env) (f at env))) _ (turns n _ f) (turns n _ g)
    (alike_before (names_of env) (Tick ∷ []) _ _ (alike_cut env more (f at env) (g at (values_of env)) (h at env e)))
    (λ next q. alike_turns names more n _ f g h next (q ∙ e))

-- ---- asyncs, finishes and calls

codes_valued : (e : End Entry) → end_codes (valued_end e) ≡ end_codes e
codes_valued (Fell env) = refl
codes_valued (Back v) = refl
codes_valued (Fault c) = refl

pub alike_async : (names : Names) (env : Env) (a : Eval Entry) (b : Eval ℤ) → Alike names a b →
    Alike (names_of env) (async_of env a) (async_of (values_of env) b)
alike_async names env a b h = record {
  same = ap (async_of (values_of env)) h.same
      ∙ ap (λ (cs : Acts). record { end = Fell (values_of env); given = Begin Async ∷ (a.given ++ (cs ++ Over ∷ [])) }) (codes_valued a.end);
  behind = refl;
}

end_valued : (line : ℕ) (f : ℤ → Env) (g : ℤ → List ℤ) (total : Total) → ((v : ℤ) → values_of (f v) ≡ g v) →
    finish_end line g total ≡ valued_end (finish_end line f total)
end_valued line f g total h = elim (total.fault == no_fault) as (λ t. (if t then Fell (g total.gift) else Fault (at_line line total.fault))
    ≡ valued_end (if t then Fell (f total.gift) else Fault (at_line line total.fault)))
    [ true ↦ ap Fell (sym (h total.gift)) | false ↦ refl ]

end_ends_with : (names : Names) (line : ℕ) (f : ℤ → Env) (total : Total) → ((v : ℤ) → names_of (f v) ≡ names) → EndsWith names (finish_end line f total)
end_ends_with names line f total h = elim (total.fault == no_fault)
    as (λ t. EndsWith names (if t then Fell (f total.gift) else Fault (at_line line total.fault)))
    [ true ↦ h total.gift | false ↦ tt ]

pub alike_finish : (names : Names) (kind : FinishKind) (line : ℕ) (f : ℤ → Env) (g : ℤ → List ℤ) (a : Eval Entry) (b : Eval ℤ) →
    ((v : ℤ) → names_of (f v) ≡ names) → ((v : ℤ) → values_of (f v) ≡ g v) → b ≡ valued a → Alike names (finish_of kind line f a) (finish_of kind line g b)
alike_finish names kind line f g a b n v e = record {
  same = ap (finish_of kind line g) e
      ∙ ap (λ (cs : Acts). before (Begin Finish ∷ []) (record {
        end = finish_end line g (settle (collected kind (nothing kind) (a.given ++ cs)));
        given = passed a.given ++ Over ∷ [];
      })) (codes_valued a.end)
      ∙ ap (λ (z : End ℤ). before (Begin Finish ∷ []) (record { end = z; given = passed a.given ++ Over ∷ [] }))
      (end_valued line f g (settle (collected kind (nothing kind) (for_finish a))) v);
  behind = end_ends_with names line f (settle (collected kind (nothing kind) (for_finish a))) n;
}

call_valued : (f : ℤ → Env) (g : ℤ → List ℤ) (r : Result ℤ ℕ) → ((v : ℤ) → values_of (f v) ≡ g v) → call_end g r ≡ valued_end (call_end f r)
call_valued f g (Ok v) h = ap Fell (sym (h v))
call_valued f g (Err c) h = refl

call_ends_with : (names : Names) (f : ℤ → Env) (r : Result ℤ ℕ) → ((v : ℤ) → names_of (f v) ≡ names) → EndsWith names (call_end f r)
call_ends_with names f (Ok v) h = h v
call_ends_with names f (Err c) h = tt

pub alike_call : (names : Names) (f : ℤ → Env) (g : ℤ → List ℤ) (r : Returned) → ((v : ℤ) → names_of (f v) ≡ names) → ((v : ℤ) → values_of (f v) ≡ g v) →
    Alike names (call_of f r) (call_of g r)
alike_call names f g r n v = record {
  same = ap (λ (z : End ℤ). before (Begin Call ∷ []) (record { end = z; given = r.given ++ Over ∷ [] })) (call_valued f g r.value v);
  behind = call_ends_with names f r.value n;
}

back_valued : (e : End Entry) → value_back (valued_end e) ≡ value_back e
back_valued (Fell env) = refl
back_valued (Back v) = refl
back_valued (Fault c) = refl

pub alike_returned : (a : Eval Entry) (b : Eval ℤ) → b ≡ valued a → returned b ≡ returned a
alike_returned a b e = ap returned e ∙ ap (λ (r : Result ℤ ℕ). record { value = r; given = a.given }) (back_valued a.end)

-- ---- values

pub alike_value : (names : Names) (r : Result ℤ ℕ) (f : ℤ → Eval Entry) (g : ℤ → Eval ℤ) → ((v : ℤ) → Alike names (f v) (g v)) →
    Alike names (with_value r f) (with_value r g)
alike_value names (Ok v) f g h = h v
alike_value names (Err c) f g h = record { same = refl; behind = tt }

pub alike_values : (names : Names) (r : Result (List ℤ) ℕ) (f : List ℤ → Eval Entry) (g : List ℤ → Eval ℤ) → ((vs : List ℤ) → Alike names (f vs) (g vs)) →
    Alike names (with_values r f) (with_values r g)
alike_values names (Ok vs) f g h = h vs
alike_values names (Err c) f g h = record { same = refl; behind = tt }

pub alike_text : (names : Names) (r : Result (List ℕ) ℕ) (f : List ℕ → Eval Entry) (g : List ℕ → Eval ℤ) → ((t : List ℕ) → Alike names (f t) (g t)) →
    Alike names (with_line r f) (with_line r g)
alike_text names (Ok t) f g h = h t
alike_text names (Err c) f g h = record { same = refl; behind = tt }
