-- What a level gives goes through the finishes inside: the innermost collects it, and each passes on the rest.
use Rattle.std.proofs.Common.{◌≡◌, ℕ, List, [], ◌∷◌, ◌++◌, refl, sym, ◌∙◌, ap, ℤ, Bor}
use Rattle.spd_meaning.proofs.Collecting.{finish_before, collected_passed, Counts, quiet_counts}
use Rattle.spd_meaning.proofs.Hearing.{passed_twice, heard_passed, work_passed}
use Rattle.spd_words.specs.Total.{Total, settle, nothing, begun, total_of}
use Rattle.spd_words.specs.Gift.{no_fault, identity}
use Rattle.spd_meaning.specs.Acts.{Acts, Over, passed, work_of, heard}
use Rattle.spd_meaning.specs.Eval.{Eval, quiet, before, collected, for_finish, end_codes, finish_left, finish_end, End}
use Rattle.spd_code.specs.Coded.{Context, around_of, eval_block}
use Rattle.spd_code.specs.Places.{bind_if}
use Rattle.spd_level.specs.Left.{level_left, level_eval}
use Rattle.spd_machine.specs.Machine.{inside_left, insides_left}
use Rattle.spd_level.proofs.Turns.{codes_cut, entered}
use Rattle.spd_level.proofs.Through.{frames_before}
use Rattle.spd_words.specs.declared.tally.Tally.{Tally}
use Rattle.spd_code.specs.declared.stmt.CodeBlock.{CodeBlock}
use Rattle.spd_level.specs.declared.level.Level.{Level}
use Rattle.spd_level.specs.declared.frame.Frame.TheVariants as frame
use Rattle.spd_level.specs.declared.frame.Flow.TheVariants as flow
use Rattle.spd_machine.specs.declared.machine.Inside.{Inside}

-- What was passed on once is passed on by each finish farther out.
inside_passed : (context : Context) (i : Inside) (p : Acts) (a : Eval ℤ) →
    inside_left context i (before (passed p) a) ≡ before (passed p) (inside_left context i a)
inside_passed context i p a =
    let b = bind_if i.binds i.outer.vars.items in
    ap (level_left context i.outer) (finish_before i.tally.kind (total_of i.tally) i.line b (passed p) a
    ∙ ap (λ (t : Total). before (passed (passed p)) (record { end = finish_end i.line b (settle t); given = passed a.given ++ Over ∷ [] }))
    (collected_passed i.tally.kind (total_of i.tally) p (for_finish a))
    ∙ ap (λ (g : Acts). before g (finish_left i.tally.kind (total_of i.tally) i.line b a)) (passed_twice p))
    ∙ frames_before context i.outer.frames.items (passed p) (finish_left i.tally.kind (total_of i.tally) i.line b a)

pub insides_passed : (context : Context) (is : List Inside) (p : Acts) (a : Eval ℤ) →
    insides_left context is (before (passed p) a) ≡ before (passed p) (insides_left context is a)
insides_passed context [] p a = refl
insides_passed context (i ∷ is) p a = ap (inside_left context i) (insides_passed context is p a) ∙ inside_passed context i p (insides_left context is a)

pub insides-snoc : (context : Context) (is : List Inside) (i : Inside) (a : Eval ℤ) →
    insides_left context (is ++ i ∷ []) a ≡ insides_left context is (inside_left context i a)
insides-snoc context [] i a = refl
insides-snoc context (j ∷ is) i a = ap (inside_left context j) (insides-snoc context is i a)

-- One law for all that a level gives in a finish that runs inside, which stands there with its new total.
pub inside_collects : (context : Context) (is : List Inside) (i j : Inside) (p : Acts) (a : Eval ℤ) →
    j ≡ record i { tally = record i.tally { gift = j.tally.gift; fault = j.tally.fault } } → Counts i.tally.kind p (total_of i.tally) (total_of j.tally) →
    insides_left context (is ++ i ∷ []) (before p a) ≡ before (passed p) (insides_left context (is ++ j ∷ []) a)
inside_collects context is i j p a e h =
    let b = bind_if i.binds i.outer.vars.items in
    let g = record i { tally = record i.tally { gift = j.tally.gift; fault = j.tally.fault } } in
    let step : inside_left context i (before p a) ≡ before (passed p) (inside_left context g a) =
    ap (level_left context i.outer) (finish_before i.tally.kind (total_of i.tally) i.line b p a
    ∙ ap (λ (t : Total). before (passed p) (record { end = finish_end i.line b (settle t); given = passed a.given ++ Over ∷ [] })) (h (for_finish a)))
    ∙ frames_before context i.outer.frames.items (passed p) (finish_left i.tally.kind (total_of j.tally) i.line b a) in
    insides-snoc context is i (before p a)
    ∙ ap (insides_left context is) step
    ∙ insides_passed context is p (inside_left context g a)
    ∙ ap (before (passed p)) (ap (λ (k : Inside). insides_left context is (inside_left context k a)) (sym e) ∙ sym (insides-snoc context is j a))

-- what goes through all finishes inside, where nothing is heard of it
pub record Through (context : Context) (is : List Inside) (p : Acts) (a : Eval ℤ) : Type 0 where
  pub out : Acts
  pub is_so : insides_left context is (before p a) ≡ before out (insides_left context is a)
  pub silent : heard out ≡ []
  pub work : work_of out ≡ work_of p

pub goes_through : (context : Context) (is : List Inside) (p : Acts) (a : Eval ℤ) → heard p ≡ [] → Through context is p a
goes_through context [] p a e = record { out = p; is_so = refl; silent = e; work = refl }
goes_through context (i ∷ is) p a e =
    let t = goes_through context is p a e in
    let x = insides_left context is a in
    let b = bind_if i.binds i.outer.vars.items in
    record {
      out = passed t.out;
      is_so = ap (inside_left context i) t.is_so
          ∙ ap (level_left context i.outer) (finish_before i.tally.kind (total_of i.tally) i.line b t.out x
          ∙ ap (λ (t2 : Total). before (passed t.out) (record { end = finish_end i.line b (settle t2); given = passed x.given ++ Over ∷ [] }))
          (quiet_counts i.tally.kind t.out (total_of i.tally) t.silent (for_finish x)))
          ∙ frames_before context i.outer.frames.items (passed t.out) (finish_left i.tally.kind (total_of i.tally) i.line b x);
      silent = heard_passed t.out ∙ ap (λ (g : Acts). heard (passed g)) t.silent;
      work = work_passed t.out ∙ t.work;
    }

-- ---- a finish inside, from its begin to its end

-- a finish that has begun, and whose block runs in a level of its own over the same values
pub finish_goes_in : (context : Context) (l n : Level) (i : Inside) (body : Bor CodeBlock) (left : ℕ) → i.outer ≡ l → i.tally ≡ begun i.tally.kind →
    n.flow ≡ flow.Fell → n.vars.items ≡ l.vars.items → n.frames.items ≡ frame.Block body 0 0 left ∷ [] →
    level_left context l (finish_left i.tally.kind (nothing i.tally.kind) i.line (bind_if i.binds l.vars.items)
    (eval_block (around_of context left) body.now l.vars.items)) ≡ inside_left context i (level_eval context n)
finish_goes_in context l n i body left o g f vs fs =
    let k = i.tally.kind in
    let a = eval_block (around_of context left) body.now l.vars.items in
    let h = bind_if i.binds l.vars.items in
    let t : i.tally.gift ≡ identity k = ap (λ (t : Tally). t.gift) g in
    let u : i.tally.fault ≡ no_fault = ap (λ (t : Tally). t.fault) g in
    rw (o, t, u, f, vs, fs)
    (ap (λ (cs : Acts). level_left context l
    (record { end = finish_end i.line h (settle (collected k (nothing k) (a.given ++ cs))); given = passed a.given ++ Over ∷ [] }))
    (sym (codes_cut 0 a.end))
    ∙ ap (λ (x : Eval ℤ). level_left context l (finish_left k (nothing k) i.line h x)) (entered context left body 0 l.vars.items))

pub finish_ends : (context : Context) (i : Inside) (e : End ℤ) →
    inside_left context i (quiet e) ≡ before (Over ∷ []) (level_left context i.outer
    (quiet (finish_end i.line (bind_if i.binds i.outer.vars.items) (settle (collected i.tally.kind (total_of i.tally) (end_codes e))))))
finish_ends context i e = frames_before context i.outer.frames.items (Over ∷ [])
    (quiet (finish_end i.line (bind_if i.binds i.outer.vars.items) (settle (collected i.tally.kind (total_of i.tally) (end_codes e)))))
