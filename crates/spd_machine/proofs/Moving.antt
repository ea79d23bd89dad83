-- The turns of a machine: what a level's turn is to the finishes that run inside.
use Rattle.std.proofs.Common.{◌≡◌, ℕ, suc, ◌+◌, ◌*◌, ◌<◌, ◌≤◌, ◌-◌, List, [], ◌∷◌, ◌++◌, length, refl, sym, ◌∙◌, ap, subst, arith, ℤ, Bor}
use Rattle.std.specs.Prelude.{slice_index_or, slice_set, min}
use Rattle.spd_words.specs.Gift.{join}
use Rattle.spd_words.specs.Total.{settle, total_of, begun, nothing}
use Rattle.spd_meaning.specs.Acts.{Acts, Piece, Call, Begin, Over, work_of, heard, passed}
use Rattle.spd_meaning.specs.Eval.{Eval, quiet, before, collected, end_codes, finish_end, finish_left}
use Rattle.spd_code.specs.Coded.{Context, around_of, eval_block}
use Rattle.spd_code.specs.Places.{bind_if}
use Rattle.spd_level.specs.Left.{level_left, level_eval, level_now, flow_end}
use Rattle.spd_level.specs.Turn.{says, behind_step, StepPays, LevelTurn}
use Rattle.spd_machine.specs.Machine.{insides_frames, machine_frames, hears, MetStands, MetPays, insides_left, inside_left, machine_left, machine_eval, behind_met, MachineTurn}
use Rattle.spd_meaning.proofs.Sequence.{before_both}
use Rattle.spd_level.proofs.Through.{frames_before}
use Rattle.spd_meaning.proofs.Collecting.{Counts, offer_counts, code_counts}
use Rattle.spd_meaning.proofs.Hearing.{heard_said, heard_passed, heard_both, work_passed, work_both}
use Rattle.spd_machine.proofs.Insides.{inside_collects, insides_passed, insides-snoc, goes_through, finish_goes_in, finish_ends}
use Rattle.spd_code.specs.declared.stmt.CodeBlock.{CodeBlock}
use Rattle.spd_level.specs.declared.step.Step.{Step}
use Rattle.spd_level.specs.declared.step.Step.TheVariants as step
use Rattle.spd_machine.specs.declared.machine.Met.{Met}
use Rattle.spd_machine.specs.declared.machine.Met.TheVariants as met
use Rattle.spd_level.specs.declared.frame.Flow.TheVariants as flow
use Rattle.spd_level.specs.declared.frame.Frame.TheVariants as frame
use Rattle.spd_level.specs.declared.level.Level.{Level}
use Rattle.spd_machine.specs.declared.machine.Inside.{Inside}
use Rattle.spd_machine.specs.declared.machine.Machine.{Machine}

-- ---- a list that isn't empty, by its last

pub record ByLast {A : Type 0} (xs : List A) (d : A) : Type 0 where
  pub rest : List A
  pub is_so : xs ≡ rest ++ slice_index_or xs (length xs - 1) d ∷ []
  pub set : (y : A) → slice_set xs (length xs - 1) y ≡ rest ++ y ∷ []

pub by_last : {A : Type 0} (xs : List A) (d : A) → 0 < length xs → ByLast xs d
by_last [] d h = absurd (omega arith)
by_last (x ∷ []) d h = record { rest = []; is_so = refl; set = λ y. refl }
by_last (x ∷ (y ∷ ys)) d h =
    let t = by_last (y ∷ ys) d (omega arith) in
    let n : length (x ∷ (y ∷ ys)) - 1 ≡ suc (length (y ∷ ys) - 1) = omega arith in
    record {
      rest = x ∷ t.rest;
      is_so = rw n (ap (λ r. x ∷ r) t.is_so);
      set = λ z. rw n (ap (λ r. x ∷ r) (t.set z));
    }

pub none_in : {A : Type 0} (xs : List A) → length xs ≡ 0 → xs ≡ []
none_in [] h = refl
none_in (x ∷ xs) h = absurd (omega arith)

pub insides_weight-snoc : (is : List Inside) (i : Inside) → insides_frames (is ++ i ∷ []) ≡ insides_frames is + (length i.outer.frames.items + 1)
insides_weight-snoc [] i = omega arith
insides_weight-snoc (j ∷ is) i = let h = insides_weight-snoc is i in omega arith

-- beginnings and ends are no work
pub no_work : (b : Piece) → work_of (Begin b ∷ []) ≡ 0
unfolding work_of
no_work b = refl

pub called_work : work_of (Begin Call ∷ Over ∷ []) ≡ 0
unfolding work_of
called_work = refl

module _ (context : Context) where
  -- what is heard of a level's turn
  turn_heard : (a : Eval ℤ) (n : ℕ) (l : Level) (s : Step) → (h : LevelTurn context a n l s) → heard h.given ≡ heard (says s)
  turn_heard a n l s h = sym (heard_said h.given) ∙ ap heard h.said

  -- a step of which nothing is heard: it goes through all finishes inside
  pub handed : (m n : Machine) (s : Step) (t : Met) → n.inside.items ≡ m.inside.items →
      LevelTurn context (level_eval context m.level) (length m.level.frames.items) n.level s → heard (says s) ≡ [] →
      behind_met context t n ≡ insides_left context n.inside.items (behind_step context s n.level) → hears t ≡ [] → MetStands t n →
      ((w : ℕ) → StepPays context s w (length m.level.frames.items) n.level → MetPays t w (machine_frames m) (machine_frames n)) →
      MachineTurn context (machine_eval context m) (machine_frames m) n t
  handed m n s t e h q b r st f =
      let g = goes_through context m.inside.items h.given (behind_step context s n.level) (turn_heard _ _ _ _ h ∙ q) in
      record {
        given = g.out;
        is = ap (insides_left context m.inside.items) h.is ∙ g.is_so
            ∙ ap (before g.out) (ap (λ (is : List Inside). insides_left context is (behind_step context s n.level)) (sym e) ∙ sym b);
        said = g.silent ∙ sym r;
        stands = st;
        falls = subst (λ (w : ℕ). MetPays t w (machine_frames m) (machine_frames n)) (sym g.work) (f (work_of h.given) h.goes_on);
      }

  -- a step where no finish runs inside
  pub told_out : (m n : Machine) (s : Step) (t : Met) → m.inside.items ≡ [] → n.inside.items ≡ [] →
      LevelTurn context (level_eval context m.level) (length m.level.frames.items) n.level s → heard (says s) ≡ hears t →
      behind_met context t n ≡ insides_left context n.inside.items (behind_step context s n.level) → MetStands t n →
      ((w : ℕ) → StepPays context s w (length m.level.frames.items) n.level → MetPays t w (machine_frames m) (machine_frames n)) →
      MachineTurn context (machine_eval context m) (machine_frames m) n t
  told_out m n s t e d h q b st f =
      record {
        given = h.given;
        is = ap (λ (is : List Inside). insides_left context is (level_eval context m.level)) e ∙ h.is
            ∙ ap (before h.given) (ap (λ (is : List Inside). insides_left context is (behind_step context s n.level)) (sym d) ∙ sym b);
        said = turn_heard _ _ _ _ h ∙ q;
        stands = st;
        falls = f (work_of h.given) h.goes_on;
      }

  -- what the innermost finish inside hears
  pub told_in : (m n : Machine) (s : Step) (is : List Inside) (i j : Inside) → m.inside.items ≡ is ++ i ∷ [] → n.inside.items ≡ is ++ j ∷ [] →
      LevelTurn context (level_eval context m.level) (length m.level.frames.items) n.level s →
      heard (passed (heard (says s))) ≡ [] → j ≡ record i { tally = record i.tally { gift = j.tally.gift; fault = j.tally.fault } } →
      ((p : Acts) → heard p ≡ heard (says s) → Counts i.tally.kind p (total_of i.tally) (total_of j.tally)) →
      behind_step context s n.level ≡ level_eval context n.level →
      ((w : ℕ) → StepPays context s w (length m.level.frames.items) n.level → length n.level.frames.items < 4 * w + length m.level.frames.items) →
      MachineTurn context (machine_eval context m) (machine_frames m) n met.Quiet
  told_in m n s is i j e d h q k c b f =
      let x = behind_step context s n.level in
      let hs = turn_heard _ _ _ _ h in
      let o : length j.outer.frames.items ≡ length i.outer.frames.items = ap (λ (z : Inside). length z.outer.frames.items) k in
      let wm : insides_frames m.inside.items ≡ insides_frames is + (length i.outer.frames.items + 1) = ap insides_frames e ∙ insides_weight-snoc is i in
      let wn : insides_frames n.inside.items ≡ insides_frames is + (length j.outer.frames.items + 1) = ap insides_frames d ∙ insides_weight-snoc is j in
      let g = f (work_of h.given) h.goes_on in
      let wp = work_passed h.given in
      record {
        given = passed h.given;
        is = ap (insides_left context m.inside.items) h.is ∙ ap (λ (zs : List Inside). insides_left context zs (before h.given x)) e
            ∙ inside_collects context is i j h.given x k (c h.given hs)
            ∙ ap (before (passed h.given)) (ap (λ (zs : List Inside). insides_left context zs x) (sym d) ∙ ap (insides_left context n.inside.items) b);
        said = heard_passed h.given ∙ ap (λ (z : Acts). heard (passed z)) hs ∙ q;
        stands = tt;
        falls = omega arith;
      }

  pub offer_in : (m n : Machine) (is : List Inside) (i j : Inside) (x : ℤ) → m.inside.items ≡ is ++ i ∷ [] → n.inside.items ≡ is ++ j ∷ [] →
      j ≡ record i { tally = record i.tally { gift = join i.tally.kind i.tally.gift x } } →
      LevelTurn context (level_eval context m.level) (length m.level.frames.items) n.level (step.Offer x) →
      MachineTurn context (machine_eval context m) (machine_frames m) n met.Quiet
  offer_in m n is i j x e d k h =
      told_in m n (step.Offer x) is i (record i { tally = record i.tally { gift = join i.tally.kind i.tally.gift x } }) e
      (d ∙ ap (λ (z : Inside). is ++ z ∷ []) k) h refl refl (λ p y. offer_counts i.tally.kind p (total_of i.tally) x y) refl (λ w g. g)

  pub fault_in : (m n : Machine) (is : List Inside) (i j : Inside) (c : ℕ) → m.inside.items ≡ is ++ i ∷ [] → n.inside.items ≡ is ++ j ∷ [] →
      j ≡ record i { tally = record i.tally { fault = min i.tally.fault c } } →
      LevelTurn context (level_eval context m.level) (length m.level.frames.items) n.level (step.Fault c) →
      MachineTurn context (machine_eval context m) (machine_frames m) n met.Quiet
  fault_in m n is i j c e d k h =
      told_in m n (step.Fault c) is i (record i { tally = record i.tally { fault = min i.tally.fault c } }) e (d ∙ ap (λ (z : Inside). is ++ z ∷ []) k)
      h refl refl (λ p y. code_counts i.tally.kind p (total_of i.tally) c y) refl (λ w g. g)

  -- a part that was met goes in where it stands, or ended there
  pub went_in : (m n : Machine) (l : Level) (s : Step) (t : Met) (q : Acts) → n.inside.items ≡ m.inside.items →
      LevelTurn context (level_eval context m.level) (length m.level.frames.items) l s → heard (says s) ≡ [] →
      behind_step context s l ≡ before q (level_eval context n.level) → passed q ≡ q → work_of q ≡ 0 → behind_met context t n ≡ machine_eval context n →
      heard q ≡ hears t → MetStands t n →
      ((w : ℕ) → StepPays context s w (length m.level.frames.items) l → MetPays t w (machine_frames m) (machine_frames n)) →
      MachineTurn context (machine_eval context m) (machine_frames m) n t
  went_in m n l s t q e h z p pq wq mb r st f =
      let g = goes_through context m.inside.items h.given (behind_step context s l) (turn_heard _ _ _ _ h ∙ z) in
      let wb : work_of (g.out ++ q) ≡ work_of h.given = work_both g.out q ∙ (let k = g.work in omega arith) in
      let is_in : insides_left context m.inside.items (behind_step context s l) ≡ before q (machine_eval context n) =
      ap (insides_left context m.inside.items) (p ∙ ap (λ (y : Acts). before y (level_eval context n.level)) (sym pq))
      ∙ insides_passed context m.inside.items q (level_eval context n.level)
      ∙ ap (λ (is : List Inside). before (passed q) (insides_left context is (level_eval context n.level))) (sym e)
      ∙ ap (λ (y : Acts). before y (machine_eval context n)) pq in
      record {
        given = g.out ++ q;
        is = ap (insides_left context m.inside.items) h.is ∙ g.is_so ∙ ap (before g.out) is_in ∙ before_both g.out q (machine_eval context n)
            ∙ ap (before (g.out ++ q)) (sym mb);
        said = heard_both g.out q ∙ ap (λ (y : Acts). y ++ heard q) g.silent ∙ r;
        stands = st;
        falls = subst (λ (w : ℕ). MetPays t w (machine_frames m) (machine_frames n)) (sym wb) (f (work_of h.given) h.goes_on);
      }

  -- the end of a finish inside
  pub closed : (m n : Machine) (l : Level) (i : Inside) → m.inside.items ≡ n.inside.items ++ i ∷ [] →
      LevelTurn context (level_eval context m.level) (length m.level.frames.items) l step.Over → n.level.frames.items ≡ i.outer.frames.items →
      level_now n.level ≡ quiet (finish_end i.line (bind_if i.binds i.outer.vars.items)
      (settle (collected i.tally.kind (total_of i.tally) (end_codes (flow_end l.flow l.vars.items))))) →
      MachineTurn context (machine_eval context m) (machine_frames m) n met.Quiet
  unfolding work_of
  closed m n l i e h fs now =
      let is = n.inside.items in
      let g = goes_through context (is ++ i ∷ []) h.given (level_now l) (turn_heard _ _ _ _ h) in
      let o = goes_through context is (Over ∷ []) (level_eval context n.level) refl in
      let wm : insides_frames m.inside.items ≡ insides_frames is + (length i.outer.frames.items + 1) = ap insides_frames e ∙ insides_weight-snoc is i in
      let wf : length n.level.frames.items ≡ length i.outer.frames.items = ap length fs in
      let wg = g.work in
      let wo = o.work in
      let wb = work_both g.out o.out in
      let ends : level_eval context l ≡ level_now l = rw h.goes_on refl in
      let inner : inside_left context i (level_now l) ≡ before (Over ∷ []) (level_eval context n.level) =
      finish_ends context i (flow_end l.flow l.vars.items) ∙ ap (λ (x : Eval ℤ). before (Over ∷ []) (level_left context i.outer x)) (sym now) ∙ rw fs refl in
      record {
        given = g.out ++ o.out;
        is = ap (insides_left context m.inside.items) (h.is ∙ ap (before h.given) ends)
            ∙ ap (λ (zs : List Inside). insides_left context zs (before h.given (level_now l))) e
            ∙ g.is_so ∙ ap (before g.out) (insides-snoc context is i (level_now l) ∙ ap (insides_left context is) inner ∙ o.is_so)
            ∙ before_both g.out o.out (machine_eval context n);
        said = heard_both g.out o.out ∙ ap (λ (z : Acts). z ++ heard o.out) g.silent ∙ o.silent;
        stands = tt;
        falls = omega arith;
      }

  -- what a finish passes on goes through the level and all finishes inside
  pub machine_passed : (m : Machine) (p : Acts) (a : Eval ℤ) → machine_left context m (before (passed p) a) ≡ before (passed p) (machine_left context m a)
  machine_passed m p a = ap (insides_left context m.inside.items) (frames_before context m.level.frames.items (passed p) a)
      ∙ insides_passed context m.inside.items p (level_left context m.level a)

  -- a level that runs the block of a finish goes in
  pub taken : (m n : Machine) (i : Inside) (body : Bor CodeBlock) (left : ℕ) → n.inside.items ≡ m.inside.items ++ i ∷ [] → i.outer ≡ m.level →
      i.tally ≡ begun i.tally.kind →
      n.level.flow ≡ flow.Fell → n.level.vars.items ≡ m.level.vars.items → n.level.frames.items ≡ frame.Block body 0 0 left ∷ [] →
      machine_left context m (finish_left i.tally.kind (nothing i.tally.kind) i.line (bind_if i.binds m.level.vars.items)
      (eval_block (around_of context left) body.now m.level.vars.items)) ≡ machine_eval context n
  taken m n i body left e o g f vs fs =
      ap (insides_left context m.inside.items) (finish_goes_in context m.level n.level i body left o g f vs fs)
      ∙ sym (insides-snoc context m.inside.items i (level_eval context n.level))
      ∙ ap (λ (is : List Inside). insides_left context is (level_eval context n.level)) (sym e)

  -- more turns, of which the last alone met something
  pub further : (a b : Eval ℤ) (p : Acts) (n k : ℕ) (m : Machine) (t : Met) → a ≡ before p b → heard p ≡ [] → k ≤ 4 * work_of p + n →
      MachineTurn context b k m t → MachineTurn context a n m t
  further a b p n k m t e s w h =
      let wp = work_both p h.given in
      record {
        given = p ++ h.given;
        is = e ∙ ap (before p) h.is ∙ before_both p h.given (behind_met context t m);
        said = heard_both p h.given ∙ ap (λ (z : Acts). z ++ heard h.given) s ∙ h.said;
        stands = h.stands;
        falls = falls_further t (work_of h.given) (work_of (p ++ h.given)) n k (machine_frames m) (omega arith) h.falls;
      }
    where
      falls_further : (t : Met) (v w n k q : ℕ) → 4 * v + k ≤ 4 * w + n → MetPays t v k q → MetPays t w n q
      falls_further met.Quiet v w n k q e f = omega arith
      falls_further (met.Offer x) v w n k q e f = omega arith
      falls_further (met.Fault c) v w n k q e f = omega arith
      falls_further (met.Async body left) v w n k q e f = omega arith
      falls_further met.Held v w n k q e f = omega arith
      falls_further (met.Finish f2) v w n k q e f = omega arith
      falls_further met.Over v w n k q e f = tt

pub taken_weight : (m n : Machine) (i : Inside) → n.inside.items ≡ m.inside.items ++ i ∷ [] → i.outer ≡ m.level →
    machine_frames n ≡ machine_frames m + (length n.level.frames.items + 1)
taken_weight m n i e o =
    let w : insides_frames n.inside.items ≡ insides_frames m.inside.items + (length i.outer.frames.items + 1) = ap insides_frames e
    ∙ insides_weight-snoc m.inside.items i in
    let k : length i.outer.frames.items ≡ length m.level.frames.items = ap (λ (l : Level). length l.frames.items) o in
    omega arith
