-- Turns of a machine whose parts are all run inside.
use Rattle.std.proofs.Common.{◌≡◌, ℕ, ◌+◌, ◌*◌, ◌<◌, List, [], ◌∷◌, ◌++◌, refl, sym, ◌∙◌, ap, arith, append_assoc, ℤ, true, false}
use Rattle.std.specs.Prelude.{min}
use Rattle.spd_words.specs.Gift.{join}
use Rattle.spd_words.specs.Total.{Total, total_of}
use Rattle.spd_meaning.specs.Acts.{Acts, Piece, Begin, heard, passed, work_of}
use Rattle.spd_meaning.specs.Eval.{Eval, before, collected, for_finish, end_codes}
use Rattle.spd_code.specs.Coded.{Context}
use Rattle.spd_level.specs.Left.{level_eval}
use Rattle.spd_machine.specs.Machine.{machine_frames, hears, MetPays, insides_left, machine_eval, behind_met, MachineTurn}
use Rattle.spd_machine.specs.Elision.{will_collect, ElisionTurn}
use Rattle.spd_meaning.proofs.Sequence.{before_both}
use Rattle.spd_meaning.proofs.Collecting.{Counts, counts, collected_both, quiet_counts, offer_counts, code_counts, move_counts}
use Rattle.spd_meaning.proofs.Hearing.{heard_both, work_both}
use Rattle.spd_machine.proofs.Insides.{insides_passed}
use Rattle.spd_words.specs.declared.finish_kind.FinishKind.{FinishKind}
use Rattle.spd_words.specs.declared.tally.Tally.{Tally}
use Rattle.spd_machine.specs.declared.machine.Met.{Met}
use Rattle.spd_machine.specs.declared.machine.Met.TheVariants as met
use Rattle.spd_machine.specs.declared.machine.Machine.{Machine}
use Rattle.spd_machine.specs.declared.machine.Inside.{Inside}

-- what a turn gives is collected, or goes in
pub finish_given : {A : Type 0} (p : Acts) (a : Eval A) → for_finish (before p a) ≡ p ++ for_finish a
finish_given p a = append_assoc p a.given (end_codes a.end)

pub falls_by : (p : Acts) (a b : Eval ℤ) (n k : ℕ) → a ≡ before p b → k < 4 * work_of p + n → 4 * work_of b.given + k < 4 * work_of a.given + n
falls_by p a b n k e h =
    let w : work_of a.given ≡ work_of p + work_of b.given = ap (λ (x : Eval ℤ). work_of x.given) e ∙ work_both p b.given in
    omega arith

-- of a move nothing is collected
part_counts : (kind : FinishKind) (p : Acts) (t : Total) (b : Piece) → heard p ≡ Begin b ∷ [] → Counts kind p t t
part_counts kind p t b e = counts kind p (Begin b ∷ []) t t e refl refl

module _ (context : Context) where
  -- what was met is collected
  pub collects : (old new : Tally) (m n : Machine) (p : Acts) → new.kind ≡ old.kind → machine_eval context m ≡ before p (machine_eval context n) →
      Counts old.kind p (total_of old) (total_of new) → will_collect context old m ≡ will_collect context new n
  collects old new m n p k e h =
      ap (λ (x : Eval ℤ). collected old.kind (total_of old) (for_finish x)) e
      ∙ ap (collected old.kind (total_of old)) (finish_given p (machine_eval context n))
      ∙ collected_both old.kind (total_of old) p (for_finish (machine_eval context n))
      ∙ h (for_finish (machine_eval context n))
      ∙ ap (λ (kind : FinishKind). collected kind (total_of new) (for_finish (machine_eval context n))) (sym k)

  pub played : (old new : Tally) (m n : Machine) (p : Acts) → new.kind ≡ old.kind → machine_eval context m ≡ before p (machine_eval context n) →
      Counts old.kind p (total_of old) (total_of new) → machine_frames n < 4 * work_of p + machine_frames m → ElisionTurn context old new m n false
  played old new m n p k e h w =
      record {
        kind = k;
        total = collects old new m n p k e h;
        falls = λ _. falls_by p (machine_eval context m) (machine_eval context n) (machine_frames m) (machine_frames n) e w;
        ends = λ x. absurd (cc);
      }

  -- what was met outside a finish that runs inside
  pub met_quiet : (t : Tally) (m n : Machine) → MachineTurn context (machine_eval context m) (machine_frames m) n met.Quiet → ElisionTurn context t t m n false
  met_quiet t m n h = played t t m n h.given refl h.is (quiet_counts t.kind h.given (total_of t) h.said) h.falls

  pub met_held : (t : Tally) (m n : Machine) → MachineTurn context (machine_eval context m) (machine_frames m) n met.Held → ElisionTurn context t t m n false
  met_held t m n h = played t t m n h.given refl h.is (move_counts t.kind h.given (total_of t) h.said) (let f = h.falls in omega arith)

  pub met_offer : (t u : Tally) (m n : Machine) (x : ℤ) → u ≡ record t { gift = join t.kind t.gift x } →
      MachineTurn context (machine_eval context m) (machine_frames m) n (met.Offer x) → ElisionTurn context t u m n false
  met_offer t u m n x e h = rw e (played t (record t { gift = join t.kind t.gift x }) m n h.given refl h.is
      (offer_counts t.kind h.given (total_of t) x h.said) h.falls)

  pub met_fault : (t u : Tally) (m n : Machine) (c : ℕ) → u ≡ record t { fault = min t.fault c } →
      MachineTurn context (machine_eval context m) (machine_frames m) n (met.Fault c) → ElisionTurn context t u m n false
  met_fault t u m n c e h = rw e (played t (record t { fault = min t.fault c }) m n h.given refl h.is (code_counts t.kind h.given (total_of t) c h.said)
      h.falls)

  -- a part goes in
  pub met_part : (t : Tally) (m k n : Machine) (by : Met) (b : Piece) → heard (Begin b ∷ []) ≡ Begin b ∷ [] →
      MachineTurn context (machine_eval context m) (machine_frames m) k by → hears by ≡ [] →
      behind_met context by k ≡ before (Begin b ∷ []) (machine_eval context n) →
      ((w : ℕ) → MetPays by w (machine_frames m) (machine_frames k) → machine_frames n < 4 * w + machine_frames m) → ElisionTurn context t t m n false
  unfolding work_of
  met_part t m k n by b o h q e f =
      let p = h.given ++ Begin b ∷ [] in
      let w : work_of p ≡ work_of h.given = work_both h.given (Begin b ∷ []) ∙ omega arith in
      let hd : heard p ≡ Begin b ∷ [] = heard_both h.given (Begin b ∷ []) ∙ ap (λ (z : Acts). z ++ heard (Begin b ∷ [])) (h.said ∙ q) ∙ o in
      let fk = f (work_of h.given) h.falls in
      played t t m n p refl (h.is ∙ ap (before h.given) e ∙ before_both h.given (Begin b ∷ []) (machine_eval context n))
      (part_counts t.kind p (total_of t) b hd) (omega arith)

  -- a part of the level goes in, beneath the finishes inside
  pub held_in : (m n : Machine) (b : Piece) (a : Eval ℤ) → n.inside.items ≡ m.inside.items → a ≡ before (Begin b ∷ []) (level_eval context n.level) →
      passed (Begin b ∷ []) ≡ Begin b ∷ [] →
      insides_left context m.inside.items a ≡ before (Begin b ∷ []) (machine_eval context n)
  held_in m n b a e h _ =
      ap (insides_left context m.inside.items) h ∙ insides_passed context m.inside.items (Begin b ∷ []) (level_eval context n.level)
      ∙ ap (λ (is : List Inside). before (Begin b ∷ []) (insides_left context is (level_eval context n.level))) (sym e)

  pub met_over : (t : Tally) (m n : Machine) → MachineTurn context (machine_eval context m) (machine_frames m) n met.Over → ElisionTurn context t t m n true
  met_over t m n h =
      let s = h.stands in
      record {
        kind = refl;
        total = collects t t m n h.given refl h.is (quiet_counts t.kind h.given (total_of t) h.said);
        falls = λ x. absurd (cc);
        ends = λ _. rw (s.0, s.1) refl;
      }
