-- What is quiet, and then a turn, is one turn.
use Rattle.std.proofs.Common.{◌≡◌, ℕ, ◌+◌, ◌*◌, ◌≤◌, [], ◌++◌, length, refl, ◌∙◌, ap, arith, ℤ}
use Rattle.std.proofs.lemmas.Grind.{flat_map-append}
use Rattle.spd_meaning.specs.Acts.{Acts, work_of, said, said_in}
use Rattle.spd_meaning.specs.Eval.{Eval, before}
use Rattle.spd_meaning.proofs.Sequence.{before_both}
use Rattle.spd_meaning.proofs.Hearing.{work_both}
use Rattle.spd_code.specs.Coded.{Context}
use Rattle.spd_level.specs.Turn.{LevelTurn, StepPays, behind_step}
use Rattle.spd_level.specs.Left.{level_eval}
use Rattle.spd_level.specs.declared.level.Level.{Level}
use Rattle.spd_level.specs.declared.step.Step.{Step}
use Rattle.spd_level.specs.declared.step.Step.TheVariants as step

-- From the evaluation a and n frames to the evaluation b and k frames nothing was said and nothing met, by turns or parts of one, perhaps by none.
pub record Quietly (a : Eval ℤ) (n : ℕ) (b : Eval ℤ) (k : ℕ) : Type 0 where
  pub given : Acts
  pub is : a ≡ before given b
  pub silent : said given ≡ []
  pub frames : k ≤ 4 * work_of given + n

said_both : (p q : Acts) → said p ≡ [] → said (p ++ q) ≡ said q
said_both p q s = flat_map-append said_in p q ∙ ap (λ (z : Acts). z ++ said q) s

-- What pays for a step pays for it behind quiet turns too.
pays_further : (context : Context) (s : Step) (v w n k : ℕ) (new : Level) → 4 * v + k ≤ 4 * w + n → StepPays context s v k new →
    StepPays context s w n new
pays_further context step.Quiet v w n k new e h = omega arith
pays_further context (step.Offer x) v w n k new e h = omega arith
pays_further context (step.Fault code) v w n k new e h = omega arith
pays_further context (step.Line text) v w n k new e h = omega arith
pays_further context (step.Async body left) v w n k new e h = omega arith
pays_further context (step.Finish f) v w n k new e h = omega arith
pays_further context (step.Call c) v w n k new e h = omega arith
pays_further context step.Called v w n k new e h = omega arith
pays_further context step.Over v w n k new e h = h

pub quietly_none : (a : Eval ℤ) (n : ℕ) → Quietly a n a n
unfolding work_of
quietly_none a n = record { given = []; is = refl; silent = refl; frames = omega arith }

pub quietly_more : (a b d : Eval ℤ) (n k j : ℕ) (p : Acts) → Quietly a n b k → b ≡ before p d → said p ≡ [] → j ≤ 4 * work_of p + k → Quietly a n d j
quietly_more a b d n k j p q e s f =
    let w = work_both q.given p in
    let g = q.frames in
    record {
      given = q.given ++ p;
      is = q.is ∙ ap (before q.given) e ∙ before_both q.given p d;
      silent = said_both q.given p q.silent ∙ s;
      frames = omega arith;
    }

module _ (context : Context) where
  pub turn_further : (a b : Eval ℤ) (n k : ℕ) (new : Level) (s : Step) → Quietly a n b k → LevelTurn context b k new s → LevelTurn context a n new s
  turn_further a b n k new s q h =
      let w = work_both q.given h.given in
      let f = q.frames in
      record {
        given = q.given ++ h.given;
        is = q.is ∙ ap (before q.given) h.is ∙ before_both q.given h.given (behind_step context s new);
        said = said_both q.given h.given q.silent ∙ h.said;
        falls_through = h.falls_through;
        callee = h.callee;
        goes_on = pays_further context s (work_of h.given) (work_of (q.given ++ h.given)) n k new (omega arith) h.goes_on;
      }

  pub quiet_further : (a b : Eval ℤ) (n k : ℕ) (new : Level) → Quietly a n b k → LevelTurn context b k new step.Quiet →
      Quietly a n (level_eval context new) (length new.frames.items)
  quiet_further a b n k new q h =
      let f = h.goes_on in
      quietly_more a b (level_eval context new) n k (length new.frames.items) h.given q h.is h.said (omega arith)
