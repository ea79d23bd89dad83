-- Words that are looked at one after another.
use Rattle.std.proofs.Common.{below_more, ◌≡◌, ℕ, ◌+◌, ◌<◌, List, length, get_or, false, IsTrue, ◌↔◌, sym, subst, ◌∙◌}
use Rattle.std.proofs.lemmas.List.{get_or_default}
use Rattle.std.specs.Str.{IsUtf8}
use Rattle.spd_top.specs.Command.{AreText}

pub untrue : IsTrue false → ⊥
untrue h = absurd cc

module _ (words : List (List ℕ)) (index : ℕ) (word seen : List ℕ) (within : index < length words) (is : word ≡ get_or words index word) (same : seen ≡ word) where
  -- A word that isn't UTF-8 decides it.
  pub not_all : (IsUtf8 seen → ⊥) → IsTrue false ↔ AreText words
  not_all refuted = ((λ h. absurd (untrue h)), λ all. absurd (refuted (subst IsUtf8 (sym (same ∙ is)) (all index word within))))

  -- One more word is UTF-8.
  pub one_more : ((k : ℕ) (d : List ℕ) → k < index → IsUtf8 (get_or words k d)) → IsUtf8 seen → (k : ℕ) (d : List ℕ) → k < index + 1 → IsUtf8 (get_or words k d)
  one_more before text k d h = below_more (λ i. IsUtf8 (get_or words i d)) index (λ i lt. before i d lt) (subst IsUtf8 (same ∙ is ∙ get_or_default words index word d within) text) k h
