-- The rule holds of a new field; and a view may be cut in two, and two may become one.
use Rattle.std.proofs.Common.{◌≡◌, ℕ, ◌*◌, ◌<◌, List, [], set, replicate, refl, sym, ap, ◌∙◌, arith, None, map}
use mathlib.Core.Option.{some-ne-none}
use Rattle.atomic_table.specs.Table.{Splits, Joins, opening}
use Rattle.spd_words.specs.Plan.{PlanView, IsPlan}
use Rattle.spd_words.specs.Words.{Vertex}
use Rattle.spd_words.specs.declared.scheme.Scheme.TheVariants.{Flat}
use Rattle.spd_state.specs.Sums.{Each}
use Rattle.spd_state.specs.Shown.{ShownOk}
use Rattle.spd_state.specs.Tree.{first_trees, start_of}
use Rattle.spd_state.specs.Seats.{kept_view, given_view, joined_view, spent_view, first_view, IsEmpty}
use Rattle.spd_state.specs.declared.view.View.{View}
use Rattle.spd_state.proofs.Seats.{split_keeps, join_keeps}
use Rattle.spd_state.proofs.Opening.{opens, blank}
use Rattle.spd_state.proofs.Showing.{shown_split}
use Rattle.spd_state.proofs.Sums.{each_kept, each_cons}
use mathlib.Core.Option.{some}
use Rattle.atomic_table.proofs.Lists.{set_else}
use Rattle.spd_words.specs.Meaning.{BodyView}
use Rattle.spd_debts.proofs.Sharing.{blank_stands, split_stands, join_stands}
use Rattle.spd_rule.specs.Kept.{means_of, Kept}
use Rattle.spd_rule.specs.Openings.{StartsBlank}

none_shown : (m : ℕ) (vertices : ℕ → Vertex) → Each (ShownOk m vertices) []
none_shown m vertices j s e = absurd (some-ne-none s (sym e))

module _ {B : Type 0} (told_of : B → BodyView) (p : PlanView) where
  pub splits : (id : ℕ) (v : View) → 0 < v.spare → Splits (Kept told_of p) id v (kept_view v) (given_view v)
  splits id v more s kept at = let held = kept.held in record {
    held = record {
      dag = held.dag;
      written = held.written;
      kept = split_keeps p held.dag s.homes s.views held.kept id v at more;
      shown = shown_split p.moves held.dag.vertices s.views held.shown id v at (kept_view v) (given_view v) refl refl;
    };
    books = split_stands (means_of told_of) p held.dag s.homes s.views kept.books id v at;
    fit = kept.fit;
  }

  pub joins : (id : ℕ) (v : View) (other : ℕ) (o : View) → IsEmpty o → Joins (Kept told_of p) id v other o (joined_view v o) spent_view
  joins id v other o empty s kept at apart there = let held = kept.held in record {
    held = record {
      dag = held.dag;
      written = held.written;
      kept = join_keeps p held.dag s.homes s.views held.kept id v at other o apart there empty;
      shown = let sees : View → Type 0 = λ u. Each (ShownOk p.moves held.dag.vertices) u.shown in each_kept sees (set s.views id (joined_view v o)) other spent_view
          (none_shown p.moves held.dag.vertices) (each_kept sees s.views id (joined_view v o) (held.shown id v at) held.shown);
    };
    books = join_stands (means_of told_of) p held.dag s.homes s.views kept.books id v at other o
        (sym (set_else s.views id other (joined_view v o) apart) ∙ there) there empty.running empty.flight;
    fit = kept.fit;
  }

  pub begins : IsPlan p → p.scheme ≡ Flat → (ws : List ℕ) → StartsBlank p ws → Kept told_of p (opening ws (replicate (2 * p.moves) None) first_view)
  begins plan flat ws starts = let z = starts.zeros in let flat_trees : first_trees p ≡ start_of Flat p.moves = ap (λ s. start_of s p.moves) flat in record {
    held = record {
      dag = blank p;
      written = record {
        long = starts.long;
        drawn = z 0 (omega arith);
        bred = z 1 (omega arith);
        done = z 2 (omega arith);
        children = λ n l. z _ (omega arith) ∙ sym (ap (λ t. t.children n) flat_trees);
        parents = λ n k l. z _ (omega arith) ∙ sym (ap (λ t. t.parents n) flat_trees);
        nodes = λ n l. z _ (omega arith);
        pairs = λ d l. z _ (omega arith);
        vertices = λ v l. z _ (omega arith);
        gifts = λ d l. z _ (omega arith);
        faults = starts.codes;
        nodes_fit = λ n l. record { twice = omega arith; version = omega arith };
        pairs_fit = λ d l. record { claims = omega arith; total = omega arith; kind = omega arith; first = omega arith; second = omega arith };
        vertices_fit = λ v l. record { state = omega arith; side = omega arith; pair = omega arith; finish = omega arith; inc = omega arith };
        gifts_fit = λ d l. omega arith;
        faults_fit = λ d l. omega arith;
      };
      kept = opens p plan;
      shown = each_cons (λ (u : View). Each (ShownOk p.moves (blank p).vertices) u.shown) first_view [] (none_shown p.moves (blank p).vertices)
          (λ j u e. absurd (some-ne-none u (sym e)));
    };
    books = blank_stands (means_of told_of) p (map some (replicate (2 * p.moves) None));
    fit = λ x b l (s : 0 < 0) t e. absurd (omega arith);
  }
