-- `set_vertex` of the waiting vertex of a chain keeps the rule: an instance of `Stored`.
use Rattle.std.proofs.Common.{◌≡◌, ℕ, ◌+◌, ◌*◌, ◌<◌, List, [], ◌∷◌, length, set, refl, sym, ap, ◌∙◌, subst, arith, Option, Some, inr}
use Prim.Native.Nat.{zero, suc}
use mathlib.Core.Option.{some}
use mathlib.Core.Option as maybe
use lib.ListN.{get_elem?}
use Rattle.spd_words.specs.Plan.{PlanView}
use Rattle.spd_words.specs.Words.{Vertex}
use Rattle.spd_state.specs.Sums.{same, gate, count, put}
use Rattle.spd_state.specs.Dag.{Dag, stands, not_end, yet_in, runs_it, named, opens_in, flies_in, busy}
use Rattle.spd_state.specs.Parts.{RunOk, ClaimsOk, RootedOk, FlightOk, FlightsOk, OwnOk, Rule}
use Rattle.spd_state.specs.declared.view.Running.{Running}
use Rattle.spd_state.specs.declared.view.Flight.{Flight}
use Rattle.spd_state.specs.declared.view.Draw.TheVariants.{Chain}
use Rattle.spd_state.specs.Stages.{chain_rest_view, chain_rest_vertex}
use Rattle.spd_state.proofs.Makers.{maker_used}
use Rattle.spd_state.specs.History.{forks_in}
use Rattle.spd_state.specs.declared.view.View.{View}
use Rattle.spd_state.proofs.Sums.{same_self, same_else, put_here, put_else}
use Rattle.spd_state.proofs.Rights.{running_ok, pair_inside, finish_inside, right_counts, right_holds, unit_opens}
use Rattle.spd_state.proofs.Waiting.{waiting_finishes}
use Rattle.spd_state.proofs.Store.{Stored, store_keeps}
use Rattle.spd_state.specs.Tree.{Under}

module _ {B : Type 0} (p : PlanView) (a : Dag) (homes : List (maybe.Option (Option B))) (vs : List View) (rule : Rule p a homes vs) (id : ℕ)
    (v : View) (at : get_elem? vs id ≡ some v)
    (r : Running) (is : v.running ≡ Some r) (mine : r.right ≡ 1) (d : ℕ)
    (flies : v.flight ≡ Some record { draw = Chain; number = d; finish = d; stage = 2 }) (rest : List ℕ)
    (slots : v.slots ≡ (2 * d + 1) ∷ rest) where
  abbrev i : ℕ
  i = 2 * d + 1

  abbrev x : Vertex
  x = chain_rest_vertex r

  abbrev w : View
  w = chain_rest_view r d rest v

  -- the finish of the maker is below the one that it opens
  above : r.finish < d
  above = (rule.history.makers id v at).above record { draw = Chain; number = d; finish = d; stage = 2 } r flies is refl

  later : 0 < d
  later = let k = above in omega arith

  ok : FlightOk p a.trees a.drawn a.nodes a.pairs a.vertices record { draw = Chain; number = d; finish = d; stage = 2 }
  ok = subst (FlightsOk p a.trees a.drawn a.nodes a.pairs a.vertices) flies (rule.flying id v at)

  run : RunOk p a.trees a.pairs a.vertices r
  run = running_ok p a homes vs rule id v at r is

  own : OwnOk p a.trees v
  own = rule.own id v at

  no_claim : v.claimed ≡ []
  no_claim = (subst (λ (o : Option Running). ClaimsOk p a.trees o v.claimed) is own.claims).0 mine

  not_end_odd : (k : ℕ) → 0 < k → not_end (2 * k + 1) ≡ 1
  not_end_odd k l = go (2 * k + 1) (omega arith)
    where
      go : (n : ℕ) → 2 < n → not_end n ≡ 1
      go zero l = absurd (omega arith)
      go (suc zero) l = absurd (omega arith)
      go (suc (suc n)) l = refl

  inc : Under p a.trees (a.vertices r.vertex).finish (a.vertices r.vertex).inc
  inc = let s : (a.vertices r.vertex).state ≡ 3 = ap (λ (y : Vertex). y.state) run.word in rule.live.inc r.vertex run.vertex (omega arith)

  pub step : Stored p a v w d i x
  step = let low = ok.number in let few = own.few in let b : busy v.running ≡ 1 = ap busy is in let bf : busy v.flight ≡ 1 = ap busy flies in
      let seated = own.seated in let sitting = own.sitting in
      let vertices' : ℕ → Vertex = put a.vertices i x in let body = ok.body (let e : 0 < 1 = omega arith in e) in record {
        low = omega arith;
        of = inr refl;
        flies = ap (flies_in d) flies ∙ same_self d d refl;
        begun = ok.begun;
        blank = ok.rest (let e : 0 < 1 = omega arith in e);
        is_stored = omega arith;
        not_started = omega arith;
        rights_gain = λ e. let s : stands e i x ≡ same e r.pair = ap (λ k. gate k (same e r.pair)) (not_end_odd d later) in
            let h = right_counts p a homes vs rule id v at r is mine e in
            let y : yet_in e v.flight ≡ same e d + 0 = ap (yet_in e) flies in omega arith;
        opens_gain = λ e. let s : gate (same i (2 * e)) (named e x) ≡ 0 = ap (λ k. gate k (named e x)) (same_else i (2 * e) (λ z. omega arith)) in
            let o : opens_in e v.flight ≡ same e d = ap (opens_in e) flies in omega arith;
        units_same = λ n. refl;
        runs_less = λ k. let h : runs_it k v.running ≡ same k r.vertex = ap (runs_it k) is in omega arith;
        flies_less = λ e. let h : flies_in e v.flight ≡ same e d = ap (flies_in e) flies in omega arith;
        body_done = λ z. let s = same_self d d refl in absurd (omega arith);
        rest_done = λ z. let s = same_self d d refl in absurd (omega arith);
        slots_less = λ k. let h : count k v.slots ≡ same k i + count k rest = ap (count k) slots in omega arith;
        maker = maker_used v w Chain d d 2 3 flies refl (λ e. absurd (cc)) refl
            (λ y e. let k : record r { right = 0 } ≡ y = cc in (r, is, ap (λ (y : Running). y.finish) k)) refl no_claim
            (λ z. z) (rule.history.makers id v at);
        below_rest = λ e q l z. let k = above in omega arith;
        below_body = λ e q. absurd (omega arith);
        end = λ e. let l = later in absurd (omega arith);
        ready = omega arith;
        forks = sym (ap forks_in flies);
        done = refl;
        fresh = refl;
        starts = refl;
        spawns = refl;
        own = record {
          claims = ((λ (z : 0 ≡ 1). absurd (omega arith)), λ n z. let c : count n v.claimed ≡ 0 = ap (count n) no_claim in absurd (omega arith));
          rooted = subst (λ (o : Option Flight). RootedOk o v.rooted) flies own.rooted;
          there = own.there;
          lifts = own.lifts;
          single = own.single;
          tells = own.tells;
          spent = λ z. absurd (omega arith);
          few = own.few;
          seated = omega arith;
          sitting = omega arith;
        };
        running = record {
          vertex = run.vertex;
          right = omega arith;
          other = λ (z : 0 ≡ 1). absurd (omega arith);
          tops = λ (z : 0 ≡ 1). absurd (omega arith);
          word = put_else a.vertices i x r.vertex (λ e. let z : (a.vertices r.vertex).state ≡ 0 = ap (λ k. (a.vertices k).state) e
              ∙ ap (λ (y : Vertex). y.state) (ok.rest (let e : 0 < 1 = omega arith in e)) in
              let s : (a.vertices r.vertex).state ≡ 3 = ap (λ (y : Vertex). y.state) run.word in omega arith) ∙ run.word;
        };
        flying = record {
          number = ok.number;
          begun = ok.begun;
          finish = ok.finish;
          root_finish = λ _. refl;
          tops = λ _. ok.tops (omega arith);
          root = λ (z : 3 ≡ 0). absurd (omega arith);
          pair = λ (z : 3 < 2). absurd (omega arith);
          below = λ (z : 1 ≡ 0). absurd (omega arith);
          handle = λ x _. ok.handle x (omega arith);
          body = λ _. put_else a.vertices i x (2 * d) (λ e. omega arith) ∙ body;
          rest = λ (z : 0 < 0). absurd (omega arith);
          body_there = λ (z : 1 ≡ 0). absurd (omega arith);
          names = λ (z : 1 ≡ 0). absurd (omega arith);
          rest_there = λ _. subst (λ (y : Vertex). 0 < y.state) (sym (put_here a.vertices i x i refl)) (omega arith);
        };
        draws = refl;
        seats = refl;
        spare = refl;
        finish = finish_inside p a homes vs rule id v at r is;
        pair = pair_inside p a homes vs rule id v at r is;
        inc = subst (λ (y : Vertex). Under p a.trees y.finish y.inc) run.word inc;
        above_same = λ n. refl;
        halves_same = λ n. refl;
        trees = rule.trees id v at;
        grows = rule.grows id v at;
        grow_draws = refl;
        full_grows = refl;
        sprout = refl;
        tops = λ _. run.tops mine;
      }

  pub chain_rest_keeps : (b : B) → length homes ≡ 2 * p.moves → Rule p (record a { vertices = put a.vertices i x }) (set homes i (some (Some b)))
      (set vs id w)
  chain_rest_keeps b deep = store_keeps p a homes vs rule id v at w d i x step (Some b) (λ _. (b, refl))
      (λ e. let l = later in absurd (omega arith)) deep
      (unit_opens p a homes vs rule r.finish (finish_inside p a homes vs rule id v at r is) (right_holds p a homes vs rule id v at r is mine))
      (waiting_finishes p a homes vs rule id v at w d x step ok.number refl refl Chain flies refl refl refl)
