-- The notes after a look, a start, a claim, an arrival, a departure and a wake.
use Rattle.std.proofs.Common.{◌≡◌, ◌≢◌, ℕ, ◌≤◌, List, [], ◌∷◌, length, map, get_or, pos, refl, sym, ap, ◌∙◌, subst, arith}
use Rattle.std.proofs.Common.{Option, Some, None, Bool, true, false, not, ◌&&◌, cond, eqb, eq-eqb, ne_eqb, if◌then◌else◌}
use lib.Dec.{ltb}
use Rattle.atomic_table.specs.Table.{Me, rest}
use Rattle.spd_words.specs.Gift.{no_fault}
use Rattle.spd_words.specs.Meaning.{Meaning, Awaited}
use Rattle.spd_words.specs.Words.{Node, Pair, Vertex}
use Rattle.spd_words.specs.declared.finish_kind.FinishKind.{FinishKind}
use Rattle.spd_words.specs.declared.finish_kind.FinishKind.TheVariants.{Plain}
use Rattle.spd_state.specs.Sums.{same, gate, count, without}
use Rattle.spd_state.specs.Tree.{top_in}
use Rattle.spd_state.specs.Dag.{load_of, busy, right_in, right_at, next_handle, claimed_at}
use Rattle.spd_state.specs.Promises.{expected_in, expected_of}
use Rattle.spd_state.specs.Shown.{see_after, note_ready}
use Rattle.spd_state.specs.Steps.{stepped, start_run, start_view, wild_in, kind_in, awaited_in, lose_right, claim_after, add_view}
use Rattle.spd_state.specs.Steps.{lose_view, tell_if, keep_if, keep_mark, is_over, settle_view, sub_after, wake_view, wake_after}
use Rattle.spd_state.specs.declared.promise.Expected.{Expected}
use Rattle.spd_state.specs.declared.view.Running.{Running}
use Rattle.spd_state.specs.declared.view.Flight.{Flight}
use Rattle.spd_state.specs.declared.view.View.{View}
use Rattle.spd_state.proofs.Sums.{same_self}
use Rattle.spd_rule.specs.Rest.{due, rested, at_rest}
use Rattle.spd_rule.specs.Steps.{MayClaim, MayAdd, MaySub, meaning_in}
use Rattle.spd_rule_tests.specs.declared.stub.Stub.{Stub}
use Rattle.spd_rule_tests.specs.declared.notes.Notes.{Notes}
use Rattle.spd_rule_tests.specs.declared.stub.StubStage.{StubStage}
use Rattle.spd_rule_tests.specs.declared.stub.StubStage.TheVariants as stub
use Rattle.spd_rule_tests.specs.Stubs.{stub_view, stub_awaits, stub_waits_for}
use Rattle.spd_rule_tests.specs.Notes.{Works, Signals, Wakes, IsAtLeisure}
use Rattle.spd_rule_tests.specs.Ties.{Ties, listed, wild_mark_of, wait_mark_of, wait_kind_of, end_alone}
use Rattle.spd_rule_tests.proofs.Placed.{lone}

listed_few : (o : Option ℕ) → length (listed o) ≤ 1
listed_few None = omega arith
listed_few (Some n) = omega arith

module _ {B : Type 0} (me : Me (Option B) View) (n : Notes) (h : Ties me n) where
  few : load_of me.0 ≤ 3
  few = let a = ap length h.held in let b = ap length h.claimed in let c = ap length h.rooted in let d = ap length h.plain.above in
      let x = listed_few n.held in let y = listed_few n.claimed in let z = listed_few n.rooted in omega arith

  -- a view that differs in nothing that the notes have
  alike : (w : View) → w ≡ record me.0 { shown = w.shown; steps = w.steps } → Ties (w, me.1) n
  alike w e = subst (λ (v : View). Ties (v, me.1) n) (sym e) (record {
    running = h.running;
    flight = h.flight;
    held = h.held;
    claimed = h.claimed;
    rooted = h.rooted;
    told = h.told;
    plain = record {
      lifted = h.plain.lifted;
      above = h.plain.above;
      halves = h.plain.halves;
      sprout = h.plain.sprout;
      gives = h.plain.gives;
      kind = h.plain.kind;
    };
    fresh = h.fresh;
    full = h.full;
    wild = h.wild;
    made = h.made;
    awaits = h.awaits;
    waits = h.waits;
    hurt = h.hurt;
    seats = h.seats;
    knows = h.knows;
    slots = h.slots;
    heads = h.heads;
  })

  pub ties_idle : Ties (stepped me.0, me.1) n
  ties_idle = alike (stepped me.0) refl

  pub ties_see : (i : ℕ) (x : Vertex) → Ties (see_after i x me.0, me.1) n
  ties_see i x = by (eqb x.state 2)
    where
      by : (b : Bool) → Ties (cond b (note_ready i x me.0) (stepped me.0), me.1) n
      by true = alike (note_ready i x me.0) refl
      by false = alike (stepped me.0) refl

  -- ---- `claim`

  pub may_claim : (r : Running) → Works r n → MayClaim me.0
  may_claim r w = record {
    right = ap right_in (h.running ∙ w.pays.running) ∙ w.pays.right;
    room = let f = few in omega arith;
    free = let a = h.awaits in let b = w.free in let c = h.hurt in let d = w.unhurt in omega arith;
  }

  pub ties_claim : (q : Pair) (r : Running) → n.running ≡ Some r
      → Ties (claim_after q me.0, me.1) (record n { running = Some (record r { right = 0 }); claimed = Some (next_handle q) })
  ties_claim q r is = record {
    running = ap lose_right (h.running ∙ is);
    flight = h.flight;
    held = h.held;
    claimed = refl;
    rooted = h.rooted;
    told = h.told;
    plain = record {
      lifted = refl;
      above = h.plain.above;
      halves = h.plain.halves;
      sprout = h.plain.sprout;
      gives = h.plain.gives;
      kind = h.plain.kind;
    };
    fresh = h.fresh;
    full = h.full;
    wild = h.wild;
    made = h.made;
    awaits = h.awaits;
    waits = h.waits;
    hurt = h.hurt;
    seats = h.seats;
    knows = λ k x i. subst (λ (y : Running). top_in y.inc me.0.known ≡ Some y.finish) (let e : record r { right = 0 } ≡ x = cc in e) (h.knows k r is);
    slots = h.slots ∙ (ap (due me.0.flight) (h.running ∙ is) ∙ sym (ap (λ o. due me.0.flight (lose_right o)) (h.running ∙ is)));
    heads = h.heads;
  }

  -- ---- `add_root`

  pub may_arrive : (r : Running) → Works r n → MayAdd r.finish me.0
  may_arrive r w = record {
    right = let d : ℕ = r.finish in
        let e : right_at d me.0.running ≡ same d d = ap (right_at d) (h.running ∙ w.pays.running) ∙ ap (λ k. gate k (same d d)) w.pays.right in
        let s = same_self d d refl in omega arith;
    room = let f = few in omega arith;
  }

  pub ties_arrive : (d : ℕ) → n.held ≡ None → Ties (add_view d me.0, me.1) (record n { held = Some d })
  ties_arrive d none = record {
    running = h.running;
    flight = h.flight;
    held = ap (λ (l : List ℕ). d ∷ l) (h.held ∙ ap listed none);
    claimed = h.claimed;
    rooted = h.rooted;
    told = h.told;
    plain = record {
      lifted = h.plain.lifted;
      above = h.plain.above;
      halves = h.plain.halves;
      sprout = h.plain.sprout;
      gives = h.plain.gives;
      kind = h.plain.kind;
    };
    fresh = h.fresh;
    full = h.full;
    wild = h.wild;
    made = h.made;
    awaits = h.awaits;
    waits = h.waits;
    hurt = h.hurt;
    seats = h.seats;
    knows = h.knows;
    slots = h.slots;
    heads = h.heads;
  }

  -- ---- a share that may be over

  module _ (r : Running) (is : n.running ≡ Some r) (flat : n.flight ≡ None) where
    runs : me.0.running ≡ Some r
    runs = h.running ∙ is

    flies : me.0.flight ≡ None
    flies = h.flight ∙ flat

    abbrev settle_by : Bool → Me (Option B) View
    settle_by o = rested (keep_if (not o) me.0.running) me.0.flight
        (record me.0 { running = keep_if (not o) me.0.running; sunk = keep_mark (not o) me.0.sunk }, me.1)

    -- it runs on
    goes_on : Ties (settle_by false) n
    goes_on = subst (λ (m : Me (Option B) View). Ties m n) (sym (ap (λ o. rested o me.0.flight me) runs)) h

    stops : Ties (settle_by true) (record n { running = None })
    stops = subst (λ (f : Option Flight). Ties (rested None f (record me.0 { running = None; sunk = 0 }, me.1)) (record n { running = None }))
        (sym flies) (record {
          running = refl;
          flight = h.flight;
          held = h.held;
          claimed = h.claimed;
          rooted = h.rooted;
          told = h.told;
          plain = record {
            lifted = h.plain.lifted;
            above = h.plain.above;
            halves = h.plain.halves;
            sprout = h.plain.sprout;
            gives = h.plain.gives;
            kind = h.plain.kind;
          };
          fresh = h.fresh;
          full = h.full;
          wild = h.wild;
          made = h.made;
          awaits = h.awaits;
          waits = h.waits;
          hurt = h.hurt;
          seats = h.seats;
          knows = λ k x i. absurd (cc);
          slots = sym (ap (λ f. due f None) flies);
          heads = refl;
        })

    -- it is told a finish
    pub settles_told : (d : ℕ) → n.told ≡ Some d → Ties (at_rest (settle_view me.0, me.1)) n
    settles_told d t = subst (λ (o : Bool). Ties (settle_by o) n)
        (sym (λ j. is_over (runs j) (flies j) me.0.claimed ((h.told ∙ ap listed t) j))) (by me.0.claimed)
      where
        by : (l : List ℕ) → Ties (settle_by (is_over (Some r) None l (d ∷ []))) n
        by [] = goes_on
        by (x ∷ xs) = goes_on

    -- or has nothing left
    pub settles : n.claimed ≡ None → n.told ≡ None → r.right ≡ 0 → Ties (at_rest (settle_view me.0, me.1)) (record n { running = end_alone n.running })
    settles c t right = subst (λ (o : Option Running). Ties (at_rest (settle_view me.0, me.1)) (record n { running = end_alone o })) (sym is)
        (subst (λ (o : Bool). Ties (settle_by o) (record n { running = end_alone (Some r) }))
        (sym ((λ j. is_over (runs j) (flies j) ((h.claimed ∙ ap listed c) j) ((h.told ∙ ap listed t) j))
        ∙ ap (λ b. not (eqb r.vertex 1) && b) (eq-eqb r.right 0 right)))
        (by (eqb r.vertex 1)))
      where
        by : (x : Bool) → Ties (settle_by (not x && true)) (record n { running = if x then Some r else None })
        by true = subst (λ (o : Option Running). Ties (settle_by false) (record n { running = o })) is goes_on
        by false = stops

-- ---- `sub_root` and `wake_vertex`

module _ {B : Type 0} (me : Me (Option B) View) (n : Notes) (h : Ties me n) where
  pub may_depart : (d : ℕ) → Signals d n → MaySub d me.0
  may_depart d s = record {
    unit = let e : claimed_there me.0.lifted ≡ count d (d ∷ []) = ap claimed_there h.plain.lifted ∙ ap (count d) (h.claimed ∙ ap listed s.claimed) in
        let o = same_self d d refl in omega arith;
    lone = λ _. h.flight ∙ s.flight;
    paid = λ _ w. let a = h.wild in let b = s.wild in absurd (omega arith);
  }
    where
      claimed_there : ℕ → ℕ
      claimed_there k = claimed_at k d me.0.claimed

  -- without the claimed unit, and told what is told then
  left : (d : ℕ) → Signals d n → (told : List ℕ) (o : Option ℕ) → told ≡ listed o
      → Ties (lose_view me.0.held (without d me.0.claimed) told me.0, me.1) (record n { claimed = None; told = o })
  left d s told o t = record {
    running = h.running;
    flight = h.flight;
    held = h.held;
    claimed = ap (without d) (h.claimed ∙ ap listed s.claimed) ∙ lone d;
    rooted = h.rooted;
    told = t;
    plain = record {
      lifted = h.plain.lifted;
      above = h.plain.above;
      halves = h.plain.halves;
      sprout = h.plain.sprout;
      gives = h.plain.gives;
      kind = h.plain.kind;
    };
    fresh = h.fresh;
    full = h.full;
    wild = h.wild;
    made = h.made;
    awaits = h.awaits;
    waits = h.waits;
    hurt = h.hurt;
    seats = h.seats;
    knows = h.knows;
    slots = h.slots;
    heads = h.heads;
  }

  lowered : (d : ℕ) (x : Node) → Signals d n
      → sub_after d x me.0 ≡ settle_view (lose_view me.0.held (without d me.0.claimed) (tell_if (eqb x.twice 2) d me.0.told) me.0)
  lowered d x s = let t : List ℕ = tell_if (eqb x.twice 2) d me.0.told in
      ap (λ (l : List ℕ). settle_view (cond (ltb 0 (count d l)) (lose_view (without d me.0.held) me.0.claimed t me.0)
      (lose_view me.0.held (without d me.0.claimed) t me.0)))
      (h.held ∙ ap listed s.held)

  pub ties_depart_last : (d : ℕ) (x : Node) → Signals d n → x.twice ≡ 2 → Ties (at_rest (sub_after d x me.0, me.1)) (record n { claimed = None; told = Some d })
  ties_depart_last d x s two = let t : List ℕ = tell_if (eqb x.twice 2) d me.0.told in
      let e : t ≡ d ∷ [] = ap (λ b. tell_if b d me.0.told) (eq-eqb x.twice 2 two) ∙ ap (λ (l : List ℕ). d ∷ l) (h.told ∙ ap listed s.told) in
      let w : View = lose_view me.0.held (without d me.0.claimed) t me.0 in
      subst (λ (v : View). Ties (at_rest (v, me.1)) (record n { claimed = None; told = Some d })) (sym (lowered d x s))
      (settles_told (w, me.1) (record n { claimed = None; told = Some d }) (left d s t (Some d) e) s.runs s.running s.flight d refl)

  pub ties_depart : (d : ℕ) (x : Node) → Signals d n → x.twice ≢ 2
      → Ties (at_rest (sub_after d x me.0, me.1)) (record n { claimed = None; running = end_alone n.running })
  ties_depart d x s other = let t : List ℕ = tell_if (eqb x.twice 2) d me.0.told in
      let e : t ≡ me.0.told = ap (λ b. tell_if b d me.0.told) (ne_eqb x.twice 2 other) in
      let w : View = lose_view me.0.held (without d me.0.claimed) t me.0 in
      subst (λ (v : View). Ties (at_rest (v, me.1)) (record n { claimed = None; running = end_alone n.running })) (sym (lowered d x s))
      (settles (w, me.1) (record n { claimed = None }) (left d s t n.told (e ∙ h.told)) s.runs s.running s.flight refl s.told s.right)

  pub ties_wake : (f : ℕ) → Wakes f n → Ties (at_rest (wake_after f me.0, me.1)) (record n { told = None; running = end_alone n.running })
  ties_wake f w = settles (wake_view f me.0, me.1) (record n { told = None }) (record {
    running = h.running;
    flight = h.flight;
    held = h.held;
    claimed = h.claimed;
    rooted = h.rooted;
    told = ap (without f) (h.told ∙ ap listed w.told) ∙ lone f;
    plain = record {
      lifted = h.plain.lifted;
      above = h.plain.above;
      halves = h.plain.halves;
      sprout = h.plain.sprout;
      gives = h.plain.gives;
      kind = h.plain.kind;
    };
    fresh = h.fresh;
    full = h.full;
    wild = h.wild;
    made = h.made;
    awaits = h.awaits;
    waits = h.waits;
    hurt = h.hurt;
    seats = h.seats;
    knows = h.knows;
    slots = h.slots;
    heads = h.heads;
  }) w.runs w.running w.flight w.claimed refl w.right

-- ---- `start_vertex`

abbrev top_body : List (ℕ × Option Stub) → Option Stub
top_body [] = None
top_body (x ∷ xs) = x.1

abbrev means : Stub → Meaning
means b = (stub_view b).means

kind_is : (o : Option Stub) (k : FinishKind) → k ≡ Plain → kind_in (meaning_in means o) k ≡ Plain
kind_is None k e = e
kind_is (Some b) k e = refl

wild_is : (o : Option Stub) → wild_in (meaning_in means o) ≡ wild_mark_of o
wild_is None = refl
wild_is (Some b) = refl

expects : (a : Option Awaited) → busy (expected_in a) ≡ busy a
expects None = refl
expects (Some a) = refl

waits_is : (o : Option Stub) → busy (awaited_in (meaning_in means o)) ≡ wait_mark_of o
waits_is None = refl
waits_is (Some b) = expects (stub_awaits b.stage)

-- for this kind of finish, if for any
waits_for : (o : Option Stub) (x : Expected) → awaited_in (meaning_in means o) ≡ Some x → x.kind ≡ wait_kind_of o
waits_for None x e = absurd (cc)
waits_for (Some b) x e = by b.stage e
  where
    by : (s : StubStage) → expected_in (stub_awaits s) ≡ Some x → x.kind ≡ stub_waits_for s
    by stub.Going e = absurd (cc)
    by (stub.Waits kind) e = let same : expected_of (record { kind = kind; gift = pos 0; fault = no_fault }) ≡ x = cc in sym (ap (λ (y : Expected). y.kind) same)
    by stub.Spent e = absurd (cc)
    by stub.Ended e = absurd (cc)

pub ties_start : (me me1 me2 : Me (Option Stub) View) (n : Notes) → Ties me n → IsAtLeisure n → (i : ℕ) (x : Vertex) (body got : Option Stub) (slot : ℕ)
    → me1 ≡ (start_view i x (meaning_in means body) me.0, (i, body) ∷ me.1) → me1.1 ≡ (slot, got) ∷ rest me1.1 → me2 ≡ (me1.0, (slot, None) ∷ rest me1.1)
    → Ties me2 (record n { running = Some (start_run i x); wild = wild_mark_of got; awaits = wait_mark_of got; waits = wait_kind_of got; knows = true })
ties_start me me1 me2 n h at i x body got slot known before after =
    let there : (i, body) ∷ me.1 ≡ (slot, got) ∷ rest me1.1 = sym (ap (λ (m : Me (Option Stub) View). m.1) known) ∙ before in
    let same_body : body ≡ got = ap top_body there in
    let same_slot : i ≡ slot = ap (λ (l : List ℕ). get_or l 0 0) (ap (map (λ y. y.0)) there) in
    let is : me2 ≡ (start_view i x (meaning_in means body) me.0, (i, None) ∷ me.1) = after ∙ (λ j. ((known j).0, (sym same_slot j, None) ∷ rest (known j).1)) in
    subst (λ (m : Me (Option Stub) View). Ties m
    (record n { running = Some (start_run i x); wild = wild_mark_of got; awaits = wait_mark_of got; waits = wait_kind_of got; knows = true }))
    (sym is) (record {
      running = refl;
      flight = h.flight;
      held = h.held;
      claimed = h.claimed;
      rooted = h.rooted;
      told = h.told;
      plain = record {
        lifted = h.plain.lifted;
        above = h.plain.above;
        halves = h.plain.halves;
        sprout = h.plain.sprout;
        gives = h.plain.gives;
        kind = kind_is body me.0.kind h.plain.kind;
      };
      fresh = h.fresh;
      full = h.full;
      wild = wild_is body ∙ ap wild_mark_of same_body;
      made = h.made;
      awaits = waits_is body ∙ ap wait_mark_of same_body;
      waits = λ y e. waits_for body y e ∙ ap wait_kind_of same_body;
      hurt = h.hurt;
      seats = h.seats;
      knows = λ _ r e. subst (λ (y : Running). top_in y.inc (record { node = x.inc; top = x.finish } ∷ me.0.known) ≡ Some y.finish)
          (let k : start_run i x ≡ r = cc in k) (ap (λ b. cond b (Some x.finish) (top_in x.inc me.0.known)) (eq-eqb x.inc x.inc refl));
      slots = ap (λ (l : List ℕ). i ∷ l) (h.slots ∙ (λ j. due ((h.flight ∙ at.flight) j) ((h.running ∙ at.running) j)))
          ∙ sym (ap (λ f. due f (Some (start_run i x))) (h.flight ∙ at.flight));
      heads = ap (λ (l : List ℕ). i ∷ l) h.heads;
    })
