-- One more lane was looked at: it was empty too, or it gave a vertex.
use Rattle.std.proofs.Common.{◌≡◌, ℕ, suc, ◌+◌, ◌<◌, List, ◌∷◌, ◌++◌, length, get_or, set, take, drop, sym, ◌∙◌, ap, subst, arith, add-zero, add-one, drop-cons}
use Rattle.std.proofs.lemmas.List.{take_more, take_more_set, drop-drop, get_or-drop, drop-set-lt, take-append-drop, set_split}
use Rattle.std.proofs.lemmas.List.Elements.{AllZip-push}
use Rattle.spd_count.specs.Counts.{Raised}
use Rattle.spd_ready.specs.Looks.{WasEmpty, WereEmpty, OneGave}

-- Two lists that are the same from a place on have the same item there.
same_head : {L : Type 0} (before now : List L) (n : ℕ) (lane : L) →
    drop n now ≡ drop n before → get_or now n lane ≡ get_or before n lane
same_head before now n lane same =
    let e = sym (get_or-drop n now 0 lane) ∙ ap (λ l. get_or l 0 lane) same ∙ get_or-drop n before 0 lane in
    subst (λ k. get_or now k lane ≡ get_or before k lane) (add-zero n) e

-- They are the same from the next place on.
same_behind : {L : Type 0} (before now : List L) (n : ℕ) →
    drop n now ≡ drop n before → drop (n + 1) now ≡ drop (n + 1) before
same_behind before now n same = sym (drop-drop 1 n now) ∙ ap (λ l. drop 1 l) same ∙ drop-drop 1 n before

pub one_empty : {L : Type 0} (looks : L → ℕ) (before now : List L) (n : ℕ) (next lane : L) →
    length now ≡ length before → n < length before →
    WereEmpty looks (take n before) (take n now) → drop n now ≡ drop n before →
    Raised (looks (get_or now n lane)) (looks next) →
    WereEmpty looks (take (n + 1) before) (take (n + 1) (set now n next)) × (drop (n + 1) (set now n next) ≡ drop (n + 1) before)
one_empty looks before now n next lane long there tried same rose =
    let first = take_more before n lane there in
    let second = take_more_set now n next (omega arith) in
    let head = same_head before now n lane same in
    let from_there : Raised (looks (get_or before n lane)) (looks next) = rw (sym head) rose in
    let pushed = AllZip-push (WasEmpty looks) (take n before) (take n now) (get_or before n lane) next tried from_there in
    (rw first (rw second pushed), drop-set-lt (n + 1) now n next (omega arith) ∙ same_behind before now n same)

pub one_gave : {L : Type 0} (looks : L → ℕ) (before now : List L) (n : ℕ) (next lane : L) →
    length now ≡ length before → n < length before →
    WereEmpty looks (take n before) (take n now) → drop n now ≡ drop n before →
    looks next ≡ looks (get_or now n lane) →
    OneGave looks before (set now n next)
one_gave looks before now n next lane long there tried same stays =
    let behind = subst (λ k. drop k now ≡ drop k before) (add-one n) (same_behind before now n same) in
    record {
      front = take n before;
      emptied = take n now;
      giver = get_or before n lane;
      given = next;
      behind = drop (suc n) before;
      was = sym (take-append-drop n before) ∙ ap (λ l. take n before ++ l) (drop-cons before n lane there);
      is = set_split now n next (omega arith) ∙ ap (λ l. take n now ++ next ∷ l) behind;
      tried = tried;
      counted = stays ∙ ap looks (same_head before now n lane same);
    }
