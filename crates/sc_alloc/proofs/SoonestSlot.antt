-- The slot that is free soonest: it is the greatest of the heap, and leaves it and comes back.
use Rattle.sc_alloc.proofs.Common.{All, All-cons, All-permutation, All-tail, Bool, HasEnds, IsHeap, IsPermutation}
use Rattle.sc_alloc.proofs.Common.{LacksOne, List, Reverse, SlotEnd, Some, [], and_from, and_right, ap, arith, cases_eq}
use Rattle.sc_alloc.proofs.Common.{count_by, false, get_or, get_or_from_slice_get, is_lt, is_of, is_soonest, length}
use Rattle.sc_alloc.proofs.Common.{list_all, max, nat_cmp, nat_le, nat_lt, nat_tests, ordering_then, position_or_len_is}
use Rattle.sc_alloc.proofs.Common.{refl, same_Some, slice_get, slice_get-get_or, slice_get_within, slot_for}
use Rattle.sc_alloc.proofs.Common.{soonest_first, subst, suc, sum_by-cons, sum_by_popped, sum_by_pushed, sym, true}
use Rattle.sc_alloc.proofs.Common.{with_slot, zero, ℕ, ⊎_elim, ◌&&◌, ◌+◌, ◌<◌, ◌∙◌, ◌∷◌, ◌≡◌, ◌≢◌, ◌≤◌}
use Rattle.std.proofs.lemmas.List.Folds.{list_all_at}
use Rattle.sc_alloc.proofs.Lists.{all_at}
use Rattle.sc_alloc.proofs.FreeSlots.{counts_none, is_none, is_one, none_of, one_of}

by_last : (xl xs yl ys : ℕ) → is_lt (ordering_then (nat_cmp yl xl) (nat_cmp ys xs)) ≡ false → xl ≤ yl
by_last xl xs yl ys not = grind (arith, nat_tests)

by_slot : (xl xs yl ys : ℕ) → is_lt (ordering_then (nat_cmp yl xl) (nat_cmp ys xs)) ≡ false → yl ≡ xl → xs ≤ ys
by_slot xl xs yl ys not same = grind (arith, nat_tests)

-- which of two slots comes first
not_before : (x y : Reverse SlotEnd) → is_lt (soonest_first x y) ≡ false →
    (x.0.last ≤ y.0.last) × (y.0.last ≡ x.0.last → x.0.slot ≤ y.0.slot)
not_before x y not =
    (by_last x.0.last x.0.slot y.0.last y.0.slot not, by_slot x.0.last x.0.slot y.0.last y.0.slot not)

-- where one of the heap has this slot
entry : (slot : ℕ) (ends : List (Reverse SlotEnd)) → count_by (is_of slot) ends ≡ 1 →
    (i : ℕ) × (i < length ends) × ((d : Reverse SlotEnd) → (get_or ends i d).0.slot ≡ slot)
entry slot [] one = absurd (omega (arith, one))
entry slot (end ∷ ends) one = ⊎_elim
    (λ same. (0, omega arith, λ d. same))
    (λ other. (let split : count_by (is_of slot) (end ∷ ends) ≡ one_of slot end + count_by (is_of slot) ends =
    sum_by-cons (one_of slot) end ends in
    let e = entry slot ends (omega (arith, one, split, is_none slot end other)) in
    (suc e.0, omega (arith, e.1), e.2)))
    (cases_eq end.0.slot slot)

abbrev IsEnd : List ℕ → Reverse SlotEnd → Type 0
IsEnd slots end = slice_get slots end.0.slot ≡ Some end.0.last

abbrev pub IsTop : Reverse SlotEnd → List (Reverse SlotEnd) → Type 0
IsTop x ends = All (λ y. is_lt (soonest_first x y) ≡ false) ends

-- no slot is free sooner than the top, and none of those that are free with it has a lower number
lowest : (slots : List ℕ) (ends : List (Reverse SlotEnd)) (count : ℕ) (x : Reverse SlotEnd) → HasEnds slots ends count →
    IsTop x ends → (j l : ℕ) → slice_get slots j ≡ Some l →
    (x.0.last ≤ l) × (l ≡ x.0.last → x.0.slot ≤ j)
lowest slots ends count x has top j l at =
    (let e = entry j ends (has.once j (slice_get_within slots j l at)) in
    let y = get_or ends e.0 x in
    let same : y.0.slot ≡ j = e.2 x in
    let its : slice_get slots y.0.slot ≡ Some y.0.last = has.each e.0 x e.1 in
    let last : l ≡ y.0.last = same_Some l y.0.last (sym at ∙ ap (slice_get slots) (sym same) ∙ its) in
    let b = not_before x y (top e.0 x e.1) in
    (omega (arith, b.0, last), λ q. omega (arith, b.1 (sym last ∙ q), same)))

from_first : (a b : Bool) → a ≡ false → (a && b) ≡ false
from_first true b one = absurd (cc one)
from_first false b one = refl

module _ (slots : List ℕ) (at : ℕ) where
  -- no slot is free
  pub none_free : ((j l : ℕ) → slice_get slots j ≡ Some l → at ≤ l) → slot_for at slots ≡ length slots
  none_free late = position_or_len_is (is_soonest at slots) slots (length slots) 0 (omega arith)
      (λ k less. (let l = get_or slots k 0 in
      let on : at ≤ l = late k l (slice_get-get_or slots k 0 less) in
      from_first (nat_lt l at) (list_all (nat_le l) slots) (grind (arith, nat_tests))))
      (λ less. absurd (omega arith))

  -- the top is the slot for what begins after its end
  module _ (ends : List (Reverse SlotEnd)) (count : ℕ) (x : Reverse SlotEnd) (has : HasEnds slots ends count)
      (top : IsTop x ends) (its : slice_get slots x.0.slot ≡ Some x.0.last) where
    pub soonest_is : x.0.last < at → slot_for at slots ≡ x.0.slot
    soonest_is over = (let own : x.0.slot < length slots = slice_get_within slots x.0.slot x.0.last its in
        let here : get_or slots x.0.slot 0 ≡ x.0.last = get_or_from_slice_get slots x.0.slot x.0.last 0 its in
        position_or_len_is (is_soonest at slots) slots x.0.slot 0 (omega (arith, own))
        (λ k less. (let l = get_or slots k 0 in
        let low = lowest slots ends count x has top k l (slice_get-get_or slots k 0 (omega (arith, own, less))) in
        let above : x.0.last < l = ⊎_elim (λ e. absurd (let q : x.0.slot ≤ k = low.1 e in omega (arith, q, less)))
        (λ ne. omega (arith, low.0, ne)) (cases_eq l x.0.last) in
        and_right (nat_lt l at) (list_all (nat_le l) slots)
        (list_all_at (nat_le l) slots x.0.slot 0 own
        (subst (λ last. nat_le l last ≡ false) (sym here) (grind (arith, nat_tests))))))
        (λ less. subst (λ last. is_soonest at slots last ≡ true) (sym here)
        (and_from (nat_lt x.0.last at) (list_all (nat_le x.0.last) slots) (grind (arith, nat_tests))
        (all_at (nat_le x.0.last) slots
        (λ j l get. (let low = lowest slots ends count x has top j l get in grind (arith, nat_tests)))))))

    pub late : at ≤ x.0.last → slot_for at slots ≡ length slots
    late on = none_free (λ j l get. (let low = lowest slots ends count x has top j l get in omega (arith, low.0, on)))

-- without the top, the slots lack its own
pub left : (slots : List ℕ) (ends rest : List (Reverse SlotEnd)) (count : ℕ) (x : Reverse SlotEnd) →
    HasEnds slots ends count → IsPermutation ends (x ∷ rest) → IsHeap soonest_first rest →
    slice_get slots x.0.slot ≡ Some x.0.last → LacksOne slots rest count x.0.slot
left slots ends rest count x has moved ordered its =
    (let own : x.0.slot < length slots = slice_get_within slots x.0.slot x.0.last its in
    let fewer = λ (slot : ℕ). sum_by_popped (one_of slot) x ends rest moved in
    record {
      within = omega (arith, own);
      all = omega (arith, has.all, own);
      ordered = ordered;
      out = none_of x.0.slot rest
          (omega (arith, fewer x.0.slot, has.once x.0.slot own, is_one x.0.slot x refl));
      each = All-tail (IsEnd slots) x rest (All-permutation (IsEnd slots) ends (x ∷ rest) moved has.each);
      once = λ slot less other. omega (arith, fewer slot, has.once slot less, is_none slot x (λ e. other (sym e)));
    })

-- a new slot is out
pub new_out : (slots : List ℕ) (ends : List (Reverse SlotEnd)) (count : ℕ) → HasEnds slots ends count →
    LacksOne slots ends (suc count) count
new_out slots ends count has = record {
  within = omega (arith, has.all);
  all = omega (arith, has.all);
  ordered = has.ordered;
  out = λ k d less same. omega (
    arith,
    has.all,
    same,
    slice_get_within slots (get_or ends k d).0.slot (get_or ends k d).0.last
        (has.each k d less),
  );
  each = has.each;
  once = λ slot less other. has.once slot less;
}

length_with : (slots : List ℕ) (k last : ℕ) → k ≤ length slots →
    length (with_slot slots k last) ≡ max (length slots) (suc k)
length_with [] zero last le = refl
length_with [] (suc k) last le = absurd (omega (arith, le))
length_with (x ∷ slots) zero last le = omega arith
length_with (x ∷ slots) (suc k) last le = (let h = length_with slots k last (omega (arith, le)) in omega (arith, h))

at_own : (slots : List ℕ) (k last : ℕ) → k ≤ length slots → slice_get (with_slot slots k last) k ≡ Some last
at_own [] zero last le = refl
at_own [] (suc k) last le = absurd (omega (arith, le))
at_own (x ∷ slots) zero last le = refl
at_own (x ∷ slots) (suc k) last le = at_own slots k last (omega (arith, le))

at_other : (slots : List ℕ) (k j last : ℕ) → k ≤ length slots → j ≢ k →
    slice_get (with_slot slots k last) j ≡ slice_get slots j
at_other [] zero zero last le other = absurd (other refl)
at_other [] zero (suc j) last le other = refl
at_other [] (suc k) j last le other = absurd (omega (arith, le))
at_other (x ∷ slots) zero zero last le other = absurd (other refl)
at_other (x ∷ slots) zero (suc j) last le other = refl
at_other (x ∷ slots) (suc k) zero last le other = refl
at_other (x ∷ slots) (suc k) (suc j) last le other =
    at_other slots k j last (omega (arith, le)) (λ same. other (ap suc same))

-- the slot that was out comes back
pub come_back : (slots : List ℕ) (ends new : List (Reverse SlotEnd)) (count last slot : ℕ) →
    LacksOne slots ends count slot → IsPermutation (record { 0 = record { last = last; slot = slot } } ∷ ends) new →
    IsHeap soonest_first new → HasEnds (with_slot slots slot last) new count
come_back slots ends new count last slot lacks moved ordered =
    (let its : Reverse SlotEnd = record { 0 = record { last = last; slot = slot } } in
    let more = λ (k : ℕ). sum_by_pushed (one_of k) its ends new moved in
    let size = length_with slots slot last lacks.within in
    record {
      all = lacks.all ∙ sym size;
      ordered = ordered;
      each = All-permutation (IsEnd (with_slot slots slot last)) (its ∷ ends) new moved
          (All-cons (IsEnd (with_slot slots slot last)) its ends (at_own slots slot last lacks.within)
          (λ k d less. at_other slots slot (get_or ends k d).0.slot last lacks.within (lacks.out k d less) ∙
          lacks.each k d less));
      once = λ k less. ⊎_elim
          (λ same. (let none : count_by (is_of slot) ends ≡ 0 = counts_none slot ends lacks.out in
          let none_k : count_by (is_of k) ends ≡ 0 = subst (λ k. count_by (is_of k) ends ≡ 0) same none in
          omega (arith, more k, none_k, is_one k its same)))
          (λ other. omega (
            arith,
            more k,
            is_none k its other,
            lacks.once k (omega (arith, less, size, other)) (λ same. other (sym same)),
          ))
          (cases_eq slot k);
    })
