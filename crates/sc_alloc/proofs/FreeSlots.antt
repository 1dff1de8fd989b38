-- A slot that is taken, and one that is given.
use Rattle.sc_alloc.proofs.Common.{All, All-cons, All-nil, All-permutation, All-tail, AllOver, AreSlots, IfNone, IfSome}
use Rattle.sc_alloc.proofs.Common.{Interval, IsOut, IsPermutation, List, None, Option, Placement, Register, Reverse}
use Rattle.sc_alloc.proofs.Common.{Slot, SlotEnd, Some, [], ap, arith, cases_eq, cond, count_by, eq-eqb, get_or, is_of}
use Rattle.sc_alloc.proofs.Common.{length, length-append, length_permutation, ne_eqb, refl, subst, suc, sum_by-cons}
use Rattle.sc_alloc.proofs.Common.{sum_by_popped, sum_by_pushed, sym, with_place, ℕ, ⊎_elim, ◌+◌, ◌<◌, ◌∙◌, ◌∷◌, ◌≡◌}
use Rattle.sc_alloc.proofs.Common.{◌≢◌, ◌≤◌}
use Rattle.sc_alloc.proofs.Lists.{get_pushed}
use Rattle.sc_alloc.proofs.FreeRegisters.{all_over_pushed}

abbrev pub one_of : ℕ → Reverse SlotEnd → ℕ
one_of slot end = cond (is_of slot end) 1 0

abbrev pub IsOther : ℕ → Reverse SlotEnd → Type 0
IsOther slot end = end.0.slot ≢ slot

pub is_one : (slot : ℕ) (end : Reverse SlotEnd) → end.0.slot ≡ slot → one_of slot end ≡ 1
is_one slot end same = rw (eq-eqb end.0.slot slot same) refl

pub is_none : (slot : ℕ) (end : Reverse SlotEnd) → end.0.slot ≢ slot → one_of slot end ≡ 0
is_none slot end other = rw (ne_eqb end.0.slot slot other) refl

pub none_of : (slot : ℕ) (ends : List (Reverse SlotEnd)) → count_by (is_of slot) ends ≡ 0 → All (IsOther slot) ends
none_of slot [] h = All-nil (IsOther slot)
none_of slot (end ∷ ends) h =
    (let split : count_by (is_of slot) (end ∷ ends) ≡ one_of slot end + count_by (is_of slot) ends =
    sum_by-cons (one_of slot) end ends in
    All-cons (IsOther slot) end ends (λ same. omega (arith, h, split, is_one slot end same))
    (none_of slot ends (omega (arith, h, split))))

pub counts_none : (slot : ℕ) (ends : List (Reverse SlotEnd)) → All (IsOther slot) ends → count_by (is_of slot) ends ≡ 0
counts_none slot [] h = refl
counts_none slot (end ∷ ends) h =
    (let split : count_by (is_of slot) (end ∷ ends) ≡ one_of slot end + count_by (is_of slot) ends =
    sum_by-cons (one_of slot) end ends in
    let rest : count_by (is_of slot) ends ≡ 0 = counts_none slot ends (All-tail (IsOther slot) end ends h) in
    omega (arith, split, rest, is_none slot end (h 0 end (omega arith))))

abbrev IsBelow : ℕ → Reverse SlotEnd → Type 0
IsBelow count end = end.0.slot < count

abbrev IsLast : List Placement → Reverse SlotEnd → Type 0
IsLast placements end = AllOver placements (Slot end.0.slot) (suc end.0.last)

-- the slot that is over first is taken where it is over
module _ (placements : List Placement) (ends rest : List (Reverse SlotEnd)) (end : Reverse SlotEnd) (count at : ℕ)
    (slots : AreSlots placements ends count) (moved : IsPermutation ends (end ∷ rest)) (ended : end.0.last < at) where
  over_all : All (IsLast placements) (end ∷ rest)
  over_all = All-permutation (IsLast placements) ends (end ∷ rest) moved slots.knows.over

  below_all : All (IsBelow count) (end ∷ rest)
  below_all = All-permutation (IsBelow count) ends (end ∷ rest) moved slots.knows.below

  fewer : (slot : ℕ) → count_by (is_of slot) rest + one_of slot end ≤ 1
  fewer slot = (let e : count_by (is_of slot) rest + one_of slot end ≡ count_by (is_of slot) ends =
      sum_by_popped (one_of slot) end ends rest moved in
      omega (arith, e, slots.knows.once slot))

  pub taken : IsOut placements rest count at end.0.slot
  taken = record {
    few = omega (arith, slots.few);
    knows = record {
      once = λ slot. omega (arith, fewer slot);
      below = All-tail (IsBelow count) end rest below_all;
      known = slots.knows.known;
      over = All-tail (IsLast placements) end rest over_all;
    };
    own = below_all 0 end (omega arith);
    out = none_of end.0.slot rest (omega (arith, fewer end.0.slot, is_one end.0.slot end refl));
    free = λ i g get same. (let h : g.interval.last < suc end.0.last = over_all 0 end (omega arith) i g get same in
        omega (arith, h, ended));
  }

-- a new one is taken
pub fresh : (placements : List Placement) (ends : List (Reverse SlotEnd)) (count at : ℕ) →
    AreSlots placements ends count →
    IsOut placements ends (suc count) at count
fresh placements ends count at slots = record {
  few = omega (arith, slots.few);
  knows = record {
    once = slots.knows.once;
    below = λ k d lt. omega (arith, slots.knows.below k d lt);
    known = λ i slot g get same. omega (arith, slots.knows.known i slot g get same);
    over = slots.knows.over;
  };
  own = omega arith;
  out = λ k d lt same. omega (arith, slots.knows.below k d lt, same);
  free = λ i g get same. absurd (omega (arith, slots.knows.known i count g get same));
}

-- the slot that was taken is given
module _ (placements : List Placement) (x : Interval) (ends new : List (Reverse SlotEnd)) (count slot : ℕ)
    (taken : IsOut placements ends count x.first slot) (ordered : x.first ≤ x.last) where
  abbrev its : Reverse SlotEnd
  its = record { 0 = record { last = x.last; slot = slot } }

  abbrev more : List Placement
  more = with_place placements x (Slot slot)

  module _ (moved : IsPermutation (its ∷ ends) new) where
    once_here : (k : ℕ) → one_of k its + count_by (is_of k) ends ≤ 1
    once_here k = ⊎_elim
        (λ same. (let none : count_by (is_of slot) ends ≡ 0 = counts_none slot ends taken.out in
        let none_k : count_by (is_of k) ends ≡ 0 = subst (λ k. count_by (is_of k) ends ≡ 0) same none in
        omega (arith, none_k, is_one k its same)))
        (λ other. omega (arith, taken.knows.once k, is_none k its other))
        (cases_eq slot k)

    over_here : IsLast more its
    over_here = all_over_pushed placements x (Slot slot) (Slot slot) (suc x.last)
        (λ i g get same. (let h : g.interval.last < x.first = taken.free i g get same in omega (arith, h, ordered)))
        (λ same. omega arith)

    over_rest : All (IsLast more) ends
    over_rest = λ k d lt. all_over_pushed placements x (Slot slot) (Slot (get_or ends k d).0.slot)
        (suc (get_or ends k d).0.last) (taken.knows.over k d lt) (λ same. absurd (taken.out k d lt (cc same)))

    pub slot_given : AreSlots more new count
    slot_given = record {
      few = omega (arith, taken.few, length-append placements (record { interval = x; place = Slot slot } ∷ []));
      knows = record {
        once = λ k. (let e : count_by (is_of k) new ≡ one_of k its + count_by (is_of k) ends =
            sum_by_pushed (one_of k) its ends new moved in
            omega (arith, e, once_here k));
        below = All-permutation (IsBelow count) (its ∷ ends) new moved
            (All-cons (IsBelow count) its ends taken.own taken.knows.below);
        known = λ i k g get same. ⊎_elim
            (λ old. taken.knows.known i k g old same)
            (λ is. (let e : slot ≡ k = (let p : Slot slot ≡ g.place = ap (λ (g : Placement). g.place) is.1 in cc) in
            subst (λ k. k < count) e taken.own))
            (get_pushed placements (record { interval = x; place = Slot slot }) g i get);
        over = All-permutation (IsLast more) (its ∷ ends) new moved
            (All-cons (IsLast more) its ends over_here over_rest);
      };
    }

-- an interval that gets a register leaves slots as they are
pub slots_kept : (placements : List Placement) (x : Interval) (ends : List (Reverse SlotEnd)) (count r : ℕ) →
    AreSlots placements ends count → AreSlots (with_place placements x (Register r)) ends count
slots_kept placements x ends count r slots = record {
  few = omega (arith, slots.few, length-append placements (record { interval = x; place = Register r } ∷ []));
  knows = record {
    once = slots.knows.once;
    below = slots.knows.below;
    known = λ i k g get same. ⊎_elim
        (λ old. slots.knows.known i k g old same)
        (λ is. absurd (let p : Register r ≡ g.place = ap (λ (g : Placement). g.place) is.1 in cc))
        (get_pushed placements (record { interval = x; place = Register r }) g i get);
    over = λ k d lt. all_over_pushed placements x (Register r) (Slot (get_or ends k d).0.slot)
        (suc (get_or ends k d).0.last) (slots.knows.over k d lt) (λ same. absurd (cc same));
  };
}

-- what is said of what `pop` takes, where `peek` saw it
pub popped : (P : Reverse SlotEnd → Type 0) (result : Option (Reverse SlotEnd)) (ends rest : List (Reverse SlotEnd))
    (count : ℕ) (top : Reverse SlotEnd) → IfNone result (count ≡ 0) → 0 < count →
    IfSome result (λ x. x ≡ get_or ends 0 x) → IfSome result (λ x. IsPermutation ends (x ∷ rest)) →
    top ≡ get_or ends 0 top → IfSome result P → P top
popped P None ends rest count top none some first moved is said = absurd (omega (arith, none, some))
popped P (Some x) [] rest count top none some first moved is said =
    absurd (let same : suc (length rest) ≡ 0 = length_permutation [] (x ∷ rest) moved in omega (arith, same))
popped P (Some x) (z ∷ ends) rest count top none some first moved is said = subst P (first ∙ sym is) said
