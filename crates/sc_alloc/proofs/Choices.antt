-- What an interval's place keeps, and what all keep with it.
use Rattle.sc_alloc.proofs.Common.{AllBegun, AllOver, AreFair, Interval, IsFair, IsInUse, IsInUseWithin}
use Rattle.sc_alloc.proofs.Common.{IsNonDecreasingBy, List, Place, Placement, Register, Slot, Some, [], ap, arith}
use Rattle.sc_alloc.proofs.Common.{false, get_or, get_or_from_slice_get, length, map, option_map, refl, register_count}
use Rattle.sc_alloc.proofs.Common.{slice_get, slice_get-map, slice_get_within, subst, suc, sym, take, true, with_place}
use Rattle.sc_alloc.proofs.Common.{zero, ℕ, ⊎_elim, ◌++◌, ◌<◌, ◌∙◌, ◌∷◌, ◌≡◌, ◌≤◌, ◌⊎◌}
use Rattle.sc_alloc.proofs.Lists.{get_pushed}
use Rattle.sc_alloc.proofs.FreeRegisters.{in_use_kept}

pub register_fair : (placements : List Placement) (x : Interval) (r : ℕ) → AllOver placements (Register r) x.first →
    x.spans_call ≡ false → IsFair placements x (Register r)
register_fair placements x r free none = record {
  free = free;
  over_calls = λ call. absurd (cc);
  spared = λ _ k same. absurd (cc same);
}

pub slot_fair : (placements : List Placement) (x : Interval) (k : ℕ) → AllOver placements (Slot k) x.first →
    (x.spans_call ≡ false → (r : ℕ) → r < register_count → IsInUse placements r x.first) → IsFair placements x (Slot k)
slot_fair placements x k free in_use = record {
  free = free;
  over_calls = λ call. (k, refl);
  spared = λ none other same. in_use none;
}

within_kept : (placements more : List Placement) (r at : ℕ) → IsInUseWithin placements r at →
    IsInUseWithin (placements ++ more) r at
within_kept placements more r at h = (in_use_kept placements more r at h.0, h.1)

module _ (placements : List Placement) (x : Interval) (place : Place) (fair : AreFair placements)
    (begun : AllBegun placements x.first)
    (own : IsFair placements x place) where
  abbrev its : Placement
  its = record { interval = x; place = place }

  abbrev more : List Placement
  more = with_place placements x place

  apart_from : (i j : ℕ) (g h : Placement) → i < j → slice_get more i ≡ Some g → g.place ≡ h.place →
      (slice_get placements j ≡ Some h) ⊎ ((j ≡ length placements) × (its ≡ h)) → g.interval.last < h.interval.first
  apart_from i j g h less at same later = ⊎_elim
      (λ old. ⊎_elim
      (λ before. fair.apart i j g h less before old same)
      (λ is. absurd (let le : j < length placements =
      slice_get_within placements j h old in omega (arith, less, is.0, le)))
      (get_pushed placements its g i at))
      (λ new. ⊎_elim
      (λ before. subst (λ (h : Placement). g.place ≡ h.place → g.interval.last < h.interval.first) new.1
      (own.free i g before) same)
      (λ is. absurd (omega (arith, less, is.0, new.0)))
      (get_pushed placements its g i at))
      later

  pub fair_pushed : AreFair more
  fair_pushed = record {
    apart = λ i j g h less at other same. apart_from i j g h less at same (get_pushed placements its h j other);
    over_calls = λ i g at. ⊎_elim
        (λ old. fair.over_calls i g old)
        (λ is. subst (λ (g : Placement). g.interval.spans_call ≡ true → (k : ℕ) × (g.place ≡ Slot k)) is.1
        own.over_calls)
        (get_pushed placements its g i at);
    spared = λ i g at. ⊎_elim
        (λ old none k same r less.
        within_kept placements (its ∷ []) r g.interval.first (fair.spared i g old none k same r less))
        (λ is. subst (λ (g : Placement). g.interval.spans_call ≡ false → (k : ℕ) → g.place ≡ Slot k → (r : ℕ) →
        r < register_count → IsInUseWithin more r g.interval.first) is.1
        (λ none k same r less. (let in_use = own.spared none k same r less in
        within_kept placements (its ∷ []) r x.first (in_use, begun in_use.by in_use.holder in_use.its))))
        (get_pushed placements its g i at);
  }

get_taken : {A : Type 0} (xs : List A) (n i : ℕ) (x : A) → slice_get (take n xs) i ≡ Some x →
    (i < n) × (slice_get xs i ≡ Some x)
get_taken xs zero i x e = absurd (cc e)
get_taken [] (suc n) i x e = absurd (cc e)
get_taken (z ∷ xs) (suc n) zero x e = (omega arith, e)
get_taken (z ∷ xs) (suc n) (suc i) x e = (let h = get_taken xs n i x e in (omega (arith, h.0), h.1))

-- those that got a place come before the next one in the order
pub begun_before : (placements : List Placement) (order : List Interval) (n : ℕ) (x : Interval) →
    map (λ (g : Placement). g.interval) placements ≡ take n order →
    IsNonDecreasingBy (λ (x : Interval). x.first) order →
    n < length order → AllBegun placements (get_or order n x).first
begun_before placements order n x same rising less i g at =
    (let its : slice_get (take n order) i ≡ Some g.interval =
    ap (λ xs. slice_get xs i) (sym same) ∙ slice_get-map (λ (g : Placement). g.interval) placements i ∙
    ap (option_map (λ (g : Placement). g.interval)) at in
    let h = get_taken order n i g.interval its in
    let low : (get_or order i x).first ≤ (get_or order n x).first = rising i n x (omega (arith, h.0)) less in
    let is : (get_or order i x).first ≡ g.interval.first =
    ap (λ (x : Interval). x.first) (get_or_from_slice_get order i g.interval x h.1) in
    omega (arith, low, is))
