-- The places in the order of the temporaries' numbers.
use Rattle.sc_alloc.proofs.Common.{All, All-permutation, AreIntervals, ArePlaced, Contains-permutation, Interval}
use Rattle.sc_alloc.proofs.Common.{IsPermutation, IsPermutation-map, IsPermutation-sym, IsPermutation-trans, List}
use Rattle.sc_alloc.proofs.Common.{Place, Placement, Some, ap, arith, cases_eq, cases_lt, eq-eqb, get_or}
use Rattle.sc_alloc.proofs.Common.{get_or_from_slice_get, is_there, length, length_permutation, map, option_map, refl}
use Rattle.sc_alloc.proofs.Common.{slice_get, slice_get-get_or, slice_get-map, slice_get_past, sorted_by, suc, sym}
use Rattle.sc_alloc.proofs.Common.{zero, ℕ, ⊎_elim, ◌+◌, ◌-◌, ◌<◌, ◌∙◌, ◌≡◌, ◌≢◌, ◌≤◌}
use Rattle.std.proofs.lemmas.List.{length-map}
use Rattle.sc_alloc.proofs.Assignment.{contained, container, few, intervals_of, mapped_at, numbered}
use Rattle.sc_alloc.proofs.Counts.{has_temp, only}
use Rattle.sc_alloc.proofs.Lists.{same_all}
use Rattle.sc_alloc.proofs.Sorting.{sorted_moved, sorted_up}

abbrev pub temp_of : Placement → ℕ
temp_of g = g.interval.temp

abbrev pub place_of : Placement → Place
place_of g = g.place

module _ (intervals : List Interval) (placements : List Placement) (are : AreIntervals intervals)
    (moved : IsPermutation intervals (intervals_of placements)) where
  abbrev ordered : List Placement
  ordered = sorted_by temp_of placements

  all_moved : IsPermutation intervals (intervals_of ordered)
  all_moved = IsPermutation-trans intervals (intervals_of placements) (intervals_of ordered) moved
      (IsPermutation-map (λ (g : Placement). g.interval) placements ordered (sorted_moved temp_of placements))

  as_long : length ordered ≡ length placements
  as_long = length_permutation placements ordered (sorted_moved temp_of placements)

  at : (i : ℕ) (d : Placement) → i < length ordered →
      slice_get (intervals_of ordered) i ≡ Some (get_or ordered i d).interval
  at i d less = mapped_at intervals ordered are all_moved i (get_or ordered i d) (slice_get-get_or ordered i d less)

  distinct : (i j : ℕ) (d : Placement) → i < length ordered → j < length ordered →
      temp_of (get_or ordered i d) ≡ temp_of (get_or ordered j d) → i ≡ j
  distinct i j d less also same =
      (let t = temp_of (get_or ordered i d) in
      only (has_temp t) (intervals_of ordered) i j (get_or ordered i d).interval (get_or ordered j d).interval
      (few intervals ordered are all_moved t) (at i d less) (at j d also) (eq-eqb t t refl)
      (eq-eqb (temp_of (get_or ordered j d)) t (sym same)))

  rises : (i : ℕ) (d : Placement) → suc i < length ordered →
      temp_of (get_or ordered i d) < temp_of (get_or ordered (suc i) d)
  rises i d less =
      (let le : temp_of (get_or ordered i d) ≤ temp_of (get_or ordered (suc i) d) =
      sorted_up temp_of placements i (suc i) d (omega arith) less in
      let other : temp_of (get_or ordered i d) ≢ temp_of (get_or ordered (suc i) d) =
      λ same. (let e : i ≡ suc i = distinct i (suc i) d (omega (arith, less)) less same in omega (arith, e)) in
      omega (arith, le, other))

  rises_by : (j i : ℕ) (d : Placement) → i ≤ j → j < length ordered →
      temp_of (get_or ordered i d) + j ≤ temp_of (get_or ordered j d) + i
  rises_by zero i d le less =
      (let same : i ≡ 0 = omega (arith, le) in
      omega (arith, same, ap (λ k. temp_of (get_or ordered k d)) same))
  rises_by (suc j) i d le less = ⊎_elim
      (λ same. omega (arith, same, ap (λ k. temp_of (get_or ordered k d)) same))
      (λ other. omega (arith, rises j d less, rises_by j i d (omega (arith, le, other)) (omega (arith, less))))
      (cases_eq i (suc j))

  all_below : All (λ (g : Placement). temp_of g < length placements) ordered
  all_below = All-permutation (λ (g : Placement). temp_of g < length placements) placements ordered
      (sorted_moved temp_of placements)
      (λ k d less. (numbered intervals placements are moved).below k (get_or placements k d)
      (slice_get-get_or placements k d less))

  own_temp : (i : ℕ) (d : Placement) → i < length ordered → temp_of (get_or ordered i d) ≡ i
  own_temp i d less =
      (let low = rises_by i 0 d (omega arith) less in
      let end : length ordered - 1 < length ordered = omega (arith, less) in
      let high = rises_by (length ordered - 1) i d (omega (arith, less)) end in
      let below : temp_of (get_or ordered (length ordered - 1) d) < length placements =
      all_below (length ordered - 1) d end in
      omega (arith, low, high, below, as_long, less))

  module _ (places : List Place) (placed : ArePlaced placements places) where
    found : (i : ℕ) (g : Placement) → slice_get ordered i ≡ Some g → i < length ordered →
        slice_get (map place_of ordered) i ≡ slice_get places i
    found i g its less =
        (let c = Contains-permutation ordered placements g
        (IsPermutation-sym placements ordered (sorted_moved temp_of placements)) (contained ordered i g its) in
        let here : slice_get places (temp_of g) ≡ Some g.place = placed.at c.0 g (container placements g c) in
        let own : temp_of g ≡ i =
        ap temp_of (sym (get_or_from_slice_get ordered i g g its)) ∙ own_temp i g less in
        slice_get-map place_of ordered i ∙ ap (option_map place_of) its ∙ sym here ∙ ap (slice_get places) own)

    pub by_temps : places ≡ map place_of ordered
    by_temps = sym (same_all (map place_of ordered) places
        (λ i. ⊎_elim
        (λ less. (let g = is_there ordered i less in found i g.0 g.1 less))
        (λ past. slice_get_past (map place_of ordered) i (omega (arith, length-map ordered place_of, past)) ∙
        sym (slice_get_past places i (omega (arith, placed.each, as_long, past))))
        (cases_lt i (length ordered))))
