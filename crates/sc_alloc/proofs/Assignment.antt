-- Places that were given fairly are an assignment, and a sparing one.
use Rattle.sc_alloc.proofs.Common.{All, All-permutation, AreFair, AreIntervals, AreKnown, AreNumbered, ArePlaced}
use Rattle.sc_alloc.proofs.Common.{ArePlaces, Contains, Contains-permutation, Interval, IsAssignment, IsPermutation}
use Rattle.sc_alloc.proofs.Common.{IsPermutation-sym, IsSparing, IsTrue, List, Place, Placement, Slot, Some, [], ap}
use Rattle.sc_alloc.proofs.Common.{arith, cases_order, count_by, eq-eqb, get_or, get_or_from_slice_get, is_place}
use Rattle.sc_alloc.proofs.Common.{is_there, length, length_permutation, map, option_map, refl, same_Some, slice_get}
use Rattle.sc_alloc.proofs.Common.{slice_get-get_or, slice_get-map, slice_get_within, subst, suc, sum_by-IsPermutation}
use Rattle.sc_alloc.proofs.Common.{sym, zero, ℕ, ⊎_elim, ◌<◌, ◌∙◌, ◌∷◌, ◌≡◌, ◌≤◌}
use Rattle.sc_alloc.proofs.Counts.{has_temp, once_from, one, only}
use Rattle.sc_alloc.proofs.Lists.{all_at}

abbrev interval_of : Placement → Interval
interval_of g = g.interval

abbrev pub intervals_of : List Placement → List Interval
intervals_of placements = map interval_of placements

as_many : (placements : List Placement) → length (intervals_of placements) ≡ length placements
as_many [] = refl
as_many (g ∷ placements) = ap suc (as_many placements)

pub contained : {A : Type 0} (xs : List A) (i : ℕ) (x : A) → slice_get xs i ≡ Some x → Contains xs x
contained xs i x at = (i, slice_get_within xs i x at, get_or_from_slice_get xs i x x at)

pub container : {A : Type 0} (xs : List A) (x : A) (c : Contains xs x) → slice_get xs c.0 ≡ Some x
container xs x c = slice_get-get_or xs c.0 x c.1 ∙ ap Some c.2

unmapped : (placements : List Placement) (i : ℕ) (x : Interval) → slice_get (intervals_of placements) i ≡ Some x →
    (g : Placement) × (slice_get placements i ≡ Some g) × (g.interval ≡ x)
unmapped [] i x at = absurd (cc at)
unmapped (g ∷ placements) zero x at = (g, refl, same_Some g.interval x at)
unmapped (g ∷ placements) (suc i) x at = unmapped placements i x at

-- intervals in order keep what all keep
pub all_ordered : (intervals order : List Interval) → AreIntervals intervals → IsPermutation intervals order →
    All (λ (x : Interval). x.first ≤ x.last) order
all_ordered intervals order are moved =
    All-permutation (λ (x : Interval). x.first ≤ x.last) intervals order moved
    (λ k d less. are.ordered k (get_or intervals k d) (slice_get-get_or intervals k d less))

-- what was sorted is the order in which places were given
pub moved_to : (intervals taken order sorted : List Interval) (placements : List Placement) → taken ≡ intervals →
    IsPermutation taken order → sorted ≡ order → intervals_of placements ≡ sorted →
    IsPermutation intervals (intervals_of placements)
moved_to intervals taken order sorted placements same moved is each =
    subst (IsPermutation intervals) (sym (each ∙ is)) (subst (λ xs. IsPermutation xs order) same moved)

module _ (intervals : List Interval) (placements : List Placement) (are : AreIntervals intervals)
    (moved : IsPermutation intervals (intervals_of placements)) where
  size : length placements ≡ length intervals
  size = sym (as_many placements) ∙ length_permutation intervals (intervals_of placements) moved

  back : (i : ℕ) (g : Placement) → slice_get placements i ≡ Some g →
      slice_get intervals g.interval.temp ≡ Some g.interval
  back i g at =
      (let mapped : slice_get (intervals_of placements) i ≡ Some g.interval =
      slice_get-map interval_of placements i ∙ ap (option_map interval_of) at in
      let c = Contains-permutation (intervals_of placements) intervals g.interval
      (IsPermutation-sym intervals (intervals_of placements) moved)
      (contained (intervals_of placements) i g.interval mapped) in
      let its : slice_get intervals c.0 ≡ Some g.interval = container intervals g.interval c in
      subst (λ t. slice_get intervals t ≡ Some g.interval) (sym (are.numbered c.0 g.interval its)) its)

  pub few : (t : ℕ) → count_by (has_temp t) (intervals_of placements) ≤ 1
  few t =
      (let same : count_by (has_temp t) (intervals_of placements) ≡ count_by (has_temp t) intervals =
      sum_by-IsPermutation (one (has_temp t)) intervals (intervals_of placements) moved in
      let once : count_by (has_temp t) intervals ≤ 1 =
      once_from t 0 intervals (λ i x at. omega (arith, are.numbered i x at)) in
      omega (arith, same, once))

  pub mapped_at : (i : ℕ) (g : Placement) → slice_get placements i ≡ Some g →
      slice_get (intervals_of placements) i ≡ Some g.interval
  mapped_at i g at = slice_get-map interval_of placements i ∙ ap (option_map interval_of) at

  pub numbered : AreNumbered placements
  numbered = record {
    below = λ i g at. omega (arith, size, slice_get_within intervals g.interval.temp g.interval (back i g at));
    once = λ i j g h at other same. only (has_temp g.interval.temp) (intervals_of placements) i j g.interval h.interval
        (few g.interval.temp) (mapped_at i g at) (mapped_at j h other) (eq-eqb g.interval.temp g.interval.temp refl)
        (eq-eqb h.interval.temp g.interval.temp (sym same));
  }

  module _ (places : List Place) (fair : AreFair placements) (known : AreKnown placements)
      (placed : ArePlaced placements places) where
    -- what an interval was given
    record Found (t : ℕ) (x : Interval) : Type 0 where
      by : ℕ
      g : Placement
      at : slice_get placements by ≡ Some g
      is : g.interval ≡ x
      place : slice_get places t ≡ Some g.place

    found : (t : ℕ) (x : Interval) → slice_get intervals t ≡ Some x → Found t x
    found t x at =
        (let c = Contains-permutation intervals (intervals_of placements) x moved (contained intervals t x at) in
        let u = unmapped placements c.0 x (container (intervals_of placements) x c) in
        record {
          by = c.0;
          g = u.0;
          at = u.1;
          is = u.2;
          place = subst (λ t. slice_get places t ≡ Some u.0.place)
              (ap (λ (x : Interval). x.temp) u.2 ∙ are.numbered t x at) (placed.at c.0 u.0 u.1);
        })

    same_temp : (t u : ℕ) (x y : Interval) → slice_get intervals t ≡ Some x → slice_get intervals u ≡ Some y →
        (f : Found t x) (h : Found u y) → f.by ≡ h.by → t ≡ u
    same_temp t u x y at other f h same =
        (let s : f.g ≡ h.g = same_Some f.g h.g (sym f.at ∙ ap (slice_get placements) same ∙ h.at) in
        let i : x ≡ y = sym f.is ∙ ap interval_of s ∙ h.is in
        sym (are.numbered t x at) ∙ ap (λ (x : Interval). x.temp) i ∙ are.numbered u y other)

    apart_by : (t u at : ℕ) (x y : Interval) (f : Found t x) (h : Found u y) → (f.by ≡ h.by → t ≡ u) →
        x.first ≤ at → at ≤ x.last → y.first ≤ at → at ≤ y.last → f.g.place ≡ h.g.place → t ≡ u
    apart_by t u at x y f h same a b c d shared =
        (let e0 : f.g.interval.first ≡ x.first = ap (λ (x : Interval). x.first) f.is in
        let e1 : f.g.interval.last ≡ x.last = ap (λ (x : Interval). x.last) f.is in
        let e2 : h.g.interval.first ≡ y.first = ap (λ (x : Interval). x.first) h.is in
        let e3 : h.g.interval.last ≡ y.last = ap (λ (x : Interval). x.last) h.is in
        ⊎_elim same
        (⊎_elim
        (λ less. absurd (let p : f.g.interval.last < h.g.interval.first =
        fair.apart f.by h.by f.g h.g less f.at h.at shared in omega (arith, p, b, c, e1, e2)))
        (λ less. absurd (let p : h.g.interval.last < f.g.interval.first =
        fair.apart h.by f.by h.g f.g less h.at f.at (sym shared) in omega (arith, p, a, d, e0, e3))))
        (cases_order f.by h.by))

    pub is_assignment : IsAssignment intervals places
    is_assignment = record {
      each = placed.each ∙ size;
      apart = λ t u at x y its others here there share.
          (let f = found t x its in
          let h = found u y others in
          let one : f.g.place ≡ h.g.place = same_Some f.g.place h.g.place
          ((sym f.place ∙ share.1) ∙ (sym share.2 ∙ h.place)) in
          apart_by t u at x y f h (same_temp t u x y its others f h) here.begun here.lasts there.begun there.lasts one);
      over_calls = λ t x at call.
          (let f = found t x at in
          let o = fair.over_calls f.by f.g f.at (ap (λ (x : Interval). x.spans_call) f.is ∙ call) in
          (o.0, f.place ∙ ap Some o.1));
    }

    pub is_sparing : IsSparing intervals places
    is_sparing = record {
      full = λ t x at none slot r less.
          (let f = found t x at in
          let s = fair.spared f.by f.g f.at (ap (λ (x : Interval). x.spans_call) f.is ∙ none) slot.0
          (same_Some f.g.place (Slot slot.0) (sym f.place ∙ slot.1)) r less in
          let first : f.g.interval.first ≡ x.first = ap (λ (x : Interval). x.first) f.is in
          record {
            by = s.0.holder.interval.temp;
            other = s.0.holder.interval;
            its = back s.0.by s.0.holder s.0.its;
            lasts = record { begun = omega (arith, s.1, first); lasts = omega (arith, s.0.lasts, first) };
            place = placed.at s.0.by s.0.holder s.0.its ∙ ap Some s.0.place;
          });
    }

    is_known : (t : ℕ) (place : Place) → slice_get places t ≡ Some place → IsTrue (is_place (length places) place)
    is_known t place at =
        (let less : t < length intervals = omega (arith, slice_get_within places t place at, placed.each, size) in
        let x = is_there intervals t less in
        let f = found t x.0 x.1 in
        let same : f.g.place ≡ place = same_Some f.g.place place (sym f.place ∙ at) in
        subst (λ n. IsTrue (is_place n place)) (sym placed.each)
        (subst (λ p. IsTrue (is_place (length placements) p)) same (known f.by f.g f.at)))

    pub are_places : ArePlaces places
    are_places = record { known = all_at (is_place (length places)) places is_known }
