-- Marks among all points of a function give its intervals.
use Rattle.sc_live.proofs.Common.{AreIntervals, Bool, Holds, List, Mark, None, Option, Point, Some, Span, Walk, [], ap}
use Rattle.sc_live.proofs.Common.{arith, as_interval, drop, false, from_here, has_call, if◌then◌else◌, inl, inr}
use Rattle.sc_live.proofs.Common.{interval_at, interval_of, is_met, is_used, leb, length, list_any, map, mark_from}
use Rattle.sc_live.proofs.Common.{mark_here, mark_of, nearest_call, option_map, point_behind, range_with_len, refl}
use Rattle.sc_live.proofs.Common.{slice_get, span_from, subst, suc, sym, take, true, unwrap_or, zero, zero-add, ℕ, ◌++◌}
use Rattle.sc_live.proofs.Common.{◌+◌, ◌-◌, ◌<◌, ◌||◌, ◌∙◌, ◌∷◌, ◌≡◌, ◌≤◌, ◌⊎◌}
use Rattle.std.proofs.lemmas.List.FromFn.{get_or-map-range_with_len, length-map-range_with_len, map-range_with_len_more}
use Rattle.std.proofs.lemmas.Option.{get_or_from_slice_get, slice_get_within}
use Rattle.std.proofs.lemmas.Bool.Decides.{leb_tells}
use Rattle.sc_tac.proofs.Clear.{within}
use Rattle.sc_tac.specs.Prelude.{AreCovering, Within}
use Rattle.sc_tac.specs.declared.interval.Interval.{Interval}
use Rattle.sc_live.proofs.Marking.{ends_within, here_last}

-- counted from the first point
abbrev flip : ℕ → Mark → Span
flip n mark = record { first = n - 1 - mark.first; last = n - 1 - mark.last }

-- SPANS
here_flips : (n at following : ℕ) (call : Option ℕ) (known : Option Mark) → n ≡ suc at + following →
    from_here at (option_map (flip n) known) ≡ flip n (mark_here following call known)
here_flips n at following call None is =
    let here : at ≡ n - 1 - following = omega (arith, is) in λ i. record { first = here i; last = here i }
here_flips n at following call (Some later) is =
    let here : at ≡ n - 1 - following = omega (arith, is) in λ i. record { first = here i; last = n - 1 - later.last }

spans : (t n at : ℕ) (points : List Point) → n ≡ at + length points →
    span_from t at points ≡ option_map (flip n) (mark_of t points)
spans t n at [] is = refl
spans t n at (x ∷ xs) is =
    let call : Option ℕ = nearest_call (x ∷ xs) in
    let more : n ≡ suc at + length xs = omega (arith, is) in
    elim (is_used t x) as (λ used. (if used then Some (from_here at (span_from t (suc at) xs))
    else span_from t (suc at) xs)
    ≡ option_map (flip n) (if used then Some (mark_here (length xs) call (mark_of t xs)) else mark_of t xs)) [
      | true ↦ ap (λ later. Some (from_here at later)) (spans t n (suc at) xs more)
          ∙ ap Some (here_flips n at (length xs) call (mark_of t xs) more)
      | false ↦ spans t n (suc at) xs more
    ]

-- CALLS
abbrev any_call : List Point → Bool
any_call points = list_any (λ x. x.calls) points

abbrev Met : ℕ → List Point → Type 0
Met last points = is_met (nearest_call points) last ≡ any_call (take (length points - last) points)

met_more : (last : ℕ) (x : Point) (xs : List Point) → Met last xs →
    ((leb last (length xs) ≡ true) × (last ≤ length xs)) ⊎ ((leb last (length xs) ≡ false) × (length xs < last)) →
    Met last (x ∷ xs)
met_more last x xs k (inl h) =
    let more : suc (length xs) - last ≡ suc (length xs - last) = omega (arith, h.1) in
    elim x.calls as (λ b. is_met (if b then Some (length xs) else nearest_call xs) last
    ≡ (b || any_call (take (length xs - last) xs))) [ true ↦ h.0 | false ↦ k ]
    ∙ ap (λ n. any_call (take n (x ∷ xs))) (sym more)
met_more last x xs k (inr h) =
    let none : suc (length xs) - last ≡ 0 = omega (arith, h.1) in
    let fewer : length xs - last ≡ 0 = omega (arith, h.1) in
    elim x.calls as (λ b. is_met (if b then Some (length xs) else nearest_call xs) last ≡ false) [
      | true ↦ h.0
      | false ↦ k ∙ ap (λ n. any_call (take n xs)) fewer
    ] ∙ ap (λ n. any_call (take n (x ∷ xs))) (sym none)

-- the nearest call is met where a function is called at a point up to the last
met : (last : ℕ) (points : List Point) → Met last points
met last [] =
    let none : 0 ≡ 0 - last = omega arith in ap (λ n. any_call (take n [])) none
met last (x ∷ xs) = met_more last x xs (met last xs) (leb_tells last (length xs))

-- both ends of a mark are among the points
abbrev Inside : ℕ → Option Mark → Type 0
Inside n None = Unit {0}
Inside n (Some mark) = (mark.first < n) × (mark.last < n)

inside : (t : ℕ) (points : List Point) → Inside (length points) (mark_of t points)
inside t [] = tt
inside t (x ∷ xs) =
    elim (is_used t x) as (λ used. Inside (suc (length xs)) (if used then Some (mark_here (length xs)
    (nearest_call (x ∷ xs)) (mark_of t xs)) else mark_of t xs)) [
      | true ↦ rw (here_last (length xs) (nearest_call (x ∷ xs)) (mark_of t xs))
          (omega arith, omega (arith, ends_within t (length xs) xs (omega arith)))
      | false ↦ longer (mark_of t xs) (inside t xs)
    ]
  where
    longer : (known : Option Mark) → Inside (length xs) known → Inside (suc (length xs)) known
    longer None h = tt
    longer (Some mark) h = (omega (arith, h.0), omega (arith, h.1))

-- a mark says whether a function is called at a point of it
abbrev Calls : List Point → Option Mark → Type 0
Calls points None = Unit {0}
Calls points (Some mark) = mark.spans_call ≡ has_call points (flip (length points) mark)

longer_calls : (x : Point) (xs : List Point) (known : Option Mark) → Inside (length xs) known → Calls xs known →
    Calls (x ∷ xs) known
longer_calls x xs None h k = tt
longer_calls x xs (Some mark) h k =
    let n : ℕ = length xs in
    let first : suc n - 1 - mark.first ≡ suc (n - 1 - mark.first) = omega (arith, h.0) in
    let count : suc (n - 1 - mark.last) - (n - 1 - mark.first)
    ≡ suc (suc n - 1 - mark.last) - (suc n - 1 - mark.first) = omega (arith, h.0, h.1) in
    k
    ∙ ap (λ m. any_call (take m (drop (n - 1 - mark.first) xs))) count
    ∙ ap (λ m. any_call (take (suc (suc n - 1 - mark.last) - (suc n - 1 - mark.first)) (drop m (x ∷ xs)))) (sym first)

calls : (t : ℕ) (points : List Point) → Calls points (mark_of t points)
calls t [] = tt
calls t (x ∷ xs) =
    elim (is_used t x) as (λ used. Calls (x ∷ xs) (if used then Some (mark_here (length xs)
    (nearest_call (x ∷ xs)) (mark_of t xs)) else mark_of t xs)) [
      | true ↦ rw (here_last (length xs) (nearest_call (x ∷ xs)) (mark_of t xs))
          (here _ (ends_within t (length xs) xs (omega arith)))
      | false ↦ longer_calls x xs (mark_of t xs) (inside t xs) (calls t xs)
    ]
  where
    here : (last : ℕ) → last ≤ length xs →
        is_met (nearest_call (x ∷ xs)) last
        ≡ has_call (x ∷ xs) (flip (suc (length xs)) (mark_from (length xs) (nearest_call (x ∷ xs)) last))
    here last h =
        let first : suc (length xs) - 1 - length xs ≡ 0 = omega arith in
        let count : suc (length xs) - last ≡ suc (suc (length xs) - 1 - last) - 0 = omega (arith, h) in
        met last (x ∷ xs) ∙ ap (λ n. any_call (take n (x ∷ xs))) count
        ∙ ap (λ n. any_call (take (suc (suc (length xs) - 1 - last) - n) (drop n (x ∷ xs)))) (sym first)

-- INTERVALS
-- nothing stands behind the code
none_behind : (points : List Point) (at : ℕ) → length points ≤ at → drop at points ≡ []
none_behind [] zero h = refl
none_behind [] (suc at) h = refl
none_behind (x ∷ xs) zero h = absurd (omega (arith, h))
none_behind (x ∷ xs) (suc at) h = none_behind xs at (omega (arith, h))

none_taken : (n : ℕ) → any_call (take n []) ≡ false
none_taken zero = refl
none_taken (suc n) = refl

no_call : (points : List Point) (t : ℕ) → false ≡ has_call points (point_behind points t)
no_call points t =
    let at : ℕ = length points + t in
    sym (ap (λ xs. any_call (take (suc at - at) xs)) (none_behind points at (omega arith)) ∙ none_taken (suc at - at))

abbrev from_span : List Point → ℕ → Option Span → Interval
from_span points t span = as_interval t points (unwrap_or span (point_behind points t))

whole : (t : ℕ) (points : List Point) (known : Option Mark) → Calls points known →
    interval_at t (length points) known ≡ from_span points t (option_map (flip (length points)) known)
whole t points None h =
    λ i. record { temp = t; first = length points + t; last = length points + t; spans_call = no_call points t i }
whole t points (Some mark) h = λ i. record {
  temp = t;
  first = length points - 1 - mark.first;
  last = length points - 1 - mark.last;
  spans_call = h i;
}

interval_is : (t : ℕ) (points : List Point) → interval_at t (length points) (mark_of t points) ≡ interval_of points t
interval_is t points =
    whole t points (mark_of t points) (calls t points)
    ∙ ap (from_span points t) (sym (spans t (length points) 0 points (sym (zero-add (length points)))))

pub interval_known : (t : ℕ) (walk : Walk) (temps : ℕ) (points : List Point) → Holds temps walk points → t < temps →
    interval_at t walk.points (unwrap_or (slice_get walk.marks t) None) ≡ interval_of points t
interval_known t walk temps points h within =
    (λ i. interval_at t (h.counted i) (unwrap_or (h.marks t within i) None)) ∙ interval_is t points

-- spans that begin no earlier than a point, and end no earlier than they begin
abbrev From : ℕ → Option Span → Type 0
From at None = Unit {0}
From at (Some span) = (at ≤ span.first) × (span.first ≤ span.last)

from : (t at : ℕ) (points : List Point) → From at (span_from t at points)
from t at [] = tt
from t at (x ∷ xs) =
    elim (is_used t x) as (λ used. From at (if used then Some (from_here at (span_from t (suc at) xs))
    else span_from t (suc at) xs)) [
      | true ↦ begins (span_from t (suc at) xs) (from t (suc at) xs)
      | false ↦ earlier (span_from t (suc at) xs) (from t (suc at) xs)
    ]
  where
    begins : (later : Option Span) → From (suc at) later → From at (Some (from_here at later))
    begins None h = (omega arith, omega arith)
    begins (Some span) h = (omega arith, omega (arith, h.0, h.1))

    earlier : (later : Option Span) → From (suc at) later → From at later
    earlier None h = tt
    earlier (Some span) h = (omega (arith, h.0), h.1)

in_order : (points : List Point) (t : ℕ) → (interval_of points t).first ≤ (interval_of points t).last
in_order points t = ordered (span_from t 0 points) (from t 0 points)
  where
    ordered : (span : Option Span) → From 0 span →
        (unwrap_or span (point_behind points t)).first ≤ (unwrap_or span (point_behind points t)).last
    ordered None h = omega arith
    ordered (Some span) h = h.1

module _ (points : List Point) (temps : ℕ) where
  found : (at : ℕ) (x : Interval) → slice_get (map (interval_of points) (range_with_len 0 temps)) at ≡ Some x →
      interval_of points at ≡ x
  found at x is =
      sym (get_or-map-range_with_len (interval_of points) 0 temps at at x
      (subst (λ n. at < n) (length-map-range_with_len (interval_of points) 0 temps)
      (slice_get_within (map (interval_of points) (range_with_len 0 temps)) at x is)) (zero-add at))
      ∙ get_or_from_slice_get (map (interval_of points) (range_with_len 0 temps)) at x x is

  pub are_intervals : AreIntervals (map (interval_of points) (range_with_len 0 temps))
  are_intervals = record {
    numbered = λ at x is. ap (λ y. y.temp) (sym (found at x is));
    ordered = λ at x is. subst (λ y. y.first ≤ y.last) (found at x is) (in_order points at);
  }

  pub are_covering : AreCovering points (map (interval_of points) (range_with_len 0 temps))
  are_covering = record {
    covers = λ at t x own here used its. subst (λ y. Within y at) (found t own its) (within points t at x here used);
  }

pub one_more : (points : List Point) (t : ℕ) (list : List Interval) (x : Interval) →
    list ≡ map (interval_of points) (range_with_len 0 t) → x ≡ interval_of points t →
    list ++ x ∷ [] ≡ map (interval_of points) (range_with_len 0 (t + 1))
one_more points t list x is found =
    (λ i. is i ++ found i ∷ []) ∙ sym (map-range_with_len_more (interval_of points) 0 t t (zero-add t))
