-- Places for the least intervals are clear at each point.
use Rattle.sc_tac.proofs.Common.{Bool, Each, IsAssignment, IsClear, IsFunction, List, None, Option, PlacesAreClear}
use Rattle.sc_tac.proofs.Common.{Point, Share, Some, Span, TacFnTree, Within, [], ap, arith, drop, eq-eqb, false}
use Rattle.sc_tac.proofs.Common.{from_here, function_points, get_or, has_call, if◌then◌else◌, interval_of, intervals_of}
use Rattle.sc_tac.proofs.Common.{is_one, is_used, map, one_or_none, or_left, or_right, point_behind, range_with_len}
use Rattle.sc_tac.proofs.Common.{refl, slice_get, span_from, span_of, subst, suc, take, true, zero, ℕ, ◌+◌, ◌-◌, ◌<◌}
use Rattle.sc_tac.proofs.Common.{◌==◌, ◌||◌, ◌∙◌, ◌∷◌, ◌≡◌, ◌≤◌}
use Rattle.std.proofs.lemmas.Option.{same_Some, slice_get-get_or}
use Rattle.std.specs.Option.{unwrap_or}
use Rattle.sc_tac.specs.declared.place.Place.{Place}
use Rattle.sc_tac.proofs.Owned.{OwnPoint, points_own}
use Rattle.std.proofs.lemmas.Map.Keys.{any_passes_from_place}

-- a span that is found lasts to the number from which points are counted, or longer
after_by : (b : Bool) (from : ℕ) (later : Option Span) (span : Span) →
    ((s : Span) → later ≡ Some s → suc from ≤ s.last) →
    (if b then Some (from_here from later) else later) ≡ Some span → from ≤ span.last
after_by true from None span h e = subst (λ (s : Span). from ≤ s.last) (same_Some _ span e) (omega arith)
after_by true from (Some s) span h e =
    subst (λ (s : Span). from ≤ s.last) (same_Some _ span e) (omega (arith, h s refl))
after_by false from later span h e = omega (arith, h span e)

following : (t from : ℕ) (xs : List Point) (span : Span) → span_from t from xs ≡ Some span → from ≤ span.last
following t from [] span e = absurd (cc e)
following t from (x ∷ xs) span e =
    after_by (is_used t x) from (span_from t (suc from) xs) span (following t (suc from) xs) e

-- a span is there, and the point lies in it
record Covers (span : Option Span) (at : ℕ) : Type 0 where
  some : Span
  is : span ≡ Some some
  begun : some.first ≤ at
  lasts : at ≤ some.last

first_covered : (b : Bool) (from : ℕ) (later : Option Span) → b ≡ true →
    ((s : Span) → later ≡ Some s → suc from ≤ s.last) →
    Covers (if b then Some (from_here from later) else later) (from + 0)
first_covered true from None is h = record {
  some = record { first = from; last = from };
  is = refl;
  begun = omega arith;
  lasts = omega arith;
}
first_covered true from (Some s) is h = record {
  some = record { first = from; last = s.last };
  is = refl;
  begun = omega arith;
  lasts = omega (arith, h s refl);
}
first_covered false from later is h = absurd (cc is)

later_covered : (b : Bool) (from k : ℕ) (later : Option Span) → Covers later (suc from + k) →
    Covers (if b then Some (from_here from later) else later) (from + suc k)
later_covered true from k None c = absurd (let e = c.is in cc e)
later_covered true from k (Some s) c =
    (let last : s.last ≡ c.some.last = ap (λ (s : Span). s.last) (same_Some s c.some c.is) in
    record {
      some = record { first = from; last = s.last };
      is = refl;
      begun = omega arith;
      lasts = omega (arith, c.lasts, last);
    })
later_covered false from k later c = record {
  some = c.some;
  is = c.is;
  begun = omega (arith, c.begun);
  lasts = omega (arith, c.lasts);
}

covered : (t from k : ℕ) (xs : List Point) (x : Point) → slice_get xs k ≡ Some x → is_used t x ≡ true →
    Covers (span_from t from xs) (from + k)
covered t from k [] x at used = absurd (cc at)
covered t from zero (z ∷ xs) x at used =
    first_covered (is_used t z) from (span_from t (suc from) xs) (ap (is_used t) (same_Some z x at) ∙ used)
    (following t (suc from) xs)
covered t from (suc k) (z ∷ xs) x at used =
    later_covered (is_used t z) from k (span_from t (suc from) xs) (covered t (suc from) k xs x at used)

-- each use lies in the least interval
pub within : (xs : List Point) (t k : ℕ) (x : Point) → slice_get xs k ≡ Some x → is_used t x ≡ true →
    Within (interval_of xs t) k
within xs t k x at used =
    (let c = covered t 0 k xs x at used in
    let first : (span_of xs t).first ≡ c.some.first = ap (λ s. (unwrap_or s (point_behind xs t)).first) c.is in
    let last : (span_of xs t).last ≡ c.some.last = ap (λ s. (unwrap_or s (point_behind xs t)).last) c.is in
    record { begun = omega (arith, first, c.begun); lasts = omega (arith, last, c.lasts) })

get_dropped : {A : Type 0} (xs : List A) (n k m : ℕ) → m ≡ n + k → slice_get (drop n xs) k ≡ slice_get xs m
get_dropped [] zero k m e = refl
get_dropped [] (suc n) k m e = refl
get_dropped (x ∷ xs) zero k m e = ap (slice_get (x ∷ xs)) (omega (arith, e))
get_dropped (x ∷ xs) (suc n) k zero e = absurd (omega (arith, e))
get_dropped (x ∷ xs) (suc n) k (suc m) e = get_dropped xs n k m (omega (arith, e))

get_prefix : {A : Type 0} (xs : List A) (n k : ℕ) → k < n → slice_get (take n xs) k ≡ slice_get xs k
get_prefix xs zero k less = absurd (omega arith)
get_prefix [] (suc n) k less = refl
get_prefix (x ∷ xs) (suc n) zero less = refl
get_prefix (x ∷ xs) (suc n) (suc k) less = get_prefix xs n k (omega (arith, less))

call_found : (xs : List Point) (span : Span) (k : ℕ) (x : Point) → slice_get xs k ≡ Some x → x.calls ≡ true →
    span.first ≤ k → k ≤ span.last → has_call xs span ≡ true
call_found xs span k x at calls begun lasts =
    any_passes_from_place (λ (x : Point). x.calls) (take (suc span.last - span.first) (drop span.first xs))
    (k - span.first) x
    (get_prefix (drop span.first xs) (suc span.last - span.first) (k - span.first) (omega (arith, begun, lasts)) ∙
    get_dropped xs span.first (k - span.first) k (omega (arith, begun)) ∙ at) calls

get_ranged : {A : Type 0} (g : ℕ → A) (from n t : ℕ) → t < n →
    slice_get (map g (range_with_len from n)) t ≡ Some (g (from + t))
get_ranged g from zero t less = absurd (omega arith)
get_ranged g from (suc n) zero less = ap (λ i. Some (g i)) (omega arith)
get_ranged g from (suc n) (suc t) less =
    get_ranged g (from + 1) n t (omega (arith, less)) ∙ ap (λ i. Some (g i)) (omega arith)

each_at : {A : Type 0} (P : A → Type 0) (xs : List A) (k : ℕ) (x : A) → Each P xs → slice_get xs k ≡ Some x → P x
each_at P [] k x each at = absurd (cc at)
each_at P (z ∷ xs) zero x each at = subst P (same_Some z x at) each.0
each_at P (z ∷ xs) (suc k) x each at = each_at P xs k x each.1 at

module _ (f : TacFnTree) (places : List Place) (rules : IsFunction f) (assigned : IsAssignment (intervals_of f) places)
    (k : ℕ) (x : Point) (at : slice_get (function_points f) k ≡ Some x) where
  its : (t : ℕ) → is_used t x ≡ true → slice_get (intervals_of f) t ≡ Some (interval_of (function_points f) t)
  its t used =
      (let less : t < f.temps =
      each_at (OwnPoint f.temps) (function_points f) k x (points_own f.temps f.body rules.own_temps) at t used in
      get_ranged (interval_of (function_points f)) 0 f.temps t less ∙
      ap (λ i. Some (interval_of (function_points f) i)) (omega arith))

  only_main : (t u : ℕ) → is_used t x ≡ true → is_used u x ≡ true → Share places t u → t ≡ u
  only_main t u used other =
      assigned.apart t u k (interval_of (function_points f) t) (interval_of (function_points f) u)
      (its t used) (its u other)
      (within (function_points f) t k x at used) (within (function_points f) u k x at other)

  live_used : (t : ℕ) → x.live t ≡ true → is_used t x ≡ true
  live_used t live = or_right (is_one t (one_or_none x.assigned)) (x.live t) live

  assigned_used : (d : ℕ) → x.assigned ≡ Some d → is_used d x ≡ true
  assigned_used d is = or_left (is_one d (one_or_none x.assigned)) (x.live d)
      (ap (λ o. is_one d (one_or_none o)) is ∙ or_left (d == d) false (eq-eqb d d refl))

  clear_at : IsClear places x
  clear_at = record {
    assigned = λ d t is live. only_main d t (assigned_used d is) (live_used t live);
    live = λ t u live other. only_main t u (live_used t live) (live_used u other);
    over_calls = λ t calls live.
        (let w = within (function_points f) t k x at (live_used t live) in
        assigned.over_calls t (interval_of (function_points f) t) (its t (live_used t live))
        (call_found (function_points f) (span_of (function_points f) t) k x at calls w.begun w.lasts));
  }

pub places_are_clear : PlacesAreClear
places_are_clear f places rules assigned =
    λ k d less. clear_at f places rules assigned k (get_or (function_points f) k d)
    (slice_get-get_or (function_points f) k d less)
