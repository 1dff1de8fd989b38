-- The least free place is the one that is free and before which none is.
use Rattle.sc_zone.proofs.Common.{Bool, List, None, Option, Some, Span, ap, arith, eqb-false, eqb-true, false}
use Rattle.sc_zone.proofs.Common.{if◌then◌else◌, is_free, leb-true, list_all, lt-leb, misses, nat_le, refl, subst, suc}
use Rattle.sc_zone.proofs.Common.{true, zero, zone_words, ℕ, ◌&&◌, ◌+◌, ◌<◌, ◌==◌, ◌∙◌, ◌≡◌, ◌≤◌}
unfoldable use Rattle.sc_zone.proofs.Common.{first_free, least_free}
use Rattle.std.proofs.lemmas.Bool.{and_parts}
use Rattle.std.proofs.lemmas.Option.{same_Some}

module _ (spans : List Span) (words : ℕ) where
  passes : (free : Bool) (place : ℕ) (later : Option ℕ) → free ≡ false →
      (if free then Some place else later) ≡ later
  passes false place later is = refl
  passes true place later h = cc h

  stops : (free : Bool) (place : ℕ) (later : Option ℕ) → free ≡ true →
      (if free then Some place else later) ≡ Some place
  stops true place later is = refl
  stops false place later h = cc h

  first_is : (count from place : ℕ) → from ≤ place → place < from + count → is_free spans words place ≡ true →
      ((q : ℕ) → q < place → is_free spans words q ≡ false) → first_free spans words count from ≡ Some place
  unfolding first_free
  first_is zero from place low high free before = absurd (omega (arith, low, high))
  first_is (suc count) from place low high free before =
      by (from == place) refl (λ more. first_is count (suc from) place (omega (arith, more)) (omega (arith, high)) free
      before) where
        by : (same : Bool) → (from == place) ≡ same →
            (from < place → first_free spans words count (suc from) ≡ Some place) →
            (if is_free spans words from then Some from else first_free spans words count (suc from)) ≡ Some place
        by true is later =
            let here : from ≡ place = eqb-true from place is in
            stops (is_free spans words from) from _ (ap (is_free spans words) here ∙ free) ∙ ap Some here
        by false is later =
            let more : from < place = omega (arith, low, eqb-false from place is) in
            passes (is_free spans words from) from _ (before from more) ∙ later more

  none_is : (count from : ℕ) → ((q : ℕ) → is_free spans words q ≡ false) → first_free spans words count from ≡ None
  unfolding first_free
  none_is zero from none = refl
  none_is (suc count) from none =
      passes (is_free spans words from) from _ (none from) ∙ none_is count (suc from) none

  -- too far at the zone's end
  pub beyond : (place : ℕ) → zone_words < place + words → is_free spans words place ≡ false
  beyond place far = ap (λ b. b && list_all (misses words place) spans) (lt-leb (place + words) zone_words far)

  some_is : (none : Bool) (place : Option ℕ) → (words == 0) ≡ none → 0 < words →
      (if none then None else place) ≡ place
  some_is false place is some = refl
  some_is true place is some = absurd (omega (arith, some, eqb-true words 0 is))

  pub least_is : (place : ℕ) → 0 < words → place + words ≤ zone_words → is_free spans words place ≡ true →
      ((q : ℕ) → q < place → is_free spans words q ≡ false) → least_free spans words ≡ Some place
  unfolding least_free
  least_is place some within free before =
      some_is (words == 0) _ refl some ∙
      first_is zone_words 0 place (omega arith) (omega (arith, some, within)) free before

  pub least_none : ((q : ℕ) → is_free spans words q ≡ false) → least_free spans words ≡ None
  unfolding least_free
  least_none none = by (words == 0) where
    by : (zero : Bool) → (if zero then None else first_free spans words zone_words 0) ≡ None
    by true = refl
    by false = none_is zone_words 0 none

  pub least_of_many : zone_words < words → least_free spans words ≡ None
  least_of_many many = least_none (λ q. beyond q (omega (arith, many)))

  first_is_free : (count from place : ℕ) → first_free spans words count from ≡ Some place →
      is_free spans words place ≡ true
  unfolding first_free
  first_is_free zero from place is = cc is
  first_is_free (suc count) from place is =
      by (is_free spans words from) refl is (λ later. first_is_free count (suc from) place later) where
        by : (free : Bool) → is_free spans words from ≡ free →
            (if free then Some from else first_free spans words count (suc from)) ≡ Some place →
            (first_free spans words count (suc from) ≡ Some place → is_free spans words place ≡ true) →
            is_free spans words place ≡ true
        by true free is later = subst (λ p. is_free spans words p ≡ true) (same_Some from place is) free
        by false free is later = later is

  pub least_is_free : (place : ℕ) → least_free spans words ≡ Some place → is_free spans words place ≡ true
  unfolding least_free
  least_is_free place is = by (words == 0) is where
    by : (none : Bool) → (if none then None else first_free spans words zone_words 0) ≡ Some place →
        is_free spans words place ≡ true
    by true is = cc is
    by false is = first_is_free zone_words 0 place is

  -- and so it ends within the zone
  pub least_is_within : (place : ℕ) → least_free spans words ≡ Some place → place + words ≤ zone_words
  least_is_within place is =
      leb-true (place + words) zone_words
      (and_parts (nat_le (place + words) zone_words) (list_all (misses words place) spans) (least_is_free place is)).0

pub least_of_none : (spans : List Span) → least_free spans 0 ≡ None
unfolding least_free
least_of_none spans = refl
