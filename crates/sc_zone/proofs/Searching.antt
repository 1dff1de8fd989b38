-- The first gap that is wide enough begins at the least free place.
use Rattle.sc_zone.proofs.Common.{eq-eqb, AreLaid, Bool, List, None, Some, Span, [], ap, arith, eqb-true, false}
use Rattle.sc_zone.proofs.Common.{gap_from, if◌then◌else◌, le-leb, list_all, misses, nat_le, cases_lt, refl, subst}
use Rattle.sc_zone.proofs.Common.{true, zone_words, ℕ, ◌&&◌, ◌+◌, ◌-◌, ◌<◌, ◌==◌, ◌∙◌, ◌∷◌, ◌≡◌, ◌≤◌, ⊎_elim}
unfoldable use Rattle.sc_zone.proofs.Common.{least_free}
use Rattle.sc_zone.proofs.Cutting.{gap_within, none_from}
use Rattle.sc_zone.proofs.Laid.{clear, ends_before, meets}
use Rattle.sc_zone.proofs.Places.{beyond, least_is, least_none}
use Rattle.sc_zone.specs.Gaps.{IsGap}

never : (b : Bool) → (b && false) ≡ false
never true = refl
never false = refl

-- each gap that begins before a place has fewer words
pub record AreNarrow (words from : ℕ) (spans : List Span) (limit : ℕ) : Type 0 where
  pub narrow : (place : ℕ) → place < limit → gap_from from spans place < words

module _ (words : ℕ) (some : 0 < words) where
  rest_narrow : (s : Span) (spans : List Span) (from limit : ℕ) → AreLaid from (s ∷ spans) →
      AreNarrow words from (s ∷ spans) limit → AreNarrow words (s.place + s.words) spans limit
  rest_narrow s spans from limit laid are = record {
    narrow = λ place low. by (place == from) place refl (are.narrow place low);
  } where
    by : (b : Bool) (place : ℕ) → (place == from) ≡ b →
        (if b then s.place - from else gap_from (s.place + s.words) spans place) < words →
        gap_from (s.place + s.words) spans place < words
    by true place is h =
        let e = eqb-true place from is in
        omega (arith, none_from spans (s.place + s.words) place laid.2 (omega (arith, e, laid.0, laid.1)), some)
    by false place is h = h

  first_narrow : (s : Span) (spans : List Span) (from limit : ℕ) → AreNarrow words from (s ∷ spans) limit →
      from < limit → s.place - from < words
  first_narrow s spans from limit are low =
      subst (λ b. (if b then s.place - from else gap_from (s.place + s.words) spans from) < words)
      (eq-eqb from from refl) (are.narrow from low)

  -- from a place q, where it lies before the end of a block or after it
  step : (s : Span) (spans : List Span) (from limit q : ℕ) → AreNarrow words from (s ∷ spans) limit → q < limit →
      from ≤ q → (s.place + s.words ≤ q → list_all (misses words q) spans ≡ false) →
      list_all (misses words q) (s ∷ spans) ≡ false
  step s spans from limit q are high low later = ⊎_elim
      (λ inside.
      let near = first_narrow s spans from limit are (omega (arith, low, high)) in
      ap (λ b. b && list_all (misses words q) spans) (meets words q s (omega (arith, near, low)) inside))
      (λ past. ap (λ b. misses words q s && b) (later past) ∙ never (misses words q s))
      (cases_lt q (s.place + s.words))

  -- no place before a gap is free, where the gaps before it are narrow
  blocked : (spans : List Span) (from place gap q : ℕ) → AreLaid from spans → IsGap from spans place gap →
      AreNarrow words from spans place → from ≤ q → q < place → list_all (misses words q) spans ≡ false
  blocked [] from place gap q laid is are low high = absurd (omega (arith, is.0, low, high))
  blocked (s ∷ spans) from place gap q laid is are low high = ⊎_elim
      (λ (here : (from ≡ place) × (place + gap ≡ s.place)). absurd (omega (arith, here.0, low, high)))
      (λ (later : IsGap (s.place + s.words) spans place gap).
      step s spans from place q are high low
      (λ past. blocked spans (s.place + s.words) place gap q laid.2 later (rest_narrow s spans from place laid are) past
      high))
      is

  -- nor is one anywhere, where all gaps are
  blocked_all : (spans : List Span) (from q : ℕ) → AreLaid from spans → AreNarrow words from spans zone_words →
      from ≤ q → q + words ≤ zone_words → list_all (misses words q) spans ≡ false
  blocked_all [] from q laid are low high =
      let last = subst (λ b. (if b then zone_words - from else 0) < words) (eq-eqb from from refl)
      (are.narrow from (omega (arith, low, high, some))) in
      absurd (omega (arith, last, low, high, laid))
  blocked_all (s ∷ spans) from q laid are low high =
      step s spans from zone_words q are (omega (arith, high, some)) low
      (λ past. blocked_all spans (s.place + s.words) q laid.2 (rest_narrow s spans from zone_words laid are) past high)

  unblocked : (spans : List Span) (from place gap : ℕ) → AreLaid from spans → IsGap from spans place gap → words ≤ gap →
      list_all (misses words place) spans ≡ true
  unblocked [] from place gap laid is fits = refl
  unblocked (s ∷ spans) from place gap laid is fits = ⊎_elim
      (λ (here : (from ≡ place) × (place + gap ≡ s.place)).
      clear (s ∷ spans) s.place words place (omega arith, laid.1, laid.2) (omega (arith, here.1, fits)))
      (λ (later : IsGap (s.place + s.words) spans place gap).
      let up = (gap_within spans (s.place + s.words) place gap laid.2 later).0 in
      ap (λ b. b && list_all (misses words place) spans) (ends_before words place s up) ∙
      unblocked spans (s.place + s.words) place gap laid.2 later fits)
      is

  pub first_gap : (spans : List Span) (place gap : ℕ) → AreLaid 0 spans → IsGap 0 spans place gap → words ≤ gap →
      AreNarrow words 0 spans place → least_free spans words ≡ Some place
  first_gap spans place gap laid is fits are =
      let within = (gap_within spans 0 place gap laid is).1 in
      least_is spans words place some (omega (arith, within, fits))
      (ap (λ b. b && list_all (misses words place) spans)
      (le-leb (place + words) zone_words (omega (arith, within, fits))) ∙ unblocked spans 0 place gap laid is fits)
      (λ q low. ap (λ b. nat_le (q + words) zone_words && b)
      (blocked spans 0 place gap q laid is are (omega arith) low) ∙
      never (nat_le (q + words) zone_words))

  pub no_gap : (spans : List Span) → AreLaid 0 spans → AreNarrow words 0 spans zone_words →
      least_free spans words ≡ None
  no_gap spans laid are = least_none spans words (λ q. ⊎_elim
      (λ far. beyond spans words q far)
      (λ near. ap (λ b. nat_le (q + words) zone_words && b) (blocked_all spans 0 q laid are (omega arith) near) ∙
      never (nat_le (q + words) zone_words))
      (cases_lt zone_words (q + words)))
