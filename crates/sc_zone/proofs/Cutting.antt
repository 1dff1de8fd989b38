-- A block that is taken from a gap leaves the rest of it.
use Rattle.sc_zone.proofs.Common.{AreLaid, Bool, List, Span, [], ap, arith, eqb-true, false, gap_before, gap_from}
use Rattle.sc_zone.proofs.Common.{if◌then◌else◌, inl, inr, ne_eqb, refl, subst, sym, true, with_span, zone_words, ℕ}
use Rattle.sc_zone.proofs.Common.{◌+◌, ◌-◌, ◌<◌, ◌==◌, ◌∙◌, ◌∷◌, ◌≡◌, ◌≤◌, ◌⊎◌, ⊎_elim, cases_eq}
use Rattle.sc_zone.proofs.Laid.{laid_to}
use Rattle.sc_zone.proofs.Taking.{first_put, later_put}
use Rattle.sc_zone.specs.Gaps.{IsGap}

-- no gap begins before the place from which blocks are laid, and none ends up to there
pub none_from : (spans : List Span) (from place : ℕ) → AreLaid from spans → place < from →
    gap_from from spans place ≡ 0
none_from [] from place laid low =
    ap (λ b. if b then zone_words - from else 0) (ne_eqb place from (λ e. omega (arith, e, low)))
none_from (s ∷ spans) from place laid low =
    ap (λ b. if b then s.place - from else gap_from (s.place + s.words) spans place)
    (ne_eqb place from (λ e. omega (arith, e, low))) ∙
    none_from spans (s.place + s.words) place laid.2 (omega (arith, low, laid.0))

pub none_before : (spans : List Span) (from place : ℕ) → AreLaid from spans → place ≤ from →
    gap_before from spans place ≡ 0
none_before [] from place laid low = by (place == zone_words) refl where
  by : (b : Bool) → (place == zone_words) ≡ b → (if b then zone_words - from else 0) ≡ 0
  by true is = omega (arith, eqb-true place zone_words is, low, laid)
  by false is = refl
none_before (s ∷ spans) from place laid low =
    by (place == s.place) refl (none_before spans (s.place + s.words) place laid.2 (omega (arith, low, laid.0))) where
      by : (b : Bool) → (place == s.place) ≡ b → gap_before (s.place + s.words) spans place ≡ 0 →
          (if b then s.place - from else gap_before (s.place + s.words) spans place) ≡ 0
      by true is rest = omega (arith, eqb-true place s.place is, low, laid.0)
      by false is rest = rest

-- a gap that begins at a place
pub gap_there : (spans : List Span) (from place words : ℕ) → AreLaid from spans → gap_from from spans place ≡ words →
    0 < words → IsGap from spans place words
gap_there [] from place words laid is some = by (place == from) refl is where
  by : (b : Bool) → (place == from) ≡ b → (if b then zone_words - from else 0) ≡ words →
      (from ≡ place) × (place + words ≡ zone_words)
  by true at is =
      let e = eqb-true place from at in (omega (arith, e), omega (arith, e, is, some, laid))
  by false at is = absurd (omega (arith, is, some))
gap_there (s ∷ spans) from place words laid is some =
    by (place == from) refl is (λ later. gap_there spans (s.place + s.words) place words laid.2 later some) where
      by : (b : Bool) → (place == from) ≡ b →
          (if b then s.place - from else gap_from (s.place + s.words) spans place) ≡ words →
          (gap_from (s.place + s.words) spans place ≡ words → IsGap (s.place + s.words) spans place words) →
          ((from ≡ place) × (place + words ≡ s.place)) ⊎ IsGap (s.place + s.words) spans place words
      by true at is rest =
          let e = eqb-true place from at in inl (omega (arith, e), omega (arith, e, is, some, laid.0))
      by false at is rest = inr (rest is)

pub gap_within : (spans : List Span) (from place words : ℕ) → AreLaid from spans → IsGap from spans place words →
    (from ≤ place) × (place + words ≤ zone_words)
gap_within [] from place words laid is = (omega (arith, is.0), omega (arith, is.1))
gap_within (s ∷ spans) from place words laid is = ⊎_elim
    (λ (here : (from ≡ place) × (place + words ≡ s.place)).
    (omega (arith, here.0), omega (arith, here.1, laid_to spans (s.place + s.words) laid.2)))
    (λ (later : IsGap (s.place + s.words) spans place words).
    let both = gap_within spans (s.place + s.words) place words laid.2 later in
    (omega (arith, both.0, laid.0), both.1))
    is

module _ (place words gap : ℕ) (some : 0 < words) (fits : words ≤ gap) where
  abbrev pub cut : Span
  cut = record { place = place; words = words }

  pub laid_cut : (spans : List Span) (from : ℕ) → AreLaid from spans → IsGap from spans place gap →
      AreLaid from (with_span cut spans)
  laid_cut [] from laid is = (omega (arith, is.0), some, omega (arith, is.1, fits))
  laid_cut (s ∷ spans) from laid is = ⊎_elim
      (λ (here : (from ≡ place) × (place + gap ≡ s.place)). subst (AreLaid from)
      (sym (first_put cut s spans (omega (arith, here.1, some, fits))))
      (omega (arith, here.0), some, (omega (arith, here.1, fits), laid.1, laid.2)))
      (λ (later : IsGap (s.place + s.words) spans place gap). subst (AreLaid from)
      (sym (later_put cut s spans (omega (arith, (gap_within spans (s.place + s.words) place gap laid.2 later).0))))
      (laid.0, laid.1, laid_cut spans (s.place + s.words) laid.2 later))
      is

  -- the gap that begins at a place q
  pub from_cut : (spans : List Span) (from q : ℕ) → AreLaid from spans → IsGap from spans place gap →
      gap_from from (with_span cut spans) q ≡
      (if q == place + words then gap - words else if q == place then 0 else gap_from from spans q)
  from_cut [] from q laid is = grind (arith, is.0, is.1, some, fits)
  from_cut (s ∷ spans) from q laid is = ⊎_elim
      (λ (here : (from ≡ place) × (place + gap ≡ s.place)).
      ap (λ l. gap_from from l q) (first_put cut s spans (omega (arith, here.1, some, fits))) ∙
      first s.place (gap_from (s.place + s.words) spans q) here.0 here.1)
      (λ (later : IsGap (s.place + s.words) spans place gap).
      let low = (gap_within spans (s.place + s.words) place gap laid.2 later).0 in
      ap (λ l. gap_from from l q) (later_put cut s spans (omega (arith, low))) ∙
      after (s.place - from) (gap_from (s.place + s.words) (with_span cut spans) q)
      (gap_from (s.place + s.words) spans q) (omega (arith, low, laid.0, laid.1))
      (from_cut spans (s.place + s.words) q laid.2 later))
      is where
        first : (next rest : ℕ) → from ≡ place → place + gap ≡ next →
            (if q == from then place - from else if q == place + words then next - (place + words) else rest) ≡
            (if q == place + words then gap - words else if q == place then 0 else
            if q == from then next - from else rest)
        first next rest begins ends = grind (arith, begins, ends, some, fits)

        after : (own now then_ : ℕ) → from < place →
            now ≡ (if q == place + words then gap - words else if q == place then 0 else then_) →
            (if q == from then own else now) ≡
            (if q == place + words then gap - words else if q == place then 0 else if q == from then own else then_)
        after own now then_ low is = grind (arith, low, is, some)

  -- the gap that ends before a place q
  pub before_cut : (spans : List Span) (from q : ℕ) → AreLaid from spans → IsGap from spans place gap →
      gap_before from (with_span cut spans) q ≡
      (if q == place + gap then gap - words else gap_before from spans q)
  before_cut [] from q laid is = grind (arith, is.0, is.1, some, fits)
  before_cut (s ∷ spans) from q laid is = ⊎_elim
      (λ (here : (from ≡ place) × (place + gap ≡ s.place)).
      ap (λ l. gap_before from l q) (first_put cut s spans (omega (arith, here.1, some, fits))) ∙
      first s.place (gap_before (s.place + s.words) spans q) here.0 here.1
      (λ at. none_before spans (s.place + s.words) q laid.2 (omega (arith, at, here.1, laid.1))))
      (λ (later : IsGap (s.place + s.words) spans place gap).
      let low = (gap_within spans (s.place + s.words) place gap laid.2 later).0 in
      ap (λ l. gap_before from l q) (later_put cut s spans (omega (arith, low))) ∙
      after s.place (s.place - from) (gap_before (s.place + s.words) (with_span cut spans) q)
      (gap_before (s.place + s.words) spans q) (omega (arith, low, laid.1))
      (before_cut spans (s.place + s.words) q laid.2 later))
      is where
        first : (next rest : ℕ) → from ≡ place → place + gap ≡ next → (q ≡ place → rest ≡ 0) →
            (if q == place then place - from else if q == next then next - (place + words) else rest) ≡
            (if q == place + gap then gap - words else if q == next then next - from else rest)
        first next rest begins ends none = ⊎_elim
            (λ at. grind (arith, at, none at, begins, ends, some, fits))
            (λ other. grind (arith, other, begins, ends, some, fits)) (cases_eq q place)

        after : (at own now then_ : ℕ) → at < place + gap →
            now ≡ (if q == place + gap then gap - words else then_) →
            (if q == at then own else now) ≡
            (if q == place + gap then gap - words else if q == at then own else then_)
        after at own now then_ low is = grind (arith, low, is)
