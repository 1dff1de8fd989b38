-- A block that is given back joins the gaps on both sides.
use Rattle.sc_zone.proofs.Common.{eq-eqb, AreLaid, Bool, List, Some, Span, [], ap, arith, cases_eq, eqb-false, eqb-true}
use Rattle.sc_zone.proofs.Common.{false, gap_before, gap_from, if◌then◌else◌, inl, inr, ne_eqb, refl, subst, sym, true}
use Rattle.sc_zone.proofs.Common.{without_span, words_at, zone_words, ℕ, ◌+◌, ◌-◌, ◌<◌, ◌==◌, ◌∙◌, ◌∷◌, ◌≡◌, ◌≤◌, ◌⊎◌}
use Rattle.sc_zone.proofs.Common.{⊎_elim}
use Rattle.std.proofs.lemmas.Option.{same_Some}
use Rattle.sc_zone.proofs.Cutting.{none_before, none_from}
use Rattle.sc_zone.proofs.Laid.{laid_to}

-- a gap of `words` words, or of none, follows a place
abbrev pub IsNext : (place : ℕ) → List Span → (words : ℕ) → Type 0
IsNext place [] words = place + words ≡ zone_words
IsNext place (span ∷ spans) words = place + words ≡ span.place

-- the first block lies between gaps of `before` and `after` words, or of none
abbrev pub IsFirst : (from : ℕ) (s : Span) → List Span → (place words before after : ℕ) → Type 0
IsFirst from s spans place words before after =
    (s.place ≡ place) × (s.words ≡ words) × (from + before ≡ place) × IsNext (place + words) spans after

-- one of them does
abbrev pub IsBetween : (from : ℕ) → List Span → (place words before after : ℕ) → Type 0
IsBetween from [] place words before after = ⊥
IsBetween from (s ∷ spans) place words before after =
    IsFirst from s spans place words before after ⊎ IsBetween (s.place + s.words) spans place words before after

-- what follows a place from which blocks are laid
pub next_there : (spans : List Span) (from : ℕ) → AreLaid from spans → IsNext from spans (gap_from from spans from)
next_there [] from laid = subst (λ b. from + (if b then zone_words - from else 0) ≡ zone_words)
    (sym (eq-eqb from from refl)) (omega (arith, laid))
next_there (s ∷ spans) from laid =
    subst (λ b. from + (if b then s.place - from else gap_from (s.place + s.words) spans from) ≡ s.place)
    (sym (eq-eqb from from refl)) (omega (arith, laid.0))

pub between_within : (spans : List Span) (from place words before after : ℕ) → AreLaid from spans →
    IsBetween from spans place words before after →
    (from + before ≤ place) × (0 < words) × (place + words + after ≤ zone_words)
between_within [] from place words before after laid is = absurd is
between_within (s ∷ spans) from place words before after laid is = ⊎_elim
    (λ (here : IsFirst from s spans place words before after).
    let end : s.place + s.words ≡ place + words = omega (arith, here.0, here.1) in (
      omega (arith, here.2),
      omega (arith, here.1, laid.1),
      next spans here.3
          (subst (λ n. AreLaid n spans) end laid.2),
    ))
    (λ (later : IsBetween (s.place + s.words) spans place words before after).
    let rest = between_within spans (s.place + s.words) place words before after laid.2 later in
    (omega (arith, rest.0, laid.0), rest.1, rest.2))
    is where
      next : (spans : List Span) → IsNext (place + words) spans after → AreLaid (place + words) spans →
          place + words + after ≤ zone_words
      next [] is laid = omega (arith, is)
      next (s ∷ spans) is laid = omega (arith, is, laid_to spans (s.place + s.words) laid.2)

pub between_there : (spans : List Span) (from place words : ℕ) → AreLaid from spans →
    words_at spans place ≡ Some words →
    IsBetween from spans place words (gap_before from spans place) (gap_from from spans (place + words))
between_there [] from place words laid is = cc is
between_there (s ∷ spans) from place words laid is =
    by (s.place == place) refl is
    (λ at. between_there spans (s.place + s.words) place words laid.2 at) where
      here : s.place ≡ place → s.words ≡ words →
          IsFirst from s spans place words (gap_before from (s ∷ spans) place)
          (gap_from from (s ∷ spans) (place + words))
      here at count = (
        at,
        count,
        omega (arith, before, at, laid.0),
        subst (IsNext (place + words) spans) (sym after)
            (subst (λ n. IsNext n spans (gap_from n spans n)) end (next_there spans (s.place + s.words) laid.2)),
      ) where
        end : s.place + s.words ≡ place + words
        end = omega (arith, at, count)

        before : gap_before from (s ∷ spans) place ≡ s.place - from
        before = ap (λ b. if b then s.place - from else gap_before (s.place + s.words) spans place)
            (eq-eqb place s.place (sym at))

        after : gap_from from (s ∷ spans) (place + words) ≡ gap_from (place + words) spans (place + words)
        after = ap (λ b. if b then s.place - from else gap_from (s.place + s.words) spans (place + words))
            (ne_eqb (place + words) from (λ e. omega (arith, e, end, laid.0, laid.1))) ∙
            ap (λ n. gap_from n spans (place + words)) end

      later : (s.place ≡ place → ⊥) → IsBetween (s.place + s.words) spans place words
          (gap_before (s.place + s.words) spans place) (gap_from (s.place + s.words) spans (place + words)) →
          IsBetween (s.place + s.words) spans place words
          (gap_before from (s ∷ spans) place) (gap_from from (s ∷ spans) (place + words))
      later other is = subst (λ n. IsBetween (s.place + s.words) spans place words n
          (gap_from from (s ∷ spans) (place + words))) (sym before)
          (subst (IsBetween (s.place + s.words) spans place words (gap_before (s.place + s.words) spans place))
          (sym after) is) where
            before : gap_before from (s ∷ spans) place ≡ gap_before (s.place + s.words) spans place
            before = ap (λ b. if b then s.place - from else gap_before (s.place + s.words) spans place)
                (ne_eqb place s.place (λ e. other (sym e)))

            low : s.place + s.words + gap_before (s.place + s.words) spans place ≤ place
            low = (between_within spans (s.place + s.words) place words (gap_before (s.place + s.words) spans place)
                (gap_from (s.place + s.words) spans (place + words)) laid.2 is).0

            after : gap_from from (s ∷ spans) (place + words) ≡ gap_from (s.place + s.words) spans (place + words)
            after = ap (λ b. if b then s.place - from else gap_from (s.place + s.words) spans (place + words))
                (ne_eqb (place + words) from (λ e. omega (arith, e, low, laid.0, laid.1)))

      by : (b : Bool) → (s.place == place) ≡ b → (if b then Some s.words else words_at spans place) ≡ Some words →
          (words_at spans place ≡ Some words → IsBetween (s.place + s.words) spans place words
          (gap_before (s.place + s.words) spans place) (gap_from (s.place + s.words) spans (place + words))) →
          IsFirst from s spans place words (gap_before from (s ∷ spans) place)
          (gap_from from (s ∷ spans) (place + words)) ⊎ IsBetween (s.place + s.words) spans place words
          (gap_before from (s ∷ spans) place) (gap_from from (s ∷ spans) (place + words))
      by true at is rest = inl (here (eqb-true s.place place at) (same_Some s.words words is))
      by false at is rest = inr (later (eqb-false s.place place at) (rest is))

module _ (first place words before after : ℕ) (begins : first + before ≡ place) where
  abbrev from_now : (q old : ℕ) → ℕ
  from_now q old = if q == first then before + words + after else if q == place + words then 0 else old

  abbrev before_now : (q old : ℕ) → ℕ
  before_now q old = if q == place + words + after then before + words + after else if q == place then 0 else old

  -- the first block is given back
  from_here : (spans : List Span) (at count from q : ℕ) → AreLaid (at + count) spans → 0 < count → at ≡ place →
      count ≡ words → from + before ≡ place → IsNext (place + words) spans after →
      gap_from from spans q ≡ from_now q (if q == from then at - from else gap_from (at + count) spans q)
  from_here [] at count from q laid some is many low next = grind (arith, begins, some, is, many, low, next)
  from_here (s ∷ spans) at count from q laid some is many low next = by s.place (gap_from (s.place + s.words) spans q)
      next (λ end. none_from spans (s.place + s.words) q laid.2 (omega (arith, end, is, many, laid.0, laid.1))) where
        by : (end rest : ℕ) → place + words + after ≡ end → (q ≡ place + words → rest ≡ 0) →
            (if q == from then end - from else rest) ≡
            from_now q (if q == from then at - from else if q == at + count then end - (at + count) else rest)
        by end rest to none = ⊎_elim
            (λ there. grind (arith, there, none there, begins, some, is, many, low, to))
            (λ other. grind (arith, other, begins, some, is, many, low, to)) (cases_eq q (place + words))

  before_here : (spans : List Span) (at count from q : ℕ) → AreLaid (at + count) spans → 0 < count → at ≡ place →
      count ≡ words → from + before ≡ place → IsNext (place + words) spans after →
      gap_before from spans q ≡ before_now q (if q == at then at - from else gap_before (at + count) spans q)
  before_here [] at count from q laid some is many low next = grind (arith, begins, some, is, many, low, next)
  before_here (s ∷ spans) at count from q laid some is many low next =
      by s.place (gap_before (s.place + s.words) spans q) next
      (λ here. none_before spans (s.place + s.words) q laid.2 (omega (arith, here, is, laid.0, laid.1))) where
        by : (end rest : ℕ) → place + words + after ≡ end → (q ≡ place → rest ≡ 0) →
            (if q == end then end - from else rest) ≡
            before_now q (if q == at then at - from else if q == end then end - (at + count) else rest)
        by end rest to none = ⊎_elim
            (λ here. grind (arith, here, none here, begins, some, is, many, low, to))
            (λ other. grind (arith, other, begins, some, is, many, low, to)) (cases_eq q place)

  removed : (s : Span) (spans : List Span) → s.place ≡ place → without_span place (s ∷ spans) ≡ spans
  removed s spans is = ap (λ b. if b then spans else s ∷ without_span place spans) (eq-eqb s.place place is)

  stays : (s : Span) (spans : List Span) → (s.place ≡ place → ⊥) →
      without_span place (s ∷ spans) ≡ s ∷ without_span place spans
  stays s spans other = ap (λ b. if b then spans else s ∷ without_span place spans) (ne_eqb s.place place other)

  pub from_joined : (spans : List Span) (from q : ℕ) → AreLaid from spans →
      IsBetween from spans place words before after →
      gap_from from (without_span place spans) q ≡ from_now q (gap_from from spans q)
  from_joined [] from q laid is = absurd is
  from_joined (s ∷ spans) from q laid is = ⊎_elim
      (λ (here : IsFirst from s spans place words before after).
      ap (λ l. gap_from from l q) (removed s spans here.0) ∙
      from_here spans s.place s.words from q laid.2 laid.1 here.0 here.1 here.2 here.3)
      (λ (later : IsBetween (s.place + s.words) spans place words before after).
      let low = (between_within spans (s.place + s.words) place words before after laid.2 later).0 in
      ap (λ l. gap_from from l q) (stays s spans (λ e. omega (arith, e, low, laid.1))) ∙
      by (s.place - from) (gap_from (s.place + s.words) (without_span place spans) q)
      (gap_from (s.place + s.words) spans q) (omega (arith, low, laid.0, laid.1))
      (from_joined spans (s.place + s.words) q laid.2 later))
      is where
        by : (own now old : ℕ) → from + before < place → now ≡ from_now q old →
            (if q == from then own else now) ≡ from_now q (if q == from then own else old)
        by own now old low is = grind (arith, begins, low, is)

  pub before_joined : (spans : List Span) (from q : ℕ) → AreLaid from spans →
      IsBetween from spans place words before after →
      gap_before from (without_span place spans) q ≡ before_now q (gap_before from spans q)
  before_joined [] from q laid is = absurd is
  before_joined (s ∷ spans) from q laid is = ⊎_elim
      (λ (here : IsFirst from s spans place words before after).
      ap (λ l. gap_before from l q) (removed s spans here.0) ∙
      before_here spans s.place s.words from q laid.2 laid.1 here.0 here.1 here.2 here.3)
      (λ (later : IsBetween (s.place + s.words) spans place words before after).
      let low = (between_within spans (s.place + s.words) place words before after laid.2 later).0 in
      ap (λ l. gap_before from l q) (stays s spans (λ e. omega (arith, e, low, laid.1))) ∙
      by s.place (s.place - from) (gap_before (s.place + s.words) (without_span place spans) q)
      (gap_before (s.place + s.words) spans q) (omega (arith, low, laid.1))
      (before_joined spans (s.place + s.words) q laid.2 later))
      is where
        by : (at own now old : ℕ) → at < place → now ≡ before_now q old →
            (if q == at then own else now) ≡ before_now q (if q == at then own else old)
        by at own now old low is = grind (arith, low, is)
