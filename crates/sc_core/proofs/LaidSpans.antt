-- Spans of a zone, once one more was taken or one was given back.
use Rattle.sc_core.proofs.Common.{Bool, List, Some, ℕ, [], ap, false, refl, subst, suc, ◌+◌, ◌∙◌, ◌∷◌, ◌≡◌}
use Rattle.sc_base.proofs.Bools.{and_first, and_rest}
use Rattle.std.proofs.Common.{arith, eq-eqb, if◌then◌else◌, inl, inr, leb-true, nat_le, ne_eqb, sym, true, zero}
use Rattle.std.proofs.Common.{⊎_elim, ◌<◌, ◌≢◌, ◌≤◌, ◌⊎◌}
use Rattle.std.proofs.lemmas.Bool.{cases_eq, cases_lt}
use Rattle.std.specs.Prelude.{◌||◌}
use Rattle.std.specs.List.{list_all}
use Rattle.sc_zone.specs.Prelude.{AreLaid, misses, starts_at, with_span, without_span, zone_words}
unfoldable use Rattle.sc_zone.specs.Prelude.{least_free}
use Rattle.sc_zone.specs.declared.span.Span.{Span}
use Rattle.sc_zone.proofs.Places.{least_is_free, least_is_within, least_of_none}
use Rattle.sc_zone.proofs.Taking.{first_put, later_put}

abbrev pub span_of : (place words : ℕ) → Span
span_of place words = record { place = place; words = words }

-- Whether one starts at a place.

starts_first : (s : Span) (spans : List Span) (place : ℕ) → s.place ≡ place → starts_at (s ∷ spans) place ≡ true
starts_first s spans place e = ap (λ b. b || starts_at spans place) (eq-eqb s.place place e)

starts_later : (s : Span) (spans : List Span) (place : ℕ) → s.place ≢ place →
    starts_at (s ∷ spans) place ≡ starts_at spans place
starts_later s spans place n = ap (λ b. b || starts_at spans place) (ne_eqb s.place place n)

starts_behind : (s : Span) (spans : List Span) (place : ℕ) → starts_at spans place ≡ true →
    starts_at (s ∷ spans) place ≡ true
starts_behind s spans place is =
    ⊎_elim (starts_first s spans place) (λ n. starts_later s spans place n ∙ is) (cases_eq s.place place)

-- none starts before the first
starts_before : (spans : List Span) (from place : ℕ) → AreLaid from spans → place < from → starts_at spans place ≡ false
starts_before [] from place laid h = refl
starts_before (s ∷ spans) from place laid h =
    starts_later s spans place (λ e. absurd (omega (arith, e, h, laid.0))) ∙
    starts_before spans (s.place + s.words) place laid.2 (omega (arith, h, laid.0))

pub starts_taken : (x : Span) (spans : List Span) → starts_at (with_span x spans) x.place ≡ true
starts_taken x [] = starts_first x [] x.place refl
starts_taken x (s ∷ spans) =
    let later = starts_taken x spans in
    ⊎_elim
    (λ h. ap (λ l. starts_at l x.place) (first_put x s spans h) ∙ starts_first x (s ∷ spans) x.place refl)
    (λ h. ap (λ l. starts_at l x.place) (later_put x s spans h) ∙ starts_behind s (with_span x spans) x.place later)
    (cases_lt x.place s.place)

starts_still_by : (x s : Span) (spans : List Span) (place : ℕ) → starts_at (s ∷ spans) place ≡ true →
    (starts_at spans place ≡ true → starts_at (with_span x spans) place ≡ true) → s.place ≤ x.place →
    starts_at (with_span x (s ∷ spans)) place ≡ true
starts_still_by x s spans place is later h =
    ap (λ l. starts_at l place) (later_put x s spans h) ∙
    ⊎_elim (starts_first s (with_span x spans) place)
    (λ n. starts_behind s (with_span x spans) place (later (sym (starts_later s spans place n) ∙ is)))
    (cases_eq s.place place)

pub starts_still : (x : Span) (spans : List Span) (place : ℕ) → starts_at spans place ≡ true →
    starts_at (with_span x spans) place ≡ true
starts_still x [] place is = cc is
starts_still x (s ∷ spans) place is =
    let later : (starts_at spans place ≡ true → starts_at (with_span x spans) place ≡ true) =
    starts_still x spans place in
    ⊎_elim
    (λ h. ap (λ l. starts_at l place) (first_put x s spans h) ∙ starts_behind x (s ∷ spans) place is)
    (starts_still_by x s spans place is later) (cases_lt x.place s.place)

-- One is given back.

gone_first : (s : Span) (spans : List Span) (place : ℕ) → s.place ≡ place → without_span place (s ∷ spans) ≡ spans
gone_first s spans place e = ap (λ t. if t then spans else s ∷ without_span place spans) (eq-eqb s.place place e)

gone_later : (s : Span) (spans : List Span) (place : ℕ) → s.place ≢ place →
    without_span place (s ∷ spans) ≡ s ∷ without_span place spans
gone_later s spans place n = ap (λ t. if t then spans else s ∷ without_span place spans) (ne_eqb s.place place n)

-- the one that was just taken
pub gone_taken : (x : Span) (spans : List Span) → starts_at spans x.place ≡ false →
    without_span x.place (with_span x spans) ≡ spans
gone_taken x [] none = gone_first x [] x.place refl
gone_taken x (s ∷ spans) none =
    let differ : s.place ≢ x.place = (λ e. cc (none, starts_first s spans x.place e)) in
    let later : without_span x.place (with_span x spans) ≡ spans =
    gone_taken x spans (sym (starts_later s spans x.place differ) ∙ none) in
    ⊎_elim
    (λ h. ap (without_span x.place) (first_put x s spans h) ∙ gone_first x (s ∷ spans) x.place refl)
    (λ h. ap (without_span x.place) (later_put x s spans h) ∙ gone_later s (with_span x spans) x.place differ ∙
    ap (λ l. s ∷ l) later)
    (cases_lt x.place s.place)

put_in_front : (x : Span) (spans : List Span) (from : ℕ) → x.place < from → AreLaid from spans →
    with_span x spans ≡ x ∷ spans
put_in_front x [] from h laid = refl
put_in_front x (s ∷ spans) from h laid = first_put x s spans (omega (arith, h, laid.0))

module _ (x s : Span) (spans : List Span) (place : ℕ) (differ : x.place ≢ place)
    (laid : AreLaid (s.place + s.words) spans) where
  -- one is taken before the first, or after it
  either_front : x.place < s.place →
      without_span place (with_span x (s ∷ spans)) ≡ with_span x (without_span place (s ∷ spans))
  either_front h =
      ap (without_span place) (first_put x s spans h) ∙ gone_later x (s ∷ spans) place differ ∙
      ⊎_elim
      (λ e. ap (λ l. x ∷ l) (gone_first s spans place e) ∙
      sym (put_in_front x spans (s.place + s.words) (omega (arith, h)) laid) ∙
      ap (with_span x) (sym (gone_first s spans place e)))
      (λ n. ap (λ l. x ∷ l) (gone_later s spans place n) ∙ sym (first_put x s (without_span place spans) h) ∙
      ap (with_span x) (sym (gone_later s spans place n)))
      (cases_eq s.place place)

  either_behind : without_span place (with_span x spans) ≡ with_span x (without_span place spans) → s.place ≤ x.place →
      without_span place (with_span x (s ∷ spans)) ≡ with_span x (without_span place (s ∷ spans))
  either_behind later h =
      ap (without_span place) (later_put x s spans h) ∙
      ⊎_elim
      (λ e. gone_first s (with_span x spans) place e ∙ ap (with_span x) (sym (gone_first s spans place e)))
      (λ n. gone_later s (with_span x spans) place n ∙ ap (λ l. s ∷ l) later ∙
      sym (later_put x s (without_span place spans) h) ∙ ap (with_span x) (sym (gone_later s spans place n)))
      (cases_eq s.place place)

-- one is taken and another given back, in either order
pub gone_other : (x : Span) (spans : List Span) (from place : ℕ) → x.place ≢ place → AreLaid from spans →
    without_span place (with_span x spans) ≡ with_span x (without_span place spans)
gone_other x [] from place differ laid = gone_later x [] place differ
gone_other x (s ∷ spans) from place differ laid =
    ⊎_elim (either_front x s spans place differ laid.2)
    (either_behind x s spans place differ laid.2 (gone_other x spans (s.place + s.words) place differ laid.2))
    (cases_lt x.place s.place)

-- One was taken.

-- with it all are laid, so they were before, and none of them starts where it does
pub record WasLaid (x : Span) (spans : List Span) (from : ℕ) : Type 0 where
  pub laid : AreLaid from spans
  pub above : from ≤ x.place
  pub fresh : starts_at spans x.place ≡ false

was_front : (x s : Span) (spans : List Span) (from : ℕ) → AreLaid from (with_span x (s ∷ spans)) →
    x.place < s.place → WasLaid x (s ∷ spans) from
was_front x s spans from laid h =
    let now : AreLaid from (x ∷ s ∷ spans) = subst (AreLaid from) (first_put x s spans h) laid in
    let alone : AreLaid s.place (s ∷ spans) = (omega arith, now.2.1, now.2.2) in
    record {
      laid = (omega (arith, h, now.0), now.2.1, now.2.2);
      above = now.0;
      fresh = starts_before (s ∷ spans) s.place x.place alone h;
    }

was_behind : (x s : Span) (spans : List Span) (from : ℕ) → AreLaid from (with_span x (s ∷ spans)) →
    (AreLaid (s.place + s.words) (with_span x spans) → WasLaid x spans (s.place + s.words)) → s.place ≤ x.place →
    WasLaid x (s ∷ spans) from
was_behind x s spans from laid later h =
    let now : AreLaid from (s ∷ with_span x spans) = subst (AreLaid from) (later_put x s spans h) laid in
    let was : WasLaid x spans (s.place + s.words) = later now.2 in
    record {
      laid = (now.0, now.1, was.laid);
      above = omega (arith, now.0, h);
      fresh = starts_later s spans x.place (λ e. absurd (omega (arith, e, was.above, now.1))) ∙ was.fresh;
    }

pub was_laid : (x : Span) (spans : List Span) (from : ℕ) → AreLaid from (with_span x spans) → WasLaid x spans from
was_laid x [] from laid = record { laid = omega (arith, laid.0, laid.2); above = laid.0; fresh = refl }
was_laid x (s ∷ spans) from laid =
    ⊎_elim (was_front x s spans from laid)
    (was_behind x s spans from laid (was_laid x spans (s.place + s.words))) (cases_lt x.place s.place)

-- words that miss a span lie before it or after it
pub missed : (words place : ℕ) (s : Span) → misses words place s ≡ true →
    (place + words ≤ s.place) ⊎ (s.place + s.words ≤ place)
missed words place s h = by (nat_le (place + words) s.place) refl h where
  by : (first : Bool) → nat_le (place + words) s.place ≡ first →
      (first || nat_le (s.place + s.words) place) ≡ true → (place + words ≤ s.place) ⊎ (s.place + s.words ≤ place)
  by true is h = inl (leb-true (place + words) s.place is)
  by false is h = inr (leb-true (s.place + s.words) place h)

-- words that miss all of them are laid among them
laid_among : (spans : List Span) (words place from : ℕ) → 0 < words → place + words ≤ zone_words → from ≤ place →
    AreLaid from spans → list_all (misses words place) spans ≡ true →
    AreLaid from (with_span (span_of place words) spans)
laid_among [] words place from some within above laid all = (above, some, within)
laid_among (s ∷ spans) words place from some within above laid all =
    let rest : list_all (misses words place) spans ≡ true = and_rest (misses words place s) _ all in
    ⊎_elim
    (λ h. subst (AreLaid from) (sym (first_put (span_of place words) s spans (omega (arith, h, some))))
    (above, some, (h, laid.1, laid.2)))
    (λ h. subst (AreLaid from) (sym (later_put (span_of place words) s spans (omega (arith, h))))
    (laid.0, laid.1, laid_among spans words place (s.place + s.words) some within h laid.2 rest))
    (missed words place s (and_first (misses words place s) _ all))

-- what is taken at the least free place: some words within the zone, that miss all of the spans, and lie among them
pub record IsTaken (spans : List Span) (words place : ℕ) : Type 0 where
  pub some : 0 < words
  pub within : place + words ≤ zone_words
  pub free : list_all (misses words place) spans ≡ true
  pub laid : AreLaid 0 (with_span (span_of place words) spans)

some_words : (spans : List Span) (words place : ℕ) → least_free spans words ≡ Some place → 0 < words
some_words spans zero place is = cc (is, least_of_none spans)
some_words spans (suc words) place is = omega arith

pub is_taken : (spans : List Span) (words place : ℕ) → AreLaid 0 spans → least_free spans words ≡ Some place →
    IsTaken spans words place
is_taken spans words place laid is =
    let some : 0 < words = some_words spans words place is in
    let within : place + words ≤ zone_words = least_is_within spans words place is in
    let free : list_all (misses words place) spans ≡ true =
    and_rest (nat_le (place + words) zone_words) _ (least_is_free spans words place is) in
    record {
      some = some;
      within = within;
      free = free;
      laid = laid_among spans words place 0 some within (omega arith) laid free;
    }
