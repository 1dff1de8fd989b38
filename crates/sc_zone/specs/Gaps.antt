-- Blocks that don't meet, and the gaps before, between and after them.
use Rattle.sc_zone.specs.Zone.{zone_words}
use Rattle.std.specs.Prelude.{◌≡◌, ◌⊎◌, ℕ, ◌+◌, ◌-◌, ◌<◌, ◌==◌, ◌≤◌, if◌then◌else◌, List, [], ◌∷◌}
use Rattle.sc_zone.specs.declared.span.Span.{Span}

-- blocks of at least a word, one after the other from a place on, that end within the zone
abbrev pub AreLaid : (from : ℕ) → List Span → Type 0
AreLaid from [] = from ≤ zone_words
AreLaid from (span ∷ spans) = (from ≤ span.place) × (0 < span.words) × AreLaid (span.place + span.words) spans

-- how many words the gap has that begins at a place, 0 where none does
abbrev pub gap_from : (from : ℕ) → List Span → (place : ℕ) → ℕ
gap_from from [] place = if place == from then zone_words - from else 0
gap_from from (span ∷ spans) place =
    if place == from then span.place - from else gap_from (span.place + span.words) spans place

-- how many words the gap has that ends before a place, 0 where none does
abbrev pub gap_before : (from : ℕ) → List Span → (place : ℕ) → ℕ
gap_before from [] place = if place == zone_words then zone_words - from else 0
gap_before from (span ∷ spans) place =
    if place == span.place then span.place - from else gap_before (span.place + span.words) spans place

-- the words from a place on are a gap: all that lie between two blocks, or before the first or after the last
abbrev pub IsGap : (from : ℕ) → List Span → (place words : ℕ) → Type 0
IsGap from [] place words = (from ≡ place) × (place + words ≡ zone_words)
IsGap from (span ∷ spans) place words =
    ((from ≡ place) × (place + words ≡ span.place)) ⊎ IsGap (span.place + span.words) spans place words
