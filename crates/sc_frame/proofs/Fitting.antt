-- Objects and slots fit into their frame: ranges that stand one after the other don't meet.
use Rattle.sc_frame.proofs.Common.{All, AllPairs, Apart, FrameFits, IsFrame, List, Range, [], ap, arith, end_of}
use Rattle.sc_frame.proofs.Common.{frame_of, inl, length, length-map-range_with_len, map, object_range, offsets_from}
use Rattle.sc_frame.proofs.Common.{range_with_len, ranges_of, refl, slots_of, subst, suc, sym, total, word_at, zero}
use Rattle.sc_frame.proofs.Common.{zip, ℕ, ◌%◌, ◌*◌, ◌++◌, ◌+◌, ◌∷◌, ◌≡◌, ◌≤◌}
use Rattle.std.proofs.lemmas.List.Elements.{All-nil, All-cons}
use Rattle.std.proofs.lemmas.List.Kept.{AllPairs-cons}
use Rattle.sc_tac.specs.declared.place.Place.{Place}

-- from one number to another, each range begins where the one before ended
abbrev Stacked : ℕ → List Range → ℕ → Type 0
Stacked from [] end = from ≡ end
Stacked from (range ∷ ranges) end = (from ≡ range.offset) × Stacked (end_of range) ranges end

appended : (from mid end : ℕ) (xs ys : List Range) → Stacked from xs mid → Stacked mid ys end →
    Stacked from (xs ++ ys) end
appended from mid end [] ys low high = subst (λ n. Stacked n ys end) (sym low) high
appended from mid end (x ∷ xs) ys low high = (low.0, appended (end_of x) mid end xs ys low.1 high)

rises : (from end : ℕ) (ranges : List Range) → Stacked from ranges end → from ≤ end
rises from end [] h = omega (arith, h)
rises from end (x ∷ xs) h = omega (arith, h.0, rises (end_of x) end xs h.1)

inside : (from end : ℕ) (ranges : List Range) → Stacked from ranges end → All (λ range. end_of range ≤ end) ranges
inside from end [] h = All-nil _
inside from end (x ∷ xs) h =
    All-cons (λ range. end_of range ≤ end) x xs (rises (end_of x) end xs h.1) (inside (end_of x) end xs h.1)

following : (x : Range) (from end : ℕ) (ranges : List Range) → end_of x ≤ from → Stacked from ranges end →
    All (Apart x) ranges
following x from end [] low h = All-nil _
following x from end (y ∷ ys) low h =
    All-cons (Apart x) y ys (inl (omega (arith, low, h.0)))
    (following x (end_of y) end ys (omega (arith, low, h.0)) h.1)

apart : (from end : ℕ) (ranges : List Range) → Stacked from ranges end → AllPairs Apart ranges
apart from end [] h = λ i j d low high. absurd (omega arith)
apart from end (x ∷ xs) h =
    AllPairs-cons Apart x xs (following x (end_of x) end xs (omega arith) h.1) (apart (end_of x) end xs h.1)

stacked_slots : (slot count from end : ℕ) → from ≡ 4 + 4 * slot → end ≡ 4 + 4 * (slot + count) →
    Stacked from (map word_at (map (λ slot. 4 + 4 * slot) (range_with_len slot count))) end
stacked_slots slot zero from end low high = omega (arith, low, high)
stacked_slots slot (suc count) from end low high =
    (low, stacked_slots (slot + 1) count (4 + 4 * slot + 4) end (omega arith) (omega (arith, high)))

stacked_objects : (from end : ℕ) (cells : List ℕ) → end ≡ from + 4 * total cells →
    Stacked from (map object_range (zip (offsets_from from cells) cells)) end
stacked_objects from end [] high = omega (arith, high)
stacked_objects from end (n ∷ cells) high =
    (refl, stacked_objects (from + 4 * n) end cells (omega (arith, high)))

stacked : (cells : List ℕ) (places : List Place) →
    Stacked 0 (ranges_of cells (frame_of cells places)) (4 + 4 * (slots_of places + total cells))
stacked cells places = (
  refl,
  appended 4 (4 + 4 * slots_of places) (4 + 4 * (slots_of places + total cells)) _ _
      (stacked_slots 0 (slots_of places) 4 (4 + 4 * slots_of places) refl (omega arith))
      (stacked_objects (4 + 4 * slots_of places) (4 + 4 * (slots_of places + total cells)) cells (omega arith)),
)

length-offsets : (from : ℕ) (cells : List ℕ) → length (offsets_from from cells) ≡ length cells
length-offsets from [] = refl
length-offsets from (n ∷ cells) = ap suc (length-offsets (from + 4 * n) cells)

pub fits_frame : (cells : List ℕ) (places : List Place) (nodes : ℕ) → slots_of places ≤ nodes →
    FrameFits cells places nodes (frame_of cells places)
fits_frame cells places nodes few = record {
  objects = length-offsets (4 + 4 * slots_of places) cells;
  slots = length-map-range_with_len (λ slot. 4 + 4 * slot) 0 (slots_of places);
  inside = inside 0 (4 + 4 * (slots_of places + total cells)) (ranges_of cells (frame_of cells places))
      (stacked cells places);
  apart = apart 0 (4 + 4 * (slots_of places + total cells)) (ranges_of cells (frame_of cells places))
      (stacked cells places);
  bounded = omega (arith, few);
}

abbrev IsWhole : ℕ → Type 0
IsWhole offset = offset % 4 ≡ 0

whole_objects : (from : ℕ) (cells : List ℕ) → from % 4 ≡ 0 → All IsWhole (offsets_from from cells)
whole_objects from [] h = All-nil _
whole_objects from (n ∷ cells) h = All-cons IsWhole from _ h (whole_objects (from + 4 * n) cells (omega (arith, h)))

whole_slots : (slot count : ℕ) →
    All IsWhole (map (λ slot. 4 + 4 * slot) (range_with_len slot count))
whole_slots slot zero = All-nil _
whole_slots slot (suc count) = All-cons IsWhole (4 + 4 * slot) _ (omega arith) (whole_slots (slot + 1) count)

pub is_frame : (cells : List ℕ) (places : List Place) → IsFrame (frame_of cells places)
is_frame cells places = record {
  bytes = omega arith;
  objects = whole_objects (4 + 4 * slots_of places) cells (omega arith);
  slots = whole_slots 0 (slots_of places);
}
