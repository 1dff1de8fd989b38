-- Where allocated blocks lie: as the slots tell it, once one is more, one is taken out or one is stored into, and in
-- the row of all blocks.
use Rattle.sc_blocks.proofs.Common.{AreApart, Block, IsRising, List, None, Option, Slot, Some, []}
use Rattle.sc_blocks.proofs.Common.{allocated_or_ended, ap, arith, block_at, ended_block, laid_out, length, refl}
use Rattle.sc_blocks.proofs.Common.{get_or, slice_get, slice_set, slot_among, slot_block, spans_in, subst, suc, sym}
use Rattle.sc_blocks.proofs.Common.{inl, inr, variable_or, zero, ℕ, ◌++◌, ◌+◌, ◌-◌, ◌<◌, ◌∙◌, ◌∷◌, ◌≡◌, ◌≤◌}
use Rattle.std.specs.Prelude.{fold, map, take, replicate}
use Rattle.std.specs.List.{remove}
use Rattle.std.proofs.lemmas.Bool.{cases_eq}
use Rattle.std.proofs.lemmas.List.{map-append, map-set}
use Rattle.sc_core.specs.Prelude.{spans_of, with_block}
use Rattle.sc_core.specs.declared.value.Cell.TheVariants.{Undef}
use Rattle.sc_core.proofs.Spans.{gone_between, none_between, spans_changed}
use Rattle.sc_core.proofs.Spans.{spans_allocated, still_laid}
use Rattle.sc_core.proofs.LaidSpans.{IsTaken, WasLaid, gone_taken, is_taken, span_of, was_laid}
use Rattle.sc_zone.specs.Prelude.{AreLaid, taken, with_span, without_span}
unfoldable use Rattle.sc_zone.specs.Prelude.{least_free}
use Rattle.sc_zone.specs.declared.span.Span.{Span}
use Rattle.sc_blocks.proofs.Living.{met, none_before, rising_to, skipped}

-- In the row of all blocks.

-- what isn't an allocated block changes nothing in the zone
record LieAs (f : ℕ → Block) (heap : List Slot) (from : ℕ) : Type 0 where
  lying : (n : ℕ) (slot : Slot) → from ≤ n → slot_among heap n ≡ Some slot → f n ≡ slot_block slot
  others : (n : ℕ) (spans : List Span) → from ≤ n → slot_among heap n ≡ None → with_block spans (f n) ≡ spans

spans_laid_from : (f : ℕ → Block) (heap : List Slot) (count from : ℕ) (spans : List Span) →
    IsRising from (from + count) heap → LieAs f heap from →
    fold with_block spans (laid_out f count from) ≡ fold with_block spans (map slot_block heap)
spans_laid_from f [] zero from spans up lies = refl
spans_laid_from f (s ∷ heap) zero from spans up lies =
    absurd (omega (arith, up.0, rising_to heap _ (from + 0) up.1))
spans_laid_from f [] (suc count) from spans up lies =
    ap (λ l. fold with_block l (laid_out f count (suc from))) (lies.others from spans (omega arith) refl) ∙
    spans_laid_from f [] count (suc from) spans (omega arith)
    (record {
      lying = λ n slot h. lies.lying n slot (omega (arith, h));
      others = λ n l h. lies.others n l (omega
          (arith, h));
    })
spans_laid_from f (s ∷ heap) (suc count) from spans up lies = elim (cases_eq s.number from) [
  | inl here ↦
      let block : f from ≡ slot_block s = lies.lying from s (omega arith) (met s heap from here) in
      let up_from : IsRising (suc from) (suc from + count) heap =
      subst (λ n. IsRising (suc n) (suc from + count) heap) here (rising_same heap (suc s.number) _ _
      (omega arith) up.1) in
      ap (λ b. fold with_block (with_block spans b) (laid_out f count (suc from))) block ∙
      spans_laid_from f heap count (suc from) (with_block spans (slot_block s)) up_from (record {
        lying = λ n slot h found. lies.lying n slot (omega (arith, h))
            (skipped s heap n (λ e. absurd (omega (arith, e, here, h))) ∙ found);
        others = λ n l h none. lies.others n l (omega (arith, h))
            (skipped s heap n (λ e. absurd (omega (arith, e, here, h))) ∙ none);
      })
  | inr other ↦
      let later : suc from ≤ s.number = omega (arith, up.0, other) in
      ap (λ l. fold with_block l (laid_out f count (suc from)))
      (lies.others from spans (omega arith) (none_before (s ∷ heap) (suc from) (from + suc count) from
      (later, up.1) (omega arith))) ∙
      spans_laid_from f (s ∷ heap) count (suc from) spans
      (rising_same (s ∷ heap) (suc from) (from + suc count) _ (omega arith) (later, up.1)) (record {
        lying = λ n slot h. lies.lying n slot (omega (arith, h));
        others = λ n l h. lies.others n l (omega (arith, h));
      })
] where
  rising_same : (slots : List Slot) (from made more : ℕ) → made ≡ more → IsRising from made slots →
      IsRising from more slots
  rising_same slots from made more e up = subst (λ n. IsRising from n slots) e up

variable_changes_nothing : (spans : List Span) (o : Option Slot) → (b : Block) → b ≡ ended_block →
    with_block spans (variable_or o b) ≡ spans
variable_changes_nothing spans (Some slot) b is = refl
variable_changes_nothing spans None b is = ap (with_block spans) is

-- the allocated blocks of a row lie where their slots say
pub spans_laid : (slots heap : List Slot) (made : ℕ) → IsRising 0 made heap → AreApart slots heap →
    spans_of (laid_out (block_at slots heap) made 0) ≡ spans_in heap
spans_laid slots heap made up apart = spans_laid_from (block_at slots heap) heap made 0 [] up_all (record {
  lying = λ n slot h found. allocated_there n slot found;
  others = λ n spans h none. variable_changes_nothing spans (slot_among slots n)
      (allocated_or_ended (slot_among heap n)) (ap allocated_or_ended none);
}) where
  up_all : IsRising 0 (0 + made) heap
  up_all = let same : made ≡ 0 + made = omega arith in subst (λ n. IsRising 0 n heap) same up

  allocated_there : (n : ℕ) (slot : Slot) → slot_among heap n ≡ Some slot → block_at slots heap n ≡ slot_block slot
  allocated_there n slot found = elim (apart n) [
    | inl none ↦ (λ i. variable_or (none i) (allocated_or_ended (found i)))
    | inr none ↦ (let never : ◌≡◌ {A = Option Slot} None (Some slot) = sym none ∙ found in cc never)
  ]

-- One more.

-- the zone that the slots tell of
pub record IsZoneOf (spans : List Span) (slots : List Slot) : Type 0 where
  pub same : spans ≡ spans_in slots
  pub laid : AreLaid 0 (spans_in slots)

abbrev slot_of : (number words place : ℕ) → Slot
slot_of number words place = record { number = number; cells = replicate words Undef; place = Some place }

spans_more : (slots : List Slot) (number words place : ℕ) →
    spans_in (slots ++ slot_of number words place ∷ []) ≡ with_span (span_of place words) (spans_in slots)
spans_more slots number words place =
    ap spans_of (map-append slot_block slots (slot_of number words place ∷ [])) ∙
    spans_allocated (map slot_block slots) place words

pub zone_more : (spans later : List Span) (slots after : List Slot) (number words place : ℕ) →
    IsZoneOf spans slots → least_free spans words ≡ Some place → later ≡ with_span (span_of place words) spans →
    after ≡ slots ++ slot_of number words place ∷ [] → IsZoneOf later after
zone_more spans later slots after number words place zone found took is =
    let t : IsTaken (spans_in slots) words place =
    is_taken (spans_in slots) words place zone.laid (ap (λ l. least_free l words) (sym zone.same) ∙ found) in
    let now : spans_in after ≡ with_span (span_of place words) (spans_in slots) =
    ap spans_in is ∙ spans_more slots number words place in
    record {
      same = took ∙ ap (with_span (span_of place words)) zone.same ∙ sym now;
      laid = subst (AreLaid 0) (sym now) t.laid;
    }

-- what was taken in vain is given back
pub zone_back : (spans later : List Span) (slots after : List Slot) (words place : ℕ) → IsZoneOf spans slots →
    least_free spans words ≡ Some place → later ≡ without_span place (with_span (span_of place words) spans) →
    after ≡ slots → IsZoneOf later after
zone_back spans later slots after words place zone found is kept =
    let t : IsTaken (spans_in slots) words place =
    is_taken (spans_in slots) words place zone.laid (ap (λ l. least_free l words) (sym zone.same) ∙ found) in
    let was : WasLaid (span_of place words) (spans_in slots) 0 =
    was_laid (span_of place words) (spans_in slots) 0 t.laid in
    record {
      same = is ∙ ap (λ l. without_span place (with_span (span_of place words) l)) zone.same ∙
          gone_taken (span_of place words) (spans_in slots) was.fresh ∙ ap spans_in (sym kept);
      laid = subst (λ ss. AreLaid 0 (spans_in ss)) (sym kept) zone.laid;
    }

-- One less.

map_remove : (slots : List Slot) (at : ℕ) → map slot_block (remove slots at) ≡ remove (map slot_block slots) at
map_remove [] zero = refl
map_remove [] (suc at) = refl
map_remove (s ∷ slots) zero = refl
map_remove (s ∷ slots) (suc at) = ap (λ bs. slot_block s ∷ bs) (map_remove slots at)

map_at : (slots : List Slot) (at : ℕ) (d : Slot) → at < length slots →
    slice_get (map slot_block slots) at ≡ Some (slot_block (get_or slots at d))
map_at [] at d h = absurd (omega (arith, h))
map_at (s ∷ slots) zero d h = refl
map_at (s ∷ slots) (suc at) d h = map_at slots at d (omega (arith, h))

module _ (spans later : List Span) (slots after : List Slot) (at : ℕ) (slot : Slot) (zone : IsZoneOf spans slots)
    (within : at < length slots) (is : slot ≡ get_or slots at slot) (less : after ≡ remove slots at) where
  now : spans_in after ≡ spans_of (remove (map slot_block slots) at)
  now = ap spans_in less ∙ ap spans_of (map_remove slots at)

  there : slice_get (map slot_block slots) at ≡ Some (slot_block slot)
  there = map_at slots at slot within ∙ ap (λ s. Some (slot_block s)) (sym is)

  pub zone_less : (place : ℕ) → slot.place ≡ Some place → later ≡ without_span place spans → IsZoneOf later after
  zone_less place lies gone =
      let same : spans_of (remove (map slot_block slots) at) ≡ without_span place (spans_in slots) =
      gone_between (map slot_block slots) at place (slot_block slot) there refl lies zone.laid in
      record {
        same = gone ∙ ap (without_span place) zone.same ∙ sym same ∙ sym now;
        laid = subst (AreLaid 0) (sym (now ∙ same)) (still_laid (spans_in slots) place zone.laid);
      }

  pub zone_same : slot.place ≡ None → later ≡ spans → IsZoneOf later after
  zone_same lies gone =
      let same : spans_of (remove (map slot_block slots) at) ≡ spans_in slots =
      none_between (map slot_block slots) at (slot_block slot) there lies in
      record {
        same = gone ∙ zone.same ∙ sym same ∙ sym now;
        laid = subst (AreLaid 0) (sym (now ∙ same)) zone.laid;
      }

-- Another one in its place.

map_set : (slots : List Slot) (at : ℕ) (slot : Slot) →
    map slot_block (slice_set slots at slot) ≡ slice_set (map slot_block slots) at (slot_block slot)
map_set slots at slot = map-set slot_block slots at slot

pub zone_set : (spans : List Span) (slots : List Slot) (at : ℕ) (old new : Slot) → IsZoneOf spans slots →
    at < length slots → old ≡ get_or slots at old → new.place ≡ old.place → length new.cells ≡ length old.cells →
    IsZoneOf spans (slice_set slots at new)
zone_set spans slots at old new zone within is place long =
    let there : slice_get (map slot_block slots) at ≡ Some (slot_block old) =
    map_at slots at old within ∙ ap (λ s. Some (slot_block s)) (sym is) in
    let same : spans_in (slice_set slots at new) ≡ spans_in slots =
    ap spans_of (map_set slots at new) ∙ spans_changed [] (map slot_block slots) at (slot_block old) (slot_block new)
    there (record { live = refl; place = place; long = long }) in
    record { same = zone.same ∙ sym same; laid = subst (AreLaid 0) (sym same) zone.laid }
