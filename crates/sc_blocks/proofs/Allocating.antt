-- A row with one more allocated block, or with one less.
use Rattle.sc_blocks.proofs.Common.{AreApart, Block, Blocks, Bool, Err, HoldsAt, IsOver, IsRising, List, None, Ok}
use Rattle.sc_blocks.proofs.Common.{Option, Slot, Some, ap, bind, block_at, false}
use Rattle.sc_blocks.proofs.Common.{allocated_or_ended, free_cell, free_place, get_or, given_back, if◌then◌else◌, inl}
use Rattle.sc_blocks.proofs.Common.{inr, laid_out, length, refl, slice_get, slot_among, slot_block, slice_set}
use Rattle.sc_blocks.proofs.Common.{spans_in, subst, sym, true}
use Rattle.sc_blocks.proofs.Common.{variable, variable_or, with_words, ℕ, ◌+◌, ◌<◌, ◌∙◌, ◌≡◌}
use Rattle.std.specs.Prelude.{is_some, map, replicate}
use Rattle.std.specs.List.{remove}
use Rattle.std.proofs.Common.{eq-eqb}
use Rattle.std.proofs.lemmas.Bool.{cases_eq}
use Rattle.std.proofs.lemmas.Option.{get_or_from_slice_get}
use Rattle.sc_base.proofs.Lists.{is_there}
use Rattle.sc_core.specs.Prelude.{over, without_block}
use Rattle.sc_core.specs.declared.cause.Cause.TheVariants.{BadFree}
use Rattle.sc_core.specs.declared.value.Cell.TheVariants.{Ptr, Undef}
use Rattle.sc_core.specs.declared.value.Pointer.{Pointer}
unfoldable use Rattle.sc_zone.specs.Prelude.{least_free}
use Rattle.sc_blocks.specs.Slots.{has_place, with_slot}
use Rattle.sc_blocks.proofs.Heaps.{spans_laid}
use Rattle.sc_blocks.proofs.Laying.{freed_laid, given_at}
use Rattle.sc_blocks.proofs.Living.{among_at, found_at, kept_found, removed_found, rising_remove}
use Rattle.sc_blocks.proofs.Storing.{allocated_lives, apart_more_heap, ended_is, heap_more, heap_still, lost_is_over}
use Rattle.sc_blocks.proofs.Storing.{no_variable, rising_more, variable_lives}

abbrev slot_of : (number words place : ℕ) → Slot
slot_of number words place = record { number = number; cells = replicate words Undef; place = Some place }

module _ (slots heap : List Slot) (made : ℕ) (up : IsRising 0 made slots) (heap_up : IsRising 0 made heap)
    (apart : AreApart slots heap) where
  abbrev row : Blocks
  row = laid_out (block_at slots heap) made 0

  place_is : (words : ℕ) → free_place row words ≡ least_free (spans_in heap) words
  place_is words = ap (λ spans. least_free spans words) (spans_laid slots heap made heap_up apart)

  pub place_now : (words : ℕ) (now : Blocks) → row ≡ now →
      least_free (spans_in heap) words ≡ free_place now words
  place_now words now view = sym (place_is words) ∙ ap (λ blocks. free_place blocks words) view

  -- One more, where the zone has a place.

  pub allocated_keeps : (later : List Slot) (words : ℕ) (place : Option ℕ) → is_some place ≡ true →
      later ≡ with_slot made words place heap →
      IsRising 0 (made + 1) slots × IsRising 0 (made + 1) later × AreApart slots later
  allocated_keeps later words None some is = cc some
  allocated_keeps later words (Some place) some is =
      let s : Slot = slot_of made words place in (
        heap_still heap slots later made s heap_up up refl is,
        rising_more heap slots later made s heap_up up refl is,
        apart_more_heap heap slots later made s heap_up up refl is apart,
      )

  pub allocated_makes : (later : List Slot) (words : ℕ) (place : Option ℕ) → is_some place ≡ true →
      later ≡ with_slot made words place heap →
      laid_out (block_at slots later) (made + 1) 0 ≡ with_words words place row
  allocated_makes later words None some is = cc some
  allocated_makes later words (Some place) some is =
      heap_more heap slots later made (slot_of made words place) heap_up up refl is

  pub allocated_none : (later : List Slot) (words : ℕ) (place : Option ℕ) → is_some place ≡ false →
      later ≡ with_slot made words place heap → laid_out (block_at slots later) made 0 ≡ with_words words place row
  allocated_none later words None none is = ap (λ ss. laid_out (block_at slots ss) made 0) is
  allocated_none later words (Some place) none is = cc none

  -- One less.

  module _ (p : Pointer) (start : p.index ≡ 0) where
    by_index : free_cell row (Ptr p) ≡
        bind (without_block row p.block (slice_get row p.block)) (λ after. Ok (map given_back after))
    by_index = ap (λ (b : Bool). bind (if b then without_block row p.block (slice_get row p.block) else Err BadFree)
        (λ after. Ok (map given_back after))) (eq-eqb p.index 0 start)

    over_fails : (block : Option Block) → IsOver block → without_block row p.block block ≡ Err BadFree
    over_fails block (inl none) = ap (without_block row p.block) none
    over_fails block (inr ended) = ap (without_block row p.block) ended

    -- no allocated block has the number
    pub lost_fails : slot_among heap p.block ≡ None → free_cell row (Ptr p) ≡ Err BadFree
    lost_fails none = by (slot_among slots p.block) refl where
      by : (found : Option Slot) → slot_among slots p.block ≡ found → free_cell row (Ptr p) ≡ Err BadFree
      by (Some slot) found = by_index ∙ ap (λ block. bind (without_block row p.block block)
          (λ after. Ok (map given_back after))) (variable_lives slots heap made up heap_up p.block slot found)
      by None lost = by_index ∙ ap (λ result. bind result (λ after. Ok (map given_back after)))
          (over_fails (slice_get row p.block) (lost_is_over slots heap made up heap_up p.block lost none))

    module _ (at : ℕ) (within : at < length heap) (holds : HoldsAt (λ (slot : Slot). slot.number ≡ p.block) heap at)
      where
        abbrev slot : Slot
        slot = (is_there heap at within).0

        there : slice_get heap at ≡ Some slot
        there = (is_there heap at within).1

        slot_is : slot ≡ get_or heap at slot
        slot_is = sym (get_or_from_slice_get heap at slot slot there)

        number : slot.number ≡ p.block
        number = ap (λ s. s.number) slot_is ∙ holds slot

        found : slot_among heap p.block ≡ Some slot
        found = found_at heap 0 made at slot p.block heap_up within slot_is number

        none : slot_among slots p.block ≡ None
        none = no_variable slots heap p.block slot apart found

        by_slot : free_cell row (Ptr p) ≡
            bind (without_block row p.block (Some (slot_block slot))) (λ after. Ok (map given_back after))
        by_slot = by_index ∙ ap (λ block. bind (without_block row p.block block) (λ after. Ok (map given_back after)))
            (allocated_lives slots heap made up heap_up p.block slot none found)

        by_place : free_cell row (Ptr p) ≡
            bind (if has_place (slice_get heap at) then
            Ok (slice_set row p.block (over (slot_block slot))) else Err BadFree) (λ after. Ok (map given_back after))
        by_place = by_slot ∙ ap (λ (o : Option Slot). bind (if has_place o then
            Ok (slice_set row p.block (over (slot_block slot))) else Err BadFree) (λ after. Ok (map given_back after)))
            (sym there)

        -- it has no place in the zone
        pub placeless_fails : has_place (slice_get heap at) ≡ false → free_cell row (Ptr p) ≡ Err BadFree
        placeless_fails lies = by_place ∙ ap (λ (b : Bool). bind (if b then
            Ok (slice_set row p.block (over (slot_block slot))) else Err BadFree) (λ after. Ok (map given_back after)))
            lies

        gone : slot_among (remove heap at) p.block ≡ None
        gone = removed_found heap 0 made at p.block slot heap_up within (holds slot)

        others_stay : (n : ℕ) → (n ≡ p.block → ⊥) → slot_among (remove heap at) n ≡ slot_among heap n
        others_stay n other = kept_found heap at n slot within (λ same. other (sym same ∙ holds slot))

        apart_still : AreApart slots (remove heap at)
        apart_still n = elim (cases_eq n p.block) [
          | inl same ↦ inr (ap (slot_among (remove heap at)) same ∙ gone)
          | inr other ↦ elim (apart n) [
            | inl lost ↦ inl lost
            | inr lost ↦ inr (others_stay n other ∙ lost)
          ]
        ]

        pub freed_keeps : (later : List Slot) → later ≡ remove heap at →
            IsRising 0 made slots × IsRising 0 made later × AreApart slots later
        freed_keeps later is = (
          up,
          subst (λ ss. IsRising 0 made ss) (sym is) (rising_remove heap 0 made at heap_up),
          subst (λ ss. AreApart slots ss) (sym is) apart_still,
        )

        pub freed_gives : (later : List Slot) → later ≡ remove heap at → has_place (slice_get heap at) ≡ true →
            free_cell row (Ptr p) ≡ Ok (laid_out (block_at slots later) made 0)
        freed_gives later is lies =
            by_place ∙
            ap (λ (b : Bool). bind (if b then
            Ok (slice_set row p.block (over (slot_block slot))) else Err BadFree) (λ after. Ok (map given_back after)))
            lies ∙
            ap Ok (freed_laid (block_at slots heap) (block_at slots (remove heap at)) made p.block (slot_block slot)
            (among_at heap 0 made p.block slot heap_up found).below (given_at slots heap)
            (ended_is slots (remove heap at) p.block none gone)
            (λ n other. ap (λ o. variable_or (slot_among slots n) (allocated_or_ended o)) (others_stay n other)) ∙
            ap (λ ss. laid_out (block_at slots ss) made 0) (sym is))
