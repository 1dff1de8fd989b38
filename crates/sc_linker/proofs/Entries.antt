-- In a linked image each export has an entry, which jumps to its function.
use Rattle.sc_linker.proofs.Common.{All, CodeTree, CompPart, EntriesStand, Export, ExportPart, IsLinkable, IsWellTyped}
use Rattle.sc_linker.proofs.Common.{IsWhole, Jal, List, None, Option, ProgramTree, Proto, Some, StandsAt, []}
use Rattle.sc_linker.proofs.Common.{addresses_at, ap, arith, codes_at, cond, entry_address, entry_in, entry_jump}
use Rattle.sc_linker.proofs.Common.{eq-eqb, export_at, export_parts, exports_at, exported_by, false, found_passes}
use Rattle.sc_linker.proofs.Common.{function_address, has_result, is_some, length, linked_image, ne_eqb, option_map}
use Rattle.sc_linker.proofs.Common.{option_map_or, export_params, place_named, place_of_export, pos, position}
use Rattle.sc_linker.proofs.Common.{position-cons, refl, section_at, slice_get, slice_get_within, suc, sym, true, zero}
use Rattle.sc_linker.proofs.Common.{ℕ, ℤ, ◌+◌, ◌-ℤ◌, ◌<◌, ◌==◌, ◌^◌, ◌∙◌, ◌∷◌, ◌≡◌}
use Rattle.sc_word.specs.Prelude.{add_word, word_of}
use Rattle.sc_image.specs.Prelude.{entered_export as image_export}
use Rattle.sc_word.proofs.Words.{word_of-unsigned_sub}
use Rattle.sc_linker.proofs.Comps.{Fits, export_there, exports_are, number_below, of_export, part_is, section_is}
use Rattle.sc_linker.proofs.Exports.{export_part, few_exports, part_first}
use Rattle.sc_linker.proofs.Instrs.{IsWithin}
use Rattle.sc_linker.proofs.Linked.{entry_instr, function_within, jump_there}
use Rattle.sc_linker.proofs.Ready.{can_link, stands}

-- the export whose entry stands at an address
entry_found : (c k number : ℕ) (protos : List Proto) (i : ℕ) (proto : Proto) → number ≡ k + i →
    slice_get protos i ≡ Some proto →
    position (λ (export : ExportPart). export.entry == entry_address c number) (export_parts c k protos) ≡ Some i
entry_found c k number [] i proto e is = absurd (cc)
entry_found c k number (p ∷ protos) zero proto e is =
    let here : (entry_address c k == entry_address c number) ≡ true =
    eq-eqb (entry_address c k) (entry_address c number) (omega (arith, e)) in
    position-cons (λ (export : ExportPart). export.entry == entry_address c number) (export_part c k p)
    (export_parts c (suc k) protos)
    ∙ ap (λ b. cond b (Some 0) (option_map suc (position (λ (export : ExportPart). export.entry == entry_address c
    number) (export_parts c (suc k) protos)))) here
entry_found c k number (p ∷ protos) (suc i) proto e is =
    let not_here : (entry_address c k == entry_address c number) ≡ false =
    ne_eqb (entry_address c k) (entry_address c number) (λ same. omega (arith, e, same)) in
    position-cons (λ (export : ExportPart). export.entry == entry_address c number) (export_part c k p)
    (export_parts c (suc k) protos)
    ∙ ap (λ b. cond b (Some 0) (option_map suc (position (λ (export : ExportPart). export.entry == entry_address c
    number) (export_parts c (suc k) protos)))) not_here
    ∙ ap (option_map suc) (entry_found c (suc k) number protos i proto (omega (arith, e)) is)

-- a jump from pc to an address
jump_to : (pc target : ℕ) → pc < 2 ^ 32 → target < 2 ^ 32 → add_word pc (word_of (pos target -ℤ pos pc)) ≡ target
jump_to pc target low below =
    ap (add_word pc) (word_of-unsigned_sub target pc below low) ∙ omega (arith, low, below)

module _ (program : ProgramTree) (codes : List CodeTree) (typed : IsWellTyped program) where
  -- exports in the image
  module _ (c index : ℕ) (proto : Proto) (is : export_at program.interfaces c index ≡ Some proto) where
    abbrev fits : Fits program c
    fits = of_export program typed c index proto is

    own : slice_get fits.interface.exports index ≡ Some proto
    own = ap (λ ps. slice_get ps index) (sym (exports_are program c fits)) ∙
        export_there program typed c index proto is fits

    parts_are : exported_by (linked_image program codes) c ≡ export_parts c 0 fits.interface.exports
    parts_are = ap (λ o. option_map_or (λ (comp : CompPart). comp.exports) o []) (part_is program codes c fits)

    part_is_there : slice_get (exported_by (linked_image program codes) c) index ≡ Some (export_part c index proto)
    part_is_there =
        ap (λ parts. slice_get parts index) parts_are ∙ part_first c fits.interface.exports index ∙
        ap (option_map (export_part c index)) own

    found : image_export (linked_image program codes) c (entry_address c index) ≡ Some index
    found =
        ap (position (λ (export : ExportPart). export.entry == entry_address c index)) parts_are
        ∙ entry_found c 0 index fits.interface.exports index proto (omega arith) own

    params : export_params (linked_image program codes) c index ≡ length proto.params
    params = ap (λ o. option_map_or (λ (export : ExportPart). export.params) o 0) part_is_there

    result : has_result (linked_image program codes) c (Export index) ≡ is_some proto.result
    result = ap (λ o. option_map_or (λ (export : ExportPart). export.result) o false) part_is_there

    low : entry_address c index < 2 ^ 26
    low =
        omega (
          arith,
          number_below program typed c fits,
          slice_get_within fits.interface.exports index proto own,
          few_exports program.interfaces c fits.interface fits.section fits.interface_fitting,
        )

  module _ (whole : All IsWhole codes) (linkable : IsLinkable program codes) where
    abbrev Jumps : (c index number : ℕ) → Type 0
    Jumps c index number =
        (imm : ℤ) × StandsAt (linked_image program codes) c (entry_address c index) (Jal 0 imm) ×
        (add_word (entry_address c index) (word_of imm) ≡ (addresses_at program codes c).function number)

    jump_stands : (c index number : ℕ) (proto : Proto) → export_at program.interfaces c index ≡ Some proto →
        place_named proto.name (slice_get program.sections c) ≡ Some number → Jumps c index number
    jump_stands c index number proto is at =
        let of = of_export program typed c index proto is in
        let can = can_link program codes whole linkable c of in
        let there = export_there program typed c index proto is of in
        let named : place_named proto.name (Some (section_at program c)) ≡ Some number =
        ap (λ s. place_named proto.name (Some s)) (section_is program c of)
        ∙ sym (ap (place_named proto.name) of.is) ∙ at in
        let target : ℕ = function_address (addresses_at program codes c) (place_named proto.name (Some (section_at
        program c))) in
        let leads : target ≡ (addresses_at program codes c).function number =
        ap (function_address (addresses_at program codes c)) named in
        let passing = found_passes _ (section_at program c).functions number named in
        let within : IsWithin _ ((addresses_at program codes c).function number) =
        function_within c (exports_at program c) (section_at program c) (codes_at program codes c) can number
        (slice_get_within (section_at program c).functions number passing.item passing.is) in (
          pos target -ℤ pos (entry_address c index),
          stands program codes c of index (entry_address c index)
              (entry_jump (addresses_at program codes c) c index (section_at program c) proto) refl
              (jump_there c (exports_at program c) (section_at program c) (codes_at program codes c) index proto there)
              (entry_instr c (exports_at program c) (section_at program c) (codes_at program codes c) can index proto
              there),
          jump_to (entry_address c index) target
              (omega (arith, low c index proto is))
              (omega (arith, leads, within.inside, number_below program typed c of)) ∙ leads,
        )

    jump_by : (c index number : ℕ) → entry_in program c (Export index) ≡ Some number → Jumps c index number
    jump_by c index number is = by (export_at program.interfaces c index) refl is where
      by : (o : Option Proto) → export_at program.interfaces c index ≡ o →
          place_of_export o (slice_get program.sections c) ≡ Some number → Jumps c index number
      by None at e = absurd (cc)
      by (Some proto) at e = jump_stands c index number proto at e

    pub entries_stand : EntriesStand program codes
    entries_stand = record { jump = jump_by; index = found; params = params; result = result; low = low }
