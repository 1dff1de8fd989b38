-- Programs with the same sections outside a set have images that are the same outside the set.
use Rattle.sc_compile.proofs.Common.{Interface, Interfaces, List, None, Option, ProgramTree, Some}
use Rattle.sc_compile.proofs.Common.{TypedSection, [], all_codes, ap, built_image, comp_at, comps_length, false, length}
use Rattle.sc_compile.proofs.Common.{program_tac, refl, slice_get, subst, sym, ℕ, ◌∙◌, ◌≡◌}
use Rattle.std.specs.Option.{option_map, option_map_or}
use Rattle.std.specs.Prelude.{Bool}
use Rattle.sc_image.specs.Prelude.{SameBut}
use Rattle.sc_image.specs.Calls.{exported_by}
use Rattle.sc_image.specs.declared.parts.CompPart.{CompPart}
use Rattle.sc_image.specs.declared.parts.ExportPart.{ExportPart}
use Rattle.sc_linker.specs.Prelude.{export_parts, linked_part, section_or_none}
use Rattle.sc_compile.specs.Prelude.{ImagesAreApart, SameSectionsBut}
use Rattle.sc_compile.proofs.Parts.{entry_by_lines, entry_so, image_is, own_codes, own_entry, own_part}
use Rattle.sc_compile.proofs.Parts.{part_by_lines, part_so}

abbrev exports_of : Option CompPart → List ExportPart
exports_of found = option_map_or (λ comp. comp.exports) found []

-- the exports of a part are those of its interface, whatever its section is
abbrev exports_by : (comp : ℕ) → Option Interface → List ExportPart
exports_by comp found = option_map_or (λ interface. export_parts comp 0 interface.exports) found []

exported_so : (interfaces : Interfaces) (comp : ℕ) (section : Option TypedSection) →
    exports_of (own_part interfaces comp section) ≡ exports_by comp (comp_at interfaces comp)
exported_so interfaces comp section = by (comp_at interfaces comp) where
  by : (found : Option Interface) →
      exports_of (option_map (λ interface. linked_part interfaces comp interface (section_or_none section)
      (own_codes interfaces comp section)) found) ≡ exports_by comp found
  by None = refl
  by (Some interface) = refl

module _ (set : ℕ → Bool) (program other : ProgramTree) (same : SameSectionsBut set program other) where
  entry_same : set program.interfaces.main ≡ false → (built_image program).entry ≡ (built_image other).entry
  entry_same out =
      let found : Option TypedSection = slice_get program.sections program.interfaces.main in
      let its : Option TypedSection = slice_get other.sections program.interfaces.main in
      entry_so program ∙
      entry_by_lines program.interfaces program.interfaces.main found its (same.sections _ out) ∙
      ap (λ i. own_entry i i.main (slice_get other.sections i.main)) same.interfaces ∙ sym (entry_so other)

  comp_same : (c : ℕ) → set c ≡ false → slice_get (built_image program).comps c ≡ slice_get (built_image other).comps c
  comp_same c out =
      part_so program c ∙ part_by_lines program.interfaces c _ _ (same.sections c out) ∙
      ap (λ i. own_part i c (slice_get other.sections c)) same.interfaces ∙ sym (part_so other c)

  exports_of_built : (its : ProgramTree) (c : ℕ) →
      exported_by (built_image its) c ≡ exports_by c (comp_at its.interfaces c)
  exports_of_built its c =
      ap exports_of (part_so its c) ∙
      exported_so its.interfaces c (slice_get its.sections c)

  built_same : SameBut set (built_image program) (built_image other)
  built_same = record {
    count = comps_length program (all_codes (program_tac program)) ∙
        ap (λ i. length i.comps) same.interfaces ∙ sym (comps_length other (all_codes (program_tac other)));
    main = ap (λ i. i.main) same.interfaces;
    entry = entry_same;
    comps = comp_same;
    exports = λ c. exports_of_built program c ∙ ap (λ i. exports_by c (comp_at i c)) same.interfaces ∙
        sym (exports_of_built other c);
  }

pub images_are_apart : ImagesAreApart
images_are_apart set program other image its is its_is same =
    subst (λ one. SameBut set one its) (image_is program image is)
    (subst (λ another. SameBut set (built_image program) another) (image_is other its its_is)
    (built_same set program other same))
