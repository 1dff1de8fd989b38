-- Where `main` begins.
use Rattle.sc_linker.proofs.Common.{CanBeLinked, CodeTree, Interface, Interfaces, IsLinkable, IsWellTyped, List, Main}
use Rattle.sc_linker.proofs.Common.{None, Option, ProgramTree, Proto, SectionLayout, Some, TypedFunction, TypedSection}
use Rattle.sc_linker.proofs.Common.{[], addresses_at, and_first, and_rest, ap, bytes_eq, codes_at, comp_at, entry_in}
use Rattle.sc_linker.proofs.Common.{exports_at, exports_in, false≢true, function_address, has_distinct_names}
use Rattle.sc_linker.proofs.Common.{has_few_compartments, has_fitting_sections, has_main, interface_fits, length}
use Rattle.sc_linker.proofs.Common.{main_fits, main_name, place_named, position, refl, section_addresses, section_at}
use Rattle.sc_linker.proofs.Common.{section_fits, section_layout, sections_fit, slice_get, slice_index, subst, suc, sym}
use Rattle.sc_linker.proofs.Common.{true, zero, ℕ, ◌<◌, ◌∙◌, ◌∷◌, ◌≡◌, ◌≤◌}
use Rattle.sc_linker.proofs.Agreeing.{functions_length, layout_agrees, place_within}
use Rattle.sc_linker.proofs.Fitting.{can_link, has, section_is}

-- a section's compartment has an interface
has_interface : (interfaces : Interfaces) (first comp : ℕ) (comps : List Interface) (sections : List TypedSection)
    (section : TypedSection) → sections_fit interfaces first comps sections ≡ true →
    slice_get sections comp ≡ Some section → (i : Interface) × (slice_get comps comp ≡ Some i)
has_interface interfaces first comp [] [] section fit there = absurd (cc)
has_interface interfaces first comp [] (s ∷ sections) section fit there = absurd (false≢true fit)
has_interface interfaces first comp (i ∷ comps) [] section fit there = absurd (false≢true fit)
has_interface interfaces first zero (i ∷ comps) (s ∷ sections) section fit there = (i, refl)
has_interface interfaces first (suc comp) (i ∷ comps) (s ∷ sections) section fit there =
    has_interface interfaces (suc first) comp comps sections section
    (and_rest (interface_fits interfaces first i s) _ (and_rest (section_fits interfaces first i s) _ fit)) there

main_section : (found : Option TypedSection) → main_fits found ≡ true →
    (section : TypedSection) × (found ≡ Some section)
main_section None fits = absurd (false≢true fits)
main_section (Some section) fits = (section, refl)

abbrev pub main_in : List TypedFunction → Option ℕ
main_in functions = position {X = TypedFunction} (λ f. bytes_eq f.name main_name) functions

module _ (program : ProgramTree) (codes : List CodeTree) (typed : IsWellTyped program)
    (linkable : IsLinkable program codes) where
  abbrev main : ℕ
  main = program.interfaces.main

  main_interface : (i : Interface) × (comp_at program.interfaces main ≡ Some i)
  main_interface =
      let following = and_rest (has_distinct_names program) _ (and_rest (has_few_compartments program) _ typed) in
      let found = main_section (slice_get program.sections main)
      (and_first (has_main program) _ (and_rest (has_fitting_sections program) _ following)) in
      has_interface program.interfaces 0 main program.interfaces.comps program.sections found.0
      (and_first (has_fitting_sections program) _ following) found.1

  can : CanBeLinked main main_interface.0.exports (section_at program main) (codes_at program codes main)
  can = can_link program codes main main_interface.0 typed linkable main_interface.1

  pub few_of_main : (exports : List Proto) → exports ≡ exports_at program main → length exports ≤ 4096
  few_of_main exports are =
      subst (λ (protos : List Proto). length protos ≤ 4096) (sym (are ∙ ap exports_in main_interface.1)) can.few

  module _ (section : TypedSection) (is : section ≡ section_at program main) where
    entered : (found : Option ℕ) → main_in section.functions ≡ found → entry_in program main Main ≡ found
    entered found at =
        ap (place_named main_name) (has program codes main main_interface.0 typed linkable main_interface.1).there ∙
        ap (λ (s : TypedSection). main_in s.functions)
        (sym (is ∙ section_is program codes main main_interface.0 typed linkable main_interface.1)) ∙ at

    -- there is none
    pub not_begun : main_in section.functions ≡ None →
        0 ≡ function_address (addresses_at program codes main) (entry_in program main Main)
    not_begun at = sym (ap (function_address (addresses_at program codes main)) (entered None at))

    module _ (exports : List Proto) (own : List CodeTree) (layout : SectionLayout) (number : ℕ)
        (are : exports ≡ exports_at program main) (these : own ≡ codes_at program codes main)
        (placed : layout ≡ section_layout main (length exports) section own)
        (at : main_in section.functions ≡ Some number) where
      within : number < length own
      within =
          subst (λ n. number < n) (ap (λ (s : TypedSection). length s.functions) is ∙ sym can.each ∙
          ap (λ (cs : List CodeTree). length cs) (sym these))
          (place_within (λ (f : TypedFunction). bytes_eq f.name main_name) section.functions number at)

      pub main_known : number < length layout.functions
      main_known =
          subst (λ n. number < n) (sym (ap (λ (l : SectionLayout). length l.functions) placed ∙
          functions_length main (length exports) section own)) within

      pub main_begins : (address : ℕ) → address ≡ slice_index layout.functions number →
          address ≡ function_address (addresses_at program codes main) (entry_in program main Main)
      main_begins address there =
          there ∙ ap (λ (l : SectionLayout). slice_index l.functions number) placed ∙
          (layout_agrees main (length exports) section own).function number within ∙
          (λ k. (section_addresses main (length (are k)) (is k) (these k)).function number) ∙
          sym (ap (function_address (addresses_at program codes main)) (entered (Some number) at))
