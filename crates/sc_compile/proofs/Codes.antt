-- The codes of a program's functions, section by section.
use Rattle.sc_compile.proofs.Common.{CodeTree, Interfaces, List, ProgramTree, Some, TacFnTree, TacSection, TypedSection}
use Rattle.sc_compile.proofs.Common.{[], all_codes, ap, arith, codes_at, codes_in, drop, flat_map, function_code}
use Rattle.sc_compile.proofs.Common.{functions_in, functions_or_none, length, length-append, length-map}
use Rattle.sc_compile.proofs.Common.{lowered_function, lowered_section, lowered_sections, map, program_tac, section_tac}
use Rattle.sc_compile.proofs.Common.{option_map, refl, slice_get, slice_get-map, suc, sym, take, total, zero, ℕ, ◌++◌}
use Rattle.sc_compile.proofs.Common.{◌∙◌, ◌∷◌, ◌≡◌}
use Rattle.sc_opt.specs.Prelude.{optimised_function, optimised_section}
use Rattle.sc_compile.proofs.Lists.{drop_prefix, take_prefix}

abbrev section_codes : TacSection → List CodeTree
section_codes section = map function_code section.functions

module _ (interfaces : Interfaces) where
  -- the code of sections, from this number on
  abbrev tacs : ℕ → List TypedSection → List TacSection
  tacs k sections = map optimised_section (lowered_sections interfaces k sections)

  count_is : (k : ℕ) (section : TypedSection) →
      length (section_codes (section_tac interfaces k section)) ≡ length section.functions
  count_is k section =
      length-map (section_tac interfaces k section).functions function_code
      ∙ length-map (lowered_section interfaces k section).functions optimised_function
      ∙ length-map section.functions (lowered_function interfaces k section.structs)

  codes_along : (k comp : ℕ) (sections : List TypedSection) →
      codes_in comp sections (flat_map section_codes (tacs k sections)) ≡
      map function_code (functions_or_none (slice_get (tacs k sections) comp))
  codes_along k zero [] = refl
  codes_along k (suc comp) [] = refl
  codes_along k zero (section ∷ sections) =
      let here : List CodeTree = section_codes (section_tac interfaces k section) in
      let rest : List CodeTree = flat_map section_codes (tacs (suc k) sections) in
      ap (λ n. take n (here ++ rest)) (sym (count_is k section)) ∙ take_prefix here rest
  codes_along k (suc comp) (section ∷ sections) =
      let here : List CodeTree = section_codes (section_tac interfaces k section) in
      let rest : List CodeTree = flat_map section_codes (tacs (suc k) sections) in
      ap (codes_in comp sections) (ap (λ n. drop n (here ++ rest)) (sym (count_is k section)) ∙ drop_prefix here rest)
      ∙ codes_along (suc k) comp sections

  counted : (k : ℕ) (sections : List TypedSection) →
      length (flat_map section_codes (tacs k sections)) ≡
      total (map {A = TypedSection} (λ section. length section.functions) sections)
  counted k [] = refl
  counted k (section ∷ sections) =
      omega (
        arith,
        length-append (section_codes (section_tac interfaces k section))
            (flat_map section_codes (tacs (suc k) sections)),
        count_is k section,
        counted (suc k) sections,
      )

module _ (program : ProgramTree) where
  -- those of a compartment are of its functions, in order
  pub codes_are : (comp : ℕ) → codes_at program (all_codes (program_tac program)) comp ≡
      map function_code (functions_in (program_tac program) comp)
  codes_are comp = codes_along program.interfaces 0 comp program.sections

  -- a code for each function
  pub one_for_each : length (all_codes (program_tac program)) ≡
      total (map {A = TypedSection} (λ section. length section.functions) program.sections)
  one_for_each = counted program.interfaces 0 program.sections

  pub code_there : (comp number : ℕ) (f : TacFnTree) →
      slice_get (functions_in (program_tac program) comp) number ≡ Some f →
      slice_get (codes_at program (all_codes (program_tac program)) comp) number ≡ Some (function_code f)
  code_there comp number f is =
      ap (λ codes. slice_get codes number) (codes_are comp)
      ∙ slice_get-map function_code (functions_in (program_tac program) comp) number
      ∙ ap (option_map function_code) is
