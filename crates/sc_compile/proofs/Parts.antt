-- Each compartment of a program's image is the part of its own section, whatever lines its parts stand on, and the run
-- enters at the main section's own code.
use Rattle.sc_compile.proofs.Common.{Addresses, CodeTree, ImageParts, Interface, Interfaces, List, None, Option}
use Rattle.sc_compile.proofs.Common.{ProgramTree, Proto, Some, TacSection, TypedFunction, TypedSection, [], all_codes}
use Rattle.sc_compile.proofs.Common.{ap, ap₂, built_image, bytes_eq, codes_at, comp_at, cond, entry_address}
use Rattle.sc_compile.proofs.Common.{entry_jumps}
use Rattle.sc_compile.proofs.Common.{function_code, functions_or_none, if◌then◌else◌, length, length-map, linked_codes}
use Rattle.sc_compile.proofs.Common.{main_name, map, nat_lt, not, option_map, part_at, place_named, pos, program_tac}
use Rattle.sc_compile.proofs.Common.{refl}
use Rattle.sc_compile.proofs.Common.{section_at, section_or_none, section_tac, slice_get, suc, sym, too_large, ℕ, ◌++◌}
use Rattle.sc_compile.proofs.Common.{◌+◌, ◌-ℤ◌, ◌∙◌, ◌∷◌, ◌≡◌}
use Rattle.std.specs.Prelude.{Ok}
use Rattle.std.specs.List.{position_or_len}
use Rattle.rv_code.specs.Prelude.{word_of}
use Rattle.rv_code.specs.declared.instr.Instr.TheVariants.{Jal}
use Rattle.sc_core_laws.specs.Lines.{function_lined, section_lined}
use Rattle.sc_image.specs.declared.parts.CompPart.{CompPart}
use Rattle.sc_linker.specs.Prelude.{exports_in, function_address, linked_part, section_addresses}
use Rattle.sc_lower.proofs.Lines.{code_has_no_lines}
use Rattle.sc_lower.specs.Prelude.{SameButForLines, lineless}
use Rattle.sc_opt.specs.Prelude.{optimised_section}
use Rattle.sc_compile.specs.Common.{CompileFault}
use Rattle.sc_compile.specs.Prelude.{HasParts, PartsAreSeparate, image_of, unless_large}
use Rattle.sc_compile.proofs.Codes.{codes_are}
use Rattle.sc_compile.proofs.Tac.{tac_at}

-- the codes of a section that may be there
abbrev pub own_codes : Interfaces → (comp : ℕ) → Option TypedSection → List CodeTree
own_codes interfaces comp found =
    map function_code (functions_or_none (option_map (section_tac interfaces comp) found))

abbrev pub own_part : Interfaces → (comp : ℕ) → Option TypedSection → Option CompPart
own_part interfaces comp found =
    option_map (λ interface. linked_part interfaces comp interface (section_or_none found)
    (own_codes interfaces comp found)) (comp_at interfaces comp)

-- where a run enters, by the main compartment's own section
abbrev pub own_entry : Interfaces → (main : ℕ) → Option TypedSection → ℕ
own_entry interfaces main found =
    function_address (section_addresses main (length (exports_in (comp_at interfaces main))) (section_or_none found)
    (own_codes interfaces main found)) (place_named main_name found)

module _ (program : ProgramTree) (comp : ℕ) where
  pub codes_so : codes_at program (all_codes (program_tac program)) comp ≡
      own_codes program.interfaces comp (slice_get program.sections comp)
  codes_so =
      codes_are program comp ∙
      ap (λ o. map function_code (functions_or_none o)) (tac_at program comp)

  pub part_so : slice_get (built_image program).comps comp ≡
      own_part program.interfaces comp (slice_get program.sections comp)
  part_so =
      part_at program (all_codes (program_tac program)) comp ∙
      ap (λ codes. option_map (λ interface. linked_part program.interfaces comp interface (section_at program comp)
      codes) (comp_at program.interfaces comp)) codes_so

pub entry_so : (program : ProgramTree) → let main = program.interfaces.main in
    (built_image program).entry ≡ own_entry program.interfaces main (slice_get program.sections main)
entry_so program =
    let main : ℕ = program.interfaces.main in
    let found : Option TypedSection = slice_get program.sections main in
    ap (λ codes. function_address (section_addresses main (length (exports_in (comp_at program.interfaces main)))
    (section_or_none found) codes) (place_named main_name found)) (codes_so program main)

pub has_parts : (program : ProgramTree) → HasParts program (built_image program)
has_parts program comp interface section at there =
    part_so program comp ∙ ap (own_part program.interfaces comp) there ∙
    ap (option_map (λ interface. linked_part program.interfaces comp interface section
    (own_codes program.interfaces comp (Some section)))) at

-- an image is built
pub image_is : (program : ProgramTree) (image : ImageParts) → image_of program ≡ Ok image → built_image program ≡ image
image_is program image is = by (too_large program) is where
  by : (found : Option CompileFault) → unless_large found (built_image program) ≡ Ok image →
      built_image program ≡ image
  by None h = cc h
  by (Some fault) h = cc h

-- LINES
module _ (line_of : ℕ → ℕ) where
  same_position : (name : List ℕ) (fs : List TypedFunction) →
      position_or_len {X = TypedFunction} (λ f. bytes_eq f.name name) (map (function_lined line_of) fs) ≡
      position_or_len {X = TypedFunction} (λ f. bytes_eq f.name name) fs
  same_position name [] = refl
  same_position name (f ∷ fs) = ap (λ n. if not (bytes_eq f.name name) then 1 + n else 0) (same_position name fs)

  -- names lead to the same functions
  same_place : (name : List ℕ) (section : TypedSection) →
      place_named name (Some (section_lined line_of section)) ≡ place_named name (Some section)
  same_place name section = ap₂ (λ n count. cond (nat_lt n count) (Some n) None) (same_position name section.functions)
      (length-map section.functions (function_lined line_of))

  same_jumps : (addresses : Addresses) (comp index : ℕ) (section : TypedSection) (protos : List Proto) →
      entry_jumps addresses comp index (section_lined line_of section) protos ≡
      entry_jumps addresses comp index section protos
  same_jumps addresses comp index section [] = refl
  same_jumps addresses comp index section (proto ∷ protos) =
      ap₂ (λ place jumps. Jal 0 (pos (function_address addresses place) -ℤ pos (entry_address comp index)) ∷ jumps)
      (same_place proto.name section) (same_jumps addresses comp (suc index) section protos)

  module _ (interfaces : Interfaces) (comp : ℕ) where
    same_codes : (section : TypedSection) →
        own_codes interfaces comp (Some (section_lined line_of section)) ≡ own_codes interfaces comp (Some section)
    same_codes section = ap (λ (lowered : TacSection). map function_code (optimised_section lowered).functions)
        (code_has_no_lines line_of interfaces comp section)

    same_linked : (interface : Interface) (section : TypedSection) (codes : List CodeTree) →
        linked_part interfaces comp interface (section_lined line_of section) codes ≡
        linked_part interfaces comp interface section codes
    same_linked interface section codes =
        let exports : List Proto = exports_in (comp_at interfaces comp) in
        let addresses : Addresses = section_addresses comp (length exports) section codes in
        ap (λ jumps. record (linked_part interfaces comp interface section codes) {
          code = map word_of (jumps ++ linked_codes addresses (entry_address comp (length exports)) codes);
        }) (same_jumps addresses comp 0 section exports)

    same_part : (found : Option TypedSection) →
        own_part interfaces comp (option_map (section_lined line_of) found) ≡ own_part interfaces comp found
    same_part None = refl
    same_part (Some section) =
        ap (λ codes. option_map (λ interface. linked_part interfaces comp interface (section_lined line_of section)
        codes) (comp_at interfaces comp)) (same_codes section)
        ∙ (λ i. option_map (λ interface. same_linked interface section (own_codes interfaces comp (Some section)) i)
        (comp_at interfaces comp))

    same_entry : (found : Option TypedSection) →
        own_entry interfaces comp (option_map (section_lined line_of) found) ≡ own_entry interfaces comp found
    same_entry None = refl
    same_entry (Some section) = ap₂ (λ codes place. function_address (section_addresses comp
        (length (exports_in (comp_at interfaces comp))) section codes) place) (same_codes section)
        (same_place main_name section)

-- what follows of a section, whatever lines its parts stand on, is the same of sections that are the same but for these
by_lines : {A : Type 0} (of : Option TypedSection → A) → ((found : Option TypedSection) →
    of (option_map lineless found) ≡ of found) → (found other : Option TypedSection) → SameButForLines found other →
    of found ≡ of other
by_lines of same found other but = sym (same found) ∙ ap of but ∙ same other

pub part_by_lines : (interfaces : Interfaces) (comp : ℕ) (found other : Option TypedSection) →
    SameButForLines found other → own_part interfaces comp found ≡ own_part interfaces comp other
part_by_lines interfaces comp =
    by_lines (own_part interfaces comp) (same_part (λ line. 0) interfaces comp)

pub entry_by_lines : (interfaces : Interfaces) (main : ℕ) (found other : Option TypedSection) →
    SameButForLines found other → own_entry interfaces main found ≡ own_entry interfaces main other
entry_by_lines interfaces main =
    by_lines (own_entry interfaces main) (same_entry (λ line. 0) interfaces main)

pub parts_are_separate : PartsAreSeparate
parts_are_separate program other image its comp is other_is interfaces section =
    ap (λ i. slice_get i.comps comp) (sym (image_is program image is)) ∙ part_so program comp ∙
    ap (λ i. own_part i comp (slice_get program.sections comp)) interfaces ∙
    part_by_lines other.interfaces comp _ _ section ∙ sym (part_so other comp) ∙
    ap (λ i. slice_get i.comps comp) (image_is other its other_is)
