-- The image of a program, pass by pass.
use Rattle.sc_compile.specs.Common.{CompileFault, ImageParts, OutOfMemory, ProgramTree, TacFnTree, TacSection}
use Rattle.sc_compile.specs.Common.{TypedSection, assigned, frame_of, intervals_of, linked_image, lowered_program}
use Rattle.sc_opt.specs.Prelude.{optimised_function, optimised_program, optimised_section}
use Rattle.sc_event.specs.Prelude.{comp_at}
use Rattle.sc_lower.specs.Prelude.{lowered_function, lowered_section}
use Rattle.sc_linker.specs.Prelude.{linked_part}
use Rattle.sc_emit_select.specs.Prelude.{code_of}
use Rattle.std.specs.Prelude.{◌≡◌, ℕ, List, map, flat_map, slice_get, Option, None, Some, Result, Ok, Err}
use Rattle.sc_core.specs.declared.section.TypedFunction.{TypedFunction}
use Rattle.sc_core.specs.declared.section.TypedStruct.{TypedStruct}
use Rattle.sc_event.specs.declared.interface.Interface.{Interface}
use Rattle.sc_event.specs.declared.interface.Interfaces.{Interfaces}
use Rattle.sc_image.specs.declared.parts.CompPart.{CompPart}
use Rattle.sc_tac.specs.declared.machine_code.CodeTree.{CodeTree}
use Rattle.sc_tac.specs.declared.program.TacTree.{TacTree}
use Rattle.sc_compile.specs.Sizes.{too_large}

-- the three-address code of a function, a section and a program: lowered, then optimised
abbrev pub function_tac : Interfaces → (comp : ℕ) → List TypedStruct → TypedFunction → TacFnTree
function_tac interfaces comp structs f = optimised_function (lowered_function interfaces comp structs f)

abbrev pub section_tac : Interfaces → (comp : ℕ) → TypedSection → TacSection
section_tac interfaces comp section = optimised_section (lowered_section interfaces comp section)

abbrev pub program_tac : ProgramTree → TacTree
program_tac program = optimised_program (lowered_program program)

-- of a function: places by linear scan for its least intervals, the frame with its slots, and its instructions
abbrev pub function_code : TacFnTree → CodeTree
function_code f =
    let places = assigned (intervals_of f) in
    code_of f places (frame_of f.objects places)

abbrev pub section_codes : TacSection → List CodeTree
section_codes section = map function_code section.functions

-- of all functions, section by section
abbrev pub all_codes : TacTree → List CodeTree
all_codes program = flat_map section_codes program.sections

-- a compartment's part of the image: of the interfaces and its own section, and of no other section
abbrev pub section_part : Interfaces → (comp : ℕ) → Interface → TypedSection → CompPart
section_part interfaces comp interface section =
    linked_part interfaces comp interface section (section_codes (section_tac interfaces comp section))

-- each compartment of an image is that part
abbrev pub HasParts : ProgramTree → ImageParts → Type 0
HasParts program image = (comp : ℕ) (interface : Interface) (section : TypedSection) →
    comp_at program.interfaces comp ≡ Some interface → slice_get program.sections comp ≡ Some section →
    slice_get image.comps comp ≡ Some (section_part program.interfaces comp interface section)

-- the image of a program that fits
abbrev pub built_image : ProgramTree → ImageParts
built_image program = linked_image program (all_codes (program_tac program))

abbrev pub unless_large : Option CompileFault → ImageParts → Result ImageParts CompileFault
unless_large None image = Ok image
unless_large (Some fault) image = Err fault

-- the image of a program, or what of it is too large
abbrev pub image_of : ProgramTree → Result ImageParts CompileFault
image_of program = unless_large (too_large program) (built_image program)

-- why a program has no image: what of it is too large, or that memory ran out
abbrev pub IsFault : ProgramTree → CompileFault → Type 0
IsFault program OutOfMemory = Unit {0}
IsFault program fault = image_of program ≡ Err fault
