-- What of a program is too large to be compiled: first the globals of a section, then the frame of a function, then the
-- code of a section.
use Rattle.sc_core.specs.Prelude.{most_code, most_frame}
use Rattle.sc_compile.specs.Common.{CodeTooLarge, CompileFault, DataTooLarge, FrameTooLarge, ProgramTree, TypedGlobal}
use Rattle.sc_compile.specs.Common.{TypedSection, cells_of, code_bound, frame_bound, most_globals, nodes}
use Rattle.sc_compile.specs.Common.{total, variables}
use Rattle.std.specs.Prelude.{ℕ, suc, ◌*◌, nat_lt, if◌then◌else◌, List, [], ◌∷◌, ◌++◌, map, flat_map, Option, None}
use Rattle.std.specs.Prelude.{Some}
use Rattle.sc_core.specs.declared.section.TypedFunction.{TypedFunction}

-- this fault, where a size is above its limit
abbrev pub above : (limit size : ℕ) → CompileFault → List CompileFault
above limit size fault = if nat_lt limit size then fault ∷ [] else []

abbrev pub data_size : TypedSection → ℕ
data_size section = 4 * total (map {A = TypedGlobal} (λ g. cells_of section.structs g.ty) section.globals)

abbrev pub frame_bytes : TypedSection → TypedFunction → ℕ
frame_bytes section f = frame_bound (variables section.structs f) (nodes f)

abbrev pub code_size : TypedSection → ℕ
code_size section = code_bound (map nodes section.functions)

abbrev pub large_data : (comp : ℕ) → TypedSection → List CompileFault
large_data comp section =
    above most_globals (data_size section) (DataTooLarge comp (data_size section))

abbrev pub large_frame : (comp : ℕ) → TypedSection → TypedFunction → List CompileFault
large_frame comp section f =
    above most_frame (frame_bytes section f)
    (FrameTooLarge comp f.name (frame_bytes section f))

abbrev pub large_frames : (comp : ℕ) → TypedSection → List CompileFault
large_frames comp section = flat_map (large_frame comp section) section.functions

abbrev pub large_code : (comp : ℕ) → TypedSection → List CompileFault
large_code comp section =
    above most_code (code_size section) (CodeTooLarge comp (code_size section))

-- what is found in sections, from this number on
abbrev pub faults_from : {A : Type 0} → (ℕ → A → List CompileFault) → ℕ → List A → List CompileFault
faults_from find comp [] = []
faults_from find comp (section ∷ sections) = find comp section ++ faults_from find (suc comp) sections

abbrev pub first : List CompileFault → Option CompileFault
first [] = None
first (fault ∷ later) = Some fault

-- what of sections is too large first, if anything is
abbrev pub found_in : List TypedSection → Option CompileFault
found_in sections =
    first (faults_from large_data 0 sections ++
    (faults_from large_frames 0 sections ++ faults_from large_code 0 sections))

-- and of a program
abbrev pub too_large : ProgramTree → Option CompileFault
too_large program = found_in program.sections
