-- What holds of linked images.
use Rattle.sc_linker.specs.Common.{Cell, CodeTree, Export, ImageParts, Instr, Interface, IsInstr, IsWellFormed}
use Rattle.sc_linker.specs.Common.{IsWellTyped, Jal, Main, ProgramTree, Proto, TypedGlobal, TypedSection, cells_at}
use Rattle.sc_linker.specs.Common.{decoded, entry_in, export_at, export_params, globals_of, has_heap, has_result}
use Rattle.sc_linker.specs.Common.{imports, is_function, is_input, is_name, is_output, linked, may_call_export}
use Rattle.sc_linker.specs.Common.{may_input, may_output, stack_top, start_memory, word_at}
use Rattle.sc_word.specs.Prelude.{add_word, word_of}
use Rattle.sc_store.specs.Prelude.{load_of}
use Rattle.sc_image.specs.Prelude.{entered_export as image_export, initial_globals as globals_in}
use Rattle.sc_tac.specs.Prelude.{IsCode}
use Rattle.std.specs.Prelude.{◌≡◌, ◌≢◌, ℕ, ℤ, ◌+◌, ◌*◌, ◌%◌, ◌^◌, ◌<◌, ◌≤◌, ◌⊎◌, true, List, length, All, IsTrue, Ok}
use Rattle.std.specs.Prelude.{Some, is_some, slice_get}
use Rattle.sc_event.specs.declared.interface.Interfaces.{Interfaces}
use Rattle.sc_core.specs.declared.section.TypedFunction.{TypedFunction}
use Rattle.sc_core.specs.declared.value.Cell.TheVariants as cell
use Rattle.sc_linker.specs.Image.{cell_word, linked_image}
use Rattle.sc_linker.specs.Interfaces.{HasInterfaces}
use Rattle.sc_linker.specs.Layout.{addresses_at, codes_at, entry_address, section_at}
use Rattle.sc_linker.specs.Linkable.{IsLinkable}

-- what a global's cell begins with
abbrev pub IsStart : Cell → Type 0
IsStart cell.Undef = ⊥
IsStart (cell.Word w) = w < 2 ^ 32
IsStart cell.Null = Unit {0}
IsStart (cell.Ptr p) = ⊥

-- compartments and exports are called by names
pub record AreNamed (interfaces : Interfaces) : Type 0 where
  pub comps : All {X = Interface} (λ interface. IsTrue (is_name interface.name)) interfaces.comps
  pub exports : All {X = Interface}
      (λ interface. All {X = Proto} (λ proto. IsTrue (is_name proto.name)) interface.exports) interfaces.comps

-- the values that globals are declared with are words
abbrev pub GlobalsAreWords : List TypedSection → Type 0
GlobalsAreWords sections =
    All {X = TypedSection}
    (λ section. All {X = TypedGlobal} (λ g. All (λ word. word < 2 ^ 32) g.init) section.globals) sections

-- code that can be linked, of instructions that there are
pub record IsWhole (code : CodeTree) : Type 0 where
  pub rules : IsCode code
  pub instrs : All IsInstr code.instrs

-- an instruction stands at an address of a compartment's code
pub record StandsAt (image : ImageParts) (comp address : ℕ) (instr : Instr) : Type 0 where
  pub word : ℕ
  pub fetched : word_at image comp address ≡ Some word
  pub decodes : decoded word ≡ Some instr

-- and so do these, from an address on
abbrev pub StandFrom : ImageParts → (comp address : ℕ) → List Instr → Type 0
StandFrom image comp address instrs =
    (i : ℕ) (instr : Instr) → slice_get instrs i ≡ Some instr → StandsAt image comp (address + 4 * i) instr

module _ (program : ProgramTree) (codes : List CodeTree) where
  -- functions: the code of each stands where it begins, with what it refers to filled in
  pub record FunctionsStand : Type 0 where
    pub code : (comp number : ℕ) (code : CodeTree) → slice_get (codes_at program codes comp) number ≡ Some code →
        let addresses = addresses_at program codes comp in
        StandFrom (linked_image program codes) comp (addresses.function number)
        (linked addresses (addresses.function number) code)
    -- a function that there is has code
    pub there : (comp number : ℕ) (f : TypedFunction) →
        slice_get (section_at program comp).functions number ≡ Some f →
        (code : CodeTree) × (slice_get (codes_at program codes comp) number ≡ Some code)
    -- in a compartment that has a heap, where it uses one
    pub heap : (comp number : ℕ) (code : CodeTree) → slice_get (codes_at program codes comp) number ≡ Some code →
        code.heap ≡ true → has_heap (linked_image program codes) comp ≡ true
    -- at an address that LUI and a jump reach
    pub aligned : (comp number : ℕ) → (addresses_at program codes comp).function number % 4 ≡ 0
    pub low : (comp number : ℕ) → comp < 32 → (addresses_at program codes comp).function number < 2 ^ 26
    -- the run starts at `main`
    pub main : (number : ℕ) → entry_in program program.interfaces.main Main ≡ Some number →
        (linked_image program codes).entry ≡ (addresses_at program codes program.interfaces.main).function number

  -- entries: each export has one, of its index, its parameters and its result, which jumps to its function
  pub record EntriesStand : Type 0 where
    pub jump : (comp index number : ℕ) → entry_in program comp (Export index) ≡ Some number →
        (imm : ℤ) × StandsAt (linked_image program codes) comp (entry_address comp index) (Jal 0 imm) ×
        (add_word (entry_address comp index) (word_of imm) ≡ (addresses_at program codes comp).function number)
    pub index : (comp index : ℕ) (proto : Proto) → export_at program.interfaces comp index ≡ Some proto →
        image_export (linked_image program codes) comp (entry_address comp index) ≡ Some index
    pub params : (comp index : ℕ) (proto : Proto) → export_at program.interfaces comp index ≡ Some proto →
        export_params (linked_image program codes) comp index ≡ length proto.params
    pub result : (comp index : ℕ) (proto : Proto) → export_at program.interfaces comp index ≡ Some proto →
        has_result (linked_image program codes) comp (Export index) ≡ is_some proto.result
    pub low : (comp index : ℕ) (proto : Proto) → export_at program.interfaces comp index ≡ Some proto →
        entry_address comp index < 2 ^ 26

  -- imports are those of the interfaces
  pub record ImportsStand : Type 0 where
    pub function : (from to index : ℕ) →
        may_call_export (linked_image program codes) from to index ≡
        imports program.interfaces from (is_function to index)
    pub input : (comp : ℕ) → may_input (linked_image program codes) comp ≡ imports program.interfaces comp is_input
    pub output : (comp : ℕ) → may_output (linked_image program codes) comp ≡ imports program.interfaces comp is_output

  -- globals: each lies at its place in its compartment's data, apart from the others, and holds its words at the start
  pub record GlobalsStand : Type 0 where
    pub high : (comp number : ℕ) (cells : List Cell) →
        cells_at (globals_of program.sections comp) number ≡ Ok cells →
        (addresses_at program codes comp).global number + 4 * length cells ≤
        stack_top comp + length (globals_in (linked_image program codes) comp)
    pub low : (comp number : ℕ) → stack_top comp ≤ (addresses_at program codes comp).global number
    pub aligned : (comp number : ℕ) → (addresses_at program codes comp).global number % 4 ≡ 0
    pub apart : (comp number other : ℕ) (cells more : List Cell) → number ≢ other →
        cells_at (globals_of program.sections comp) number ≡ Ok cells →
        cells_at (globals_of program.sections comp) other ≡ Ok more →
        let addresses = addresses_at program codes comp in
        (addresses.global number + 4 * length cells ≤ addresses.global other)
        ⊎ (addresses.global other + 4 * length more ≤ addresses.global number)
    pub words : (comp number i : ℕ) (cells : List Cell) (one : Cell) →
        cells_at (globals_of program.sections comp) number ≡ Ok cells →
        slice_get cells i ≡ Some one →
        load_of (start_memory (linked_image program codes)) ((addresses_at program codes comp).global number + 4 * i) 4
        ≡ cell_word one
    -- each begins as a word or null
    pub known : (comp number i : ℕ) (cells : List Cell) (one : Cell) →
        cells_at (globals_of program.sections comp) number ≡ Ok cells →
        slice_get cells i ≡ Some one → IsStart one
    -- each begins below 2 ^ 31
    pub there : (comp number : ℕ) (g : TypedGlobal) → slice_get (section_at program comp).globals number ≡ Some g →
        (addresses_at program codes comp).global number < 2 ^ 31

-- linked images are images, and what is in them stands where the layout says
pub record LinkedImagesHold : Type 0 where
  pub well_formed : (program : ProgramTree) (codes : List CodeTree) → IsWellTyped program →
      AreNamed program.interfaces → All IsWhole codes → IsLinkable program codes →
      IsWellFormed (linked_image program codes)
  pub functions : (program : ProgramTree) (codes : List CodeTree) → IsWellTyped program → All IsWhole codes →
      IsLinkable program codes → FunctionsStand program codes
  pub entries : (program : ProgramTree) (codes : List CodeTree) → IsWellTyped program → All IsWhole codes →
      IsLinkable program codes → EntriesStand program codes
  pub interfaces : (program : ProgramTree) (codes : List CodeTree) →
      HasInterfaces program.interfaces (linked_image program codes)
  pub imports : (program : ProgramTree) (codes : List CodeTree) → IsWellTyped program → ImportsStand program codes
  pub globals : (program : ProgramTree) (codes : List CodeTree) → IsWellTyped program →
      GlobalsAreWords program.sections → IsLinkable program codes → GlobalsStand program codes
