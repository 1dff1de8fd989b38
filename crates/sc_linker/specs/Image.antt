-- The image of a program, from the codes of its functions.
use Rattle.sc_linker.specs.Common.{Addresses, Cell, CodeTree, ImageParts, Instr, Interface, Jal, Main, ProgramTree}
use Rattle.sc_linker.specs.Common.{Proto, TypedSection, comp_at, entry_in, first_blocks, imports, is_input, is_output}
use Rattle.sc_linker.specs.Common.{linked, place_named, word_of}
use Rattle.std.specs.Prelude.{Bool, List, None, Option, Some, [], flat_map, is_some, length, map, pos, suc, ℕ, ◌*◌}
use Rattle.std.specs.Prelude.{◌++◌, ◌+◌, ◌-ℤ◌, ◌∷◌}
use Rattle.std.specs.List.{list_any}
use Rattle.byteorder.specs.Endian.{little_bytes}
use Rattle.sc_event.specs.declared.interface.Import.{Import}
use Rattle.sc_event.specs.declared.interface.Import.TheVariants as import
use Rattle.sc_event.specs.declared.interface.Interfaces.{Interfaces}
use Rattle.sc_core.specs.declared.value.Cell.TheVariants as cell
use Rattle.sc_image.specs.declared.parts.CompPart.{CompPart}
use Rattle.sc_image.specs.declared.parts.ExportPart.{ExportPart}
use Rattle.sc_image.specs.Prelude.{ImportPart}
use Rattle.sc_linker.specs.Layout.{addresses_at, codes_at, entry_address, exports_at, exports_in, section_addresses}
use Rattle.sc_linker.specs.Layout.{section_at}

module _ (addresses : Addresses) where
  -- where a function begins; every entry of a program leads to one
  abbrev pub function_address : Option ℕ → ℕ
  function_address None = 0
  function_address (Some number) = addresses.function number

  -- the jump at an entry, to the function of the export's name
  abbrev pub entry_jump : (comp index : ℕ) → TypedSection → Proto → Instr
  entry_jump comp index section proto =
      Jal 0 (pos (function_address (place_named proto.name (Some section))) -ℤ pos (entry_address comp index))

  -- those of exports from this index on
  abbrev pub entry_jumps : (comp index : ℕ) → TypedSection → List Proto → List Instr
  entry_jumps comp index section [] = []
  entry_jumps comp index section (proto ∷ protos) =
      entry_jump comp index section proto ∷ entry_jumps comp (suc index) section protos

  -- codes one after the other, from an address on
  abbrev pub linked_codes : (address : ℕ) → List CodeTree → List Instr
  linked_codes address [] = []
  linked_codes address (code ∷ codes) =
      linked addresses address code ++ linked_codes (address + 4 * length code.instrs) codes

-- exports from this index on
abbrev pub export_parts : (comp index : ℕ) → List Proto → List ExportPart
export_parts comp index [] = []
export_parts comp index (proto ∷ protos) =
    record {
      name = proto.name;
      params = length proto.params;
      result = is_some proto.result;
      entry = entry_address comp index;
    } ∷ export_parts comp (suc index) protos

-- what is imported of other compartments
abbrev pub import_part : Import → List ImportPart
import_part import.Input = []
import_part import.Output = []
import_part (import.Function comp index) = record { comp = comp; index = index } ∷ []

-- the word that a cell begins with: 0 for null
abbrev pub cell_word : Cell → ℕ
cell_word cell.Undef = 0
cell_word (cell.Word w) = w
cell_word cell.Null = 0
cell_word (cell.Ptr p) = 0

-- one of these codes uses the heap
abbrev pub use_heap : List CodeTree → Bool
use_heap codes = list_any {X = CodeTree} (λ code. code.heap) codes

-- the words of a section's globals at the start, in order of declaration
abbrev pub global_words : TypedSection → List ℕ
global_words section = flat_map (λ block. map cell_word block.cells) (first_blocks (Some section))

-- a section's code: its entries, then the codes of its functions
abbrev pub section_code : (comp : ℕ) → List Proto → TypedSection → List CodeTree → List Instr
section_code comp exports section codes =
    let addresses = section_addresses comp (length exports) section codes in
    entry_jumps addresses comp 0 section exports ++
    linked_codes addresses (entry_address comp (length exports)) codes

-- a compartment's part of the image, of its interface, its section and the codes of that section's functions
abbrev pub linked_part : Interfaces → (comp : ℕ) → Interface → TypedSection → List CodeTree → CompPart
linked_part interfaces comp interface section codes = record {
  name = interface.name;
  input = imports interfaces comp is_input;
  output = imports interfaces comp is_output;
  heap = use_heap codes;
  exports = export_parts comp 0 interface.exports;
  imports = flat_map import_part interface.imports;
  code = map word_of (section_code comp (exports_in (comp_at interfaces comp)) section codes);
  globals = flat_map (little_bytes 4) (global_words section);
}

module _ (program : ProgramTree) (codes : List CodeTree) where
  abbrev pub comp_code : (comp : ℕ) → List Instr
  comp_code comp = section_code comp (exports_at program comp) (section_at program comp) (codes_at program codes comp)

  abbrev pub comp_part : (comp : ℕ) → Interface → CompPart
  comp_part comp interface =
      linked_part program.interfaces comp interface (section_at program comp) (codes_at program codes comp)

  -- compartments from this number on
  abbrev pub comp_parts : (comp : ℕ) → List Interface → List CompPart
  comp_parts comp [] = []
  comp_parts comp (interface ∷ interfaces) = comp_part comp interface ∷ comp_parts (suc comp) interfaces

  -- the run starts at `main` itself
  abbrev pub linked_image : ImageParts
  linked_image =
      let main = program.interfaces.main in
      record {
        main = main;
        entry = function_address (addresses_at program codes main) (entry_in program main Main);
        comps = comp_parts 0 program.interfaces.comps;
      }
