-- Where the linker puts what a program consists of.
use Rattle.sc_linker.specs.Common.{Addresses, CodeTree, Interface, ProgramTree, Proto, TypedGlobal, TypedSection}
use Rattle.sc_linker.specs.Common.{TypedStruct, cells_of, code_start, comp_at, stack_top, total}
use Rattle.std.specs.Prelude.{ℕ, zero, suc, ◌+◌, ◌*◌, List, [], ◌∷◌, length, map, take, drop, slice_get, Option, None}
use Rattle.std.specs.Prelude.{Some}

-- how many instructions codes have, and how many cells globals
abbrev pub instructions : List CodeTree → ℕ
instructions codes = total (map {A = CodeTree} (λ code. length code.instrs) codes)

abbrev pub cells : List TypedStruct → List TypedGlobal → ℕ
cells structs globals = total (map {A = TypedGlobal} (λ g. cells_of structs g.ty) globals)

-- a compartment's code begins with a word for each export: there it is entered
abbrev pub entry_address : (comp index : ℕ) → ℕ
entry_address comp index = code_start comp + 4 * index

-- the functions of a section begin after its entries, one after the other, and its globals at the top of its stack, a
-- word for each cell
abbrev pub section_addresses : (comp exports : ℕ) → TypedSection → List CodeTree → Addresses
section_addresses comp exports section codes = record {
  function = λ number. entry_address comp (exports + instructions (take number codes));
  entry = entry_address;
  global = λ number. stack_top comp + 4 * cells section.structs (take number section.globals);
}

-- the codes of a section's functions, where all of a program stand in order
abbrev pub codes_in : (comp : ℕ) → List TypedSection → List CodeTree → List CodeTree
codes_in comp [] codes = []
codes_in zero (section ∷ sections) codes = take (length section.functions) codes
codes_in (suc comp) (section ∷ sections) codes = codes_in comp sections (drop (length section.functions) codes)

-- what there is of a compartment: nothing where it isn't there

abbrev pub exports_in : Option Interface → List Proto
exports_in None = []
exports_in (Some interface) = interface.exports

abbrev pub section_or_none : Option TypedSection → TypedSection
section_or_none None = record { structs = []; globals = []; functions = [] }
section_or_none (Some section) = section

module _ (program : ProgramTree) (comp : ℕ) where
  abbrev pub exports_at : List Proto
  exports_at = exports_in (comp_at program.interfaces comp)

  abbrev pub section_at : TypedSection
  section_at = section_or_none (slice_get program.sections comp)

module _ (program : ProgramTree) (codes : List CodeTree) (comp : ℕ) where
  abbrev pub codes_at : List CodeTree
  codes_at = codes_in comp program.sections codes

  -- where what a compartment's code refers to begins
  abbrev pub addresses_at : Addresses
  addresses_at =
      section_addresses comp (length (exports_at program comp)) (section_at program comp) codes_at
