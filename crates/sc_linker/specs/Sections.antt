-- Helping: a section's part of an image, by what it is made of.
use Rattle.sc_base.specs.Prelude.{most_exports}
use Rattle.sc_linker.specs.Common.{Addresses, CodeTree, Instr, Interface, Jal, Proto, TypedGlobal, TypedSection}
use Rattle.sc_linker.specs.Common.{TypedStruct, Upper, cells_of, code_start, is_name, is_named, most_globals}
use Rattle.sc_linker.specs.Common.{place_named, stack_top, stretch, upper_part}
use Rattle.std.specs.Prelude.{◌≡◌, ℕ, pos, ◌-ℤ◌, ◌+◌, ◌*◌, ◌-◌, ◌%◌, ◌^◌, ◌<◌, ◌≤◌, Bool, true, nat_lt, List, [], ◌∷◌}
use Rattle.std.specs.Prelude.{◌++◌, length, map, replicate, slice_index, All, IsTrue, IsSome, Some}
use Rattle.std.specs.List.{list_all}
use Rattle.sc_tac.specs.declared.machine_code.Relocation.{Relocation}
use Rattle.sc_tac.specs.declared.machine_code.Target.{Target}
use Rattle.sc_linker.specs.declared.layout.SectionLayout.{SectionLayout}
use Rattle.sc_linker.specs.Layout.{cells, entry_address, instructions}

-- where things of these sizes in words begin that stand one after the other from an address on
abbrev pub starts : (address : ℕ) → (sizes : List ℕ) → List ℕ
starts address [] = []
starts address (size ∷ sizes) = address ∷ starts (address + 4 * size) sizes

abbrev pub code_sizes : List CodeTree → List ℕ
code_sizes codes = map {A = CodeTree} (λ code. length code.instrs) codes

abbrev pub global_sizes : List TypedStruct → List TypedGlobal → List ℕ
global_sizes structs globals = map {A = TypedGlobal} (λ g. cells_of structs g.ty) globals

-- the words of a global: those that it begins with, followed by zeros
abbrev pub initial_words : List TypedStruct → TypedGlobal → List ℕ
initial_words structs g = g.init ++ replicate (cells_of structs g.ty - length g.init) 0

abbrev pub section_layout : (comp exports : ℕ) → TypedSection → List CodeTree → SectionLayout
section_layout comp exports section codes = record {
  comp = comp;
  functions = starts (entry_address comp exports) (code_sizes codes);
  globals = starts (stack_top comp) (global_sizes section.structs section.globals);
}

-- the addresses that a layout has
abbrev pub addresses_of : SectionLayout → Addresses
addresses_of layout = record {
  function = λ number. slice_index layout.functions number;
  entry = entry_address;
  global = λ number. slice_index layout.globals number;
}

-- an instruction of a compartment may stand at this address
pub record IsCodeAddress (comp address : ℕ) : Type 0 where
  pub least : code_start comp ≤ address
  pub greatest : address < code_start comp + stretch
  pub whole : address % 4 ≡ 0

-- `count` words fit from this address on
pub record Fits (comp address count : ℕ) : Type 0 where
  pub least : code_start comp ≤ address
  pub greatest : address + 4 * count ≤ code_start comp + stretch
  pub word : address + 4 * count < 2 ^ 32
  pub whole : address % 4 ≡ 0

-- a target's function or global exists, where there are `functions` functions and `globals` globals
abbrev pub is_known : (functions globals : ℕ) → Target → Bool
is_known functions globals =
    is_named (λ number. nat_lt number functions) (λ to index. true) (λ number. nat_lt number globals)

abbrev pub IsKnown : (functions globals : ℕ) → Target → Type 0
IsKnown functions globals target = IsTrue (is_known functions globals target)

abbrev pub AreKnown : (functions globals : ℕ) → List Relocation → Type 0
AreKnown functions globals relocations =
    IsTrue (list_all {X = Relocation} (λ relocation. is_known functions globals relocation.target) relocations)

-- a JAL from one address to another
abbrev pub with_jump : (pc to : ℕ) → Instr → Instr
with_jump pc to (Jal rd imm) = Jal rd (pos to -ℤ pos pc)
with_jump pc to instr = instr

-- a LUI of an address
abbrev pub with_upper : (address : ℕ) → Instr → Instr
with_upper address (Upper op rd imm) = Upper op rd (upper_part address)
with_upper address instr = instr

-- a section whose code can be linked
pub record CanBeLinked (comp : ℕ) (exports : List Proto) (section : TypedSection) (codes : List CodeTree) : Type 0 where
  pub each : length codes ≡ length section.functions
  pub few : length exports ≤ most_exports
  pub code : 4 * (length exports + instructions codes) ≤ stretch
  pub globals : 4 * cells section.structs section.globals ≤ most_globals
  pub inside : All {X = CodeTree}
      (λ code. AreKnown (length section.functions) (length section.globals) code.relocations) codes
  pub named : All {X = Proto} (λ proto. IsSome (place_named proto.name (Some section))) exports

-- a compartment and its exports are called by names
pub record IsNamed (interface : Interface) : Type 0 where
  pub name : IsTrue (is_name interface.name)
  pub exports : All {X = Proto} (λ proto. IsTrue (is_name proto.name)) interface.exports
