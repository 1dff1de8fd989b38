-- Helping: numbers for the variables of calls. The blocks of a compartment have numbers below 2^63.
use Rattle.sc_core.specs.Prelude.{Memory, most_cells, most_compartments, most_nodes, stmt_nodes, struct_zeros}
use Rattle.sc_core.specs.Prelude.{total, variables, zeros_of}
use Rattle.std.specs.Prelude.{◌≡◌, ℕ, ◌+◌, ◌*◌, ◌^◌, ◌<◌, ◌≤◌, true, List, [], length, map, nat_le, slice_get}
use Rattle.std.specs.Prelude.{Some}
use Rattle.std.specs.List.{list_all}
use Rattle.sc_core.specs.declared.section.TypedFunction.{TypedFunction}
use Rattle.sc_core.specs.declared.section.TypedGlobal.{TypedGlobal}
use Rattle.sc_core.specs.declared.section.TypedSection.{TypedSection}
use Rattle.sc_core.specs.declared.section.TypedStruct.{TypedStruct}

-- such numbers suffice for the blocks of each compartment and for those that calls make in this many turns
pub record NumbersSuffice (memory : Memory) (turns : ℕ) : Type 0 where
  pub numbers : (comp : ℕ) → length (memory comp) + most_nodes * turns ≤ 2 ^ 63

-- none of these numbers of cells is more than a variable may have
abbrev pub AreSmall : List ℕ → Type 0
AreSmall sizes = list_all (λ n. nat_le n most_cells) sizes ≡ true

-- a function has few variables, which are small, and few nodes in its statements
pub record HasFewVariables (structs : List TypedStruct) (f : TypedFunction) : Type 0 where
  pub few : length (variables structs f) < most_nodes
  pub short : total (map stmt_nodes f.body) < most_nodes
  pub small : AreSmall (variables structs f)

-- how many cells each global of a section has
abbrev pub cell_counts : TypedSection → List ℕ
cell_counts section = map {A = TypedGlobal} (λ g. length (zeros_of (struct_zeros [] section.structs) g.ty))
    section.globals

-- a section has few globals, and they are small
pub record HasSmallGlobals (section : TypedSection) : Type 0 where
  pub few : length (cell_counts section) ≤ most_nodes
  pub small : AreSmall (cell_counts section)

-- there are few sections, with such globals
pub record HaveSmallGlobals (sections : List TypedSection) : Type 0 where
  pub few : length sections ≤ most_compartments
  pub small : (comp : ℕ) (section : TypedSection) → slice_get sections comp ≡ Some section → HasSmallGlobals section
