-- Helping: sizes as they are counted.
use Rattle.sc_compile.specs.Common.{TypedGlobal, TypedSection, cells_of, most_nodes, most_params, nodes, total}
use Rattle.sc_compile.specs.Common.{variables}
use Rattle.std.specs.Prelude.{ℕ, ◌+◌, ◌^◌, ◌<◌, ◌≤◌, List, length, map, All}
use Rattle.sc_core.specs.declared.section.TypedFunction.{TypedFunction}
use Rattle.sc_core.specs.declared.section.TypedStruct.{TypedStruct}

abbrev pub cells_in : TypedSection → ℕ
cells_in section = total (map {A = TypedGlobal} (λ g. cells_of section.structs g.ty) section.globals)

-- a function's counts fit their types
pub record IsCountedFunction (structs : List TypedStruct) (f : TypedFunction) : Type 0 where
  pub few_params : length f.params ≤ most_params
  pub few_nodes : nodes f ≤ most_nodes
  pub cells : total (variables structs f) + nodes f < 2 ^ 60

-- no count of a section passes what a word of 64 bits holds
pub record IsCounted (section : TypedSection) : Type 0 where
  pub cells : cells_in section < 2 ^ 60
  pub functions : All (IsCountedFunction section.structs) section.functions
  pub nodes : total (map nodes section.functions) < 2 ^ 50
