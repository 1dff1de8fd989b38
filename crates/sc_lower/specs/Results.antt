-- What lowering hands back, as the definitions have it.
use Rattle.sc_lower.specs.Common.{Interfaces, IsFunction, TacStmt, TypedFunction, TypedLocal, TypedStruct, cells_of}
use Rattle.sc_lower.specs.Common.{comp_at, most_cells, most_exports, most_nodes, most_params, nodes}
use Rattle.std.specs.Prelude.{◌≡◌, ◌≤◌, ℕ, List, ◌++◌, length, Some, slice_get}
use Rattle.std.specs.List.{All}
use Rattle.sc_core.specs.declared.section.TypedParam.{TypedParam}
use Rattle.sc_lower.specs.declared.calls.Values.{Values}
use Rattle.sc_lower.specs.declared.code.Code.{Code}
use Rattle.sc_lower.specs.declared.code.Fragment.{Fragment}
use Rattle.sc_lower.specs.Beyond.{beyond}
use Rattle.sc_lower.specs.Expressions.{Low}
use Rattle.sc_lower.specs.Statements.{Part, Many}
use Rattle.sc_lower.specs.Programs.{exports_of, lowered_function}

abbrev pub code_of : Low → Code
code_of low = record { stmts = low.code; at = low.at; next = low.next }

-- code that is there already, and the code of an expression after it
abbrev pub code_after : List TacStmt → Low → Code
code_after stmts low = record { stmts = stmts ++ low.code; at = low.at; next = low.next }

abbrev pub fragment_of : Part → Fragment
fragment_of part = record { stmts = part.code; next = part.next }

-- code that is there already, and more after it
abbrev pub fragment_after : List TacStmt → Part → Fragment
fragment_after stmts rest = record { stmts = stmts ++ rest.code; next = rest.next }

abbrev pub values_of : Many → Values
values_of many = record { stmts = many.code; at = many.at; next = many.next }

-- the code of a function keeps the rules of functions, and its numbers fit their types
pub record IsLowerable (interfaces : Interfaces) (comp : ℕ) (structs : List TypedStruct) (f : TypedFunction)
    : Type 0 where
  pub kept : IsFunction (lowered_function interfaces comp structs f)
  pub few_params : length f.params ≤ most_params
  pub few_nodes : nodes f ≤ most_nodes
  pub near : beyond f ≡ 0
  pub few_exports : length (exports_of (comp_at interfaces comp)) ≤ most_exports
  pub param_cells : All {X = TypedParam} (λ param. cells_of structs param.ty ≤ most_cells) f.params
  pub local_cells : All {X = TypedLocal} (λ local. cells_of structs local.ty ≤ most_cells) f.locals

-- each function can be lowered
abbrev pub AreFunctions : Interfaces → ℕ → List TypedStruct → List TypedFunction → Type 0
AreFunctions interfaces comp structs functions =
    (number : ℕ) (f : TypedFunction) → slice_get functions number ≡ Some f → IsLowerable interfaces comp structs f
