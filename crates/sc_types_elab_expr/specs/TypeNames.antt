-- The types that type names write. A struct is known by its tag's place among the section's structs.
use Rattle.sc_types_elab_expr.specs.Common.{Ty, TypeName, TypedStruct, cells_of, most_cells, number_by_name, starred}
use Rattle.std.specs.Prelude.{ℕ, min, List, unwrap_or}
use Rattle.sc_ast.specs.declared.types.BaseTree.{BaseTree}
use Rattle.sc_ast.specs.declared.types.BaseTree.TheVariants as base_tree
use Rattle.sc_core.specs.declared.ty.BaseTy.{BaseTy}
use Rattle.sc_core.specs.declared.ty.BaseTy.TheVariants as base

module _ (tags : List (List ℕ)) where
  abbrev pub base_of : BaseTree → BaseTy
  base_of base_tree.Int = base.Int
  base_of base_tree.Unsigned = base.Unsigned
  base_of (base_tree.Struct tag) = base.Struct (unwrap_or (number_by_name tags tag) 0)

  -- the type of a parameter, of a result, or under `sizeof`
  abbrev pub type_of_name : TypeName → Ty
  type_of_name t = starred t.stars (base_of t.base)

  -- the cells of what has this type: they stop at the most that a struct may hold, which is counted later
  abbrev pub cells_under : List TypedStruct → TypeName → ℕ
  cells_under structs t = min (cells_of structs (type_of_name t)) most_cells
