-- Types as the meaning reads them, and how many cells they take (C11 6.2.5, 6.3.2.1, 6.7.2.1).
use Rattle.std.specs.Prelude.{ℕ, zero, suc, ◌-◌, ◌*◌, ◌%◌, ◌^◌, ◌++◌, Bool, true, false, List, map, Option}
use Rattle.std.specs.Prelude.{None, Some, slice_get}
use Rattle.sc_core.specs.declared.ty.Ty.{Ty}
use Rattle.sc_core.specs.declared.ty.Ty.TheVariants as ty
use Rattle.sc_core.specs.declared.ty.BaseTy.{BaseTy}
use Rattle.sc_core.specs.declared.ty.BaseTy.TheVariants as base
use Rattle.sc_core.specs.declared.section.TypedStruct.{TypedStruct}
use Rattle.sc_core.specs.declared.section.TypedParam.{TypedParam}
use Rattle.sc_core.specs.declared.section.TypedLocal.{TypedLocal}
use Rattle.sc_core.specs.declared.section.TypedFunction.{TypedFunction}

abbrev pub is_unsigned : Ty → Bool
is_unsigned ty.Unsigned = true
is_unsigned _ = false

abbrev pub is_array : Ty → Bool
is_array (ty.Array stars base length) = true
is_array _ = false

-- a value of array type is a pointer to the first element (C11 6.3.2.1p3)
abbrev pub is_pointer : Ty → Bool
is_pointer (ty.Pointer stars base) = true
is_pointer (ty.Array stars base length) = true
is_pointer _ = false

-- cells of a variable, and of a struct
abbrev pub most_cells : ℕ
most_cells = 1048576

-- the size of that many cells in bytes, a word (C11 6.5.3.4)
abbrev pub size_in_bytes : ℕ → ℕ
size_in_bytes cells = 4 * cells % 2 ^ 32

abbrev pub struct_cells : Option TypedStruct → ℕ
struct_cells None = 0
struct_cells (Some s) = s.cells

module _ (structs : List TypedStruct) where
  abbrev pub base_cells : BaseTy → ℕ
  base_cells base.Int = 1
  base_cells base.Unsigned = 1
  base_cells (base.Struct n) = struct_cells (slice_get structs n)

  -- the cells of a type with this number of `*`: a pointer has one
  abbrev pub starred_cells : ℕ → BaseTy → ℕ
  starred_cells zero base = base_cells base
  starred_cells (suc stars) base = 1

  -- the cells of a variable of this type
  abbrev pub cells_of : Ty → ℕ
  cells_of (ty.Struct n) = struct_cells (slice_get structs n)
  cells_of (ty.Array stars base length) = length * starred_cells stars base
  cells_of _ = 1

  -- the cells of what a pointer points to
  abbrev pub target_cells : Ty → ℕ
  target_cells (ty.Pointer stars base) = starred_cells (stars - 1) base
  target_cells (ty.Array stars base length) = starred_cells stars base
  target_cells _ = 0

  -- the cells of each variable of a function, parameters first
  abbrev pub variables : TypedFunction → List ℕ
  variables f = map {A = TypedParam} (λ p. cells_of p.ty) f.params ++ map {A = TypedLocal} (λ l. cells_of l.ty) f.locals
