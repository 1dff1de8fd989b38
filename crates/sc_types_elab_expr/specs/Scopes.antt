-- The variables and the functions that names stand for in a function's body (C11 6.2.1).
use Rattle.sc_types_elab_expr.specs.Common.{Global, Local, Param, Ty, TypedMember, TypedParam, TypedStruct}
use Rattle.std.specs.Prelude.{ℕ, List, position, slice_get, Option, Some, None, bytes_eq}
use Rattle.std.specs.Option.{option_map, option_and_then}
use Rattle.sc_core.specs.declared.ty.Ty.TheVariants as ty
use Rattle.sc_core.specs.declared.expr.VarRef.{VarRef}

-- the tags of the section's structs, the structs and, each with its type, the variables that have names at a place of a
-- function, in order
pub record Visible : Type 0 where
  pub tags : List (List ℕ)
  pub structs : List TypedStruct
  pub globals : List TypedParam
  pub params : List TypedParam
  pub locals : List TypedParam

-- a variable and its type
pub record Found : Type 0 where
  pub variable : VarRef
  pub ty : Ty

-- the variable of a name in a list, as the kind of reference that the list's places are
abbrev pub variable_in : (ℕ → VarRef) → List TypedParam → List ℕ → Option Found
variable_in reference variables name =
    option_and_then (λ place. option_map (λ variable. record { variable = reference place; ty = variable.ty })
    (slice_get variables place)) (position (λ variable. bytes_eq name variable.name) variables)

abbrev pub or_else : {A : Type 0} → Option A → Option A → Option A
or_else None other = other
or_else (Some x) other = Some x

-- a local hides a parameter, and both hide a global
abbrev pub variable_named : Visible → List ℕ → Option Found
variable_named visible name =
    or_else (variable_in Local visible.locals name) (or_else (variable_in Param visible.params name)
    (variable_in Global visible.globals name))

-- the member of a name
abbrev pub member_named : List ℕ → Option TypedStruct → Option TypedMember
member_named name None = None
member_named name (Some tree) = option_and_then (slice_get tree.members)
    (position (λ member. bytes_eq name member.name) tree.members)

-- the struct of a type
abbrev pub struct_of : List TypedStruct → Option Ty → Option TypedStruct
struct_of structs (Some (ty.Struct n)) = slice_get structs n
struct_of structs _ = None
