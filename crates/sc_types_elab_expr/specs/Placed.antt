-- Helping: variables and members by their names' first places.
use Rattle.sc_types_elab_expr.specs.Common.{Ty, TypedMember, TypedParam, TypedStruct, number_by_name}
use Rattle.std.specs.Prelude.{ℕ, List, map, Option, slice_get}
use Rattle.std.specs.Option.{option_map, option_and_then}

abbrev pub variable_names : List TypedParam → List (List ℕ)
variable_names variables = map {A = TypedParam} (λ variable. variable.name) variables

abbrev pub names_of : List TypedMember → List (List ℕ)
names_of members = map {A = TypedMember} (λ member. member.name) members

abbrev pub member_names : TypedStruct → List (List ℕ)
member_names tree = names_of tree.members

-- a variable's place and its type
abbrev pub placed : List TypedParam → List ℕ → Option (ℕ × Ty)
placed variables name =
    option_and_then (λ place. option_map (λ variable. (place, variable.ty)) (slice_get variables place))
    (number_by_name (variable_names variables) name)
