-- Variables and members are found by their names' first places.
use Rattle.sc_types_elab_expr.proofs.Common.{Found, List, None, Option, Some, Ty, TypedParam, TypedStruct, ap, bytes_eq}
use Rattle.sc_types_elab_expr.proofs.Common.{variable_in, member_named, member_names, option_and_then, option_map}
use Rattle.sc_types_elab_expr.proofs.Common.{placed}
use Rattle.sc_types_elab_expr.proofs.Common.{refl, slice_get, sym, ℕ, ◌∙◌, ◌≡◌}
use Rattle.sc_base.specs.Prelude.{number_by_name}
use Rattle.sc_core.specs.declared.expr.VarRef.{VarRef}
use Rattle.std.proofs.lemmas.Option.{slice_get-map}
use Rattle.sc_base.proofs.Lists.{position_map}

-- a variable at its place
abbrev pub found_at : (ℕ → VarRef) → (ℕ × Ty) → Found
found_at reference p = record { variable = reference p.0; ty = p.1 }

-- a variable of this kind at a place
abbrev pub found_with : (ℕ → VarRef) → ℕ → TypedParam → Found
found_with reference place variable = record { variable = reference place; ty = variable.ty }

pub found_in_placed : (reference : ℕ → VarRef) (variables : List TypedParam) (name : List ℕ) →
    variable_in reference variables name ≡ option_map (found_at reference) (placed variables name)
found_in_placed reference variables name = ap (option_and_then (λ place. option_map (found_with reference place)
    (slice_get _ place))) (sym (position_map (λ variable. _) (bytes_eq name) variables)) ∙ each _ where
      at : (place : ℕ) (o : Option TypedParam) → option_map (found_with reference place) o ≡
          option_map (found_at reference) (option_map (λ variable. (place, variable.ty)) o)
      at place None = refl
      at place _ = refl

      each : (o : Option ℕ) → option_and_then (λ place. option_map (found_with reference place)
          (slice_get variables place)) o ≡ option_map (found_at reference)
          (option_and_then (λ place. option_map (λ variable. (place, variable.ty)) (slice_get variables place)) o)
      each None = refl
      each (Some place) = at place (slice_get _ place)

pub member_placed : (name : List ℕ) (tree : TypedStruct) →
    member_named name (Some tree) ≡ option_and_then (slice_get tree.members) (number_by_name (member_names tree) name)
member_placed name tree = ap (option_and_then (slice_get tree.members))
    (sym (position_map (λ member. _) (bytes_eq name) tree.members))

pub ruleset members = (member_placed, slice_get-map)
