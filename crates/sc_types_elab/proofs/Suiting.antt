-- What a function sees suits the scope that its statements are judged in.
use Rattle.sc_types_elab.proofs.Common.{Bool, Found, FunctionTree, GlobalTree, List, None, Option, Scope, SectionTree}
use Rattle.sc_types_elab.proofs.Common.{Some, StructTree, Suits, Ty, TypedStruct, Visible, [], ap, arith, bytes_eq}
use Rattle.sc_types_elab.proofs.Common.{end_of_member, false, variable_in, globals_in, has_member, is_type, list_any}
use Rattle.sc_types_elab.proofs.Common.{map}
use Rattle.sc_types_elab.proofs.Common.{map_twice, members_from, ne_eqb, no_ty, option_and_then, or_else, position}
use Rattle.sc_types_elab.proofs.Common.{refl, same_base, same_ty, scope_in, slice_get, slice_get-map, starred, suc, sym}
use Rattle.sc_types_elab.proofs.Common.{take, true, type_of, type_with, typed_struct, typed_structs, variable_ty}
use Rattle.sc_types_elab.proofs.Common.{visible_in, zero, ℕ, ◌&&◌, ◌++◌, ◌==◌, ◌∙◌, ◌∷◌, ◌≡◌}
use Rattle.sc_core.specs.declared.ty.BaseTy.{BaseTy}
use Rattle.sc_core.specs.declared.section.TypedMember.{TypedMember}
use Rattle.sc_core.specs.declared.section.TypedParam.{TypedParam}
use Rattle.sc_core.specs.declared.expr.VarRef.{VarRef}
use Rattle.std.specs.Option.{option_map}
use Rattle.sc_ast.specs.declared.section.MemberTree.{MemberTree}
use Rattle.sc_ast.specs.declared.types.TypeTree.{TypeTree}
use Rattle.sc_core.specs.declared.ty.BaseTy.TheVariants as base
use Rattle.sc_core.specs.declared.expr.VarRef.TheVariants as var
use Rattle.sc_types_elab.specs.Sections as sections
use Rattle.sc_types_elab_expr.proofs.Parts.{same_ty-refl}

module _ (tags : List (List ℕ)) where
  starred-some : (stars : ℕ) (b : BaseTy) → same_ty (starred stars b) no_ty ≡ false
  starred-some zero base.Int = refl
  starred-some zero base.Unsigned = refl
  starred-some zero (base.Struct n) = refl
  starred-some (suc stars) b = ap (λ same. same && same_base b base.Int) (ne_eqb _ 0 (λ e. omega (arith, e)))

  with-some : (elements : Option ℕ) (stars : ℕ) (b : BaseTy) → same_ty (type_with tags elements stars b) no_ty ≡ false
  with-some None stars b = starred-some stars b
  with-some (Some elements) stars b = refl

  -- whatever is declared has a type
  type-some : (t : TypeTree) → same_ty (type_of tags t) no_ty ≡ false
  type-some t = with-some _ t.stars _

  -- no member has the type of what isn't there

  abbrev has_none : TypedMember → Bool
  has_none m = m.offset == 0 && same_ty m.ty no_ty

  members-some : (structs : List TypedStruct) (offset : ℕ) (members : List MemberTree) →
      list_any {X = TypedMember} has_none (members_from tags structs offset members) ≡ false
  members-some structs offset [] = refl
  members-some structs offset (m ∷ members) =
      grind (arith, type-some m.ty, members-some structs (end_of_member tags structs offset m) members)

  abbrev AreSome : List TypedStruct → Type 0
  AreSome structs = (n : ℕ) → has_member (slice_get structs n) 0 no_ty ≡ false

  one-more : (structs : List TypedStruct) (s : TypedStruct) → AreSome structs → has_member (Some s) 0 no_ty ≡ false →
      AreSome (structs ++ s ∷ [])
  one-more [] s are is zero = is
  one-more [] s are is (suc n) = refl
  one-more (x ∷ structs) s are is zero = are zero
  one-more (x ∷ structs) s are is (suc n) = one-more structs s (λ k. are (suc k)) is n

  structs-some : (structs : List TypedStruct) (trees : List StructTree) → AreSome structs →
      AreSome (typed_structs tags structs trees)
  unfolding typed_structs
  structs-some structs [] are = are
  structs-some structs (tree ∷ trees) are = structs-some (structs ++ typed_struct tags structs tree ∷ []) trees
      (one-more structs _ are (members-some structs 0 tree.members))

-- the variable that is found stands at its place, with its type
module _ (reference : ℕ → VarRef) (variables : List TypedParam) (name : List ℕ) where
  abbrev place_of : Option ℕ
  place_of = position (λ variable. bytes_eq name variable.name) variables

  abbrev found_at : ℕ → TypedParam → Found
  found_at place variable = record { variable = reference place; ty = variable.ty }

  found-place : (f : Found) → variable_in reference variables name ≡ Some f →
      (place : ℕ) × (f.variable ≡ reference place) ×
      (slice_get (map (λ variable. variable.ty) variables) place ≡ Some f.ty)
  found-place f is = by place_of is where
    at : (place : ℕ) (v : Option TypedParam) → slice_get variables place ≡ v → option_map (found_at place) v ≡ Some f →
        (place : ℕ) × (f.variable ≡ reference place) ×
        (slice_get (map (λ variable. variable.ty) variables) place ≡ Some f.ty)
    at place None got is = absurd (cc)
    at place (Some v) got is = (place, cc, cc (slice_get-map (λ variable. variable.ty) variables place))

    by : (p : Option ℕ) → option_and_then (λ place. option_map (found_at place) (slice_get variables place)) p ≡
        Some f → (place : ℕ) × (f.variable ≡ reference place) ×
        (slice_get (map (λ variable. variable.ty) variables) place ≡ Some f.ty)
    by None is = absurd (cc)
    by (Some place) is = at place (slice_get variables place) refl is

take-get : {A : Type 0} (g : A → Ty) (k : ℕ) (xs : List A) (place : ℕ) (t : Ty) →
    slice_get (map g (take k xs)) place ≡ Some t → slice_get (map g xs) place ≡ Some t
take-get g zero xs place t is = cc
take-get g (suc k) [] place t is = is
take-get g (suc k) (x ∷ xs) zero t is = is
take-get g (suc k) (x ∷ xs) (suc place) t is = take-get g k xs place t is

module _ (section : SectionTree) (tree : FunctionTree) (count : ℕ) where
  abbrev tags : List (List ℕ)
  tags = sections.tags section

  abbrev scope : Scope
  scope = scope_in section tree

  abbrev seen : Visible
  seen = visible_in section tree count

  abbrev Known : Found → Type 0
  Known f = is_type (variable_ty scope f.variable) f.ty ≡ true

  -- what stands at a place with the type that was found
  known-at : (f : Found) (t : Option Ty) → variable_ty scope f.variable ≡ t → t ≡ Some f.ty → Known f
  known-at f t is same = cc (same_ty-refl f.ty)

  local-known : (name : List ℕ) (f : Found) → variable_in var.Local seen.locals name ≡ Some f → Known f
  local-known name f is = let at = found-place _ _ name f is in
      known-at f _ (ap (variable_ty scope) at.1) (take-get (λ local. type_of tags _) count tree.locals at.0 f.ty
      (ap (λ types. slice_get types at.0) (sym (map_twice _ _ _)) ∙ at.2))

  param-known : (name : List ℕ) (f : Found) → variable_in var.Param seen.params name ≡ Some f → Known f
  param-known name f is = let at = found-place _ _ name f is in
      known-at f _ (ap (variable_ty scope) at.1) (ap (λ types. slice_get types at.0) (sym (map_twice _ _ _)) ∙ at.2)

  global-known : (name : List ℕ) (f : Found) → variable_in var.Global seen.globals name ≡ Some f → Known f
  global-known name f is = let at = found-place _ _ name f is in
      known-at f _ (ap (variable_ty scope) at.1) (ap (λ types. slice_get types at.0) (sym (map_twice _ _ _)) ∙ at.2)

  either-known : (x y : Option Found) (f : Found) → (x ≡ Some f → Known f) → (y ≡ Some f → Known f) →
      or_else x y ≡ Some f → Known f
  either-known None y f first second is = second is
  either-known (Some g) y f first second is = first is

  some-global : (globals : List GlobalTree) → is_type
      (slice_get (map {A = GlobalTree} (λ global. type_of tags global.ty) globals) 0) no_ty ≡ false
  some-global [] = refl
  some-global (global ∷ globals) = type-some tags global.ty

  pub suiting : Suits seen scope
  suiting = record {
    known = λ name f is. either-known (variable_in _ _ name)
        (or_else (variable_in var.Param seen.params name) (variable_in var.Global seen.globals name)) f (local-known
        name f)
        (either-known (variable_in _ _ name) (variable_in _ _ name) f (param-known name f) (global-known name f)) is;
    unknown = some-global (globals_in section.decls);
    structs = refl;
    nothing = structs-some tags [] _ (λ n. refl);
  }
