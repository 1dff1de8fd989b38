-- Sections and programs with their types, and the lines of the declarations that break the rules of types.
use Rattle.sc_types_elab.specs.Common.{Decl, FunctionTree, HeadTree, Import, ImportLine, LocalTree, Scope, SectionTree}
use Rattle.sc_types_elab.specs.Common.{Signature, StructTree, TypedLocal, cells_of, function_named, function_names}
use Rattle.sc_types_elab.specs.Common.{function_decls, globals_in, head_of, heads_in, import_of, init_fits}
use Rattle.sc_types_elab.specs.Common.{interfaces_of}
use Rattle.sc_types_elab.specs.Common.{limited, line_of_text, starred, stmt_type_lines, struct_names}
use Rattle.sc_types_elab.specs.Common.{structs_in, typed_stmt, unless}
use Rattle.sc_base.specs.Prelude.{number_by_name}
use Rattle.sc_types_elab_expr.specs.Prelude.{Callees, Visible, base_of, going_to, target_or, type_of_name, typed}
use Rattle.sc_core.specs.declared.expr.CallTarget.{CallTarget}
use Rattle.sc_core.specs.declared.expr.CallTarget.TheVariants.{Cross, Input, Output, Own}
use Rattle.sc_ast.specs.declared.expr.ExprTree.{ExprTree}
use Rattle.sc_core.specs.declared.ty.Ty.{Ty}
use Rattle.sc_core.specs.declared.expr.TypedExpr.{TypedExpr}
use Rattle.sc_core.specs.declared.section.TypedMember.{TypedMember}
use Rattle.sc_core.specs.declared.section.TypedParam.{TypedParam}
use Rattle.sc_core.specs.declared.section.TypedStruct.{TypedStruct}
use Rattle.std.specs.Prelude.{ℕ, zero, suc, ◌+◌, ◌-◌, ◌%◌, ◌^◌, Bool, true, false, ◌&&◌, not, nat_eq, nat_le, bytes_eq}
use Rattle.std.specs.Prelude.{List, [], ◌∷◌, ◌++◌, length, map, take, Option, Some, None, if◌then◌else◌}
use Rattle.std.specs.List.{concat, list_all}
use Rattle.std.specs.Option.{option_map, option_map_or}
use Rattle.sc_event.specs.declared.interface.Import.TheVariants as import
use Rattle.sc_ast.specs.declared.types.TypeTree.{TypeTree}
use Rattle.sc_ast.specs.declared.section.MemberTree.{MemberTree}
use Rattle.sc_ast.specs.declared.section.ConstTree.{ConstTree}
use Rattle.sc_ast.specs.declared.section.InitTree.{InitTree}
use Rattle.sc_ast.specs.declared.section.InitTree.TheVariants.{Absent, One, Many}
use Rattle.sc_ast.specs.declared.section.GlobalTree.{GlobalTree}
use Rattle.sc_ast.specs.declared.section.ParamTree.{ParamTree}
use Rattle.sc_ast.specs.declared.section.FunctionParam.{FunctionParam}
use Rattle.sc_ast.specs.declared.section.Decl.TheVariants.{Struct, Global, Function}
use Rattle.sc_core.specs.declared.ty.Ty.TheVariants as ty
use Rattle.sc_core.specs.declared.ty.BaseTy.{BaseTy}
use Rattle.sc_core.specs.declared.ty.BaseTy.TheVariants as base
use Rattle.sc_core.specs.declared.section.TypedGlobal.{TypedGlobal}
use Rattle.sc_core.specs.declared.section.TypedFunction.{TypedFunction}
use Rattle.sc_core.specs.declared.section.TypedSection.{TypedSection}
use Rattle.sc_core.specs.declared.program.ProgramTree.{ProgramTree}

-- Types.

-- an array has an element (C11 6.7.6.2p1)
abbrev pub is_sized : TypeTree → Bool
is_sized t = option_map_or (λ elements. nat_le 1 elements) t.length true

module _ (tags : List (List ℕ)) where
  abbrev pub type_with : Option ℕ → ℕ → BaseTy → Ty
  type_with None stars b = starred stars b
  type_with (Some elements) stars b = ty.Array stars b elements

  abbrev pub type_of : TypeTree → Ty
  type_of t = type_with t.length t.stars (base_of tags t.base)

  -- Structs: members stand one after another (C11 6.7.2.1p15).

  -- the offset after a member that stands at this one; offsets stop at 4294967295, far beyond what a struct may hold
  abbrev pub end_of_member : List TypedStruct → ℕ → MemberTree → ℕ
  end_of_member structs offset member = limited (offset + cells_of structs (type_of member.ty))

  abbrev pub members_from : List TypedStruct → ℕ → List MemberTree → List TypedMember
  members_from structs offset [] = []
  members_from structs offset (member ∷ members) =
      record { name = member.name; ty = type_of member.ty; offset = offset } ∷
      members_from structs (end_of_member structs offset member) members

  abbrev pub cells_from : List TypedStruct → ℕ → List MemberTree → ℕ
  cells_from structs offset [] = offset
  cells_from structs offset (member ∷ members) = cells_from structs (end_of_member structs offset member) members

  -- a struct over those that stand before it
  abbrev pub typed_struct : List TypedStruct → StructTree → TypedStruct
  typed_struct structs tree =
      record {
        name = tree.name;
        members = members_from structs 0 tree.members;
        cells = cells_from structs 0 tree.members;
      }

  unfoldable pub typed_structs : List TypedStruct → List StructTree → List TypedStruct
  typed_structs structs [] = structs
  typed_structs structs (tree ∷ trees) = typed_structs (structs ++ typed_struct structs tree ∷ []) trees

-- Globals.

-- the word of a constant: between integers the 32 bits are kept
abbrev pub word_of_const : ConstTree → ℕ
word_of_const const = if const.negative then (2 ^ 32 - const.literal.value) % 2 ^ 32 else const.literal.value

abbrev pub init_words : InitTree → List ℕ
init_words Absent = []
init_words (One const) = word_of_const const ∷ []
init_words (Many consts) = map word_of_const consts

-- a literal of value 0, without a sign
abbrev pub is_null : ConstTree → Bool
is_null const = not const.negative && nat_eq const.literal.value 0

-- what a global of a type may begin with (C11 6.7.9): an integer with an integer, a pointer with null, an array of
-- integers with a list no longer than it
abbrev pub init_holds : Ty → InitTree → Bool
init_holds t Absent = true
init_holds ty.Int (One const) = true
init_holds ty.Unsigned (One const) = true
init_holds (ty.Pointer stars base) (One const) = is_null const
init_holds (ty.Array zero base.Int elements) (Many consts) = nat_le (length consts) elements
init_holds (ty.Array zero base.Unsigned elements) (Many consts) = nat_le (length consts) elements
init_holds _ _ = false

abbrev pub typed_global : List (List ℕ) → GlobalTree → TypedGlobal
typed_global tags tree = record { name = tree.name; ty = type_of tags tree.ty; init = init_words tree.init }

-- Functions.

abbrev pub param_ty : List (List ℕ) → ParamTree → Ty
param_ty tags param = type_of_name tags param.ty

-- the types of a function or a prototype, by its head
abbrev pub signature_by : List (List ℕ) → HeadTree → Signature
signature_by tags head = record {
  params = map (param_ty tags) head.params;
  result = option_map (type_of_name tags) head.result;
}

abbrev pub head_named : List ℕ → List HeadTree → Option HeadTree
head_named name [] = None
head_named name (head ∷ heads) = if bytes_eq head.name name then Some head else head_named name heads

abbrev pub or_first : Option FunctionTree → Option HeadTree → Option HeadTree
or_first None first = first
or_first (Some tree) first = Some (head_of tree.head)

-- a call is typed by the function's definition in its section, or else by its first prototype there
abbrev pub called_head : SectionTree → List ℕ → Option HeadTree
called_head section name = or_first (function_named name (function_decls section.decls))
    (head_named name (heads_in section.decls))

abbrev pub import_target : Import → CallTarget
import_target import.Input = Input
import_target import.Output = Output
import_target (import.Function comp index) = Cross comp index

abbrev pub import_named : List ℕ → List ImportLine → Option ImportLine
import_named name [] = None
import_named name (line ∷ lines) = if bytes_eq line.name name then Some line else import_named name lines

abbrev pub imported_target : List SectionTree → ℕ → Option ImportLine → CallTarget
imported_target sections number None = Own 0
imported_target sections number (Some line) = import_target (import_of sections number line)

abbrev pub callees_of : List SectionTree → ℕ → SectionTree → Callees
callees_of sections number section = record {
  signature = λ name. option_map (signature_by (struct_names section.decls)) (called_head section name);
  target = λ name. target_or (number_by_name (function_names section.decls) name)
      (imported_target sections number (import_named name section.imports));
}

abbrev pub typed_param : List (List ℕ) → FunctionParam → TypedParam
typed_param tags param = record { name = param.name; ty = type_of_name tags param.ty }

-- a local as a variable
abbrev pub local_variable : List (List ℕ) → LocalTree → TypedParam
local_variable tags local = record { name = local.name; ty = type_of tags local.ty }

abbrev pub global_variable : List (List ℕ) → GlobalTree → TypedParam
global_variable tags global = record { name = global.name; ty = type_of tags global.ty }

module _ (section : SectionTree) where
  abbrev pub tags : List (List ℕ)
  tags = struct_names section.decls

  abbrev pub structs : List TypedStruct
  structs = typed_structs tags [] (structs_in section.decls)

  -- what is visible in a function, with its first `count` locals
  abbrev pub visible_in : FunctionTree → (locals : ℕ) → Visible
  visible_in tree count = record {
    tags = tags;
    structs = structs;
    globals = map (global_variable tags) (globals_in section.decls);
    params = map (typed_param tags) tree.head.params;
    locals = map (local_variable tags) (take count tree.locals);
  }

  abbrev pub visible_of : FunctionTree → Visible
  visible_of tree = visible_in tree (length tree.locals)

  abbrev pub scope_in : FunctionTree → Scope
  scope_in tree = record {
    structs = structs;
    globals = map (λ global. type_of tags global.ty) (globals_in section.decls);
    params = map (λ param. type_of_name tags param.ty) tree.head.params;
    locals = map (λ local. type_of tags local.ty) tree.locals;
  }

  -- a local's initialiser sees the locals up to its own, which is at this place (C11 6.2.1p7)
  abbrev pub typed_init : FunctionTree → (place : ℕ) → Ty → Option ExprTree → Option TypedExpr
  typed_init tree place t None = None
  typed_init tree place t (Some init) = Some (going_to t (typed (visible_in tree (suc place)) init))

  abbrev pub typed_local : FunctionTree → (place : ℕ) → LocalTree → TypedLocal
  typed_local tree place local =
      record {
        name = local.name;
        ty = type_of tags local.ty;
        init = typed_init tree place (type_of tags local.ty) local.init;
        line = local.line;
      }

  unfoldable pub typed_locals : FunctionTree → (place : ℕ) → List LocalTree → List TypedLocal
  typed_locals tree place [] = []
  typed_locals tree place (local ∷ locals) = typed_local tree place local ∷ typed_locals tree (suc place) locals

  abbrev pub result_of : FunctionTree → Option Ty
  result_of tree = option_map (type_of_name tags) tree.head.result

  -- The lines, counted in the section, at which a global or a struct breaks a rule.

  abbrev pub global_type_lines : GlobalTree → List ℕ
  global_type_lines tree = unless (is_sized tree.ty && init_holds (type_of tags tree.ty) tree.init) tree.line

  -- a struct has a member
  abbrev pub struct_lines : StructTree → List ℕ
  struct_lines tree =
      unless (nat_le 1 (length tree.members) && list_all {X = MemberTree}
      (λ member. is_sized member.ty) tree.members) tree.line

  module _ (callees : Callees) where
    abbrev pub typed_function : FunctionTree → TypedFunction
    typed_function tree = record {
      name = tree.head.name;
      params = map (typed_param tags) tree.head.params;
      locals = typed_locals tree 0 tree.locals;
      result = result_of tree;
      body = map (typed_stmt (visible_of tree) callees (result_of tree)) tree.body;
      close_line = tree.close_line;
    }

    abbrev pub typed_section : TypedSection
    typed_section = record {
      structs = structs;
      globals = map (typed_global tags) (globals_in section.decls);
      functions = map typed_function (function_decls section.decls);
    }

    -- The rules of types: the lines, counted in the section, at which they are broken.

    -- of the local at this place
    abbrev pub local_holds : FunctionTree → (place : ℕ) → LocalTree → Bool
    local_holds tree place local =
        is_sized local.ty && init_fits (scope_in tree) (type_of tags local.ty)
        (typed_init tree place (type_of tags local.ty) local.init)

    abbrev pub typed_locals_from : FunctionTree → (place : ℕ) → List LocalTree → List ℕ
    typed_locals_from tree place [] = []
    typed_locals_from tree place (local ∷ locals) = unless (local_holds tree place local) local.line ++
        typed_locals_from tree (suc place) locals

    abbrev pub function_type_lines : FunctionTree → List ℕ
    function_type_lines tree =
        typed_locals_from tree 0 tree.locals ++ concat (map
        (stmt_type_lines (visible_of tree) callees (scope_in tree) (result_of tree)) tree.body)

    abbrev pub decl_type_lines : Decl → List ℕ
    decl_type_lines (Struct tree) = struct_lines tree
    decl_type_lines (Global tree) = global_type_lines tree
    decl_type_lines (Function tree) = function_type_lines tree
    decl_type_lines _ = []

    abbrev pub section_type_lines : List ℕ
    section_type_lines = concat (map decl_type_lines section.decls)

-- the sections from number k on, with their types
abbrev pub sections_from : List SectionTree → ℕ → List SectionTree → List TypedSection
sections_from sections k [] = []
sections_from sections k (section ∷ rest) =
    typed_section section (callees_of sections k section) ∷ sections_from sections (suc k) rest

-- the program of the sections of a text
abbrev pub program_of : List SectionTree → ProgramTree
program_of sections = record { interfaces = interfaces_of sections; sections = sections_from sections 0 sections }

-- the lines of the whole text at which rules of types are broken in it: a call is typed by its own section, so the
-- others don't matter
abbrev pub types_broken : List SectionTree → List ℕ
types_broken sections =
    concat (map {A = SectionTree} (λ section. map (line_of_text section.line)
    (section_type_lines section (callees_of sections 0 section))) sections)
