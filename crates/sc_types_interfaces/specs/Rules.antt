-- The rules of interfaces, and the lines of the sections that break them.
use Rattle.sc_types_interfaces.specs.Common.{Decl, ExportLine, Function, HeadTree, ImportLine, Proto, SectionTree, Text}
use Rattle.sc_types_interfaces.specs.Common.{all_hold, among, defines_main, environment, export_names, function_names}
use Rattle.sc_types_interfaces.specs.Common.{head_of, heads_in, import_names, is_environment, is_new, line_of_text}
use Rattle.sc_types_interfaces.specs.Common.{main_name, offering, proto_names, unless}
use Rattle.std.specs.Prelude.{ℕ, suc, Bool, true, false, not, ◌&&◌, ◌||◌, nat_eq, bytes_eq, codes, take, List, [], ◌∷◌}
use Rattle.std.specs.Prelude.{◌++◌, map, Option, Some, None, is_some, if◌then◌else◌}
use Rattle.std.specs.List.{list_all, list_any}
use Rattle.sc_ast.specs.declared.types.BaseTree.{BaseTree}
use Rattle.sc_ast.specs.declared.types.BaseTree.TheVariants as base
use Rattle.sc_ast.specs.declared.types.TypeName.{TypeName}
use Rattle.sc_ast.specs.declared.section.ParamTree.{ParamTree}

-- Types of functions that agree.

abbrev pub same_named_base : BaseTree → BaseTree → Bool
same_named_base base.Int base.Int = true
same_named_base base.Unsigned base.Unsigned = true
same_named_base (base.Struct tag) (base.Struct other) = bytes_eq tag other
same_named_base _ _ = false

abbrev pub same_type : TypeName → TypeName → Bool
same_type a b = nat_eq a.stars b.stars && same_named_base a.base b.base

abbrev pub same_result : Option TypeName → Option TypeName → Bool
same_result None None = true
same_result (Some a) (Some b) = same_type a b
same_result _ _ = false

abbrev pub same_params : List ParamTree → List ParamTree → Bool
same_params [] [] = true
same_params (a ∷ params) (b ∷ others) = same_type a.ty b.ty && same_params params others
same_params _ _ = false

-- two heads agree in the types of their results and of their parameters (C11 6.7.6.3p15)
abbrev pub agree : HeadTree → HeadTree → Bool
agree a b = same_result a.result b.result && same_params a.params b.params

-- a head agrees with all of its name among these
abbrev pub agrees_with : List HeadTree → HeadTree → Bool
agrees_with heads head = list_all {X = HeadTree} (λ other. not (bytes_eq other.name head.name) ||
    agree other head) heads

-- What crosses.

-- `int` or `unsigned int`
abbrev pub crosses : TypeName → Bool
crosses ty = nat_eq ty.stars 0 && (same_named_base ty.base base.Int || same_named_base ty.base base.Unsigned)

abbrev pub result_crosses : Option TypeName → Bool
result_crosses None = true
result_crosses (Some ty) = crosses ty

abbrev pub head_crosses : HeadTree → Bool
head_crosses head = result_crosses head.result && list_all {X = ParamTree} (λ param. crosses param.ty) head.params

-- no function that crosses is called `bt_..`
abbrev pub is_plain : Text → Bool
is_plain name = not (bytes_eq (take 3 name) (codes "bt_"))

abbrev pub int_type : TypeName
int_type = record { base = base.Int; stars = 0 }

abbrev pub is_int_type : TypeName → Bool
is_int_type ty = same_type ty int_type

abbrev pub gives_int : Option TypeName → Bool
gives_int None = false
gives_int (Some ty) = is_int_type ty

-- `(void)`
abbrev pub takes_nothing : List ParamTree → Bool
takes_nothing [] = true
takes_nothing (param ∷ params) = false

-- `(int)`
abbrev pub takes_int : List ParamTree → Bool
takes_int (param ∷ []) = is_int_type param.ty
takes_int _ = false

-- `int input(void)`, `void output(int)` and `int main(void)`
abbrev pub is_input_head : HeadTree → Bool
is_input_head head = gives_int head.result && takes_nothing head.params

abbrev pub is_output_head : HeadTree → Bool
is_output_head head = not (is_some head.result) && takes_int head.params

abbrev pub is_main_head : HeadTree → Bool
is_main_head head = gives_int head.result && takes_nothing head.params

abbrev pub input_name : Text
input_name = codes "input"

abbrev pub output_name : Text
output_name = codes "output"

-- `main` is defined by one section, where `mains` says whether one before defines it, and is `int main(void)`
abbrev pub main_holds : (mains : Bool) → HeadTree → Bool
main_holds mains head = not (bytes_eq head.name main_name) || not mains && is_main_head head

-- The rules of a section's lines, by the names of the functions that it defines and declares, and of the lines before.

-- an export is a function that the section defines, exported once, and not `main`
abbrev pub export_fits : (functions before : List Text) → ExportLine → Bool
export_fits functions before line =
    all_hold (
    among functions line.name ∷
    is_new before line.name ∷
    not (bytes_eq line.name main_name) ∷
    is_plain line.name ∷ []
    )

-- an import is offered; its name is imported once and not defined here; and it has a prototype
abbrev pub import_fits : (offered : Bool) → (functions protos before : List Text) → ImportLine → Bool
import_fits offered functions protos before line =
    all_hold (
    offered ∷
    is_new before line.name ∷
    is_new functions line.name ∷
    among protos line.name ∷
    is_plain line.name ∷ []
    )

abbrev pub environment_offers : Text → Bool
environment_offers name = bytes_eq name input_name || bytes_eq name output_name

-- names of sections are distinct, and none is the environment's
abbrev pub name_fits : (before : List Text) → Text → Bool
name_fits before name = is_new before name && not (bytes_eq name environment)

module _ (sections : List SectionTree) (number : ℕ) (section : SectionTree) where
  abbrev pub export_holds : (before : List Text) → ExportLine → Bool
  export_holds before line = export_fits (function_names section.decls) before line

  abbrev pub exports_from : (before : List Text) → List ExportLine → List ℕ
  exports_from before [] = []
  exports_from before (line ∷ lines) = unless (export_holds before line) line.line ++
      exports_from (before ++ line.name ∷ []) lines

  -- another section, or the environment, offers what is imported
  abbrev pub is_offered : ImportLine → Bool
  is_offered line =
      if is_environment line then environment_offers line.name else is_some (offering number line 0 sections)

  abbrev pub import_holds : (before : List Text) → ImportLine → Bool
  import_holds before line =
      import_fits (is_offered line) (function_names section.decls) (proto_names section.decls) before line

  abbrev pub imports_from : (before : List Text) → List ImportLine → List ℕ
  imports_from before [] = []
  imports_from before (line ∷ lines) = unless (import_holds before line) line.line ++
      imports_from (before ++ line.name ∷ []) lines

  -- a prototype agrees with what the offering section declares
  abbrev pub agrees_there : HeadTree → Option (ℕ × SectionTree) → Bool
  agrees_there head None = true
  agrees_there head (Some (place, other)) = agrees_with (heads_in other.decls) head

  -- a prototype agrees with what it is imported as
  abbrev pub agrees_as : HeadTree → ImportLine → Bool
  agrees_as head line =
      if is_environment line then (if bytes_eq head.name input_name then is_input_head head else
      if bytes_eq head.name output_name then is_output_head head else true)
      else agrees_there head (offering number line 0 sections)

  abbrev pub imported_agrees : HeadTree → Bool
  imported_agrees head = list_all {X = ImportLine} (λ line. not (bytes_eq line.name head.name) ||
      agrees_as head line) section.imports

  -- the types of a function that is exported or imported are those that cross
  abbrev pub head_fits : HeadTree → Bool
  head_fits head =
      head_crosses head || not (among (export_names section) head.name || among (import_names section) head.name)

  -- a prototype, or the head of a function, agrees with those before it
  abbrev pub head_holds : (before : List Decl) → HeadTree → Bool
  head_holds before head = agrees_with (heads_in before) head && head_fits head

  module _ (mains : Bool) where
    abbrev pub decl_interface_lines : (before : List Decl) → Decl → List ℕ
    decl_interface_lines before (Proto head) = unless (head_holds before head && imported_agrees head) head.line
    decl_interface_lines before (Function tree) =
        unless (head_holds before (head_of tree.head) && main_holds mains (head_of tree.head)) tree.head.line
    decl_interface_lines before _ = []

    abbrev pub decls_from : (before : List Decl) → List Decl → List ℕ
    decls_from before [] = []
    decls_from before (decl ∷ decls) = decl_interface_lines before decl ++ decls_from (before ++ decl ∷ []) decls

    abbrev pub name_holds : (before : List SectionTree) → Bool
    name_holds before = name_fits (map {A = SectionTree} (λ other. other.name) before) section.name

    -- the lines, counted in the section, at which rules of interfaces are broken, where these sections stand before it;
    -- the compartment line is the section's line 1
    abbrev pub section_interface_lines : (before : List SectionTree) → List ℕ
    section_interface_lines before =
        unless (name_holds before) 1 ++ (exports_from [] section.exports ++
        (imports_from [] section.imports ++ decls_from [] section.decls))

-- the sections from number k on, where these stand before them
abbrev pub interface_lines_from : List SectionTree → ℕ → (before : List SectionTree) → List SectionTree → List ℕ
interface_lines_from sections k before [] = []
interface_lines_from sections k before (section ∷ rest) =
    map (line_of_text section.line)
    (section_interface_lines sections k section (list_any defines_main before) before) ++
    interface_lines_from sections (suc k) (before ++ section ∷ []) rest

-- the lines of the text at which rules of interfaces are broken; a missing `main` is broken at line 0
abbrev pub interface_broken : List SectionTree → List ℕ
interface_broken sections = interface_lines_from sections 0 [] sections ++ unless (list_any defines_main sections) 0
