-- The rules of names, and the lines of a section that break them (C11 6.2.1, 6.2.3).
use Rattle.sc_types_scope.specs.Common.{BaseTree, Decl, Function, FunctionTree, Global, GlobalTree, HeadTree, ParamTree}
use Rattle.sc_types_scope.specs.Common.{Proto, SectionTree, Struct, StructTree, Text, TypeName, all_hold, head_of}
use Rattle.std.specs.Prelude.{ℕ, Bool, true, false, not, ◌&&◌, ◌||◌, nat_eq, bytes_eq, List, [], ◌∷◌, ◌++◌, map, Option}
use Rattle.std.specs.Prelude.{Some, None}
use Rattle.std.specs.List.{concat, list_all}
use Rattle.sc_ast.specs.declared.types.BaseTree.TheVariants as base
use Rattle.sc_ast.specs.declared.expr.ExprTree.{ExprTree, ExprTree-F, fold-ExprTree}
use Rattle.sc_ast.specs.declared.expr.ExprTree.TheOpen as term
use Rattle.sc_ast.specs.declared.expr.CallTree.{CallTree}
use Rattle.sc_ast.specs.declared.stmt.SimpleKind.{SimpleKind}
use Rattle.sc_ast.specs.declared.stmt.SimpleKind.TheVariants as simple
use Rattle.sc_ast.specs.declared.stmt.SimpleTree.{SimpleTree}
use Rattle.sc_ast.specs.declared.stmt.StmtTree.{StmtTree, fold-StmtTree}
use Rattle.sc_ast.specs.declared.stmt.StmtKind.{StmtKind-F}
use Rattle.sc_ast.specs.declared.stmt.StmtKind.TheOpen as kind
use Rattle.sc_ast.specs.declared.section.MemberTree.{MemberTree}
use Rattle.sc_ast.specs.declared.section.FunctionParam.{FunctionParam}
use Rattle.sc_ast.specs.declared.section.LocalTree.{LocalTree}
use Rattle.sc_types_scope.specs.Broken.{unless, line_of_text}
use Rattle.sc_types_scope.specs.declared.section_names.SectionNames.{SectionNames}
use Rattle.sc_types_scope.specs.Declarations.{among, is_new, are_distinct, struct_names, global_names, proto_names}
use Rattle.sc_types_scope.specs.Declarations.{function_names, import_names}

-- A tag that is used is that of a struct that is defined before (C11 6.7.2.3).
abbrev pub base_known : (tags : List Text) → BaseTree → Bool
base_known tags (base.Struct tag) = among tags tag
base_known tags _ = true

-- Bodies.

-- each variable of an expression is one of these names, and each tag one of these
abbrev pub knows_step : (tags names : List Text) → ExprTree-F Bool → Bool
knows_step tags names (term.Literal number) = true
knows_step tags names (term.Variable name) = among names name
knows_step tags names (term.Unary o e) = e
knows_step tags names (term.Binary o a b) = a && b
knows_step tags names (term.Index a b) = a && b
knows_step tags names (term.Member e name) = e
knows_step tags names (term.Arrow e name) = e
knows_step tags names (term.Deref e) = e
knows_step tags names (term.Address e) = e
knows_step tags names (term.SizeOf of) = base_known tags of.base

abbrev pub knows : (tags names : List Text) → ExprTree → Bool
knows tags names = fold-ExprTree Bool (knows_step tags names)

-- the same, of an expression that may be absent
abbrev pub option_knows : (tags names : List Text) → Option ExprTree → Bool
option_knows tags names None = true
option_knows tags names (Some e) = knows tags names e

-- what may be named in a body: the structs, the variables, the functions that the section defines or imports, and what
-- hides these
pub record Known : Type 0 where
  pub tags : List Text
  pub variables : List Text
  pub functions : List Text
  pub hiding : List Text

module _ (known : Known) where
  abbrev pub expr_known : ExprTree → Bool
  expr_known = knows known.tags known.variables

  -- a called name is a function that no parameter or local hides
  abbrev pub is_callable : Text → Bool
  is_callable name = among known.functions name && is_new known.hiding name

  abbrev pub call_known : CallTree → Bool
  call_known call = is_callable call.name && list_all expr_known call.args

  -- what is allocated: elements of a type that is known
  abbrev pub malloc_known : ExprTree → Option ExprTree → TypeName → Bool
  malloc_known place count of =
      expr_known place && (option_knows known.tags known.variables count && base_known known.tags of.base)

  abbrev pub simple_known : SimpleKind → Bool
  simple_known (simple.Assign place value) = expr_known place && expr_known value
  simple_known (simple.AssignCall place call) = expr_known place && call_known call
  simple_known (simple.Call call) = call_known call
  simple_known (simple.Malloc place count of) = malloc_known place count of
  simple_known (simple.Free pointer) = expr_known pointer

  abbrev pub part_name_lines : Option SimpleTree → List ℕ
  part_name_lines None = []
  part_name_lines (Some s) = unless (simple_known s.kind) s.line

  -- all the lines of statements, which stand in a loop or not
  abbrev pub all_in : Bool → List (Bool → List ℕ) → List ℕ
  all_in looping [] = []
  all_in looping (lines ∷ rest) = lines looping ++ all_in looping rest

  -- the lines of a statement at a line, in a loop or not; `break` and `continue` stand in a loop (C11 6.8.6.2, 6.8.6.3)
  abbrev pub kind_name_lines : StmtKind-F (ℕ → Bool → List ℕ) (Bool → List ℕ) → ℕ → Bool → List ℕ
  kind_name_lines kind.Empty line looping = []
  kind_name_lines (kind.Assign place value) line looping = unless (expr_known place && expr_known value) line
  kind_name_lines (kind.AssignCall place call) line looping = unless (expr_known place && call_known call) line
  kind_name_lines (kind.Call call) line looping = unless (call_known call) line
  kind_name_lines (kind.Malloc place count of) line looping = unless (malloc_known place count of) line
  kind_name_lines (kind.Free pointer) line looping = unless (expr_known pointer) line
  kind_name_lines (kind.If cond first second) line looping =
      unless (expr_known cond) line ++ (all_in looping first ++ all_in looping second)
  kind_name_lines (kind.While cond body) line looping = unless (expr_known cond) line ++ all_in true body
  kind_name_lines (kind.For first cond next body) line looping =
      part_name_lines first ++ (unless (expr_known cond) line ++ (part_name_lines next ++ all_in true body))
  kind_name_lines kind.Break line looping = unless looping line
  kind_name_lines kind.Continue line looping = unless looping line
  kind_name_lines kind.Return line looping = []
  kind_name_lines (kind.ReturnValue value) line looping = unless (expr_known value) line
  kind_name_lines (kind.ReturnCall call) line looping = unless (call_known call) line

  abbrev pub stmt_name_lines : StmtTree → Bool → List ℕ
  stmt_name_lines = fold-StmtTree (ℕ → Bool → List ℕ) (Bool → List ℕ) kind_name_lines (λ s. s.kind s.line)

  abbrev pub body_lines : List StmtTree → List ℕ
  body_lines body = concat (map {A = StmtTree} (λ s. stmt_name_lines s false) body)

-- Types.

-- a struct that is being defined may hold pointers to itself
abbrev pub pointed_known : Text → ℕ → BaseTree → Bool
pointed_known self stars (base.Struct tag) = bytes_eq tag self && not (nat_eq stars 0)
pointed_known self stars _ = false

abbrev pub member_known : List Text → Text → MemberTree → Bool
member_known tags self member = base_known tags member.ty.base || pointed_known self member.ty.stars member.ty.base

abbrev pub member_names : List MemberTree → List Text
member_names members = map {A = MemberTree} (λ member. member.name) members

abbrev pub result_known : List Text → Option TypeName → Bool
result_known tags None = true
result_known tags (Some result) = base_known tags result.base

abbrev pub head_known : List Text → HeadTree → Bool
head_known tags head =
    result_known tags head.result && list_all {X = ParamTree} (λ param. base_known tags param.ty.base) head.params

-- Declarations, each with those that stand before it in its section.

-- a local's name is new in its function; its initialiser sees it (C11 6.2.1p7)
abbrev pub local_known : (tags globals own : List Text) → LocalTree → Bool
local_known tags globals own local =
    all_hold (
    is_new own local.name ∷
    base_known tags local.ty.base ∷
    option_knows tags (globals ++ (own ++ local.name ∷ [])) local.init ∷ []
    )

-- the locals of a function, where these names of it stand before
abbrev pub locals_from : (tags globals own : List Text) → List LocalTree → List ℕ
locals_from tags globals own [] = []
locals_from tags globals own (local ∷ locals) =
    unless (local_known tags globals own local) local.line ++ locals_from tags globals (own ++ local.name ∷ []) locals

abbrev pub param_names : FunctionTree → List Text
param_names tree = map {A = FunctionParam} (λ param. param.name) tree.head.params

abbrev pub local_names : FunctionTree → List Text
local_names tree = map {A = LocalTree} (λ local. local.name) tree.locals

-- what a section declares before a declaration, what it imports, and the functions that it defines anywhere or imports
abbrev pub declared : SectionTree → (before : List Decl) → SectionNames
declared section before = record {
  structs = struct_names before;
  globals = global_names before;
  functions = function_names before;
  protos = proto_names before;
  imports = import_names section;
  callables = function_names section.decls ++ import_names section;
}

-- the same, before the next declaration
abbrev pub with_decl : SectionNames → Decl → SectionNames
with_decl names (Struct tree) = record names { structs = names.structs ++ tree.name ∷ [] }
with_decl names (Global tree) = record names { globals = names.globals ++ tree.name ∷ [] }
with_decl names (Proto head) = record names { protos = names.protos ++ head.name ∷ [] }
with_decl names (Function tree) = record names { functions = names.functions ++ tree.head.name ∷ [] }

-- what may be named in the body of a function with these parameters and locals
abbrev pub known : SectionNames → (own : List Text) → Known
known names own = record {
  tags = names.structs;
  variables = names.globals ++ own;
  functions = names.callables;
  hiding = own;
}

module _ (names : SectionNames) where
  abbrev pub known_in : FunctionTree → Known
  known_in tree = known names (param_names tree ++ local_names tree)

  -- tags are distinct, and so are the members of one struct
  abbrev pub struct_known : StructTree → Bool
  struct_known tree =
      all_hold (
      is_new names.structs tree.name ∷
      are_distinct (member_names tree.members) ∷
      list_all (member_known names.structs tree.name) tree.members ∷ []
      )

  -- a global shares its name with no other global, function, prototype or import
  abbrev pub global_known : GlobalTree → Bool
  global_known tree =
      all_hold (
      is_new names.globals tree.name ∷
      is_new names.functions tree.name ∷
      is_new names.protos tree.name ∷
      is_new names.imports tree.name ∷
      base_known names.structs tree.ty.base ∷ []
      )

  abbrev pub proto_known : HeadTree → Bool
  proto_known head = is_new names.globals head.name && head_known names.structs head

  -- a name has one definition at most
  abbrev pub head_of_known : FunctionTree → Bool
  head_of_known tree =
      all_hold (
      is_new names.globals tree.head.name ∷
      is_new names.functions tree.head.name ∷
      head_known names.structs (head_of tree.head) ∷
      are_distinct (param_names tree) ∷ []
      )

  abbrev pub function_name_lines : FunctionTree → List ℕ
  function_name_lines tree =
      unless (head_of_known tree) tree.head.line ++ (locals_from names.structs names.globals
      (param_names tree) tree.locals ++ body_lines (known_in tree) tree.body)

  abbrev pub decl_name_lines : Decl → List ℕ
  decl_name_lines (Struct tree) = unless (struct_known tree) tree.line
  decl_name_lines (Global tree) = unless (global_known tree) tree.line
  decl_name_lines (Proto head) = unless (proto_known head) head.line
  decl_name_lines (Function tree) = function_name_lines tree

-- the lines of declarations, where these stand before
abbrev pub name_lines_from : SectionTree → (before : List Decl) → List Decl → List ℕ
name_lines_from section before [] = []
name_lines_from section before (decl ∷ decls) = decl_name_lines (declared section before) decl ++
    name_lines_from section (before ++ decl ∷ []) decls

-- the lines, counted in the section, at which rules of names are broken
abbrev pub section_name_lines : SectionTree → List ℕ
section_name_lines section = name_lines_from section [] section.decls

-- the lines of the text at which rules of names are broken
abbrev pub names_broken : List SectionTree → List ℕ
names_broken sections =
    concat (map {A = SectionTree} (λ section. map (line_of_text section.line) (section_name_lines section)) sections)
