-- The tree that the text of a performing section is read as, lines aside.
use Rattle.sc_back.specs.Common.{Action, Entry, Import, Interface, Interfaces, Proto, Row, Scalar, SectionTree}
use Rattle.sc_back.specs.Common.{export_at}
use Rattle.std.specs.Prelude.{ℕ, suc, ◌-◌, ◌^◌, ◌==◌, nat_le, true, false, if◌then◌else◌, codes, List, [], ◌∷◌, ◌++◌}
use Rattle.std.specs.Prelude.{filter, map, Option, None, Some}
use Rattle.std.specs.Fmt.{decimal}
use Rattle.std.specs.List.{filter_map}
use Rattle.std.specs.Option.{option_map, option_map_or}
use Rattle.sc_base.specs.declared.op.BinaryOp.TheVariants.{Equal, Sub}
use Rattle.sc_base.specs.declared.op.UnaryOp.TheVariants.{Minus}
use Rattle.sc_event.specs.declared.interface.Scalar.TheVariants as scalar
use Rattle.sc_event.specs.declared.row.Action.TheVariants as action
use Rattle.sc_event.specs.declared.row.Entry.TheVariants as entries
use Rattle.sc_ast.specs.declared.expr.ExprTree.{ExprTree}
use Rattle.sc_ast.specs.declared.expr.ExprTree.TheVariants.{Binary, Literal, Unary, Variable}
use Rattle.sc_ast.specs.declared.stmt.StmtKind.{StmtKind}
use Rattle.sc_ast.specs.declared.stmt.StmtKind.TheVariants.{Assign, Call, Empty, If, Return, ReturnValue, While}
use Rattle.sc_ast.specs.declared.stmt.StmtTree.{StmtTree}
use Rattle.sc_ast.specs.declared.types.BaseTree.{BaseTree}
use Rattle.sc_ast.specs.declared.types.BaseTree.TheVariants as base
use Rattle.sc_ast.specs.declared.types.TypeName.{TypeName}
use Rattle.sc_ast.specs.declared.section.Decl.TheVariants as decl
use Rattle.sc_ast.specs.declared.section.ExportLine.{ExportLine}
use Rattle.sc_ast.specs.declared.section.FunctionHead.{FunctionHead}
use Rattle.sc_ast.specs.declared.section.FunctionParam.{FunctionParam}
use Rattle.sc_ast.specs.declared.section.FunctionTree.{FunctionTree}
use Rattle.sc_ast.specs.declared.section.GlobalTree.{GlobalTree}
use Rattle.sc_ast.specs.declared.section.HeadTree.{HeadTree}
use Rattle.sc_ast.specs.declared.section.ImportLine.{ImportLine}
use Rattle.sc_ast.specs.declared.section.InitTree.TheVariants.{Absent}
use Rattle.sc_ast.specs.declared.section.ParamTree.{ParamTree}
use Rattle.sc_back.specs.Text.{imported, input_proto, is_of, main_proto, output_proto, owner_name}

-- Heads of functions.

abbrev pub base_tree : Scalar → BaseTree
base_tree scalar.Int = base.Int
base_tree scalar.Unsigned = base.Unsigned

abbrev pub type_name : Scalar → TypeName
type_name ty = record { base = base_tree ty; stars = 0 }

abbrev pub param_name : (number : ℕ) → List ℕ
param_name number = codes "bt_" ++ decimal number

abbrev pub function_params : (number : ℕ) → List Scalar → List FunctionParam
function_params number [] = []
function_params number (ty ∷ types) =
    record { ty = type_name ty; name = param_name number } ∷ function_params (suc number) types

abbrev pub proto_params : (number : ℕ) → List Scalar → List ParamTree
proto_params number [] = []
proto_params number (ty ∷ types) =
    record { ty = type_name ty; name = Some (param_name number) } ∷ proto_params (suc number) types

abbrev pub function_head : Proto → FunctionHead
function_head f = record {
  result = option_map type_name f.result;
  name = f.name;
  params = function_params 0 f.params;
  line = 1;
}

abbrev pub proto_head : Proto → HeadTree
proto_head f = record {
  result = option_map type_name f.result;
  name = f.name;
  params = proto_params 0 f.params;
  line = 1;
}

-- Actions.

abbrev pub literal : (word : ℕ) → ExprTree
literal word = Literal (record { value = word; unsigned = false })

abbrev pub value_tree : Scalar → ℕ → ExprTree
value_tree scalar.Unsigned word = Literal (record { value = word; unsigned = true })
value_tree scalar.Int word =
    if word == 2147483648 then Binary Sub (Unary Minus (literal 2147483647)) (literal 1) else
    if nat_le word 2147483647 then literal word else Unary Minus (literal (2 ^ 32 - word))

abbrev pub value_trees : List Scalar → List ℕ → List ExprTree
value_trees (ty ∷ types) (word ∷ words) = value_tree ty word ∷ value_trees types words
value_trees _ _ = []

abbrev pub call_kind : List ℕ → Proto → StmtKind
call_kind args f = Call (record { name = f.name; args = value_trees f.params args })

abbrev pub return_kind : Option Scalar → Option ℕ → StmtKind
return_kind (Some ty) (Some word) = ReturnValue (value_tree ty word)
return_kind _ _ = Return

abbrev pub action_kind : Interfaces → Option Scalar → Action → StmtKind
action_kind interfaces result (action.Call to index args) =
    option_map_or (call_kind args) (export_at interfaces to index) Empty
action_kind interfaces result (action.Ret value) = return_kind result value
action_kind interfaces result (action.Out word) = call_kind (word ∷ []) output_proto
action_kind interfaces result (action.In word) = call_kind [] input_proto
action_kind interfaces result (action.End word) = return_kind (Some scalar.Int) (Some word)

abbrev pub counter_name : List ℕ
counter_name = codes "bt_n"

abbrev pub unlined : StmtKind → StmtTree
unlined kind = record { line = 1; kind = kind }

abbrev pub row_kind : Interfaces → Option Scalar → Row → StmtKind
row_kind interfaces result row =
    If (Binary Equal (Variable counter_name) (value_tree scalar.Unsigned row.number))
    (unlined (Assign (Variable counter_name) (value_tree scalar.Unsigned (suc row.number))) ∷
    unlined (action_kind interfaces result row.action) ∷ []) []

-- Functions.

abbrev pub body_tree : Interfaces → Option Scalar → List Row → List StmtTree
body_tree interfaces result rows =
    map (λ row. unlined (row_kind interfaces result row)) rows ++ unlined (While (literal 1) []) ∷ []

abbrev pub function_tree : Interfaces → List Row → Entry → Proto → FunctionTree
function_tree interfaces rows entry f = record {
  head = function_head f;
  locals = [];
  body = body_tree interfaces f.result (filter (is_of entry) rows);
  close_line = 1;
}

abbrev pub function_trees : Interfaces → List Row → (index : ℕ) → List Proto → List FunctionTree
function_trees interfaces rows index [] = []
function_trees interfaces rows index (f ∷ exports) =
    function_tree interfaces rows (entries.Export index) f ∷ function_trees interfaces rows (suc index) exports

abbrev pub main_trees : Interfaces → (comp : ℕ) → List Row → List FunctionTree
main_trees interfaces comp rows =
    if comp == interfaces.main then function_tree interfaces rows entries.Main main_proto ∷ [] else []

-- Sections.

abbrev pub export_line : Proto → ExportLine
export_line f = record { name = f.name; line = 1 }

abbrev pub import_line : Interfaces → Import → Option ImportLine
import_line interfaces import =
    option_map (λ f. record { comp = owner_name interfaces import; name = f.name; line = 1 })
    (imported interfaces import)

abbrev pub import_head : Interfaces → Import → Option HeadTree
import_head interfaces import = option_map proto_head (imported interfaces import)

abbrev pub counter : GlobalTree
counter = record {
  ty = record { base = base.Unsigned; stars = 0; length = None };
  name = counter_name;
  init = Absent;
  line = 1;
}

abbrev pub all_functions : Interfaces → (comp : ℕ) → List Row → Interface → List FunctionTree
all_functions interfaces comp rows interface =
    function_trees interfaces rows 0 interface.exports ++ main_trees interfaces comp rows

abbrev pub back_tree : Interfaces → (comp : ℕ) → List Row → Interface → SectionTree
back_tree interfaces comp rows interface = record {
  name = interface.name;
  line = 1;
  exports = map export_line interface.exports;
  imports = filter_map (import_line interfaces) interface.imports;
  decls =
      map decl.Proto (filter_map (import_head interfaces) interface.imports) ++ decl.Global counter ∷
      map decl.Function (all_functions interfaces comp rows interface);
}
