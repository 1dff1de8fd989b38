-- Helping: the trees that the text of a made program is read as, lines aside.
use Rattle.std.specs.Prelude.{ℕ, ◌%◌, false, codes, List, [], ◌∷◌, ◌++◌, flat_map, map, None, Some}
use Rattle.sc_base.specs.declared.op.BinaryOp.TheVariants.{Add, BitAnd, Less}
use Rattle.sc_ast.specs.declared.expr.CallTree.{CallTree}
use Rattle.sc_ast.specs.declared.expr.ExprTree.{ExprTree}
use Rattle.sc_ast.specs.declared.expr.ExprTree.TheVariants.{Binary, Index, Literal, Variable}
use Rattle.sc_ast.specs.declared.stmt.SimpleKind.TheVariants as simple
use Rattle.sc_ast.specs.declared.stmt.SimpleTree.{SimpleTree}
use Rattle.sc_ast.specs.declared.stmt.StmtKind.{StmtKind}
use Rattle.sc_ast.specs.declared.stmt.StmtKind.TheVariants.{Assign, AssignCall, Call, For, ReturnValue}
use Rattle.sc_ast.specs.declared.stmt.StmtTree.{StmtTree}
use Rattle.sc_ast.specs.declared.types.BaseTree.TheVariants as base
use Rattle.sc_ast.specs.declared.types.TypeName.{TypeName}
use Rattle.sc_ast.specs.declared.types.TypeTree.{TypeTree}
use Rattle.sc_ast.specs.declared.section.Decl.TheVariants as decl
use Rattle.sc_ast.specs.declared.section.ExportLine.{ExportLine}
use Rattle.sc_ast.specs.declared.section.FunctionTree.{FunctionTree}
use Rattle.sc_ast.specs.declared.section.GlobalTree.{GlobalTree}
use Rattle.sc_ast.specs.declared.section.HeadTree.{HeadTree}
use Rattle.sc_ast.specs.declared.section.ImportLine.{ImportLine}
use Rattle.sc_ast.specs.declared.section.InitTree.TheVariants.{Absent}
use Rattle.sc_ast.specs.declared.section.LocalTree.{LocalTree}
use Rattle.sc_ast.specs.declared.section.SectionTree.{SectionTree}
use Rattle.sc_report.specs.Made.{addend, all_functions, argument, function_name, worker_functions, numbers_from}
use Rattle.sc_report.specs.Made.{worker_name, workers}

abbrev pub int_name : TypeName
int_name = record { base = base.Int; stars = 0 }

abbrev pub int_type : TypeTree
int_type = record { base = base.Int; stars = 0; length = None }

abbrev pub literal : (value : ℕ) → ExprTree
literal value = Literal (record { value = value; unsigned = false })

-- Lines of statements, heads and so on are parameters: only the text determines them.

abbrev pub stmt_at : (line : ℕ) → StmtKind → StmtTree
stmt_at line kind = record { line = line; kind = kind }

abbrev pub local_at : (name : List ℕ) → (line : ℕ) → LocalTree
local_at name line = record { ty = int_type; name = name; init = None; line = line }

-- `Main`

abbrev pub import_at : (size j line : ℕ) → ImportLine
import_at size j line = record { comp = worker_name (j % workers size); name = function_name j; line = line }

abbrev pub output_import : (line : ℕ) → ImportLine
output_import line = record { comp = codes "Env"; name = codes "output"; line = line }

-- `int f0(int x)`
abbrev pub proto_at : (j line : ℕ) → HeadTree
proto_at j line = record {
  result = Some int_name;
  name = function_name j;
  params = record { ty = int_name; name = Some (codes "x") } ∷ [];
  line = line;
}

abbrev pub output_proto : (line : ℕ) → HeadTree
output_proto line = record {
  result = None;
  name = codes "output";
  params = record { ty = int_name; name = Some (codes "v") } ∷ [];
  line = line;
}

abbrev pub call_of : (seed j : ℕ) → CallTree
call_of seed j = record { name = function_name j; args = literal (argument seed j) ∷ [] }

-- `r = f0(7);`
abbrev pub call_kind : (seed j : ℕ) → StmtKind
call_kind seed j = AssignCall (Variable (codes "r")) (call_of seed j)

-- `output(r);`
abbrev pub output_kind : StmtKind
output_kind = Call (record { name = codes "output"; args = Variable (codes "r") ∷ [] })

abbrev pub return_kind : ExprTree → StmtKind
return_kind value = ReturnValue value

abbrev pub main_at : (head local close : ℕ) → (body : List StmtTree) → FunctionTree
main_at head local close body = record {
  head = record { result = Some int_name; name = codes "main"; params = []; line = head };
  locals = local_at (codes "r") local ∷ [];
  body = body;
  close_line = close;
}

-- Workers

abbrev pub table_at : (line : ℕ) → GlobalTree
table_at line = record {
  ty = record { base = base.Int; stars = 0; length = Some 16 };
  name = codes "t";
  init = Absent;
  line = line;
}

abbrev pub variable : List ℕ → ExprTree
variable name = Variable name

-- `t[i & 15]`
abbrev pub element : ExprTree
element = Index (Variable (codes "t")) (Binary BitAnd (Variable (codes "i")) (literal 15))

abbrev pub assign_simple : ExprTree → ExprTree → (line : ℕ) → SimpleTree
assign_simple place value line = record { line = line; kind = simple.Assign place value }

-- `i = 0`, and `i++`, which is `i = i + 1`
abbrev pub start_at : (line : ℕ) → SimpleTree
start_at line = assign_simple (Variable (codes "i")) (literal 0) line

abbrev pub next_at : (line : ℕ) → SimpleTree
next_at line = assign_simple (Variable (codes "i")) (Binary Add (Variable (codes "i")) (literal 1)) line

-- `i < 64`
abbrev pub below : ExprTree
below = Binary Less (Variable (codes "i")) (literal 64)

-- `t[i & 15] = x + i;`
abbrev pub store_kind : StmtKind
store_kind = Assign element (Binary Add (Variable (codes "x")) (Variable (codes "i")))

-- `s = s + t[i & 15];`
abbrev pub add_kind : StmtKind
add_kind = Assign (Variable (codes "s")) (Binary Add (Variable (codes "s")) element)

-- `s = 7;`
abbrev pub set_kind : (seed j : ℕ) → StmtKind
set_kind seed j = Assign (Variable (codes "s")) (literal (addend seed j))

-- where the parts of a function stand
pub record FunctionLines : Type 0 where
  pub head : ℕ
  pub counter : ℕ
  pub sum : ℕ
  pub set : ℕ
  pub loop : ℕ
  pub start : ℕ
  pub next : ℕ
  pub store : ℕ
  pub add : ℕ
  pub result : ℕ
  pub close : ℕ

abbrev pub loop_kind : FunctionLines → StmtKind
loop_kind lines = For (Some (start_at lines.start)) below (Some (next_at lines.next))
    (stmt_at lines.store store_kind ∷ stmt_at lines.add add_kind ∷ [])

abbrev pub function_at : (seed j : ℕ) → FunctionLines → FunctionTree
function_at seed j lines = record {
  head = record {
    result = Some int_name;
    name = function_name j;
    params = record { ty = int_name; name = codes "x" } ∷ [];
    line = lines.head;
  };
  locals = local_at (codes "i") lines.counter ∷ local_at (codes "s") lines.sum ∷ [];
  body = stmt_at lines.set (set_kind seed j) ∷ stmt_at lines.loop (loop_kind lines) ∷
      stmt_at lines.result (return_kind (Variable (codes "s"))) ∷ [];
  close_line = lines.close;
}

abbrev pub export_at : (j line : ℕ) → ExportLine
export_at j line = record { name = function_name j; line = line }

-- The same with no lines.

abbrev pub calls_tree : (seed j : ℕ) → List StmtTree
calls_tree seed j = stmt_at 0 (call_kind seed j) ∷ stmt_at 0 output_kind ∷ []

abbrev pub main_body : (size seed : ℕ) → List StmtTree
main_body size seed =
    flat_map (calls_tree seed) (all_functions size) ++ stmt_at 0 (return_kind (literal 0)) ∷ []

abbrev pub main_tree : (size seed : ℕ) → SectionTree
main_tree size seed = record {
  name = codes "Main";
  line = 0;
  exports = [];
  imports = map (λ j. import_at size j 0) (all_functions size) ++ output_import 0 ∷ [];
  decls = map (λ j. decl.Proto (proto_at j 0)) (all_functions size) ++
      decl.Proto (output_proto 0) ∷ decl.Function (main_at 0 0 0 (main_body size seed)) ∷ [];
}

abbrev pub no_lines : FunctionLines
no_lines = record {
  head = 0;
  counter = 0;
  sum = 0;
  set = 0;
  loop = 0;
  start = 0;
  next = 0;
  store = 0;
  add = 0;
  result = 0;
  close = 0;
}

abbrev pub worker_tree : (size seed i : ℕ) → SectionTree
worker_tree size seed i = record {
  name = worker_name i;
  line = 0;
  exports = map (λ j. export_at j 0) (worker_functions size i);
  imports = [];
  decls = decl.Global (table_at 0) ∷
      map (λ j. decl.Function (function_at seed j no_lines)) (worker_functions size i);
}

abbrev pub made_trees : (size seed : ℕ) → List SectionTree
made_trees size seed = main_tree size seed ∷ map (worker_tree size seed) (numbers_from 0 (workers size))
