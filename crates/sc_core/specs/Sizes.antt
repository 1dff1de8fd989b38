-- Sizes that are known before a program is compiled: its functions' nodes, and the bounds of frames and code.
use Rattle.std.specs.Prelude.{ℕ, suc, ◌+◌, ◌*◌, List, [], ◌∷◌, length, map, Option, None, Some}
use Rattle.sc_core.specs.declared.expr.TypedExpr.{TypedExpr, fold-TypedExpr}
use Rattle.sc_core.specs.declared.expr.TypedKind.{TypedKind-F}
use Rattle.sc_core.specs.declared.expr.TypedKind.TheOpen as term
use Rattle.sc_core.specs.declared.expr.TypedCall.{TypedCall}
use Rattle.sc_core.specs.declared.stmt.TypedStmt.{TypedStmt, fold-TypedStmt}
use Rattle.sc_core.specs.declared.stmt.TypedStmtKind.{TypedStmtKind-F}
use Rattle.sc_core.specs.declared.stmt.TypedStmtKind.TheOpen as layer
use Rattle.sc_core.specs.declared.stmt.TypedSimple.{TypedSimple}
use Rattle.sc_core.specs.declared.stmt.TypedSimpleKind.{TypedSimpleKind}
use Rattle.sc_core.specs.declared.stmt.TypedSimpleKind.TheVariants as simple
use Rattle.sc_core.specs.declared.section.TypedLocal.{TypedLocal}
use Rattle.sc_core.specs.declared.section.TypedFunction.{TypedFunction}

abbrev pub total : List ℕ → ℕ
total [] = 0
total (n ∷ ns) = n + total ns

-- one for each expression in an expression, itself included
abbrev pub term_nodes : TypedKind-F ℕ ℕ → ℕ
term_nodes (term.Literal word) = 1
term_nodes (term.Variable v) = 1
term_nodes (term.Unary o of) = suc of
term_nodes (term.Binary o left right) = suc (left + right)
term_nodes (term.Index base index) = suc (base + index)
term_nodes (term.Member base offset) = suc base
term_nodes (term.Arrow base offset) = suc base
term_nodes (term.Deref of) = suc of
term_nodes (term.Address of) = suc of
term_nodes (term.SizeOf cells) = 1

abbrev pub expr_nodes : TypedExpr → ℕ
expr_nodes = fold-TypedExpr ℕ ℕ term_nodes (λ e. e.kind)

-- a call counts by its arguments
abbrev pub call_nodes : TypedCall → ℕ
call_nodes call = total (map expr_nodes call.args)

abbrev pub count_nodes : Option TypedExpr → ℕ
count_nodes None = 0
count_nodes (Some count) = expr_nodes count

abbrev pub simple_nodes : TypedSimpleKind → ℕ
simple_nodes (simple.Assign place value) = suc (expr_nodes place + expr_nodes value)
simple_nodes (simple.AssignCall place call) = suc (expr_nodes place + call_nodes call)
simple_nodes (simple.Call call) = suc (call_nodes call)
simple_nodes (simple.Malloc place count cells) = suc (expr_nodes place + count_nodes count)
simple_nodes (simple.Free pointer) = suc (expr_nodes pointer)

abbrev pub part_nodes : Option TypedSimple → ℕ
part_nodes None = 0
part_nodes (Some s) = simple_nodes s.kind

-- one for each statement in a statement, itself included, and their expressions
abbrev pub kind_nodes : TypedStmtKind-F ℕ ℕ → ℕ
kind_nodes layer.Empty = 1
kind_nodes (layer.Assign place value) = suc (expr_nodes place + expr_nodes value)
kind_nodes (layer.AssignCall place call) = suc (expr_nodes place + call_nodes call)
kind_nodes (layer.Call call) = suc (call_nodes call)
kind_nodes (layer.Malloc place count cells) = suc (expr_nodes place + count_nodes count)
kind_nodes (layer.Free pointer) = suc (expr_nodes pointer)
kind_nodes (layer.If cond first second) = suc (expr_nodes cond + total first + total second)
kind_nodes (layer.While cond body) = suc (expr_nodes cond + total body)
kind_nodes (layer.For first cond next body) = suc (part_nodes first + expr_nodes cond + part_nodes next + total body)
kind_nodes layer.Break = 1
kind_nodes layer.Continue = 1
kind_nodes layer.Return = 1
kind_nodes (layer.ReturnValue value) = suc (expr_nodes value)
kind_nodes (layer.ReturnCall call) = suc (call_nodes call)

abbrev pub stmt_nodes : TypedStmt → ℕ
stmt_nodes = fold-TypedStmt ℕ ℕ kind_nodes (λ s. s.kind)

abbrev pub init_nodes : Option TypedExpr → ℕ
init_nodes None = 0
init_nodes (Some init) = expr_nodes init

abbrev pub local_nodes : TypedLocal → ℕ
local_nodes local = suc (init_nodes local.init)

-- one for a function, one for each parameter, and its locals and statements with what is in them
abbrev pub nodes : TypedFunction → ℕ
nodes f = suc (length f.params) + total (map local_nodes f.locals) + total (map stmt_nodes f.body)

-- bytes of a function's frame: two frames fit into a stack
abbrev pub most_frame : ℕ
most_frame = 32768

-- bytes of a compartment's code: a jump reaches over all of it
abbrev pub most_code : ℕ
most_code = 1048576

-- a function has fewer instructions than this for each node
abbrev pub instrs_a_node : ℕ
instrs_a_node = 24

-- bytes of code for each node
abbrev pub bytes_a_node : ℕ
bytes_a_node = 96

-- the bytes that the frame of a function takes at most, by the cells of its variables and its nodes
abbrev pub frame_bound : List ℕ → ℕ → ℕ
frame_bound cells nodes = 64 + 4 * (total cells + nodes)

-- the bytes that the code of functions takes at most, by the nodes of each
abbrev pub code_bound : List ℕ → ℕ
code_bound nodes = bytes_a_node * total nodes
