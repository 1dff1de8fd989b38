-- Helping: how many nodes a tree has: one for each expression, statement, local, parameter and function in it, itself
-- included.
use Rattle.sc_types.specs.Common.{FunctionTree, LocalTree, function_decls, total}
use Rattle.std.specs.Prelude.{ℕ, suc, ◌+◌, List, length, map, Option, Some, None}
use Rattle.sc_ast.specs.declared.expr.ExprTree.{ExprTree, ExprTree-F, fold-ExprTree}
use Rattle.sc_ast.specs.declared.expr.ExprTree.TheOpen as term
use Rattle.sc_ast.specs.declared.expr.CallTree.{CallTree}
use Rattle.sc_ast.specs.declared.stmt.SimpleKind.{SimpleKind}
use Rattle.sc_ast.specs.declared.stmt.SimpleKind.TheVariants as simple
use Rattle.sc_ast.specs.declared.stmt.SimpleTree.{SimpleTree}
use Rattle.sc_ast.specs.declared.stmt.StmtTree.{StmtTree, StmtTree-F, fold-StmtTree}
use Rattle.sc_ast.specs.declared.stmt.StmtKind.{StmtKind, StmtKind-F, fold-StmtKind}
use Rattle.sc_ast.specs.declared.stmt.StmtKind.TheOpen as layer
use Rattle.sc_ast.specs.declared.section.Decl.{Decl}

abbrev pub expr_step : ExprTree-F ℕ → ℕ
expr_step (term.Literal number) = 1
expr_step (term.Variable name) = 1
expr_step (term.Unary o of) = suc of
expr_step (term.Binary o left right) = suc (left + right)
expr_step (term.Index base index) = suc (base + index)
expr_step (term.Member base name) = suc base
expr_step (term.Arrow base name) = suc base
expr_step (term.Deref of) = suc of
expr_step (term.Address of) = suc of
expr_step (term.SizeOf of) = 1

abbrev pub expr_nodes : ExprTree → ℕ
expr_nodes = fold-ExprTree ℕ expr_step

-- 0 where it is absent
abbrev pub option_nodes : Option ExprTree → ℕ
option_nodes None = 0
option_nodes (Some e) = expr_nodes e

-- a call counts by its arguments
abbrev pub call_nodes : CallTree → ℕ
call_nodes call = total (map expr_nodes call.args)

abbrev pub simple_nodes : SimpleKind → ℕ
simple_nodes (simple.Assign place value) = suc (expr_nodes place + expr_nodes value)
simple_nodes (simple.AssignCall place call) = suc (expr_nodes place + call_nodes call)
simple_nodes (simple.Call call) = suc (call_nodes call)
simple_nodes (simple.Malloc place count of) = suc (expr_nodes place + option_nodes count)
simple_nodes (simple.Free pointer) = suc (expr_nodes pointer)

abbrev pub part_nodes : Option SimpleTree → ℕ
part_nodes None = 0
part_nodes (Some s) = simple_nodes s.kind

abbrev pub kind_step : StmtKind-F ℕ ℕ → ℕ
kind_step layer.Empty = 1
kind_step (layer.Assign place value) = suc (expr_nodes place + expr_nodes value)
kind_step (layer.AssignCall place call) = suc (expr_nodes place + call_nodes call)
kind_step (layer.Call call) = suc (call_nodes call)
kind_step (layer.Malloc place count of) = suc (expr_nodes place + option_nodes count)
kind_step (layer.Free pointer) = suc (expr_nodes pointer)
kind_step (layer.If cond first second) = suc (expr_nodes cond + total first + total second)
kind_step (layer.While cond body) = suc (expr_nodes cond + total body)
kind_step (layer.For first cond next body) = suc (part_nodes first + expr_nodes cond + part_nodes next + total body)
kind_step layer.Break = 1
kind_step layer.Continue = 1
kind_step layer.Return = 1
kind_step (layer.ReturnValue value) = suc (expr_nodes value)
kind_step (layer.ReturnCall call) = suc (call_nodes call)

abbrev pub stmt_step : StmtTree-F ℕ ℕ → ℕ
stmt_step s = s.kind

abbrev pub stmt_nodes : StmtTree → ℕ
stmt_nodes = fold-StmtTree ℕ ℕ kind_step stmt_step

abbrev pub kind_nodes : StmtKind → ℕ
kind_nodes = fold-StmtKind ℕ ℕ kind_step stmt_step

abbrev pub stmts_nodes : List StmtTree → ℕ
stmts_nodes stmts = total (map stmt_nodes stmts)

abbrev pub local_nodes : LocalTree → ℕ
local_nodes local = suc (option_nodes local.init)

abbrev pub function_nodes : FunctionTree → ℕ
function_nodes tree =
    suc (length tree.head.params) + total (map local_nodes tree.locals) + total (map stmt_nodes tree.body)

-- the nodes of all functions
abbrev pub decls_nodes : List Decl → ℕ
decls_nodes decls = total (map function_nodes (function_decls decls))
