-- How many nodes the functions of a made text have.
use Rattle.sc_report_made.proofs.Common.{ExprTree, FunctionLines, FunctionTree, List, StmtTree, arith, call_kind, codes}
use Rattle.sc_report_made.proofs.Common.{function_at, function_nodes, length, literal, loop_kind, main_at, map}
use Rattle.sc_report_made.proofs.Common.{output_kind, refl, return_kind, rules, set_kind, stmt_at, stmt_nodes, total}
use Rattle.sc_report_made.proofs.Common.{variable, ℕ, ◌*◌, ◌+◌, ◌≡◌}
use Rattle.sc_ast.specs.declared.expr.ExprTree as exprs
use Rattle.sc_ast.specs.declared.stmt.StmtKind as kinds
use Rattle.sc_ast.specs.declared.stmt.StmtTree as stmts
use Rattle.sc_report_made.proofs.Shapes.{AreCalls, AreFunctions, and_function, calls, ends, no_functions}

call_nodes : (seed j line : ℕ) → stmt_nodes (stmt_at line (call_kind seed j)) ≡ 3
call_nodes seed j line = search (rules, exprs.the_lemmas, kinds.the_lemmas, stmts.the_lemmas)

output_nodes : (line : ℕ) → stmt_nodes (stmt_at line output_kind) ≡ 2
output_nodes line = search (rules, exprs.the_lemmas, kinds.the_lemmas, stmts.the_lemmas)

end_nodes : (line : ℕ) → stmt_nodes (stmt_at line (return_kind (literal 0))) ≡ 2
end_nodes line = search (rules, exprs.the_lemmas, kinds.the_lemmas, stmts.the_lemmas)

body_nodes : (seed : ℕ) (js : List ℕ) (body : List StmtTree) → AreCalls seed js body →
    total (map stmt_nodes body) ≡ 5 * length js + 2
body_nodes seed js body (ends line) = omega (arith, end_nodes line)
body_nodes seed js body (calls j first second others stmts rest) =
    omega (arith, call_nodes seed j first, output_nodes second, body_nodes seed others stmts rest)

pub main_nodes : (seed : ℕ) (js : List ℕ) (head local close : ℕ) (body : List StmtTree) → AreCalls seed js body →
    function_nodes (main_at head local close body) ≡ 5 * length js + 4
main_nodes seed js head local close body are = omega (arith, body_nodes seed js body are)

set_nodes : (seed j line : ℕ) → stmt_nodes (stmt_at line (set_kind seed j)) ≡ 3
set_nodes seed j line = search (rules, exprs.the_lemmas, kinds.the_lemmas, stmts.the_lemmas)

loop_nodes : (lines : FunctionLines) (line : ℕ) → stmt_nodes (stmt_at line (loop_kind lines)) ≡ 30
loop_nodes lines line = search (rules, exprs.the_lemmas, kinds.the_lemmas, stmts.the_lemmas)

result_nodes : (line : ℕ) → stmt_nodes (stmt_at line (return_kind (variable (codes "s")))) ≡ 2
result_nodes line = search (rules, exprs.the_lemmas, kinds.the_lemmas, stmts.the_lemmas)

pub worker_nodes : (seed j : ℕ) (lines : FunctionLines) → function_nodes (function_at seed j lines) ≡ 39
worker_nodes seed j lines =
    omega (arith, set_nodes seed j lines.set, loop_nodes lines lines.loop, result_nodes lines.result)

pub workers_nodes : (seed : ℕ) (js : List ℕ) (trees : List FunctionTree) → AreFunctions seed js trees →
    total (map function_nodes trees) ≡ 39 * length js
workers_nodes seed js trees no_functions = refl
workers_nodes seed js trees (and_function j lines others more rest) =
    omega (arith, worker_nodes seed j lines, workers_nodes seed others more rest)
