use Rattle.sc_lower.proofs.Common.{drop, map, stmt_nodes, total, ◌+◌, ◌≡◌}
use Rattle.sc_lower.proofs.nodes.+nodes.Given as goal

abbrev pub invariant-stmts_nodes-loop-stmt : goal.invariant-stmts_nodes-loop-stmt
invariant-stmts_nodes-loop-stmt l =
    l.count + total (map stmt_nodes (drop l.stmt-index l.stmts)) ≡ total (map stmt_nodes l.stmts)
