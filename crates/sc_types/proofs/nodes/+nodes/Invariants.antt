use Rattle.sc_types.proofs.Common.{drop, limited, stmts_nodes, ◌+◌, ◌≡◌, ◌≤◌}
use Rattle.sc_types.proofs.nodes.+nodes.Given as goal

-- what is counted and what is left to count is what is to be counted
abbrev pub invariant-stmts_nodes-loop-stmt : goal.invariant-stmts_nodes-loop-stmt
invariant-stmts_nodes-loop-stmt l = record {
  counted : limited (l.nodes + stmts_nodes (drop l.stmt-index l.stmt-items)) ≡ limited (stmts_nodes l.stmts);
  small : l.nodes ≤ 4294967295;
}
