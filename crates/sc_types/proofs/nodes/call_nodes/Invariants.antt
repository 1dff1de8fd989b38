use Rattle.sc_types.proofs.Common.{call_nodes, drop, expr_nodes, limited, map, total, ◌+◌, ◌≡◌, ◌≤◌}
use Rattle.sc_types.proofs.nodes.call_nodes.Given as goal

-- what is counted and what is left to count is what is to be counted
abbrev pub invariant-loop-arg : goal.invariant-loop-arg
invariant-loop-arg l = record {
  counted : limited (l.nodes + total (map expr_nodes (drop l.arg-index l.arg-items))) ≡ limited (call_nodes l.call);
  small : l.nodes ≤ 4294967295;
}
