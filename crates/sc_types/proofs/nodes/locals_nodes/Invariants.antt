use Rattle.sc_types.proofs.Common.{drop, limited, local_nodes, map, total, ◌+◌, ◌≡◌, ◌≤◌}
use Rattle.sc_types.proofs.nodes.locals_nodes.Given as goal

-- what is counted and what is left to count is what is to be counted
abbrev pub invariant-loop-local : goal.invariant-loop-local
invariant-loop-local l = record {
  counted : limited (l.nodes + total (map local_nodes (drop l.local-index l.local-items))) ≡
      limited (total (map local_nodes l.locals));
  small : l.nodes ≤ 4294967295;
}
