use Rattle.sc_types.proofs.Common.{decls_nodes, drop, limited, ◌+◌, ◌≡◌, ◌≤◌}
use Rattle.sc_types.proofs.nodes.decls_nodes.Given as goal

-- what is counted and what is left to count is what is to be counted
abbrev pub invariant-loop-decl : goal.invariant-loop-decl
invariant-loop-decl l = record {
  counted : limited (l.nodes + decls_nodes (drop l.decl-index l.decl-items)) ≡ limited (decls_nodes l.decls);
  small : l.nodes ≤ 4294967295;
}
