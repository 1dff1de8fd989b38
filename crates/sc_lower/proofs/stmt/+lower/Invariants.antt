use Rattle.sc_lower.proofs.Common.{block_code, drop, fragment_of, map, stmt_beyond, stmt_nodes, total, ◌+◌, ◌≡◌, ◌≤◌}
use Rattle.sc_lower.specs.Prelude.{fragment_after}
use Rattle.sc_lower.proofs.stmt.+lower.Given as goal

abbrev pub invariant-lower_stmts-loop-stmt : goal.invariant-lower_stmts-loop-stmt
invariant-lower_stmts-loop-stmt l = record {
  made :
      fragment_after l.stmts (block_code l.scope.structs.now l.scope.params (drop l.stmt-index l.block) l.next)
      ≡ fragment_of (block_code l.scope.structs.now l.scope.params l.block l.free);
  few : l.next + total (map stmt_nodes (drop l.stmt-index l.block)) ≤ l.free + total (map stmt_nodes l.block);
  near : total (map stmt_beyond (drop l.stmt-index l.block)) ≡ 0;
}
