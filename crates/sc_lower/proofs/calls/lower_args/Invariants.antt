use Rattle.sc_lower.proofs.Common.{drop, expr_beyond, expr_nodes, forms, many, map, total, values_of, ◌+◌, ◌≡◌, ◌≤◌}
use Rattle.sc_lower.proofs.Lowered.{values_after}
use Rattle.sc_lower.proofs.calls.lower_args.Given as goal

abbrev pub invariant-loop-arg : goal.invariant-loop-arg
invariant-loop-arg l = record {
  made :
      values_after l.stmts l.at
      (many (map (forms l.scope.structs.now l.scope.params) (drop l.arg-index l.args)) l.next)
      ≡ values_of (many (map (forms l.scope.structs.now l.scope.params) l.args) l.free);
  few : l.next + total (map expr_nodes (drop l.arg-index l.args)) ≤ l.free + total (map expr_nodes l.args);
  near : total (map expr_beyond (drop l.arg-index l.args)) ≡ 0;
}
