use Rattle.sc_lower.proofs.Common.{drop, expr_nodes, map, total, ◌+◌, ◌≡◌}
use Rattle.sc_lower.proofs.nodes.call_nodes.Given as goal

abbrev pub invariant-loop-arg : goal.invariant-loop-arg
invariant-loop-arg l =
    l.count + total (map expr_nodes (drop l.arg-index l.call.args)) ≡ total (map expr_nodes l.call.args)
