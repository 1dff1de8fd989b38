use Rattle.sc_lower.proofs.Common.{drop, local_nodes, map, total, ◌+◌, ◌≡◌}
use Rattle.sc_lower.proofs.nodes.locals_nodes.Given as goal

abbrev pub invariant-loop-local : goal.invariant-loop-local
invariant-loop-local l =
    l.count + total (map local_nodes (drop l.local-index l.locals)) ≡ total (map local_nodes l.locals)
