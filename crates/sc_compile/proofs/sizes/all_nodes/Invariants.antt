use Rattle.sc_compile.proofs.Common.{drop, map, nodes, total, ◌+◌, ◌≡◌}
use Rattle.sc_compile.proofs.sizes.all_nodes.Given as goal

-- what is summed and what is left to sum is all
abbrev pub invariant-loop-function : goal.invariant-loop-function
invariant-loop-function l =
    l.sum + total (map nodes (drop l.function-index l.functions)) ≡ total (map nodes l.functions)
