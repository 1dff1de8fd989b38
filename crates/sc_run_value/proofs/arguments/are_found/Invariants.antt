use Rattle.sc_run_value.proofs.Common.{c_arith, drop, here_of, map, memory_of, values, ways, ◌≡◌}
use Rattle.std.proofs.Common.{length, take}
use Rattle.sc_run_value.proofs.Lists.{following}
use Rattle.sc_run_value.proofs.arguments.are_found.Given as goal

abbrev pub invariant-loop-at : goal.invariant-loop-at
invariant-loop-at l =
    (length l.found ≡ length l.fn.found) ×
    (following (take l.at l.found) (values (map (ways c_arith l.scope.structs.now (here_of l.scope) l.scope.params)
    (drop l.at l.exprs)) (memory_of l.blocks l.scope.comp.now)) ≡
    values (map (ways c_arith l.scope.structs.now (here_of l.scope) l.scope.params) l.exprs)
    (memory_of l.blocks l.scope.comp.now))
