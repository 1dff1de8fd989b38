use Rattle.sc_run_value.proofs.Common.{c_arith, drop, here_of, map, memory_of, values, ways, ◌≡◌}
use Rattle.sc_run_value.proofs.Lists.{following}
use Rattle.sc_run_value.proofs.expressions.evaluate_all.Given as goal

abbrev pub invariant-loop-expr : goal.invariant-loop-expr
invariant-loop-expr l =
    following l.found (values (map (ways c_arith l.scope.structs.now (here_of l.scope) l.scope.params)
    (drop l.expr-index l.exprs)) (memory_of l.blocks l.scope.comp.now)) ≡
    values (map (ways c_arith l.scope.structs.now (here_of l.scope) l.scope.params) l.exprs)
    (memory_of l.blocks l.scope.comp.now)
