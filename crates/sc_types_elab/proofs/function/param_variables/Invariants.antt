use Rattle.sc_types_elab.proofs.Common.{drop, map, typed_param, ◌++◌, ◌≡◌}
use Rattle.sc_types_elab.proofs.function.param_variables.Given as goal

abbrev pub invariant-loop-param : goal.invariant-loop-param
invariant-loop-param l = l.variables ++ map (typed_param l.tags) (drop l.param-index l.params) ≡
    map (typed_param l.tags) l.params
