use Rattle.sc_types_elab.proofs.Common.{drop, map, param_of, param_ty, ◌++◌, ◌≡◌}
use Rattle.sc_types_elab.proofs.calls.function_params.Given as goal

abbrev pub invariant-loop-param : goal.invariant-loop-param
invariant-loop-param l = l.types ++ map (param_ty l.tags) (map param_of (drop l.param-index l.params)) ≡
    map (param_ty l.tags) (map param_of l.params)
