use Rattle.sc_types_interfaces.proofs.Common.{FunctionParam, map, scalar_of, take, ◌≡◌, ◌≤◌}
use Rattle.sc_types_interfaces.proofs.building.params.Given as goal

abbrev pub invariant-loop-param : goal.invariant-loop-param
invariant-loop-param l =
    (l.scalars ≡ map {A = FunctionParam} (λ param. scalar_of param.ty) (take l.param-index l.params)) ×
    (l.param-index ≤ 8)
