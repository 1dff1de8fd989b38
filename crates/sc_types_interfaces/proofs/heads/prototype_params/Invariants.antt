use Rattle.sc_types_interfaces.proofs.Common.{map, param_of, take, ◌≡◌}
use Rattle.sc_types_interfaces.proofs.heads.prototype_params.Given as goal

abbrev pub invariant-loop-param : goal.invariant-loop-param
invariant-loop-param l = l.list ≡ map param_of (take l.param-index l.params)
