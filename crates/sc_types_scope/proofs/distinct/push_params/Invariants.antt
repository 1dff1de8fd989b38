use Rattle.sc_types_scope.proofs.Common.{FunctionParam, are_distinct, map, take, ◌≡◌}
use Rattle.sc_types_scope.proofs.distinct.push_params.Given as goal

abbrev pub invariant-loop-param : goal.invariant-loop-param
invariant-loop-param l = record {
  pushed : l.names ≡ map {A = FunctionParam} (λ param. param.name) (take l.param-index l.params);
  distinct : l.distinct ≡ are_distinct l.names;
}
