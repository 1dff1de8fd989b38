use Rattle.sc_ast.proofs.Common.{map, param_of, take, ◌≡◌}
use Rattle.sc_ast.proofs.head.named_params.Given as goal

abbrev pub invariant-loop-param : goal.invariant-loop-param
invariant-loop-param l = map param_of l.list ≡ take l.param-index l.params
