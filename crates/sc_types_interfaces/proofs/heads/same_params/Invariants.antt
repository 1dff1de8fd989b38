use Rattle.sc_types_interfaces.proofs.Common.{drop, same_params, ◌≡◌}
use Rattle.sc_types_interfaces.proofs.heads.same_params.Given as goal

abbrev pub invariant-loop-i : goal.invariant-loop-i
invariant-loop-i l = same_params (drop l.i l.params) (drop l.i l.others) ≡ same_params l.params l.others
