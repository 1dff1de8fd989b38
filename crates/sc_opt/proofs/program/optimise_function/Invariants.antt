use Rattle.std.proofs.Common.{◌+◌, ◌≡◌, ◌≤◌}
use Rattle.sc_tac.specs.Prelude.{entry_weight, weight}
use Rattle.sc_opt.specs.Prelude.{optimised_function}
use Rattle.sc_opt.proofs.Made.{rest_of}
use Rattle.sc_opt.proofs.program.optimise_function.Given as goal

abbrev pub invariant-loop-weight : goal.invariant-loop-weight
invariant-loop-weight l = record {
  made : optimised_function l.f ≡ rest_of l.before l.weight l.passed;
  counted : l.weight ≡ entry_weight l.passed.params + weight l.passed.body;
  fewer : l.weight ≤ l.before;
}

abbrev pub decreases-loop-weight : goal.decreases-loop-weight
decreases-loop-weight l = l.before
