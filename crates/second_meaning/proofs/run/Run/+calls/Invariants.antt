use Rattle.std.proofs.Common.{◌<◌}
use Rattle.second_meaning.proofs.run.Run.+calls.Given as goal

abbrev pub decreases-act : goal.decreases-act
decreases-act l = l.fuel

abbrev pub decreases-assign_call : goal.decreases-assign_call
decreases-assign_call l = l.fuel

abbrev pub decreases-call : goal.decreases-call
decreases-call l = l.fuel

abbrev pub decreases-cross : goal.decreases-cross
decreases-cross l = l.fuel

abbrev pub decreases-enter : goal.decreases-enter
decreases-enter l = l.fuel

abbrev pub decreases-rounds : goal.decreases-rounds
decreases-rounds l = l.fuel

abbrev pub decreases-simple : goal.decreases-simple
decreases-simple l = l.fuel

abbrev pub decreases-statement : goal.decreases-statement
decreases-statement l = l.fuel

abbrev pub decreases-statements : goal.decreases-statements
decreases-statements l = l.fuel

abbrev pub invariant-act-loop : goal.invariant-act-loop
invariant-act-loop l = l.below < l.fuel

abbrev pub invariant-cross-loop-word : goal.invariant-cross-loop-word
invariant-cross-loop-word l = l.below < l.fuel

abbrev pub invariant-rounds-loop : goal.invariant-rounds-loop
invariant-rounds-loop l = l.below < l.fuel

abbrev pub invariant-statements-loop-statement : goal.invariant-statements-loop-statement
invariant-statements-loop-statement l = l.below < l.fuel
