use Rattle.sc_policy.proofs.Cuts.{LacksBetween}
use Rattle.sc_policy.proofs.read.line_end.Given as goal

abbrev pub invariant-loop-end : goal.invariant-loop-end
invariant-loop-end l = LacksBetween 10 l.bytes l.at l.end
