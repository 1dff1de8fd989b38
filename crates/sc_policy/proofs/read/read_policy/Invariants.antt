use Rattle.sc_policy.proofs.Common.{length, ◌-◌}
use Rattle.sc_policy.proofs.Seen.{IsSeen}
use Rattle.sc_policy.proofs.read.read_policy.Given as goal

abbrev pub invariant-loop-end : goal.invariant-loop-end
invariant-loop-end l = IsSeen l.bytes l.at l.progress l.line

abbrev pub decreases-loop-end : goal.decreases-loop-end
decreases-loop-end l = length l.bytes - l.at
