use Rattle.sc_run.proofs.Common.{length, take, ◌≡◌}
use Rattle.sc_run.proofs.run.first_events.Given as goal

abbrev pub invariant-loop-first : goal.invariant-loop-first
invariant-loop-first l = take l.events l.first ≡ take l.events l.fn.trace

abbrev pub decreases-loop-first : goal.decreases-loop-first
decreases-loop-first l = length l.first
