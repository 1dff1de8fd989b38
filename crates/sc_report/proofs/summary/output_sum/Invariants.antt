use Rattle.sc_report.proofs.Common.{take, ◌≡◌}
use Rattle.sc_report.specs.Summary.{output_sum}
use Rattle.sc_report.proofs.summary.output_sum.Given as goal

abbrev pub invariant-loop-event : goal.invariant-loop-event
invariant-loop-event l = l.sum ≡ output_sum (take l.event-index l.events)
