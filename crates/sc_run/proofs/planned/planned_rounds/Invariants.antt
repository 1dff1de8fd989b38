use Rattle.sc_run.proofs.Common.{Passes, kept_by, loop_acts}
use Rattle.sc_run.proofs.planned.planned_rounds.Given as goal

abbrev pub invariant-loop-body : goal.invariant-loop-body
invariant-loop-body l =
    Passes (kept_by l.fn.machine) (kept_by l.machine) (λ n. loop_acts l.program n l.frame l.whole tt)
    (λ n. loop_acts l.program n l.frame l.whole tt)

abbrev pub decreases-loop-body : goal.decreases-loop-body
decreases-loop-body l = l.machine.turns
