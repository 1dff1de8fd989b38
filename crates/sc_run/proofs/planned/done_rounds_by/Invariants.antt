use Rattle.sc_run.proofs.Common.{Passes, kept_by, loop_acts}
use Rattle.sc_run.proofs.planned.done_rounds_by.Given as goal

abbrev pub invariant-loop-machine : goal.invariant-loop-machine
invariant-loop-machine l =
    Passes (kept_by l.fn.machine) (kept_by l.machine) (λ n. loop_acts l.program n l.frame l.whole tt)
    (λ n. loop_acts l.program n l.frame l.whole tt)

abbrev pub decreases-loop-machine : goal.decreases-loop-machine
decreases-loop-machine l = l.machine.turns
