use Rattle.sc_run.proofs.Common.{Passes, kept_by, loop_acts}
use Rattle.sc_run.proofs.planned.rounds_of_one.Given as goal

abbrev pub invariant-loop-first : goal.invariant-loop-first
invariant-loop-first l =
    Passes (kept_by l.fn.machine) (kept_by l.machine) (λ n. loop_acts l.program n l.frame l.whole tt)
    (λ n. loop_acts l.program n l.frame l.whole tt)

abbrev pub decreases-loop-first : goal.decreases-loop-first
decreases-loop-first l = l.machine.turns
