use Rattle.sc_run.proofs.Common.{kept_by}
use Rattle.sc_run.proofs.Lasting.{Underway}
use Rattle.sc_run.specs.Weights.{left, now_weight}
use Rattle.sc_run.proofs.run.run_on.Given as goal

abbrev pub invariant-loop-now : goal.invariant-loop-now
invariant-loop-now l =
    Underway l.program l.first (kept_by l.fn.run.machine) l.fn.run.frame l.now
    (kept_by l.run.machine) l.run.work.items l.run.frame

abbrev pub decreases-loop-now : goal.decreases-loop-now
decreases-loop-now l = left (now_weight l.now) (kept_by l.run.machine) l.run.work.items
