use Rattle.sc_run.proofs.Common.{Passes, block_acts, drop, kept_by}
use Rattle.sc_run.proofs.planned.done_by.Given as goal

abbrev pub invariant-loop-at : goal.invariant-loop-at
invariant-loop-at l =
    Passes (kept_by l.fn.machine) (kept_by l.machine) (λ n s. block_acts l.program n l.frame l.stmts tt s)
    (λ n s. block_acts l.program n l.frame (drop l.at l.stmts) tt s)
