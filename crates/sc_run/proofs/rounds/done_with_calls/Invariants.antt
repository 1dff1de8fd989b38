use Rattle.sc_run.proofs.Common.{Reaches, block_acts, drop, kept_by, length, suc, ◌-◌}
use Rattle.sc_run.specs.Weights.{block_weight}
use Rattle.sc_run.proofs.rounds.done_with_calls.Given as goal

abbrev pub invariant-loop-at : goal.invariant-loop-at
invariant-loop-at l =
    Reaches l.program (suc (block_weight l.stmts)) (kept_by l.fn.run.machine) l.fn.run.work.items l.fn.run.frame
    (λ n s. block_acts l.program n l.fn.run.frame l.stmts tt s) l.fn.run.work.items l.fn.run.frame l.run
    (suc (block_weight (drop l.at l.stmts)))
    (λ n s. block_acts l.program n l.fn.run.frame (drop l.at l.stmts) tt s)

abbrev pub decreases-loop-at : goal.decreases-loop-at
decreases-loop-at l = length l.stmts - l.at
