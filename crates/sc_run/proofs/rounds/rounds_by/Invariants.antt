use Rattle.sc_run.proofs.Common.{Reaches, Some, kept_by, left_at, length, ◌≤◌}
use Rattle.sc_run.specs.Weights.{IsLess, place_weight}
use Rattle.sc_run.proofs.rounds.rounds_by.Given as goal

abbrev pub invariant-loop-done : goal.invariant-loop-done
invariant-loop-done l =
    (l.at.count ≤ length l.whole.body.now) × (IsLess l.whole.body.now l.at) ×
    Reaches l.program (place_weight l.whole.body.now l.first) (kept_by l.fn.run.machine) l.fn.run.work.items
    l.fn.run.frame (left_at l.program l.fn.run.frame l.whole.body.now (Some l.first)) l.fn.run.work.items
    l.fn.run.frame l.run
    (place_weight l.whole.body.now l.at) (left_at l.program l.fn.run.frame l.whole.body.now (Some l.at))

abbrev pub decreases-loop-done : goal.decreases-loop-done
decreases-loop-done l = l.run.machine.turns
