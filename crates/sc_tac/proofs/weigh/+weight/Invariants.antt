use Rattle.sc_tac.proofs.Common.{drop, weight, ◌+◌, ◌≡◌}
use Rattle.sc_tac.proofs.weigh.+weight.Given as goal

-- what is summed and what is left to sum is the weight of all
abbrev pub invariant-weight-loop-stmt : goal.invariant-weight-loop-stmt
invariant-weight-loop-stmt l = l.sum + weight (drop l.stmt-index l.stmt-items) ≡ weight l.stmts
