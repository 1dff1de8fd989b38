use Rattle.sc_tac.proofs.Common.{branches, drop, ◌+◌, ◌≡◌}
use Rattle.sc_tac.proofs.branches.+branches.Given as goal

-- what is summed and what is left to sum is the sum of all
abbrev pub invariant-branches-loop-stmt : goal.invariant-branches-loop-stmt
invariant-branches-loop-stmt l = l.sum + branches (drop l.stmt-index l.stmt-items) ≡ branches l.stmts
