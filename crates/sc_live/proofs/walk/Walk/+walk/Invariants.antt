use Rattle.sc_live.proofs.Common.{WalkedAll, drop, length, lives_at, stmt_weight, take, weight, ◌*◌, ◌+◌, ◌≤◌}
use Rattle.sc_live.proofs.walk.Walk.+walk.Given as goal

abbrev pub invariant-row-loop-at : goal.invariant-row-loop-at
invariant-row-loop-at l = record {
  within : l.at ≤ length l.list;
  walked : WalkedAll (drop l.at l.list) (lives_at l.initial.self.live l.exits.broken.now l.exits.continued.now)
      l.initial.self l.self;
  few : l.self.points + weight (take l.at l.list) ≤ l.initial.self.points + weight l.list;
}

abbrev pub decreases-row-loop-at : goal.decreases-row-loop-at
decreases-row-loop-at l = l.at

-- statements weigh no less than each of them, and more than what stands in it
abbrev pub decreases-stmt : goal.decreases-stmt
decreases-stmt l = 2 * stmt_weight l.stmt.now

abbrev pub decreases-row : goal.decreases-row
decreases-row l = 2 * weight l.stmts.now + 1

abbrev pub decreases-part : goal.decreases-part
decreases-part l = 2 * weight l.part.now + 2
