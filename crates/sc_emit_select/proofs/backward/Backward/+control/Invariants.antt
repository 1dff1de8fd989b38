use Rattle.sc_emit_select.proofs.Common.{Other, drop, in_turn, joined, map, plan_by, select, stmt_weight, weight, ◌*◌}
use Rattle.sc_emit_select.proofs.Common.{◌++◌, ◌+◌, ◌≡◌}
use Rattle.sc_emit_select.proofs.backward.Backward.+control.Given as goal

-- the statements from this one on are written
abbrev pub invariant-in_order-loop-at : goal.invariant-in_order-loop-at
invariant-in_order-loop-at l =
    l.self ≡
    (in_turn (drop l.at (joined l.homes.frame.now l.homes.places.now Other
    (map (select l.homes.frame.now l.homes.places.now (plan_by l.homes.needs.now l.homes.near)) l.stmts)))).lines
    l.distances.to_break
    l.distances.to_continue ++ l.initial.self

-- statements weigh no less than each of them, and more than what stands in it
abbrev pub decreases-statement : goal.decreases-statement
decreases-statement l = 3 * stmt_weight l.stmt.now

abbrev pub decreases-between : goal.decreases-between
decreases-between l = 3 * stmt_weight l.stmt.now + 1

abbrev pub decreases-in_order : goal.decreases-in_order
decreases-in_order l = 3 * weight l.stmts.now + 2

abbrev pub decreases-part : goal.decreases-part
decreases-part l = 3 * weight l.part.now + 3

abbrev pub decreases-fork : goal.decreases-fork
decreases-fork l = 3 * (weight l.first.now + weight l.second.now) + 3

abbrev pub decreases-cycle : goal.decreases-cycle
decreases-cycle l = 3 * (weight l.head.now + weight l.body.now + weight l.next.now) + 4

abbrev pub decreases-rotated : goal.decreases-rotated
decreases-rotated l = 3 * (weight l.head.now + weight l.body.now + weight l.next.now) + 4

abbrev pub decreases-turning : goal.decreases-turning
decreases-turning l = 3 * (weight l.head.now + weight l.body.now + weight l.next.now) + 5
