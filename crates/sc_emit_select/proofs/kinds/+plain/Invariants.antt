use Rattle.sc_emit_select.proofs.Common.{FrameTree, List, Place, Plan, all_plain, drop, map, select, stmt_weight}
use Rattle.sc_emit_select.proofs.Common.{weight, ◌*◌, ◌+◌, ◌≡◌}
use Rattle.sc_emit_select.proofs.kinds.+plain.Given as goal

-- what stands before this one is plain
abbrev pub invariant-all_plain-loop-at : goal.invariant-all_plain-loop-at
invariant-all_plain-loop-at l = (frame : FrameTree) (places : List Place) (plan : Plan) →
    all_plain (map (select frame places plan) l.stmts) ≡
    all_plain (map (select frame places plan) (drop l.at l.stmts))

abbrev pub decreases-is_plain : goal.decreases-is_plain
decreases-is_plain l = 2 * stmt_weight l.stmt.now

abbrev pub decreases-all_plain : goal.decreases-all_plain
decreases-all_plain l = 2 * weight l.stmts.now + 1
