use Rattle.sc_emit_select.proofs.Common.{FrameTree, List, Place, Plan, drop, ending_test, map, select, ◌≡◌}
use Rattle.sc_emit_select.proofs.kinds.ending_test.Given as goal

-- what stands before this one is plain
abbrev pub invariant-loop-at : goal.invariant-loop-at
invariant-loop-at l = (frame : FrameTree) (places : List Place) (plan : Plan) →
    ending_test (map (select frame places plan) l.stmts) ≡
    ending_test (map (select frame places plan) (drop l.at l.stmts))
