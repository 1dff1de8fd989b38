use Rattle.sc_tac.proofs.Common.{drop, everywhere, leaves_heap, ◌≡◌}
use Rattle.sc_tac.proofs.heap.+heap.Given as goal

-- what is left leaves the heap alone exactly where all does
abbrev pub invariant-leave_heap-loop-stmt : goal.invariant-leave_heap-loop-stmt
invariant-leave_heap-loop-stmt l =
    everywhere leaves_heap (drop l.stmt-index l.stmt-items) ≡ everywhere leaves_heap l.stmts
