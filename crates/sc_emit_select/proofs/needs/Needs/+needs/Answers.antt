use Rattle.sc_emit_select.proofs.Needed.{row_marked}
use Rattle.sc_emit_select.proofs.needs.Needs.+needs.Goals as goal

pub row-loop-stmt-preserved : goal.row-loop-stmt-preserved
row-loop-stmt-preserved t c final rest =
    c.loop-stmt.invariant final
    (row_marked _ _ _ _ _ _ _ _ _ c.loop-stmt-test.true c.stmt-item.is c.takes.ensures c.gives-before.ensures
    c.taken.ensures c.stmt.ensures final rest)
