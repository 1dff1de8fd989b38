use Rattle.sc_opt.proofs.Marking.{if_marked, loop_marked, marks_ended, marks_stepped, op_marked}
use Rattle.sc_opt.proofs.uses.+mark.Goals as goal

pub mark_all-loop-stmt-preserved : goal.mark_all-loop-stmt-preserved
mark_all-loop-stmt-preserved t c = λ after h. c.loop-stmt.invariant after
    (marks_stepped _ _ c.as_slice-stmt-items.result.now c.args.stmts.now c.loop-stmt.stmt-index c.stmt-item.result
    c.loop-stmt.marks c.mark_stmt.new.marks after c.as_slice-stmt-items.ensures c.loop-stmt-test.true c.stmt-item.is
    c.mark_stmt.ensures h)

pub mark_all-returns : goal.mark_all-returns
mark_all-returns t c = c.loop-stmt.invariant c.loop-stmt.marks
    (marks_ended _ _ c.as_slice-stmt-items.result.now c.args.stmts.now c.loop-stmt.stmt-index c.loop-stmt.marks
    c.as_slice-stmt-items.ensures c.loop-stmt-test.false)

pub mark_stmt-returns-in-Op : goal.mark_stmt-returns-in-Op
mark_stmt-returns-in-Op t c = op_marked _ _ c.args.stmt.now c.args.marks.now c.mark_operator.new.marks c.in-Op.dest
    c.in-Op.op c.in-Op.left c.in-Op.right c.in-Op.is c.mark_operator.ensures

pub mark_stmt-returns-in-If : goal.mark_stmt-returns-in-If
mark_stmt-returns-in-If t c = if_marked _ _ c.args.stmt.now c.args.marks.now c.mark-in-If.new.marks
    c.mark_all.new.marks c.mark_all-in-If.new.marks c.in-If.cond c.in-If.then_part c.in-If.else_part c.in-If.is
    c.mark-in-If.ensures c.mark_all.ensures c.mark_all-in-If.ensures

pub mark_stmt-returns-in-Loop : goal.mark_stmt-returns-in-Loop
mark_stmt-returns-in-Loop t c = loop_marked _ _ c.args.stmt.now c.args.marks.now c.mark_all-in-Loop.new.marks
    c.mark_all-in-Loop-2.new.marks c.mark_all-in-Loop-3.new.marks c.in-Loop.head c.in-Loop.body c.in-Loop.next
    c.in-Loop.is c.mark_all-in-Loop.ensures c.mark_all-in-Loop-2.ensures c.mark_all-in-Loop-3.ensures
