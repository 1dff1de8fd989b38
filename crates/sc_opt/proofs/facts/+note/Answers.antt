use Rattle.sc_opt.proofs.Noting.{if_noted, loop_noted, notes_ended, notes_stepped}
use Rattle.sc_opt.proofs.facts.+note.Goals as goal

pub note_all-loop-stmt-preserved : goal.note_all-loop-stmt-preserved
note_all-loop-stmt-preserved t c = λ after h. c.loop-stmt.invariant after
    (notes_stepped c.as_slice-stmt-items.result.now c.args.stmts.now c.loop-stmt.stmt-index c.stmt-item.result
    c.loop-stmt.table c.note_stmt.new.table after c.as_slice-stmt-items.ensures c.loop-stmt-test.true c.stmt-item.is
    c.note_stmt.ensures h)

pub note_all-returns : goal.note_all-returns
note_all-returns t c = c.loop-stmt.invariant c.loop-stmt.table
    (notes_ended c.as_slice-stmt-items.result.now c.args.stmts.now c.loop-stmt.stmt-index c.loop-stmt.table
    c.as_slice-stmt-items.ensures c.loop-stmt-test.false)

pub note_stmt-returns-in-If : goal.note_stmt-returns-in-If
note_stmt-returns-in-If t c = if_noted c.args.stmt.now c.args.table.now c.note_all.new.table
    c.note_all-in-If.new.table c.in-If.cond c.in-If.then_part c.in-If.else_part c.in-If.is c.note_all.ensures
    c.note_all-in-If.ensures

pub note_stmt-returns-in-Loop : goal.note_stmt-returns-in-Loop
note_stmt-returns-in-Loop t c = loop_noted c.args.stmt.now c.args.table.now c.note_all-in-Loop.new.table
    c.note_all-in-Loop-2.new.table c.note_all-in-Loop-3.new.table c.in-Loop.head c.in-Loop.body c.in-Loop.next
    c.in-Loop.is c.note_all-in-Loop.ensures c.note_all-in-Loop-2.ensures c.note_all-in-Loop-3.ensures
