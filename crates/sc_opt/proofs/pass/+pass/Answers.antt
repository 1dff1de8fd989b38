use Rattle.std.proofs.Common.{ap, drop, ◌+◌, ◌++◌, ◌∙◌}
use Rattle.sc_opt.specs.Prelude.{passed_by}
use Rattle.sc_opt.proofs.Making.{op_made, row_stepped}
use Rattle.sc_opt.proofs.pass.+pass.Goals as goal

pub pass_all-loop-stmt-preserved : goal.pass_all-loop-stmt-preserved
pass_all-loop-stmt-preserved t c =
    ap (λ l. l ++ passed_by c.args.tables.now (drop (c.loop-stmt.stmt-index + 1) c.args.stmts.now))
    c.in_ok-add.ensures ∙
    row_stepped c.args.tables.now c.as_slice-stmt-items.result.now c.args.stmts.now c.loop-stmt.stmt-index
    c.stmt-item.result (passed_by c.args.tables.now c.args.stmts.now) c.loop-stmt.passed c.in_ok-kept.kept
    c.as_slice-stmt-items.ensures c.loop-stmt-test.true c.stmt-item.is c.loop-stmt.invariant c.in_ok-kept.ensures

pub pass_stmt-returns-in-Op : goal.pass_stmt-returns-in-Op
pass_stmt-returns-in-Op t c = c.pass_operator.ensures ∙ op_made c.args.tables.now c.args.stmt.now c.in-Op.dest
    c.in-Op.op c.in-Op.left c.in-Op.right c.in-Op.is
