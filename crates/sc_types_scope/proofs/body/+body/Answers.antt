use Rattle.sc_types_scope.proofs.Statements.{more-noted, all-noted, empty-noted, return-noted, if-noted, while-noted}
use Rattle.sc_types_scope.proofs.Statements.{for-noted}
use Rattle.sc_types_scope.proofs.Common.{ap, ◌++◌, ◌∙◌}
use Rattle.sc_types_scope.specs.Prelude.{knows}
use Rattle.sc_types_scope.proofs.body.+body.Goals as goal

pub all_lines-loop-stmt-preserved : goal.all_lines-loop-stmt-preserved
all_lines-loop-stmt-preserved t c =
    more-noted _ _ c.as_slice-stmt-items.result.now c.loop-stmt.stmt-index c.stmt-item.result _ c.loop-stmt.lines _ _
    c.loop-stmt-test.true c.stmt-item.is c.loop-stmt.invariant c.stmt_lines.ensures

pub all_lines-returns : goal.all_lines-returns
all_lines-returns t c = all-noted _ _ c.as_slice-stmt-items.result.now c.loop-stmt.stmt-index _ _ _
    c.loop-stmt-test.false c.loop-stmt.invariant

pub stmt_lines-returns-in-Empty : goal.stmt_lines-returns-in-Empty
stmt_lines-returns-in-Empty t c = empty-noted _ _ c.args.stmt.now _ c.in-Empty.is

pub stmt_lines-returns-in-Return : goal.stmt_lines-returns-in-Return
stmt_lines-returns-in-Return t c = return-noted _ _ c.args.stmt.now _ c.in-Return.is

pub stmt_lines-returns-in-If : goal.stmt_lines-returns-in-If
stmt_lines-returns-in-If t c =
    let knows_cond = c.knows-in-If.ensures ∙ ap (knows c.args.names.now.structs
    (c.args.names.now.globals ++ c.args.own.now)) c.get-in-If.ensures in
    if-noted _ _ c.args.stmt.now _ _ _ _ _ _ _ _ c.in-If.is knows_cond c.unless-in-If.ensures c.all_lines.ensures
    c.all_lines-in-If.ensures

pub stmt_lines-returns-in-While : goal.stmt_lines-returns-in-While
stmt_lines-returns-in-While t c =
    let knows_cond = c.knows-in-While.ensures ∙ ap (knows c.args.names.now.structs
    (c.args.names.now.globals ++ c.args.own.now)) c.get-in-While.ensures in
    while-noted _ _ c.args.stmt.now _ _ _ _ _ _ c.in-While.is knows_cond c.unless-in-While.ensures
    c.all_lines-in-While.ensures

pub stmt_lines-returns-in-For : goal.stmt_lines-returns-in-For
stmt_lines-returns-in-For t c =
    let knows_cond = c.knows-in-For.ensures ∙ ap (knows c.args.names.now.structs
    (c.args.names.now.globals ++ c.args.own.now)) c.get-in-For.ensures in
    for-noted _ _ c.args.stmt.now _ _ _ _ _ _ _ _ _ _ c.in-For.is knows_cond c.part_lines.ensures
    c.unless-in-For.ensures c.part_lines-in-For.ensures c.all_lines-in-For.ensures
