use Rattle.sc_types_elab.proofs.Common.{called, length, scope_in}
use Rattle.sc_types_elab.proofs.FunctionLines.{suits, function_noted}
use Rattle.sc_types_elab.proofs.typing.note_function.Goals as goal

pub returns : goal.returns
returns c =
    function_noted c.args.scope.now c.args.section.now c.requires c.args.tree.now
    (called c.args.scope.now.callees) c.note_stmts.result c.in_ok-function.function c.in_ok-function.ensures.stands
    c.args.lines.now c.note_locals.new.lines c.note_stmts.new.lines c.in_ok-function.ensures.lines
    (c.note_stmts.ensures (scope_in c.args.section.now c.args.tree.now)
    (suits c.args.scope.now c.args.section.now c.requires c.args.tree.now
    (length c.args.tree.now.locals) c.in_ok-function.function c.in_ok-function.ensures.stands))
