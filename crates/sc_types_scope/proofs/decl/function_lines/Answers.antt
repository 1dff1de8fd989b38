use Rattle.sc_types_scope.proofs.Noted.{function-noted}
use Rattle.sc_types_scope.proofs.decl.function_lines.Goals as goal

pub returns : goal.returns
returns c =
    function-noted c.args.names.now c.args.tree.now _ _ _ _ _ _ _ c.in_ok-holds.ensures.known c.in_ok-holds.ensures.own
    c.in_ok-locals_lines.ensures.own c.unless.ensures c.in_ok-locals_lines.ensures.lines c.all_lines.ensures
