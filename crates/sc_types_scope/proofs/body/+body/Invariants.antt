use Rattle.sc_types_scope.proofs.Common.{all_in, drop, known, map, stmt_name_lines, with_lines, ◌≡◌}
use Rattle.sc_types_scope.proofs.body.+body.Given as goal

-- the lines noted and those of what is left are those of all
abbrev pub invariant-all_lines-loop-stmt : goal.invariant-all_lines-loop-stmt
invariant-all_lines-loop-stmt l = with_lines l.lines (all_in (known l.names l.own) l.looping
    (map (stmt_name_lines (known l.names l.own)) (drop l.stmt-index l.stmt-items))) ≡
    with_lines l.initial.lines (all_in (known l.names l.own) l.looping (map (stmt_name_lines (known l.names l.own))
    l.stmts))
