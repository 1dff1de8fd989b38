use Rattle.sc_ast.proofs.Common.{drop, limited, max, stmts_height, ◌≡◌}
use Rattle.sc_ast.proofs.height.+height.Given as goal

abbrev pub invariant-stmts_height-loop-stmt : goal.invariant-stmts_height-loop-stmt
invariant-stmts_height-loop-stmt l = max l.highest (limited (stmts_height (drop l.stmt-index l.stmt-items))) ≡
    limited (stmts_height l.stmts)
