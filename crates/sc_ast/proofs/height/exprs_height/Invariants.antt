use Rattle.sc_ast.proofs.Common.{drop, exprs_height, limited, max, ◌≡◌}
use Rattle.sc_ast.proofs.height.exprs_height.Given as goal

abbrev pub invariant-loop-expr : goal.invariant-loop-expr
invariant-loop-expr l = max l.highest (limited (exprs_height (drop l.expr-index l.expr-items))) ≡
    limited (exprs_height l.exprs)
