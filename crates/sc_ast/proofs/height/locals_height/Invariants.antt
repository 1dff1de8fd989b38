use Rattle.sc_ast.proofs.Common.{drop, limited, locals_height, max, ◌≡◌}
use Rattle.sc_ast.proofs.height.locals_height.Given as goal

abbrev pub invariant-loop-local : goal.invariant-loop-local
invariant-loop-local l = max l.highest (limited (locals_height (drop l.local-index l.local-items))) ≡
    limited (locals_height l.locals)
