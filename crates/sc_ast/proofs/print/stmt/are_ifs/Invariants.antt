use Rattle.sc_ast.proofs.Common.{drop, layouts, list_all, ◌≡◌}
use Rattle.sc_ast.proofs.print.stmt.are_ifs.Given as goal

abbrev pub invariant-loop-stmt : goal.invariant-loop-stmt
invariant-loop-stmt l = list_all (λ stmt. stmt.is_if) (layouts (drop l.stmt-index l.stmt-items)) ≡
    list_all (λ stmt. stmt.is_if) (layouts l.stmts)
