use Rattle.sc_types_elab_stmt.proofs.Common.{drop, map, stmt_in, ◌++◌, ◌≡◌}
use Rattle.sc_types_elab_stmt.proofs.stmt.+stmt.Given as goal

abbrev pub invariant-build_stmts-loop-stmt : goal.invariant-build_stmts-loop-stmt
invariant-build_stmts-loop-stmt l = l.built ++ map (stmt_in l.section l.function) (drop l.stmt-index l.stmts) ≡
    map (stmt_in l.section l.function) l.stmts
