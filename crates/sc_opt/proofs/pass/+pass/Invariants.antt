use Rattle.std.proofs.Common.{drop, ◌++◌, ◌≡◌}
use Rattle.sc_opt.specs.Prelude.{passed_by}
use Rattle.sc_opt.proofs.pass.+pass.Given as goal

abbrev pub invariant-pass_all-loop-stmt : goal.invariant-pass_all-loop-stmt
invariant-pass_all-loop-stmt l =
    l.passed ++ passed_by l.tables (drop l.stmt-index l.stmts) ≡ passed_by l.tables l.stmts
