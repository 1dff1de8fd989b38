use Rattle.sc_run.proofs.Common.{ap, arith, roll-TypedStmtKind, rolls-Assign, sym, ◌∙◌, ◌≡◌}
use Rattle.sc_core.specs.declared.stmt.TypedStmtKind.TheOpen as layer
use Rattle.sc_run.proofs.Assignments.{same_there, stmt_planned}
use Rattle.sc_run.proofs.planned.stmt_plan.Goals as goal

pub returns-in-Assign : goal.returns-in-Assign
returns-in-Assign c = λ stmt there.
    let same : c.index-stmts-at.result ≡ stmt =
    same_there c.args.stmts.now c.args.at c.index-stmts-at.result stmt (omega arith) c.index-stmts-at.is there in
    let is : c.index-stmts-at.result.kind ≡ roll-TypedStmtKind (layer.Assign c.get.result.now
    c.get-in-Assign.result.now) =
    rw (c.get.ensures.value, c.get-in-Assign.ensures) (ap (λ s. s.kind) c.index-stmts-at.is ∙ c.in-Assign.is ∙ sym
    (rolls-Assign _ _)) in
    stmt_planned c.args.frame.now stmt c.assignment_of.result c.get.result.now c.get-in-Assign.result.now
    (ap (λ s. s.kind) (sym same) ∙ is) c.assignment_of.ensures.place c.assignment_of.ensures.value
    c.assignment_of.ensures.target c.assignment_of.ensures.plan
