use Rattle.sc_run.proofs.Common.{kept_by, subst}
use Rattle.std.specs.Prelude.{IfSome}
use Rattle.sc_run.proofs.Ahead.{assign_done}
use Rattle.sc_run.specs.Assignments.{IsStmt}
use Rattle.sc_run.proofs.planned.is_done_by.Goals as goal

pub returns-in-Some : goal.returns-in-Some
returns-in-Some c =
    let found : IsStmt c.args.frame.now c.args.stmt.now c.in-Some.assignment =
    subst (λ o. IfSome o (IsStmt c.args.frame.now c.args.stmt.now)) c.in-Some.is c.requires in
    assign_done c.args.program.now c.args.frame.now c.args.stmt.now c.in-Some.assignment.place.now
    c.in-Some.assignment.value.now c.is_assigned_by.result (kept_by c.args.machine.now)
    (kept_by c.is_assigned_by.new.machine) found.is c.is_assigned_by.ensures
