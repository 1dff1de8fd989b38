use Rattle.sc_run.proofs.Common.{kept_by, rolls-Assign, rolls-Empty, sym, ◌∙◌}
use Rattle.sc_run.proofs.Ahead.{assign_done, empty_done}
use Rattle.sc_run.proofs.plain.is_done.Goals as goal

pub returns-in-Empty : goal.returns-in-Empty
returns-in-Empty c = empty_done c.args.program.now c.args.frame.now c.args.stmt.now (c.in-Empty.is ∙ sym rolls-Empty)

pub returns-in-Assign : goal.returns-in-Assign
returns-in-Assign c = assign_done c.args.program.now c.args.frame.now c.args.stmt.now c.get.result.now
    c.get-in-Assign.result.now c.is_assigned.result (kept_by c.args.machine.now) (kept_by c.is_assigned.new.machine)
    (rw (c.get.ensures.value, c.get-in-Assign.ensures) (c.in-Assign.is ∙ sym (rolls-Assign _ _))) c.is_assigned.ensures
