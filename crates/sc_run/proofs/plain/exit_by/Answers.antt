use Rattle.sc_run.proofs.Common.{rolls-ReturnValue, sym, ◌∙◌}
use Rattle.sc_run.proofs.Ahead.{value_leaves}
use Rattle.sc_run.proofs.plain.exit_by.Goals as goal

pub returns-in-Some : goal.returns-in-Some
returns-in-Some c = value_leaves c.args.program.now c.args.frame.now c.args.stmt.now c.get-value.result.now
    (rw c.get-value.ensures (c.in-ReturnValue.is ∙ sym (rolls-ReturnValue _))) (sym c.in-Some.ensures)

pub returns-in-Ok : goal.returns-in-Ok
returns-in-Ok c = value_leaves c.args.program.now c.args.frame.now c.args.stmt.now c.get-value.result.now
    (rw c.get-value.ensures (c.in-ReturnValue.is ∙ sym (rolls-ReturnValue _))) c.in-Ok.ensures
