use Rattle.sc_run.proofs.Common.{unless_done}
use Rattle.sc_run.proofs.Leading.{was_taken}
use Rattle.sc_run.proofs.inside.step_into.Goals as goal

pub returns-in-Ok-Go : goal.returns-in-Ok-Go
returns-in-Ok-Go c = was_taken (unless_done c.keep_now.result c.keep_now.new.taken) _ _ _ _ _ c.keep_now.ensures
    (rw c.in-Ok-Go.field-0-is at c.in-Ok-Go.ensures)

pub returns-in-Ok-Stop : goal.returns-in-Ok-Stop
returns-in-Ok-Stop c = was_taken (unless_done c.keep_end.result c.keep_end.new.taken) _ _ _ _ _ c.keep_end.ensures
    (rw c.in-Ok-Stop.field-0-is at c.in-Ok-Stop.ensures)
