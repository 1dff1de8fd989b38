use Rattle.sc_run.proofs.Looping.{step_ends}
use Rattle.sc_run.proofs.Ahead.{step_done}
use Rattle.sc_run.proofs.Common.{arith}
use Rattle.sc_run.proofs.heap.malloc.Goals as goal

pub returns-in-Err : goal.returns-in-Err
returns-in-Err c = step_ends (rw c.in-Err.is at c.in_ok-done.ensures)

pub returns-in-Ok : goal.returns-in-Ok
returns-in-Ok c = step_done (omega arith) (rw c.in-Ok.is at c.in_ok-done.ensures)
