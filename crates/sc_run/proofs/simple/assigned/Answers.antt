use Rattle.sc_run.proofs.Looping.{step_ends}
use Rattle.sc_run.proofs.Ahead.{step_done}
use Rattle.sc_run.proofs.Common.{arith}
use Rattle.sc_run.proofs.simple.assigned.Goals as goal

pub returns-in-Err : goal.returns-in-Err
returns-in-Err c = step_ends c.in-Err.ensures

pub returns-in-Ok : goal.returns-in-Ok
returns-in-Ok c = step_done (omega arith) c.in-Ok.ensures
