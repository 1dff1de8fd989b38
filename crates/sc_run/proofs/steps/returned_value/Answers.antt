use Rattle.sc_run.proofs.Common.{Return, Some, leave, arith, refl}
use Rattle.sc_run.proofs.Looping.{step_stops, steps_later, steps_on}
use Rattle.sc_run.proofs.steps.returned_value.Goals as goal

pub returns-in-Err : goal.returns-in-Err
returns-in-Err c = step_stops (λ n v s. leave (Return (Some v)) tt s) c.in-Err.ensures

pub returns-in-Ok : goal.returns-in-Ok
returns-in-Ok c =
    steps_on (λ n v s. leave (Return (Some v)) tt s) c.in-Ok.ensures (steps_later (omega arith) (λ n s. refl))
