use Rattle.sc_run.proofs.Looping.{steps_later}
use Rattle.sc_run.proofs.Common.{arith, refl}
use Rattle.sc_run.proofs.leaves.leave_body.Goals as goal

pub returns-in-Next : goal.returns-in-Next
returns-in-Next c = rw c.in-Next.is c.next_part.ensures

pub returns-in-Continue : goal.returns-in-Continue
returns-in-Continue c = rw c.in-Continue.is c.next_part-in-Continue.ensures

pub returns-in-Break : goal.returns-in-Break
returns-in-Break c = rw c.in-Break.is (steps_later (omega arith) (λ n s. refl))

pub returns-in-Return : goal.returns-in-Return
returns-in-Return c = rw c.in-Return.is (steps_later (omega arith) (λ n s. refl))
