use Rattle.sc_run.proofs.Looping.{steps_later, steps_weaken}
use Rattle.sc_run.proofs.Common.{IfOk-weaker, arith, refl}
use Rattle.sc_run.proofs.leaves.leave_first.Goals as goal

pub returns-in-Next : goal.returns-in-Next
returns-in-Next c = rw c.in-Next.is (IfOk-weaker c.round.result _ _ (λ step h. steps_weaken (omega arith) h)
    c.round.ensures)

pub returns-in-Break : goal.returns-in-Break
returns-in-Break c = rw c.in-Break.is (steps_later (omega arith) (λ n s. refl))

pub returns-in-Continue : goal.returns-in-Continue
returns-in-Continue c = rw c.in-Continue.is (steps_later (omega arith) (λ n s. refl))

pub returns-in-Return : goal.returns-in-Return
returns-in-Return c = rw c.in-Return.is (steps_later (omega arith) (λ n s. refl))
