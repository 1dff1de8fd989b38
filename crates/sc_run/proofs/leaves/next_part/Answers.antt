use Rattle.sc_run.proofs.Common.{IfOk-weaker, arith, in_loop, subst, sym}
use Rattle.sc_run.proofs.Ahead.{passes_follow, steps_after}
use Rattle.sc_run.proofs.Looping.{steps_weaken}
use Rattle.sc_run.specs.Weights.{AnotherSuffices}
use Rattle.sc_run.proofs.leaves.next_part.Goals as goal

pub returns-then-is_next_done : goal.returns-then-is_next_done
returns-then-is_next_done c = IfOk-weaker c.round.result _ _
    (λ step h. steps_weaken (omega arith) (steps_after (passes_follow in_loop _ c.if-is_next_done.ensures) h))
    c.round.ensures

pub returns : goal.returns
returns c = rw (← c.if-is_next_done.ensures) c.begin_next.ensures

pub begin_next-requires : goal.begin_next-requires
begin_next-requires c = subst AnotherSuffices (sym c.if-is_next_done.ensures) c.requires
