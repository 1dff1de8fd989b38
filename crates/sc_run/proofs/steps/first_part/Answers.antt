use Rattle.sc_run.proofs.Common.{First, IfOk-weaker, Some, ap, in_order, refl, sym, ◌∙◌, arith}
use Rattle.sc_run.proofs.Stating.{part_steps}
use Rattle.sc_run.proofs.Looping.{steps_weaken}
use Rattle.sc_run.proofs.steps.first_part.Goals as goal

pub returns-in_ok-push-in-Some : goal.returns-in_ok-push-in-Some
returns-in_ok-push-in-Some c = IfOk-weaker c.simple.result _ _ (λ step h. part_steps in_order (First c.args.whole.now)
    c.args.whole.now (λ n ws p. refl) refl (c.in-Some.is ∙ ap (λ part. Some part) (sym c.get.ensures))
    c.in_ok-push-in-Some.ensures.items h) c.simple.ensures

pub returns-in-None : goal.returns-in-None
returns-in-None c = rw c.in-None.is (IfOk-weaker c.round.result _ _ (λ step h. steps_weaken (omega arith) h)
    c.round.ensures)
