use Rattle.sc_run.proofs.Common.{Again, IfOk-weaker, ap, in_loop, option_copied, refl}
use Rattle.sc_run.proofs.Stating.{no_part_steps, part_steps}
use Rattle.sc_run.proofs.leaves.begin_next.Goals as goal

pub returns-in_ok-push-in-Some : goal.returns-in_ok-push-in-Some
returns-in_ok-push-in-Some c = IfOk-weaker c.simple.result _ _ (λ step h. part_steps in_loop (Again c.args.whole.now)
    c.args.whole.now (λ n ws p. refl) refl (ap option_copied c.in-Some.is) c.in_ok-push-in-Some.ensures.items
    h) c.simple.ensures

pub returns-in-None : goal.returns-in-None
returns-in-None c = IfOk-weaker c.round.result _ _ (λ step h. no_part_steps in_loop c.args.whole.now (λ n s. refl)
    (ap option_copied c.in-None.is) h) c.round.ensures
