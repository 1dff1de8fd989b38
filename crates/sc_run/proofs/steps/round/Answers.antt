use Rattle.sc_run.proofs.Common.{IfOk-weaker}
use Rattle.sc_run.proofs.Ahead.{round_left, steps_after}
use Rattle.sc_run.proofs.steps.round.Goals as goal

pub returns-in-None : goal.returns-in-None
returns-in-None c = IfOk-weaker c.begin_round.result _ _
    (λ step h. steps_after c.in-None.ensures.passes h) c.begin_round.ensures

pub returns-in_ok-push-in-Some : goal.returns-in_ok-push-in-Some
returns-in_ok-push-in-Some c = IfOk-weaker c.rounds.result _ _ (λ step h. round_left c.args.program.now
    c.args.run.now.frame c.args.whole.now c.in-Some.at c.in-Some.ensures.less c.in-Some.ensures.taken
    c.in-Some.ensures.passes c.in_ok-push-in-Some.ensures.items h) c.rounds.ensures

pub rounds-requires-clause-waits : goal.rounds-requires-clause-waits
rounds-requires-clause-waits c = (c.args.run.now.work.items, c.in_ok-push-in-Some.ensures.items)
