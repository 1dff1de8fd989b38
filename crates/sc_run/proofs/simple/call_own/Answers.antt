use Rattle.sc_run.proofs.Common.{IfOk-weaker}
use Rattle.sc_run.proofs.Invoking.{own_missing, own_enters}
use Rattle.sc_run.proofs.simple.call_own.Goals as goal

pub returns-in-None : goal.returns-in-None
returns-in-None c = own_missing c.args.program.now c.args.run.now.frame c.args.to c.args.number c.args.args.now
    c.refusal.ensures c.in-None.ensures.found

pub returns-in-Some : goal.returns-in-Some
returns-in-Some c = IfOk-weaker c.enter.result _ _ (λ step h. own_enters c.args.program.now c.args.run.now.frame
    c.args.to c.in-Some.callee c.args.number c.args.args.now c.in-Some.ensures.found h) c.enter.ensures
