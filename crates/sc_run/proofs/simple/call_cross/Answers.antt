use Rattle.sc_run.proofs.Common.{IfOk-weaker}
use Rattle.sc_run.proofs.Invoking.{cross_refused, cross_missing, cross_enters}
use Rattle.sc_run.proofs.simple.call_cross.Goals as goal

pub returns-then-not-may_cross : goal.returns-then-not-may_cross
returns-then-not-may_cross c = cross_refused c.args.program.now c.args.run.now.frame c.args.to c.args.comp.now
    c.args.index c.args.args.now c.refusal.ensures c.if-not-may_cross.ensures.allowed

pub returns-in-None : goal.returns-in-None
returns-in-None c = cross_missing c.args.program.now c.args.run.now.frame c.args.to c.args.comp.now c.args.index
    c.args.args.now c.refusal-in-None.ensures c.in-None.ensures.found

pub returns-in-Some : goal.returns-in-Some
returns-in-Some c = IfOk-weaker c.enter.result _ _ (λ step h. cross_enters c.args.program.now c.args.run.now.frame
    c.args.to c.args.comp.now c.args.index c.args.args.now c.in-Some.callee c.if-not-may_cross.ensures.allowed
    c.in-Some.ensures.found h) c.enter.ensures
