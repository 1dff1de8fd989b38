use Rattle.sc_run.proofs.Common.{IfOk-weaker, arith, unless_done}
use Rattle.sc_run.proofs.Invoking.{cross_enters, cross_missing, cross_refused}
use Rattle.sc_run.proofs.Leading.{onward, was_taken}
use Rattle.sc_run.proofs.inside.called_across.Goals as goal

pub returns-then-not-may_cross : goal.returns-then-not-may_cross
returns-then-not-may_cross c = was_taken (unless_done c.keep_end.result c.keep_end.new.taken) _ _ _ _ _
    c.keep_end.ensures
    (cross_refused c.args.program.now c.args.run.now.frame c.args.to c.args.comp.now
    c.args.index c.args.args.now c.refusal-end.ensures c.if-not-may_cross.ensures.allowed)

pub returns-in-None : goal.returns-in-None
returns-in-None c = was_taken (unless_done c.keep_end-in-None.result c.keep_end-in-None.new.taken) _ _ _ _ _
    c.keep_end-in-None.ensures
    (cross_missing c.args.program.now c.args.run.now.frame c.args.to c.args.comp.now c.args.index
    c.args.args.now c.refusal-end-in-None.ensures c.in-None.ensures.found)

pub returns-in-Some : goal.returns-in-Some
returns-in-Some c = IfOk-weaker c.entered.result _ _ (λ done h. onward
    (unless_done done c.entered.new.run.taken) _ _ _ _ _ (omega arith)
    (record {
      leads = λ step last ws g k. cross_enters c.args.program.now c.args.run.now.frame c.args.to c.args.comp.now
          c.args.index c.args.args.now c.in-Some.callee c.if-not-may_cross.ensures.allowed c.in-Some.ensures.found k;
    }) h) c.entered.ensures
