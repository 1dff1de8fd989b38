use Rattle.sc_run.proofs.Common.{IfOk-weaker, arith, unless_done}
use Rattle.sc_run.proofs.Invoking.{own_enters, own_missing}
use Rattle.sc_run.proofs.Leading.{onward, was_taken}
use Rattle.sc_run.proofs.inside.called_inside.Goals as goal

pub returns-in-None : goal.returns-in-None
returns-in-None c = was_taken (unless_done c.keep_end.result c.keep_end.new.taken) _ _ _ _ _ c.keep_end.ensures
    (own_missing c.args.program.now c.args.run.now.frame c.args.to c.args.number c.args.args.now
    c.refusal-end.ensures c.in-None.ensures.found)

pub returns-in-Some : goal.returns-in-Some
returns-in-Some c = IfOk-weaker c.entered.result _ _ (λ done h. onward
    (unless_done done c.entered.new.run.taken) _ _ _ _ _ (omega arith)
    (record {
      leads = λ step last ws g k. own_enters c.args.program.now c.args.run.now.frame
          c.args.to c.in-Some.callee c.args.number c.args.args.now c.in-Some.ensures.found k;
    }) h) c.entered.ensures
