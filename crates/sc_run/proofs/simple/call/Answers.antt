use Rattle.sc_run.proofs.Common.{IfOk-weaker}
use Rattle.sc_run.proofs.Invoking.{call_steps_by, call_blamed_by}
use Rattle.sc_run.proofs.simple.call.Goals as goal

pub returns-in-Ok : goal.returns-in-Ok
returns-in-Ok c = IfOk-weaker c.called.result _ _ (λ step h. call_steps_by c.args.program.now c.args.run.now.frame
    c.args.to c.args.made.now.target c.args.line c.as_slice.ensures c.in-Ok.is c.as_slice-in-Ok.ensures
    c.in_ok-args.ensures h) c.called.ensures

pub returns-in-Err : goal.returns-in-Err
returns-in-Err c = call_blamed_by c.args.program.now c.args.run.now.frame c.args.to c.args.made.now.target c.args.line
    c.as_slice.ensures c.in-Err.is c.in_ok-args.ensures
