use Rattle.sc_run.proofs.Common.{exit_of, kept_by}
use Rattle.sc_run.proofs.Calling.{return_stops, return_steps}
use Rattle.sc_run.proofs.leaves.return_to.Goals as goal

pub returns-in_ok-back-in-Ok : goal.returns-in_ok-back-in-Ok
returns-in_ok-back-in-Ok c = return_steps c.args.program.now c.args.run.now.frame (exit_of c.args.exit)
    (kept_by c.args.run.now.machine) c.args.to c.args.crossed c.in-Ok.value c.in-Ok.ensures c.end_variables.ensures
    c.in_ok-back-in-Ok.ensures.value c.in_ok-back-in-Ok.ensures.emitted c.hand_back.ensures

pub returns-in-Err : goal.returns-in-Err
returns-in-Err c = return_stops c.args.program.now c.args.run.now.frame (exit_of c.args.exit)
    (kept_by c.args.run.now.machine) c.args.caller.now c.args.to c.args.crossed c.in-Err.ensures
