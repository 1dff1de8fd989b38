use Rattle.sc_run.proofs.Common.{IfOk-weaker, None, ap, arith, exit_of, kept_by, refl, unless_done}
use Rattle.sc_run.proofs.Ahead.{stops_anywhere}
use Rattle.sc_run.proofs.Calling.{return_stops}
use Rattle.sc_run.proofs.Leading.{call_left, onward, was_taken}
use Rattle.sc_run.proofs.inside.returned.Goals as goal

pub returns-in-Some : goal.returns-in-Some
returns-in-Some c = IfOk-weaker c.back_across.result _ _
    (λ done h. h (exit_of c.args.exit) (kept_by c.args.run.now.machine) c.in-Ok.ensures c.end_variables.ensures)
    c.back_across.ensures

pub returns-in-None : goal.returns-in-None
returns-in-None c = rw c.in-None.is (onward (unless_done c.handed.result c.handed.new.run.taken) _ _ _ _ _
    (omega (arith, ap (λ x. x.turns) c.end_variables.ensures))
    (call_left c.args.frame.now (exit_of c.args.exit) (kept_by c.args.run.now.machine) c.args.to None c.in-Ok.value
    c.in-Ok.ensures c.end_variables.ensures refl refl) c.handed.ensures)

pub returns-in-Err : goal.returns-in-Err
returns-in-Err c = was_taken (unless_done c.keep_end.result c.keep_end.new.taken) _ _ _ _ _ c.keep_end.ensures
    (stops_anywhere (return_stops c.args.program.now c.args.frame.now (exit_of c.args.exit)
    (kept_by c.args.run.now.machine) c.args.run.now.frame c.args.to c.args.crossed c.in-Err.ensures))
