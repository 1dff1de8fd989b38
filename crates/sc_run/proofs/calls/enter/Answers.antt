use Rattle.sc_run.proofs.Common.{IfOk-weaker, kept_by, refl}
use Rattle.sc_run.proofs.Calling.{enter_steps, enter_stops}
use Rattle.sc_run.proofs.Numbers.{numbers_emitted}
use Rattle.sc_run.proofs.calls.enter.Goals as goal

pub begin-requires-clause-numbers : goal.begin-requires-clause-numbers
begin-requires-clause-numbers c = numbers_emitted c.args.run.now.frame c.args.callee.now c.args.args.now c.args.crossing
    (kept_by c.take_turn.new.machine)
    c.in_ok-emit_call-in-Ok.ensures c.in-Ok.ensures.numbers

pub returns-in-Err : goal.returns-in-Err
returns-in-Err c =
    enter_stops c.args.program.now c.args.run.now.frame c.args.callee.now c.args.args.now c.args.to c.args.crossing
    c.in-Err.ensures.comes

pub returns-in_ok-next-in-Ok : goal.returns-in_ok-next-in-Ok
returns-in_ok-next-in-Ok c =
    IfOk-weaker c.run_called.result _ _ (λ step h. enter_steps c.args.program.now c.args.run.now.frame c.args.callee.now
    c.args.args.now c.args.to c.args.crossing c.requires.variables c.requires.function c.in-Ok.ensures.comes
    c.in-Ok.ensures.taken
    c.in_ok-emit_call-in-Ok.ensures c.in_ok-next-in-Ok.ensures refl h) c.run_called.ensures
