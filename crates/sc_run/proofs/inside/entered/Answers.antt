use Rattle.sc_run.proofs.Common.{IfOk-weaker, ap, arith, block_acts, in_order, kept_by, refl, unless_done}
use Rattle.sc_core.specs.Prelude.{take}
use Rattle.sc_run.proofs.Ahead.{stops_anywhere}
use Rattle.sc_run.proofs.Calling.{emitted_turns, enter_steps, enter_stops}
use Rattle.sc_run.proofs.Leading.{onward, was_taken}
use Rattle.sc_run.proofs.Looping.{step_stops, steps_on}
use Rattle.sc_run.proofs.Numbers.{numbers_emitted}
use Rattle.sc_run.proofs.inside.entered.Goals as goal

pub begin-requires-clause-numbers : goal.begin-requires-clause-numbers
begin-requires-clause-numbers c = numbers_emitted c.args.run.now.frame c.args.callee.now c.args.args.now c.args.crossing
    (kept_by c.take_turn.new.machine)
    c.in_ok-emit_call-in-Ok.ensures c.in-Ok.ensures.numbers

pub returns-in-Err : goal.returns-in-Err
returns-in-Err c = was_taken (unless_done c.keep_end.result c.keep_end.new.taken) _ _ _ _ _ c.keep_end.ensures
    (enter_stops c.args.program.now c.args.run.now.frame c.args.callee.now c.args.args.now c.args.to c.args.crossing
    c.in-Err.ensures.comes)

pub returns-in-Ok-init_all : goal.returns-in-Ok-init_all
returns-in-Ok-init_all c =
    let f = c.in_ok-frame-in-Ok.frame in
    let program = c.args.program.now in
    IfOk-weaker c.run_at_once.result _ _ (λ done h. onward (unless_done done c.run_at_once.new.run.taken) _ _ _ _ _
    (omega (
      arith,
      c.in-Ok.ensures.comes.fewer,
      ap (λ x. x.turns) c.in_ok-emit_call-in-Ok.ensures,
      emitted_turns program c.args.run.now.frame c.args.callee.now c.args.args.now c.args.to c.args.crossing
          (kept_by c.take_turn.new.machine),
      ap (λ x. x.turns) c.in_ok-frame-in-Ok.ensures.seen,
      c.in-Ok-init_all.ensures.fewer,
    ))
    (record {
      leads = λ step last ws g k. enter_steps program c.args.run.now.frame c.args.callee.now c.args.args.now
          c.args.to c.args.crossing c.requires.variables c.requires.function c.in-Ok.ensures.comes
          c.in-Ok.ensures.taken c.in_ok-emit_call-in-Ok.ensures c.in_ok-frame-in-Ok.ensures refl (steps_on
          (λ n left s. take (in_order left.exit) (block_acts program n f f.function.now.body) left.carried s)
          c.in-Ok-init_all.ensures k);
    }) h) c.run_at_once.ensures

pub returns-in-Err-init_all : goal.returns-in-Err-init_all
returns-in-Err-init_all c = was_taken (unless_done c.keep_end-in-Err-init_all.result
    c.keep_end-in-Err-init_all.new.taken) _ _ _ _ _ c.keep_end-in-Err-init_all.ensures
    (enter_steps c.args.program.now c.args.run.now.frame c.args.callee.now c.args.args.now
    c.args.to c.args.crossing c.requires.variables c.requires.function c.in-Ok.ensures.comes c.in-Ok.ensures.taken
    c.in_ok-emit_call-in-Ok.ensures c.in_ok-frame-in-Ok.ensures refl (stops_anywhere (step_stops
    (λ n left s. take (in_order left.exit) (block_acts c.args.program.now n c.in_ok-frame-in-Ok.frame
    c.in_ok-frame-in-Ok.frame.function.now.body) left.carried s)
    c.in-Err-init_all.ensures)))
