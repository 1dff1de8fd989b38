use Rattle.sc_run.proofs.Common.{ap, arith, kept_by, unless_done}
use Rattle.sc_run.proofs.Calling.{returned_turns}
use Rattle.sc_run.proofs.Leading.{call_left, onward}
use Rattle.sc_run.proofs.inside.back_across.Goals as goal

pub returns : goal.returns
returns c = λ exit before closed ends.
    onward (unless_done c.handed.result c.handed.new.run.taken) _ _ _ _ _ (omega (
      arith,
      ap (λ x. x.turns) c.in_ok-back.ensures.emitted,
      returned_turns c.args.program.now c.args.frame.now exit before c.args.run.now.frame c.args.crossed c.args.value
          (kept_by c.args.run.now.machine),
      ap (λ x. x.turns) ends,
    ))
    (call_left c.args.frame.now exit before c.args.to c.args.crossed c.args.value closed ends
    c.in_ok-back.ensures.value c.in_ok-back.ensures.emitted) c.handed.ensures
