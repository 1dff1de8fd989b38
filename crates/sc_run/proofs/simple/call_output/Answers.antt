use Rattle.sc_run.proofs.Common.{Output, sym}
use Rattle.sc_run.proofs.Invoking.{refused, output_steps}
use Rattle.sc_run.proofs.simple.call_output.Goals as goal

pub returns-then-not-may_output : goal.returns-then-not-may_output
returns-then-not-may_output c = refused c.args.program.now c.args.frame.now c.args.to Output c.args.args.now
    c.refusal.ensures (sym c.if-not-may_output.ensures)

pub returns : goal.returns
returns c = output_steps c.args.program.now c.args.frame.now c.args.to c.args.args.now (sym c.if-not-may_output.ensures)
    c.first_word-value.ensures c.in_ok-emit_event.ensures c.hand_back.ensures
