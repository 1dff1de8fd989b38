use Rattle.sc_machine.proofs.Common.{Goes, ap, state_in, sym, ◌∙◌}
use Rattle.sc_machine.proofs.Callees.{call_made}
use Rattle.sc_machine.proofs.calling.call_out.Goals as goal

pub returns-in-Some-clause-outcome : goal.returns-in-Some-clause-outcome
returns-in-Some-clause-outcome c = λ memory.
    ap Goes (c.call.ensures.state memory) ∙
    sym (call_made c.args.here.now.image (state_in memory c.args.hart.now) c.args.target c.args.rd c.in-Some.callee.now
    c.if-rd-ne-RA.false
    c.in-Some.ensures.entry (rw c.requires.ready.here at c.in-Some.ensures.callee))

pub returns-in-Ok-clause-outcome : goal.returns-in-Ok-clause-outcome
returns-in-Ok-clause-outcome c = λ memory.
    ap Goes (c.call-in-Ok.ensures.state memory) ∙
    sym (call_made c.args.here.now.image (state_in memory c.args.hart.now) c.args.target c.args.rd c.in-Ok.callee
    c.if-rd-ne-RA.false
    c.in-Ok.ensures.entry (rw (c.image.ensures, c.comp.ensures, c.requires.ready.here) at c.in-Ok.ensures.callee))
