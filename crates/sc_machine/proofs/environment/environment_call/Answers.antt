use Rattle.sc_machine.proofs.Common.{has_heap, may_input, may_output, sym, true, ◌∙◌, ◌≡◌}
use Rattle.sc_machine.proofs.environment.environment_call.Goals as goal

pub returns-in-1-clause-outcome : goal.returns-in-1-clause-outcome
returns-in-1-clause-outcome c = λ memory.
    let allowed : may_input c.args.here.now.image c.args.hart.now.active ≡ true =
    rw c.requires.ready.here at (sym c.may_input.ensures ∙ c.if-may_input.true) in
    rw (c.in-1.is, allowed) (c.input.ensures.state memory)

pub returns-in-2-clause-outcome : goal.returns-in-2-clause-outcome
returns-in-2-clause-outcome c = λ memory.
    let allowed : may_output c.args.here.now.image c.args.hart.now.active ≡ true =
    rw c.requires.ready.here at (sym c.may_output.ensures ∙ c.if-may_output.true) in
    rw (c.in-2.is, allowed) (c.output.ensures.state memory)

pub returns-in-3-clause-outcome : goal.returns-in-3-clause-outcome
returns-in-3-clause-outcome c = λ memory.
    let heap : has_heap c.args.here.now.image c.args.hart.now.active ≡ true =
    rw c.requires.ready.here at (sym c.has_zone.ensures ∙ c.if-not-has_zone.false) in
    rw (c.in-3.is, heap) (c.alloc.ensures.state memory)
