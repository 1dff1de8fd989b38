use Rattle.sc_compile.proofs.Emitting.{code_is, emits, place_each}
use Rattle.sc_compile.proofs.passes.function_code.Goals as goal

pub lay-requires-clause-each : goal.lay-requires-clause-each
lay-requires-clause-each c =
    place_each c.args.f.now c.in_ok-intervals.intervals c.in_ok-places.places c.in_ok-intervals.ensures.least
    c.in_ok-places.ensures.assignment

pub returns-clause-code : goal.returns-clause-code
returns-clause-code c =
    code_is c.args.f.now c.in_ok-intervals.intervals c.in_ok-places.places c.in_ok-intervals.ensures.least
    c.in_ok-frame.frame c.in_ok-code.code c.in_ok-places.ensures.places c.in_ok-frame.ensures.frame
    c.in_ok-code.ensures.code

pub returns-clause-emitted : goal.returns-clause-emitted
returns-clause-emitted c =
    emits c.args.f.now c.in_ok-intervals.intervals c.in_ok-places.places c.in_ok-intervals.ensures.least
    c.in_ok-frame.frame c.in_ok-code.code c.in_ok-places.ensures.places c.in_ok-frame.ensures.frame
    c.in_ok-code.ensures.code c.in_ok-code.ensures.emitted
