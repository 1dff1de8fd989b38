use Rattle.sc_top.proofs.Common.{rules}
use Rattle.sc_top.proofs.Objects.{no_section, object_cause, object_output}
use Rattle.sc_top.proofs.object.object.Goals as goal

pub returns-in_err-comp-clause-cause : goal.returns-in_err-comp-clause-cause
returns-in_err-comp-clause-cause c =
    let cause = no_section c.args.options.now c.args.bytes.now c.in_ok-source.source.program _
    c.program-program.ensures.program c.in_ok-source.ensures.accepted.1 _ c.in_err-comp.ensures.cause
    c.in_err-comp.ensures.lacks in
    search (rules, cause)

pub returns-in_err-object-clause-cause : goal.returns-in_err-object-clause-cause
returns-in_err-object-clause-cause c =
    let cause = object_cause c.args.options.now c.args.bytes.now c.in_ok-source.source.program _
    c.program-program.ensures.program c.in_ok-source.ensures.accepted.1 c.in_ok-comp.comp c.in_ok-comp.ensures.ok _
    c.in_err-object.ensures.cause in
    search (rules, cause)

pub returns-clause-ok : goal.returns-clause-ok
returns-clause-ok c =
    object_output c.args.options.now c.args.bytes.now c.in_ok-source.source.program _
    c.program-program.ensures.program c.in_ok-source.ensures.accepted.1 c.in_ok-comp.comp c.in_ok-comp.ensures.ok
    c.in_ok-write_object.field-0 c.in_ok-object.object c.in_ok-object.ensures.object c.in_ok-write_object.ensures
