-- Each section has an interface, and what is built of it is the program's section of that number.
use Rattle.sc_types_elab.proofs.Programs.{built_more, is_there, stands}
use Rattle.sc_types_elab.proofs.program.build_sections.Goals as goal

pub section_at-requires : goal.section_at-requires
section_at-requires c =
    is_there c.args.sections.now c.args.interfaces.now c.loop-number.number c.index-sections-number.result c.requires
    (stands c.args.sections.now c.loop-number.number c.index-sections-number.result c.loop-number-test.true
    c.index-sections-number.is)

pub loop-number-preserved : goal.loop-number-preserved
loop-number-preserved c =
    let here = stands c.args.sections.now c.loop-number.number c.index-sections-number.result c.loop-number-test.true
    c.index-sections-number.is in
    rw c.in_ok-push.ensures.ok (built_more c.args.sections.now c.loop-number.built c.loop-number.number
    c.index-sections-number.result c.in_ok-section_at.field-0 here
    (c.in_ok-section_at.ensures c.args.sections.now c.requires here) c.loop-number.invariant)
