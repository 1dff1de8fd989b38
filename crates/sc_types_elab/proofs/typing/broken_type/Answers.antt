use Rattle.sc_types_elab.proofs.Phases.{section-next, sections-end}
use Rattle.sc_types_elab.proofs.typing.broken_type.Goals as goal

pub loop-section-preserved : goal.loop-section-preserved
loop-section-preserved c =
    section-next c.args.sections.now c.loop-section.section-index _ c.loop-section.least c.in_ok-least.least
    c.section-item.result c.loop-section-test.true c.section-item.is c.in_ok-least.ensures c.loop-section.invariant

pub returns : goal.returns
returns c =
    sections-end c.args.sections.now c.loop-section.section-index _ c.loop-section.least c.loop-section-test.false
    c.loop-section.invariant
