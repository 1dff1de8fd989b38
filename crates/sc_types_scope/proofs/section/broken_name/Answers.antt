use Rattle.sc_types_scope.proofs.Noted.{section-noted, sections-noted}
use Rattle.sc_types_scope.proofs.section.broken_name.Goals as goal

pub loop-section-preserved : goal.loop-section-preserved
loop-section-preserved c =
    section-noted c.args.sections.now c.loop-section.section-index c.section-item.result c.loop-section.least _ _
    c.loop-section-test.true c.section-item.is c.loop-section.invariant c.in_ok-section_lines.ensures

pub returns : goal.returns
returns c = sections-noted c.args.sections.now c.loop-section.section-index _ _ c.loop-section-test.false
    c.loop-section.invariant
