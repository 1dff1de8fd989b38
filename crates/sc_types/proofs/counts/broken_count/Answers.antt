use Rattle.sc_types.proofs.Common.{callees_of}
use Rattle.sc_types.proofs.Noted.{counts-begun, count-noted, counts-noted}
use Rattle.sc_types.proofs.counts.broken_count.Goals as goal

pub loop-section-init : goal.loop-section-init
loop-section-init c = counts-begun c.args.sections.now _ c.section_beyond-least.ensures

pub loop-section-preserved : goal.loop-section-preserved
loop-section-preserved c =
    count-noted c.args.sections.now c.loop-section.section-index c.section-item.result c.loop-section.least _ _
    c.loop-section-test.true c.section-item.is c.loop-section.invariant
    (c.in_ok-section_lines.ensures (callees_of c.args.sections.now c.loop-section.section-index
    c.section-item.result))

pub returns : goal.returns
returns c = counts-noted c.args.sections.now c.loop-section.section-index _ _ c.loop-section-test.false
    c.loop-section.invariant
