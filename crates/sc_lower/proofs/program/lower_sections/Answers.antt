use Rattle.sc_lower.proofs.Lowering.{section_at, number_within}
use Rattle.sc_lower.proofs.program.lower_sections.Goals as goal

pub comp_of-comp-requires : goal.comp_of-comp-requires
comp_of-comp-requires c =
    number_within c.args.program.now c.requires c.as_slice-section-items.result.now c.loop-section.section-index
    c.loop-section.number c.as_slice-section-items.ensures c.loop-section-test.true c.loop-section.invariant.place

pub lower_section-requires : goal.lower_section-requires
lower_section-requires c =
    section_at c.args.program.now c.requires c.as_slice-section-items.result.now c.loop-section.section-index
    c.section-item.result c.comp_of-comp.result c.loop-section.number c.as_slice-section-items.ensures
    c.loop-section-test.true c.section-item.is c.comp_of-comp.ensures.number
    c.loop-section.invariant.place
