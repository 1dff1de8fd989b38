use Rattle.sc_types_section_laws.proofs.Sections.{sections_are_typed_alone}
use Rattle.sc_types_section_laws.proofs.laws.sections_are_typed_alone.Goals as goal

pub returns : goal.returns
returns c = sections_are_typed_alone c.one_cut.ensures c.one_section.ensures
