use Rattle.sc_types.proofs.Sources.{source_kept, starts_long}
use Rattle.sc_types.proofs.text.SourceText.section.Goals as goal

pub section_in-requires-clause-within : goal.section_in-requires-clause-within
section_in-requires-clause-within c =
    rw (
      c.number.ensures.number,
      c.as_slice-2.ensures,
      starts_long c.self.inside.bytes c.self.inside.starts c.self.inside.program c.self.invariant,
    )
    (rw (← c.self.view_is) at c.requires.compartment)

pub returns-clause-source : goal.returns-clause-source
returns-clause-source c = rw (← c.self.view_is) (source_kept c.self.inside.bytes c.self.inside.starts
    c.self.inside.program c.self.invariant)
