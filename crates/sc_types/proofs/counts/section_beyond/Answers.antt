use Rattle.sc_types.proofs.Noted.{none-refused, some-refused}
use Rattle.sc_types.proofs.counts.section_beyond.Goals as goal

pub returns-in-None : goal.returns-in-None
returns-in-None c = none-refused c.args.sections.now c.in-None.ensures

pub returns-in-Some : goal.returns-in-Some
returns-in-Some c = some-refused c.args.sections.now c.in-Some.section.now _ c.in-Some.ensures c.line_of_text.ensures
