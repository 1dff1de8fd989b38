use Rattle.sc_parse_read.proofs.Common.{AllZip, IsCutInto, take}
use Rattle.sc_parse_read.proofs.reading.cut_sections.Given as goal

abbrev pub invariant-loop-section : goal.invariant-loop-section
invariant-loop-section l = AllZip IsCutInto (take l.section-index l.sections) l.cuts
