use Rattle.sc_parse_read.proofs.Common.{AllZip, IsCutInto, IsTreeOf, drop, take}
use Rattle.sc_parse_read.proofs.reading.parse_sections.Given as goal

abbrev pub invariant-loop-at : goal.invariant-loop-at
invariant-loop-at l =
    AllZip IsTreeOf (take l.at l.sections) l.trees × AllZip IsCutInto (drop l.at l.sections) (drop l.at l.cuts)
