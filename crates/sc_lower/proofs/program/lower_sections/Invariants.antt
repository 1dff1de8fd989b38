use Rattle.sc_lower.proofs.Common.{drop, lowered_sections, ◌++◌, ◌≡◌}
use Rattle.sc_lower.proofs.program.lower_sections.Given as goal

abbrev pub invariant-loop-section : goal.invariant-loop-section
invariant-loop-section l = record {
  place : l.number ≡ l.section-index;
  lowered :
      l.lowered ++ lowered_sections l.program.interfaces l.number (drop l.section-index l.program.sections)
      ≡ lowered_sections l.program.interfaces 0 l.program.sections;
}
