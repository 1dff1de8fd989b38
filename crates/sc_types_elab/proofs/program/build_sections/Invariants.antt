use Rattle.sc_types_elab.proofs.Common.{drop, sections_from, ◌++◌, ◌≡◌}
use Rattle.sc_types_elab.proofs.program.build_sections.Given as goal

abbrev pub invariant-loop-number : goal.invariant-loop-number
invariant-loop-number l = l.built ++ sections_from l.sections l.number (drop l.number l.sections) ≡
    sections_from l.sections 0 l.sections
