use Rattle.sc_types_elab.proofs.Common.{drop, sections_from, ◌++◌, ◌≡◌}
use Rattle.sc_types_elab.proofs.program.into_sections.Given as goal

abbrev pub invariant-loop-number : goal.invariant-loop-number
invariant-loop-number l =
    (l.sections ≡ drop l.number l.initial.sections) × (
    l.built ++ sections_from l.initial.sections l.number (drop l.number l.initial.sections) ≡
    sections_from l.initial.sections 0 l.initial.sections)
