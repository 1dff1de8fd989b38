use Rattle.sc_types_scope.proofs.Common.{drop, names_broken, noted_all, refused_at, ◌≡◌}
use Rattle.sc_types_scope.proofs.section.broken_name.Given as goal

-- what is noted and what is left to note is what is to be noted
abbrev pub invariant-loop-section : goal.invariant-loop-section
invariant-loop-section l = noted_all l.least (names_broken (drop l.section-index l.sections)) ≡
    refused_at (names_broken l.sections)
