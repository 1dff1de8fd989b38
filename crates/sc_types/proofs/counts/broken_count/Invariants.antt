use Rattle.sc_types.proofs.Common.{counts_broken, drop, count_lines_from, noted_all, refused_at, ◌≡◌}
use Rattle.sc_types.proofs.counts.broken_count.Given as goal

-- what is noted and what is left to note is what is to be noted
abbrev pub invariant-loop-section : goal.invariant-loop-section
invariant-loop-section l = noted_all l.least (count_lines_from l.sections l.section-index (drop l.section-index
    l.sections)) ≡
    refused_at (counts_broken l.sections)
