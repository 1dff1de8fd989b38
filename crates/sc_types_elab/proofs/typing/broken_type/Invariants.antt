use Rattle.sc_types_elab.proofs.Common.{concat, drop, map, noted_all, refused_at, types_broken, ◌≡◌}
use Rattle.sc_types_elab.proofs.Phases.{lines_in}
use Rattle.sc_types_elab.proofs.typing.broken_type.Given as goal

abbrev pub invariant-loop-section : goal.invariant-loop-section
invariant-loop-section l = noted_all l.least (concat (map lines_in (drop l.section-index l.sections))) ≡
    refused_at (types_broken l.sections)
