use Rattle.std.proofs.Common.{map, take, ◌≡◌}
use Rattle.sc_opt.specs.Prelude.{optimised_section}
use Rattle.sc_opt.proofs.program.optimise_sections.Given as goal

abbrev pub invariant-loop-section : goal.invariant-loop-section
invariant-loop-section l = l.optimised ≡ map optimised_section (take l.section-index l.sections)
