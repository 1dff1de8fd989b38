use Rattle.sc_types.proofs.Common.{map, start_of, take, ◌≡◌}
use Rattle.sc_types.proofs.text.starts_of.Given as goal

abbrev pub invariant-loop-section : goal.invariant-loop-section
invariant-loop-section l = l.starts ≡ map start_of (take l.section-index l.sections)
