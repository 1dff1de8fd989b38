use Rattle.sc_types_interfaces.proofs.Common.{export_places, map, take, ◌≡◌}
use Rattle.sc_types_interfaces.proofs.building.all_export_places.Given as goal

abbrev pub invariant-loop-section : goal.invariant-loop-section
invariant-loop-section l = l.places ≡ map export_places (take l.section-index l.sections)
