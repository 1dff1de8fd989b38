use Rattle.sc_types_interfaces.proofs.Common.{[], all_placed, drop, export_name, map, ◌≡◌}
use Rattle.sc_types_interfaces.proofs.building.export_places.Given as goal

abbrev pub invariant-loop-at : goal.invariant-loop-at
invariant-loop-at l = all_placed l.places l.at (map export_name (drop l.at l.lines)) ≡
    all_placed [] 0 (map export_name l.lines)
