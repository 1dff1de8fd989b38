use Rattle.sc_types_interfaces.proofs.Common.{[], all_placed, drop, function_name, map, ◌≡◌}
use Rattle.sc_types_interfaces.proofs.building.function_places.Given as goal

abbrev pub invariant-loop-at : goal.invariant-loop-at
invariant-loop-at l = all_placed l.places l.at (map function_name (drop l.at l.decls)) ≡
    all_placed [] 0 (map function_name l.decls)
