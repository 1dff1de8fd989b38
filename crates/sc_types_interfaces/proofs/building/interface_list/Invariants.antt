use Rattle.sc_types_interfaces.proofs.Common.{drop, interfaces_by, ◌++◌, ◌≡◌}
use Rattle.sc_types_interfaces.proofs.building.interface_list.Given as goal

abbrev pub invariant-loop-number : goal.invariant-loop-number
invariant-loop-number l = l.list ++ interfaces_by l.tables l.places l.number (drop l.number l.sections) ≡
    interfaces_by l.tables l.places 0 l.sections
