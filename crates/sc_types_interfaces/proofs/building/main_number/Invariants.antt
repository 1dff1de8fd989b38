use Rattle.sc_types_interfaces.proofs.Common.{drop, main_by, ◌≡◌}
use Rattle.sc_types_interfaces.proofs.building.main_number.Given as goal

abbrev pub invariant-loop-number : goal.invariant-loop-number
invariant-loop-number l = main_by l.number (drop l.number l.tables) ≡ main_by 0 l.tables
