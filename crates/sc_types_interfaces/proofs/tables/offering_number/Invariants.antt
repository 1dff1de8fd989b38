use Rattle.sc_types_interfaces.proofs.Common.{drop, offering_number, ◌≡◌}
use Rattle.sc_types_interfaces.proofs.tables.offering_number.Given as goal

abbrev pub invariant-loop-number : goal.invariant-loop-number
invariant-loop-number l = offering_number l.importer l.line l.number (drop l.number l.tables) ≡
    offering_number l.importer l.line 0 l.tables
