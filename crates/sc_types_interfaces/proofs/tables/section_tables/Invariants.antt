use Rattle.sc_types_interfaces.proofs.Common.{map, table_of, take, ◌≡◌}
use Rattle.sc_types_interfaces.proofs.tables.section_tables.Given as goal

abbrev pub invariant-loop-section : goal.invariant-loop-section
invariant-loop-section l = l.tables ≡ map table_of (take l.section-index l.sections)
