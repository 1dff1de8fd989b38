use Rattle.sc_types_interfaces.proofs.Common.{import_by, map, take, ◌≡◌}
use Rattle.sc_types_interfaces.proofs.building.imports.Given as goal

abbrev pub invariant-loop-line : goal.invariant-loop-line
invariant-loop-line l = l.imports ≡ map (import_by l.tables l.places l.importer) (take l.line-index l.lines)
