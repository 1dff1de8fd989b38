use Rattle.sc_types_interfaces.proofs.Common.{[], drop, imports_broken, with_lines, ◌≡◌}
use Rattle.sc_types_interfaces.proofs.imports.imports_broken.Given as goal

abbrev pub invariant-loop-line : goal.invariant-loop-line
invariant-loop-line l =
    with_lines l.lines (imports_broken l.tables l.importer l.table.functions l.table.protos l.before
    (drop l.line-index l.imports)) ≡
    with_lines l.initial.lines (imports_broken l.tables l.importer l.table.functions l.table.protos [] l.imports)
