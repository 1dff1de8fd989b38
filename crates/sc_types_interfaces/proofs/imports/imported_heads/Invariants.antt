use Rattle.sc_types_interfaces.proofs.Common.{drop, imports_added, no_heads, ◌≡◌}
use Rattle.sc_types_interfaces.proofs.imports.imported_heads.Given as goal

abbrev pub invariant-loop-line : goal.invariant-loop-line
invariant-loop-line l = imports_added l.tables l.importer l.known (drop l.line-index l.imports) ≡
    imports_added l.tables l.importer no_heads l.imports
