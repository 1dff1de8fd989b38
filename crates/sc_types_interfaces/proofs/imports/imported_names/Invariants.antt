use Rattle.sc_types_interfaces.proofs.Common.{ImportLine, [], all_numbered, drop, map, ◌≡◌}
use Rattle.sc_types_interfaces.proofs.imports.imported_names.Given as goal

abbrev pub invariant-loop-line : goal.invariant-loop-line
invariant-loop-line l = all_numbered l.names (map {A = ImportLine} (λ line. line.name) (drop l.line-index l.imports)) ≡
    all_numbered [] (map {A = ImportLine} (λ line. line.name) l.imports)
