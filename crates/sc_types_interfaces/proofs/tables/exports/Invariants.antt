use Rattle.sc_types_interfaces.proofs.Common.{ExportLine, [], all_numbered, drop, map, ◌≡◌}
use Rattle.sc_types_interfaces.proofs.tables.exports.Given as goal

abbrev pub invariant-loop-line : goal.invariant-loop-line
invariant-loop-line l = all_numbered l.names (map {A = ExportLine} (λ line. line.name) (drop l.line-index l.exports)) ≡
    all_numbered [] (map {A = ExportLine} (λ line. line.name) l.exports)
