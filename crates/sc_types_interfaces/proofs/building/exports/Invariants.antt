use Rattle.sc_types_interfaces.proofs.Common.{export_by, function_places, map, take, ◌≡◌}
use Rattle.sc_types_interfaces.proofs.building.exports.Given as goal

abbrev pub invariant-loop-line : goal.invariant-loop-line
invariant-loop-line l = l.protos ≡ map (export_by l.decls (function_places l.decls)) (take l.line-index l.lines)
