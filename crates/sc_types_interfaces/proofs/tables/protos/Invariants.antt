use Rattle.sc_types_interfaces.proofs.Common.{[], all_numbered, drop, proto_names, ◌≡◌}
use Rattle.sc_types_interfaces.proofs.tables.protos.Given as goal

abbrev pub invariant-loop-decl : goal.invariant-loop-decl
invariant-loop-decl l = all_numbered l.names (proto_names (drop l.decl-index l.decls)) ≡
    all_numbered [] (proto_names l.decls)
