use Rattle.sc_types_interfaces.proofs.Common.{[], all_numbered, drop, function_names, ◌≡◌}
use Rattle.sc_types_interfaces.proofs.tables.functions.Given as goal

abbrev pub invariant-loop-decl : goal.invariant-loop-decl
invariant-loop-decl l = all_numbered l.names (function_names (drop l.decl-index l.decls)) ≡
    all_numbered [] (function_names l.decls)
