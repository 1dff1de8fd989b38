use Rattle.sc_types_elab.proofs.Common.{drop, function_name, function_decls, map, ◌++◌, ◌≡◌}
use Rattle.sc_types_elab.proofs.calls.function_places.Given as goal

abbrev pub invariant-loop-decl : goal.invariant-loop-decl
invariant-loop-decl l = l.places ++ map function_name (function_decls (drop l.decl-index l.decls)) ≡
    map function_name (function_decls l.decls)
