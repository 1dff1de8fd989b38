use Rattle.sc_types_elab.proofs.Common.{called, drop, function_decls, map, typed_function, ◌++◌, ◌≡◌}
use Rattle.sc_types_elab.proofs.section.build_functions.Given as goal

abbrev pub invariant-loop-decl : goal.invariant-loop-decl
invariant-loop-decl l = l.functions ++ map (typed_function l.section (called l.scope.callees))
    (function_decls (drop l.decl-index l.decls)) ≡ map (typed_function l.section (called l.scope.callees))
    (function_decls l.decls)
