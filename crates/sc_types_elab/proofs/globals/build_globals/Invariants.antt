use Rattle.sc_types_elab.proofs.Common.{drop, globals_in, map, typed_global, ◌++◌, ◌≡◌}
use Rattle.sc_types_elab.proofs.globals.build_globals.Given as goal

abbrev pub invariant-loop-decl : goal.invariant-loop-decl
invariant-loop-decl l = l.globals ++ map (typed_global l.tags) (globals_in (drop l.decl-index l.decls)) ≡
    map (typed_global l.tags) (globals_in l.decls)
