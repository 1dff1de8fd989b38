use Rattle.sc_types_elab.proofs.Common.{drop, global_variable, globals_in, map, ◌++◌, ◌≡◌}
use Rattle.sc_types_elab.proofs.globals.global_variables.Given as goal

abbrev pub invariant-loop-decl : goal.invariant-loop-decl
invariant-loop-decl l = l.variables ++ map (global_variable l.tags) (globals_in (drop l.decl-index l.decls)) ≡
    map (global_variable l.tags) (globals_in l.decls)
