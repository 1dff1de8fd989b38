use Rattle.sc_types_scope.proofs.Common.{drop, function_names, ◌++◌, ◌≡◌}
use Rattle.sc_types_scope.proofs.section_names.push_functions.Given as goal

-- the names there and those of what is left are those that are to be there
abbrev pub invariant-loop-decl : goal.invariant-loop-decl
invariant-loop-decl l = l.names ++ function_names (drop l.decl-index l.decl-items) ≡ l.initial.names ++
    function_names l.section.decls
