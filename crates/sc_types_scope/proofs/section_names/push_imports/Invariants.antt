use Rattle.sc_types_scope.proofs.Common.{ImportLine, drop, map, ◌++◌, ◌≡◌}
use Rattle.sc_types_scope.proofs.section_names.push_imports.Given as goal

-- the names there and those of what is left are those that are to be there
abbrev pub invariant-loop-line : goal.invariant-loop-line
invariant-loop-line l = l.names ++ map {A = ImportLine} (λ line. line.name) (drop l.line-index l.line-items) ≡
    l.initial.names ++ map {A = ImportLine} (λ line. line.name) l.section.imports
