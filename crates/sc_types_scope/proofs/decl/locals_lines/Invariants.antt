use Rattle.sc_types_scope.proofs.Common.{LocalTree, drop, locals_from, map, with_lines, ◌++◌, ◌≡◌}
use Rattle.sc_types_scope.proofs.decl.locals_lines.Given as goal

-- what is noted and what is left to note is what is to be noted
abbrev pub invariant-loop-local : goal.invariant-loop-local
invariant-loop-local l = record {
  lines : with_lines l.lines (locals_from l.names.structs l.names.globals l.own (drop l.local-index l.local-items)) ≡
      with_lines l.initial.lines (locals_from l.names.structs l.names.globals l.initial.own l.locals);
  own : l.own ++ map {A = LocalTree} (λ local. local.name) (drop l.local-index l.local-items) ≡ l.initial.own ++
      map {A = LocalTree} (λ local. local.name) l.locals;
}
