use Rattle.sc_ast.proofs.Common.{drop, flat_map, local_line, text_of, ◌++◌, ◌≡◌}
use Rattle.sc_ast.proofs.print.append_locals.Given as goal

-- what is there and what is left to add is what is to be there
abbrev pub invariant-loop-local : goal.invariant-loop-local
invariant-loop-local l = l.out ++ text_of (flat_map local_line (drop l.local-index l.local-items)) ≡ l.initial.out ++
    text_of (flat_map local_line l.locals)
