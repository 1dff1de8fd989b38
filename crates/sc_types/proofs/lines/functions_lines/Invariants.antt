use Rattle.sc_types.proofs.Common.{concat, drop, function_count_lines, function_decls, map, with_lines, ◌≡◌}
use Rattle.sc_types.proofs.lines.functions_lines.Given as goal

-- what is noted and what is left to note is what is to be noted
abbrev pub invariant-loop-decl : goal.invariant-loop-decl
invariant-loop-decl l = with_lines l.lines (concat (map (function_count_lines l.sizes)
    (function_decls (drop l.decl-index l.decl-items)))) ≡
    with_lines l.initial.lines (concat (map (function_count_lines l.sizes) (function_decls l.decls)))
