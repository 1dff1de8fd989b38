use Rattle.sc_types.proofs.Common.{concat, drop, global_count_lines, globals_in, map, with_lines, ◌≡◌}
use Rattle.sc_types.proofs.lines.globals_lines.Given as goal

-- what is noted and what is left to note is what is to be noted
abbrev pub invariant-loop-decl : goal.invariant-loop-decl
invariant-loop-decl l = with_lines l.lines (concat (map (global_count_lines l.sizes)
    (globals_in (drop l.decl-index l.decl-items)))) ≡
    with_lines l.initial.lines (concat (map (global_count_lines l.sizes) (globals_in l.decls)))
