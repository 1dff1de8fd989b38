use Rattle.sc_types.proofs.Common.{concat, drop, local_lines, map, with_lines, ◌≡◌}
use Rattle.sc_types.proofs.lines.locals_lines.Given as goal

-- what is noted and what is left to note is what is to be noted
abbrev pub invariant-loop-local : goal.invariant-loop-local
invariant-loop-local l = with_lines l.lines (concat (map (local_lines l.sizes) (drop l.local-index l.local-items))) ≡
    with_lines l.initial.lines (concat (map (local_lines l.sizes) l.locals))
