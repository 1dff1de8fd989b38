use Rattle.sc_types_interfaces.proofs.Common.{decls_broken, drop, no_heads, with_lines, ◌≡◌}
use Rattle.sc_types_interfaces.proofs.decls.decls_broken.Given as goal

abbrev pub invariant-loop-decl : goal.invariant-loop-decl
invariant-loop-decl l =
    with_lines l.lines (decls_broken l.table l.imported l.mains l.known (drop l.decl-index l.decls)) ≡
    with_lines l.initial.lines (decls_broken l.table l.imported l.mains no_heads l.decls)
