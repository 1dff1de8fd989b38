use Rattle.sc_ast.proofs.Common.{decls_height, drop, limited, max, ◌≡◌}
use Rattle.sc_ast.proofs.height.section_height.Given as goal

abbrev pub invariant-loop-decl : goal.invariant-loop-decl
invariant-loop-decl l = max l.highest (limited (decls_height (drop l.decl-index l.decl-items))) ≡
    limited (decls_height l.section.decls)
