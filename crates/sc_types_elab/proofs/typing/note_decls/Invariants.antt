use Rattle.sc_types_elab.proofs.Common.{called, concat, decl_type_lines, drop, map, with_lines, ◌≡◌}
use Rattle.sc_types_elab.proofs.typing.note_decls.Given as goal

abbrev pub invariant-loop-decl : goal.invariant-loop-decl
invariant-loop-decl l =
    with_lines l.lines (concat (map (decl_type_lines l.section (called l.scope.callees)) (drop l.decl-index l.decls))) ≡
    with_lines l.initial.lines (concat (map (decl_type_lines l.section (called l.scope.callees)) l.decls))
