use Rattle.sc_types_elab_stmt.proofs.Common.{Scope, Suits, called, concat, drop, map, stmt_type_lines, visible}
use Rattle.sc_types_elab_stmt.proofs.Common.{with_lines}
use Rattle.sc_types_elab_stmt.proofs.Common.{◌≡◌}
use Rattle.sc_types_elab_stmt.proofs.rules.Place.+body.Given as goal

abbrev pub invariant-note_stmts-loop-stmt : goal.invariant-note_stmts-loop-stmt
invariant-note_stmts-loop-stmt l =
    (scope : Scope) → Suits (visible l.self.section.now l.self.function.now) scope →
    with_lines l.lines (concat (map (stmt_type_lines (visible l.self.section.now l.self.function.now)
    (called l.self.section.now.callees) scope l.self.function.now.result) (drop l.stmt-index l.stmt-items))) ≡
    with_lines l.initial.lines (concat (map (stmt_type_lines (visible l.self.section.now l.self.function.now)
    (called l.self.section.now.callees) scope l.self.function.now.result) l.stmts))
