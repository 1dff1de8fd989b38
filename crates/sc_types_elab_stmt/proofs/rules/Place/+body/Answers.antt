use Rattle.sc_types_elab_stmt.proofs.Common.{called, stmt_type_lines, visible}
use Rattle.sc_types_elab_stmt.proofs.Noted.{on_ok, noted-if, noted-while, noted-for, noted-empty, noted-break}
use Rattle.sc_types_elab_stmt.proofs.Noted.{noted-continue, noted-next, noted-all}
use Rattle.sc_types_elab_stmt.proofs.Common.{ap, ◌∙◌}
use Rattle.sc_types_elab_stmt.specs.Prelude.{cond_holds}
use Rattle.sc_types_elab_stmt.proofs.rules.Place.+body.Goals as goal

pub note_kind-returns-in_ok-note_stmts-in-If : goal.note_kind-returns-in_ok-note_stmts-in-If
note_kind-returns-in_ok-note_stmts-in-If t c scope suits =
    let holds = c.in_ok-cond_holds-in-If.ensures scope suits ∙ ap (cond_holds
    (visible c.args.self.now.section.now c.args.self.now.function.now) (called c.args.self.now.section.now.callees)
    scope c.args.self.now.function.now.result) c.get.ensures in
    on_ok c.note_stmts-in-If.result (noted-if (visible c.args.self.now.section.now c.args.self.now.function.now)
    (called c.args.self.now.section.now.callees) scope c.args.self.now.function.now.result c.args.kind.now
    c.args.line c.args.lines.now _ _ _ _ _ _ _ c.in-If.is
    holds c.unless.ensures (c.in_ok-note_stmts-in-If.ensures scope suits))
    (c.note_stmts-in-If.ensures scope suits)

pub note_kind-returns-in_ok-cond_holds-in-While : goal.note_kind-returns-in_ok-cond_holds-in-While
note_kind-returns-in_ok-cond_holds-in-While t c scope suits =
    let holds = c.in_ok-cond_holds-in-While.ensures scope suits ∙ ap (cond_holds
    (visible c.args.self.now.section.now c.args.self.now.function.now) (called c.args.self.now.section.now.callees)
    scope c.args.self.now.function.now.result) c.get-in-While.ensures in
    on_ok c.note_stmts-in-While.result (noted-while (visible c.args.self.now.section.now c.args.self.now.function.now)
    (called c.args.self.now.section.now.callees) scope c.args.self.now.function.now.result c.args.kind.now
    c.args.line c.args.lines.now _ _ _ _ _ c.in-While.is
    holds c.unless-in-While.ensures)
    (c.note_stmts-in-While.ensures scope suits)

pub note_kind-returns-in_ok-note_part-in-For-2 : goal.note_kind-returns-in_ok-note_part-in-For-2
note_kind-returns-in_ok-note_part-in-For-2 t c scope suits =
    let holds = c.in_ok-cond_holds-in-For.ensures scope suits ∙ ap (cond_holds
    (visible c.args.self.now.section.now c.args.self.now.function.now) (called c.args.self.now.section.now.callees)
    scope c.args.self.now.function.now.result) c.get-in-For.ensures in
    on_ok c.note_stmts-in-For.result (noted-for (visible c.args.self.now.section.now c.args.self.now.function.now)
    (called c.args.self.now.section.now.callees) scope c.args.self.now.function.now.result c.args.kind.now
    c.args.line c.args.lines.now _ _ _ _ _ _ _ _ _ c.in-For.is (c.in_ok-note_part-in-For.ensures scope suits)
    holds c.unless-in-For.ensures
    (c.in_ok-note_part-in-For-2.ensures scope suits)) (c.note_stmts-in-For.ensures scope suits)

pub note_kind-returns-in-Empty : goal.note_kind-returns-in-Empty
note_kind-returns-in-Empty t c scope suits = noted-empty
    (visible c.args.self.now.section.now c.args.self.now.function.now)
    (called c.args.self.now.section.now.callees) scope c.args.self.now.function.now.result c.args.kind.now c.args.line
    c.args.lines.now c.in-Empty.is

pub note_kind-returns-in-Break : goal.note_kind-returns-in-Break
note_kind-returns-in-Break t c scope suits = noted-break
    (visible c.args.self.now.section.now c.args.self.now.function.now)
    (called c.args.self.now.section.now.callees) scope c.args.self.now.function.now.result c.args.kind.now c.args.line
    c.args.lines.now c.in-Break.is

pub note_kind-returns-in-Continue : goal.note_kind-returns-in-Continue
note_kind-returns-in-Continue t c scope suits = noted-continue
    (visible c.args.self.now.section.now c.args.self.now.function.now)
    (called c.args.self.now.section.now.callees) scope c.args.self.now.function.now.result c.args.kind.now c.args.line
    c.args.lines.now c.in-Continue.is

pub note_stmts-loop-stmt-preserved : goal.note_stmts-loop-stmt-preserved
note_stmts-loop-stmt-preserved t c scope suits =
    noted-next (stmt_type_lines (visible c.args.self.now.section.now c.args.self.now.function.now)
    (called c.args.self.now.section.now.callees) scope c.args.self.now.function.now.result)
    c.as_slice-stmt-items.result.now c.loop-stmt.stmt-index _ _ _ c.stmt-item.result c.loop-stmt-test.true
    c.stmt-item.is (c.in_ok-note_stmt.ensures scope suits) (c.loop-stmt.invariant scope suits)

pub note_stmts-returns : goal.note_stmts-returns
note_stmts-returns t c scope suits =
    noted-all (stmt_type_lines (visible c.args.self.now.section.now c.args.self.now.function.now)
    (called c.args.self.now.section.now.callees) scope c.args.self.now.function.now.result)
    c.as_slice-stmt-items.result.now c.loop-stmt.stmt-index _ _ c.loop-stmt-test.false
    (c.loop-stmt.invariant scope suits)
